-- Each answer is that of the scanner's check. Assumes nothing.
use mathlib.Core.Bool.{true, false}
use Prim.Native.Nat.{◌+◌, ◌-◌}
use native.Mathlib.Omega.{arith}
use mir.Syntax.{w32}
use Rattle.items.proofs.NumberSettleLaws.{back, settles_over, settles_none, settles_up, settles_high, settles_dn, settles_low}
use Rattle.items.proofs.number.settle.Goals as goal

pub returns-then-a : goal.returns-then-a
returns-then-a c = settles_over _ _ _ _ _ _ c.if-a.true

pub returns-then-a-eq0 : goal.returns-then-a-eq0
returns-then-a-eq0 c = settles_none _ _ _ _ _ _ c.if-a.false c.if-a-eq0.true _ c.finite.ensures

pub returns-then-n-gt-POWER_LIMIT : goal.returns-then-n-gt-POWER_LIMIT
returns-then-n-gt-POWER_LIMIT c = settles_high _ _ _ _ _ _ c.if-a.false c.if-a-eq0.false (omega arith) (omega arith)
    (omega arith)

pub returns-then-dn-u : goal.returns-then-dn-u
returns-then-dn-u c = settles_up _ _ _ _ _ _ c.if-a.false
    c.if-a-eq0.false (omega arith) _ _ c.finite-then-dn-u.ensures (omega arith) (omega arith)
    (back w32 _ false _ (omega arith) c.with_sign.ensures)

pub returns-then-n-gt-POWER_LIMIT-2 : goal.returns-then-n-gt-POWER_LIMIT-2
returns-then-n-gt-POWER_LIMIT-2 c = settles_low _ _ _ _ _ _ c.if-a.false c.if-a-eq0.false (omega arith) (omega arith)
    (omega arith)

pub returns : goal.returns
returns c = settles_dn _ _ _ _ _ _ c.if-a.false
    c.if-a-eq0.false (omega arith) _ _ c.finite-2.ensures (omega arith) (omega arith)
    (back w32 _ true (c.args.dn -
    (c.args.a.z +
    c.args.up)) (omega arith) c.with_sign-2.ensures)
