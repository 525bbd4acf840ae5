use mathlib.Core.Path.{sym}
use native.Mathlib.Nat.{mul-one}
use native.Mathlib.Omega.{arith}
use Rattle.items.proofs.NumberDigitLaws.{none_shifted, over_shifted, all_shifted, tenfold}
use Rattle.items.proofs.number.shift.Goals as goal

pub returns-then-c-eq0 : goal.returns-then-c-eq0
returns-then-c-eq0 c = none_shifted _ _ c.if-c-eq0.true

pub loop-init : goal.loop-init
loop-init c = (sym (mul-one _), c.ranges.c.fits)

pub returns-in_err-v : goal.returns-in_err-v
returns-in_err-v c = rw c.from_residual.ensures (over_shifted _ _ c.loop.counter c.loop.v c.loop-test.true c.loop.invariant.0 c.in_err-v.ensures)

pub loop-preserved : goal.loop-preserved
loop-preserved c = let o = c.in_ok-v.ensures in (omega (arith, o.0, o.1, tenfold c.args.c c.loop.counter), omega (arith, o.0, o.1))

pub returns : goal.returns
returns c = all_shifted _ _ c.loop.counter c.loop.v (omega arith) c.loop.invariant.0 c.loop.invariant.1
