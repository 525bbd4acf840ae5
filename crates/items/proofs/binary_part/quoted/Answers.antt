-- Assumes nothing.
use native.Mathlib.Omega.{arith}
use Prim.Native.Nat.{◌+◌}
use Rattle.items.specs.Between.BinaryPart.{TextSays}
use Rattle.items.proofs.PlacesLaws.{passed_on}
use Rattle.items.proofs.BinaryPartLaws.{fill_more, fill_wrong, fill_closed, text_over, text_closes}
use Rattle.items.proofs.binary_part.quoted.Goals as goal

pub returns-then-text-i : goal.returns-then-text-i
returns-then-text-i c = let v = c.loop-i.invariant in fill_closed v (c.loop-i.i + 1) _
    (text_closes c.args.text.now c.args.q c.loop-i.i v.u c.loop-i-test.true (λ e. c.requires.2 (omega (arith, c.if-text-i.true, e))) c.if-text-i.true)
    (omega arith) (omega arith) (omega (arith, v.placed))

pub returns-in_err-byte : goal.returns-in_err-byte
returns-in_err-byte c = let v = c.loop-i.invariant in
    passed_on (TextSays c.args.text.now c.args.q c.args.from c.args.start c.args.store.now c.loop-i.store) _ c.from_residual.ensures.1
    (fill_wrong v _ (c.in_err-byte.ensures c.args.q v.u c.if-text-i.false))

pub loop-i-smaller : goal.loop-i-smaller
loop-i-smaller c = let w = c.in_ok-byte.ensures in omega (arith, w.past, w.within)

pub loop-i-preserved : goal.loop-i-preserved
loop-i-preserved c = let w = c.in_ok-byte.ensures in let v = c.loop-i.invariant in
    rw c.put_byte.ensures (fill_more v _ _ (omega (arith, w.past)) w.within (w.runs c.args.q v.u c.if-text-i.false))

pub returns : goal.returns
returns c = let v = c.loop-i.invariant in fill_wrong v _ (text_over c.args.text.now c.args.q c.loop-i.i v.u (omega arith) (omega arith))
