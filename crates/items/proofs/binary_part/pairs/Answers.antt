-- Assumes nothing.
use native.Mathlib.Omega.{arith}
use Prim.Native.Nat.{◌+◌, ◌<◌}
use Rattle.machine.specs.Strings.{no_digit}
use Rattle.items.specs.Between.Places.{digit_at}
use Rattle.items.specs.Between.BinaryPart.{PairsSays}
use Rattle.items.proofs.PlacesLaws.{passed_on, passed_at}
use Rattle.items.proofs.BinaryPartLaws.{fill_more, fill_wrong, fill_last, pair_open, pair_more, pair_wrongs, pair_ends, digit_in}
use Rattle.items.proofs.binary_part.pairs.Goals as goal

pub returns-in_err-l : goal.returns-in_err-l
returns-in_err-l c = let e = c.in_err-l.ensures in let v = c.loop-h.invariant.0 in
    passed_at (PairsSays c.args.text.now c.args.from c.args.start c.args.store.now c.loop-h.store) _ c.from_residual-in_err-l.ensures.1 e.1
    (fill_wrong v _ (pair_open _ _ v.u e.0))

pub after_pair-requires : goal.after_pair-requires
after_pair-requires c = let l = c.in_ok-l.ensures in let d : digit_at c.args.text.now (c.loop-h.i + 1) < no_digit = omega arith in
    omega (arith, digit_in c.args.text.now (c.loop-h.i + 1) d)

pub returns-in_err-next : goal.returns-in_err-next
returns-in_err-next c = let l = c.in_ok-l.ensures in let v = c.loop-h.invariant.0 in
    passed_on (PairsSays c.args.text.now c.args.from c.args.start c.args.store.now c.put_byte.new.store) _ c.from_residual-in_err-next.ensures.1
    (fill_wrong v _ (pair_wrongs _ _ v.u (omega arith) _ c.in_err-next.ensures))

pub loop-h-preserved : goal.loop-h-preserved
loop-h-preserved c = let h = c.in_ok-h.ensures in let l = c.in_ok-l.ensures in let v = c.loop-h.invariant.0 in
    let w = rw c.in-Some.is at c.in_ok-next.ensures in
    (rw (c.put_byte.ensures, h.0, l.0) (fill_more v _ _ (omega (arith, w.2)) (omega (arith, w.1)) (pair_more _ _ v.u (omega arith) _ w)), w.3)

pub returns-in-None : goal.returns-in-None
returns-in-None c = let h = c.in_ok-h.ensures in let l = c.in_ok-l.ensures in let v = c.loop-h.invariant.0 in
    let d : digit_at c.args.text.now (c.loop-h.i + 1) < no_digit = omega arith in
    rw (c.put_byte.ensures, h.0, l.0) (fill_last v _ _ _ (pair_ends _ _ v.u d (rw c.in-None.is at c.in_ok-next.ensures)) (omega arith)
    (omega (arith, digit_in c.args.text.now (c.loop-h.i + 1) d)) (omega (arith, v.placed)))
