-- No point, or digits after it; those past the ninth are cut off. Assumes nothing.
use native.Mathlib.Omega.{arith}
use Rattle.std.proofs.lemmas.Result.{err_from_is_err_and}
use Rattle.items.proofs.TimeValueLaws.{part_end, part_none, part_bare, part_nanos}
use Rattle.items.proofs.time_value.second_part.Goals as goal
use Rattle.items.proofs.time_value.second_part.Goals.{then-at-s-via-then-at-s, then-at-s-via-else-at-s+then-s-at-ne46}

pub returns-then-at-s : goal.returns-then-at-s
returns-then-at-s c = elim c.then-at-s.branch [
  | then-at-s-via-then-at-s w ↦ part_end _ _ c.requires.within w.if-at-s.true
  | then-at-s-via-else-at-s+then-s-at-ne46 w ↦ part_none _ _ w.if-at-s.false w.if-s-at-ne46.true
]

pub returns-in_err-digit_here : goal.returns-in_err-digit_here
returns-in_err-digit_here c = let p = err_from_is_err_and c.from_residual.result c.from_residual.ensures.1 in
    rw (p.1, p.2) (part_bare _ _ (omega arith) c.if-s-at-ne46.false _ c.in_err-digit_here.ensures)

pub returns : goal.returns
returns c = part_nanos _ _ (omega arith) c.if-s-at-ne46.false c.in_ok-digit_here.ensures _ c.nano_digits.ensures
