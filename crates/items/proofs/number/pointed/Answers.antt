-- A point goes on with a fraction; without one the number is one with no fraction digits. Assumes nothing.
use native.Mathlib.Omega.{arith}
use Rattle.items.proofs.NumberDecimalLaws.{no_point_end, no_point, with_point}
use Rattle.items.proofs.number.pointed.Goals as goal
use Rattle.items.proofs.number.pointed.Goals.{then-at-s-via-then-at-s, then-at-s-via-else-at-s+then-s-at-ne46}

pub returns-then-at-s : goal.returns-then-at-s
returns-then-at-s c = elim c.then-at-s.branch [
  | then-at-s-via-then-at-s w ↦ no_point_end _ _ _ _ _ _ w.if-at-s.true c.exponent.ensures
  | then-at-s-via-else-at-s+then-s-at-ne46 w ↦ no_point _ _ _ _ _ _ w.if-at-s.false c.requires.1 w.if-s-at-ne46.true c.exponent.ensures
]

pub returns : goal.returns
returns c = with_point _ _ _ _ _ _ (omega arith) c.if-s-at-ne46.false c.fraction.ensures
