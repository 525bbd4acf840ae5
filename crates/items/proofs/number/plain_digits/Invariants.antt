-- The digits so far and their value. Assumes nothing.
use Rattle.items.specs.Between.NumberOrTime.{Span}
use Rattle.items.proofs.number.plain_digits.Given as goal

abbrev pub invariant-loop-i : goal.invariant-loop-i
invariant-loop-i l = Span l.s l.from l.had l.i l.v
