-- The digits so far and their value, twice. Assumes nothing.
use Rattle.items.proofs.NumberOrTimeLeadLaws.{Among}
use Rattle.items.proofs.number_or_time.first_digits.Given as goal

abbrev pub invariant-loop-at : goal.invariant-loop-at
invariant-loop-at l = Among l.s l.q l.acc l.v l.n l.at
