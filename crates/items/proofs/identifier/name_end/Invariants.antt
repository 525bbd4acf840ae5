-- The letters and digits so far. Assumes nothing.
use Rattle.items.proofs.IdentifierLaws.{Naming}
use Rattle.items.proofs.identifier.name_end.Given as goal

abbrev pub invariant-loop-at : goal.invariant-loop-at
invariant-loop-at l = Naming l.text l.from l.at
