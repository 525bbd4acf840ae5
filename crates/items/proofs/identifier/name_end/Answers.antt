-- Assumes nothing.
use Rattle.items.proofs.IdentifierLaws.{name_more}
use Rattle.items.proofs.identifier.name_end.Goals as goal

pub loop-at-preserved : goal.loop-at-preserved
loop-at-preserved c = name_more c.loop-at.invariant c.loop-at-test.true _ c.sort_of.ensures c.in_default.not-Neither
