-- `named`: noticed, then taken in, or not where the chain is too long. Assumes nothing.
use Rattle.once.proofs.GroupsTakingLaws.{names_crowded, names_taken}
use Rattle.once.proofs.named.Goals as goal

pub returns-then-crowded : goal.returns-then-crowded
returns-then-crowded c = names_crowded _ _ _ _ _ c.mark.ensures c.if-crowded.true c.crowded.ensures

pub returns : goal.returns
returns c = names_taken _ _ _ _ _ c.mark.ensures
    c.take_in.ensures
