-- `mark`: by its test. Assumes nothing.
use Rattle.once.proofs.GroupsTakingLaws.{marked_so, marked_not}
use Rattle.once.proofs.mark.Goals as goal

pub returns-then-again : goal.returns-then-again
returns-then-again c = marked_so _ _ _ _ c.if-again.true c.notice.ensures

pub returns-else-again : goal.returns-else-again
returns-else-again c = marked_not _ _ _ c.if-again.false
