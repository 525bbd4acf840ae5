-- `fields::ends`: both bounds. Assumes nothing.
use Rattle.rules.proofs.TestsLaws.{at_most_test, less_test, both_test, fails_too}
use borrow.Author.Tests.{le-ltb}
use Rattle.tape.proofs.fields.ends.Goals as goal

pub returns-then-index-end : goal.returns-then-index-end
returns-then-index-end c = both_test c.if-index-end.true (at_most_test _ _)

pub returns-else-index-end : goal.returns-else-index-end
returns-else-index-end c = fails_too (λ p. p.0) (less_test _ _) (le-ltb _ _ c.if-index-end.false)
