-- `judging::pass`: by its test. Assumes nothing.
use Rattle.tape.specs.Between.Turns.{pass_of}
use borrow.Author.Tests.{eq-eqb, ne_eqb}
use Rattle.tape.proofs.judging.pass.Goals as goal

pub returns-then-start-at : goal.returns-then-start-at
unfolding pass_of
returns-then-start-at c = simp (eq-eqb _ _ c.if-start-at.true)

pub returns-else-start-at : goal.returns-else-start-at
unfolding pass_of
returns-else-start-at c = simp (ne_eqb _ _ c.if-start-at.false)
