-- `judging::value_due`: by its tests. Assumes nothing.
use Rattle.tape.specs.Between.Turns.{value_due}
use borrow.Author.Tests.{eq-eqb, ne_eqb}
use Rattle.tape.proofs.judging.value_due.Goals as goal

pub returns-then-rest-eq0 : goal.returns-then-rest-eq0
unfolding value_due
returns-then-rest-eq0 c = simp (ne_eqb _ _ c.if-rest-ne0.true, eq-eqb _ _ c.if-rest-eq0.true)

pub returns-else-rest-eq0 : goal.returns-else-rest-eq0
unfolding value_due
returns-else-rest-eq0 c = simp (ne_eqb _ _ c.if-rest-ne0.true, ne_eqb _ _ c.if-rest-eq0.false)

pub returns-else-rest-ne0 : goal.returns-else-rest-ne0
unfolding value_due
returns-else-rest-ne0 c = simp (eq-eqb _ _ c.if-rest-ne0.false)
