-- `judging::text`: the unnamed bytes, the start, then the fields. Assumes nothing.
use Rattle.tape.specs.Between.Turns.{passes, fails, pass_of}
use Rattle.rules.proofs.TestsLaws.{held, failed}
use borrow.Author.Tests.{ne_eqb}
use Rattle.tape.proofs.TurnsLaws.{pass_here}
use Rattle.tape.proofs.judging.text.Goals as goal
use Rattle.tape.proofs.judging.text.Goals.{else-w-eq0-via-then-w-eq0+then-start-at+else-utf8_inside, else-w-eq0-via-then-w-eq0+else-start-at}
use Rattle.tape.proofs.judging.text.Goals.{else-w-eq0-via-else-w-eq0}

pub returns-then-utf8_inside : goal.returns-then-utf8_inside
returns-then-utf8_inside c = passes (c.if-w-eq0.true, held c.utf8_inside.ensures c.if-utf8_inside.true)
    (pass_here _ _ _ c.if-start-at.true)

pub returns : goal.returns
unfolding pass_of
returns c = elim c.else-w-eq0.branch [
  | else-w-eq0-via-then-w-eq0+then-start-at+else-utf8_inside w ↦ fails (λ p. absurd (failed w.utf8_inside.ensures w.if-utf8_inside.false p.1))
  | else-w-eq0-via-then-w-eq0+else-start-at w ↦ fails (λ p. simp (ne_eqb _ _ w.if-start-at.false))
  | else-w-eq0-via-else-w-eq0 w ↦ fails (λ p. absurd (w.if-w-eq0.false p.0))
]
