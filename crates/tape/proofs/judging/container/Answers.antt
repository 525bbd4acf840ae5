-- `judging::container`: the unnamed bytes, the depth, the end. Assumes nothing.
use Rattle.meaning.specs.Limits.{depth_limit}
use Rattle.tape.specs.Between.Turns.{passes, fails}
use Rattle.rules.proofs.TestsLaws.{held, failed}
use Rattle.tape.proofs.TurnsLaws.{open_here, open_deep}
use Rattle.tape.proofs.judging.container.Goals as goal
use Rattle.tape.proofs.judging.container.Goals.{else-w-eq0-via-then-w-eq0+then-depth-lt-DEPTH_LIMIT+else-ends}
use Rattle.tape.proofs.judging.container.Goals.{else-w-eq0-via-then-w-eq0+else-depth-lt-DEPTH_LIMIT, else-w-eq0-via-else-w-eq0}

pub returns-then-ends : goal.returns-then-ends
unfolding depth_limit
returns-then-ends c = passes (c.if-w-eq0.true, held c.ends.ensures c.if-ends.true) (open_here _ _ _ c.if-depth-lt-DEPTH_LIMIT.true)

pub returns : goal.returns
unfolding depth_limit
returns c = elim c.else-w-eq0.branch [
  | else-w-eq0-via-then-w-eq0+then-depth-lt-DEPTH_LIMIT+else-ends w ↦ fails (λ p. absurd (failed w.ends.ensures w.if-ends.false p.1))
  | else-w-eq0-via-then-w-eq0+else-depth-lt-DEPTH_LIMIT w ↦ fails (λ p. open_deep _ _ _ w.if-depth-lt-DEPTH_LIMIT.false)
  | else-w-eq0-via-else-w-eq0 w ↦ fails (λ p. absurd (w.if-w-eq0.false p.0))
]
