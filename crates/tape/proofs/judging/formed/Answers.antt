-- `judging::formed`: the sizes, then the records. Assumes nothing.
use Rattle.rules.proofs.TestsLaws.{failed}
use Rattle.tape.proofs.JudgingStateLaws.{answer_sizes}
use Rattle.tape.proofs.judging.formed.Goals as goal

pub returns-else-sized : goal.returns-else-sized
returns-else-sized c = rw c.if-sized.false (answer_sizes (failed c.sized.ensures c.if-sized.false))
