-- One turn. Assumes nothing.
use Rattle.arriving.proofs.LeapsRunLaws.{blank_skips}
use Rattle.arriving.proofs.leaps.turn.Goals as goal

pub returns-then-b-le32 : goal.returns-then-b-le32
returns-then-b-le32 c = blank_skips _ _ _ _ _ c.run_end.ensures c.passed.ensures

pub returns-in-34 : goal.returns-in-34
returns-in-34 c = c.quoted.ensures _

pub returns-in-35 : goal.returns-in-35
returns-in-35 c = c.line_comment.ensures _
