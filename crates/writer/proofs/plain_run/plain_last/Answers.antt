-- `plain_run::plain_last`: by the last block. Assumes nothing.
use Rattle.writer.proofs.PlainRunLaws.{last_block}
use Rattle.writer.proofs.plain_run.plain_last.Goals as goal

pub returns-then-s-ge16 : goal.returns-then-s-ge16
returns-then-s-ge16 c = last_block _ _ c.if-s-ge16.true c.block.ensures
