use Rattle.writer.proofs.PlainRunLaws.{run_more}
use Rattle.writer.proofs.plain_run.plain_bytes.Goals as goal

pub loop-i-preserved : goal.loop-i-preserved
loop-i-preserved c = run_more _ _ _ c.loop-i.invariant c.loop-i-test.true c.if-not-is_plain.ensures
