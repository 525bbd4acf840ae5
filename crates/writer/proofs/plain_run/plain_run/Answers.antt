use native.Mathlib.Omega.{arith}
use Rattle.writer.proofs.PlainRunLaws.{run_block}
use Rattle.writer.proofs.plain_run.plain_run.Goals as goal

pub loop-i-preserved : goal.loop-i-preserved
loop-i-preserved c = run_block _ _ _ _ c.loop-i.invariant (omega (arith, c.loop-i-test.true)) c.block.ensures
    c.if-block-eq0.false
