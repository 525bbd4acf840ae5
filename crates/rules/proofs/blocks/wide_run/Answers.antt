use native.Mathlib.Omega.{arith}
use Rattle.rules.proofs.Opens.{plain_on, wide_on}
use Rattle.rules.proofs.blocks.wide_run.Goals as goal

pub loop-at-preserved-in-Plain : goal.loop-at-preserved-in-Plain
loop-at-preserved-in-Plain c = plain_on _ _ _ (omega arith)
    (omega arith)
    (omega arith) c.loop-at.invariant _ c.block_at.ensures
    c.in-Plain.is c.ascii_blocks-at.ensures

pub loop-at-preserved : goal.loop-at-preserved
loop-at-preserved c = wide_on _ _ _ (omega arith)
    (omega arith)
    (omega arith) c.loop-at.invariant c.block_at.ensures c.in-Wide.is
