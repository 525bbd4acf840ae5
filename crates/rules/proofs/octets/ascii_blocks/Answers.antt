use native.Mathlib.Omega.{arith}
use Rattle.rules.proofs.Runs.{ascii_join, ascii_block}
use Rattle.rules.proofs.octets.ascii_blocks.Goals as goal

pub loop-i-preserved : goal.loop-i-preserved
loop-i-preserved c = ascii_join _ _ _ _ c.loop-i.invariant (ascii_block _ _ _ (omega arith) c.greatest.ensures c.if-greatest-ge128.false)
