-- The kinds are copied, the rest is got. Assumes nothing.
use native.Mathlib.Omega.{arith}
use Rattle.arriving.proofs.PackingByteLaws.{check_is}
use Rattle.arriving.proofs.packing.check_of.Goals as goal

pub returns : goal.returns
returns c = check_is c.args.bytes.now _ _ _ _ (omega arith)
    c.copy.ensures c.load8.ensures c.utf_at.ensures c.here_at.ensures
