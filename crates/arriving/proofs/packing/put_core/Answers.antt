-- Those of one byte, then those of eight. Assumes nothing.
use Rattle.arriving.proofs.PackingByteLaws.{core_kept}
use Rattle.arriving.proofs.packing.put_core.Goals as goal

pub returns : goal.returns
returns c = core_kept c.args.core c.args.bytes.now _ _ _ c.from-f.ensures.0 c.from-f.ensures.1 c.put_small.ensures c.put_large.ensures.put
    c.put_large.ensures.fit
