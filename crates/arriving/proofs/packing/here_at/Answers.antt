-- Field by field. Assumes nothing.
use Rattle.std.proofs.Common.{ap, ◌∙◌}
use Rattle.arriving.specs.Between.Packing.{due_of}
use Rattle.arriving.proofs.PackingByteLaws.{here_is}
use Rattle.arriving.proofs.packing.here_at.Goals as goal

pub returns : goal.returns
returns c = here_is c.args.bytes.now _ _ _ _ _ _ c.from.ensures c.flat_at.ensures
    (c.from-3.ensures ∙ ap due_of c.from-2.ensures) c.load8.ensures c.load8-2.ensures c.load8-3.ensures
