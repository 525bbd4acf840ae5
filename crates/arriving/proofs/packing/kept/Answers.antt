-- The bytes lie over zeros. Assumes nothing.
use mathlib.Core.Path.{refl, ap, ◌∙◌}
use lib.ListN.{replicate}
use lib.Seq.{sets}
use Rattle.arriving.specs.Between.Packing.{padded, unpacked}
use Rattle.arriving.proofs.PackingByteLaws.{whole_of}
use Rattle.arriving.proofs.packing.kept.Goals as goal

pub returns : goal.returns
unfolding padded
returns c = c.check_of.ensures
    ∙ ap unpacked (c.copy.ensures ∙ ap (sets (replicate 640 0) 0)
    (whole_of _ c.args.state.now refl))
