-- All of the bytes are copied. Assumes nothing.
use mathlib.Core.Path.{ap, ◌∙◌}
use native.Mathlib.Omega.{arith}
use lib.Seq.{sets}
use Rattle.arriving.proofs.PackingByteLaws.{whole_of}
use Rattle.arriving.proofs.packing.give_back.Goals as goal

pub returns : goal.returns
returns c = c.copy.ensures ∙ ap (sets c.args.state.now 0)
    (whole_of 640 c.args.bytes.now (omega arith))
