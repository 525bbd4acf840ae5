-- All of the bytes are copied. Assumes nothing.
use mathlib.Core.Path.{◌≡◌, ap, ◌∙◌}
use native.Mathlib.Omega.{arith}
use lib.ListN.{length}
use lib.Seq.{sets}
use Rattle.arriving.proofs.PackingByteLaws.{whole_of}
use Rattle.arriving.proofs.packing.put_kinds.Goals as goal

pub returns : goal.returns
returns c = let n : length c.args.kinds.now ≡ 64 = omega arith in
    (c.copy.ensures ∙ ap (sets c.args.bytes.now 128) (whole_of 64 c.args.kinds.now n), n)
