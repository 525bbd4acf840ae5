-- `little_endian::store8`: the part that was lent, come back. Assumes nothing.
use mathlib.Core.Path.{refl, ◌∙◌}
use Rattle.tape.proofs.LittleEndianLaws.{le_is}
use Rattle.tape.proofs.PuttingLaws.{put_number}
use Rattle.tape.proofs.little_endian.store8.Goals as goal

pub returns : goal.returns
returns c = put_number c.args.bytes.now _ 8 c.args.v c.args.at _ refl c.requires (c.copy_from_slice.ensures.after ∙ c.to_le_bytes.ensures ∙ le_is 8 c.args.v)
