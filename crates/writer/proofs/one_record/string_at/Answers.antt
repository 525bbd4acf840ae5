-- `one_record::string_at`: the part that was lent, come back. Assumes nothing.
use mathlib.Core.Path.{ap}
use native.Mathlib.Omega.{arith}
use lib.ListN.{length}
use Rattle.meaning.specs.Canonical.{quoted}
use Rattle.writer.proofs.LaidLaws.{put_at_as, put_tail, tail_length}
use Rattle.writer.proofs.one_record.string_at.Goals as goal

pub write_string-requires : goal.write_string-requires
write_string-requires c = omega (arith, c.requires, ap length (ap quoted c.part_of-part.ensures), tail_length c.args.at c.args.out.now)

pub returns : goal.returns
returns c = put_at_as (ap quoted c.part_of-part.ensures) (put_tail c.write_string.ensures)
