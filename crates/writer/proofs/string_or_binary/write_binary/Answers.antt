-- `string_or_binary::write_binary`: the sign, then pairs. Assumes nothing.
use mathlib.Core.Path.{sym, ap}
use native.Mathlib.Omega.{arith}
use lib.ListN.{length, length-append}
use Rattle.meaning.specs.Letters.{letters}
use Rattle.meaning.specs.Canonical.{hex_pairs}
use Rattle.writer.proofs.LaidLaws.{put_as, put_next, put_whole}
use Rattle.writer.proofs.PiecesLaws.{binary_is}
use Rattle.writer.proofs.string_or_binary.write_binary.Goals as goal

pub byte_at-first-requires : goal.byte_at-first-requires
byte_at-first-requires c = omega (arith, c.requires, ap length (binary_is c.args.s.now), length-append (letters "$") (hex_pairs c.args.s.now))

pub pairs_at-requires : goal.pairs_at-requires
pairs_at-requires c = omega (
  arith,
  c.requires,
  ap length (binary_is c.args.s.now),
  length-append (letters "$") (hex_pairs c.args.s.now),
  c.byte_at-first.ensures.next,
  c.byte_at-first.auto.out,
)

pub returns : goal.returns
returns c = put_as (sym (binary_is c.args.s.now)) (put_whole (put_next (omega arith) c.byte_at-first.ensures c.pairs_at.ensures))
