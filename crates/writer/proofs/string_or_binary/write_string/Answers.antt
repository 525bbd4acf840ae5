-- `string_or_binary::write_string`: quote, escapes, quote. Assumes nothing.
use mathlib.Core.Path.{sym, ap}
use native.Mathlib.Omega.{arith}
use lib.ListN.{length}
use Rattle.meaning.specs.Letters.{letters}
use Rattle.meaning.specs.Canonical.{escapes}
use Rattle.writer.proofs.LaidLaws.{put_as, put_next, put_whole}
use Rattle.writer.proofs.PiecesLaws.{length_three, quoted_parts}
use Rattle.writer.proofs.string_or_binary.write_string.Goals as goal

pub byte_at-first-requires : goal.byte_at-first-requires
byte_at-first-requires c = omega (arith, c.requires, ap length (quoted_parts c.args.s.now), length_three (letters "\"") (escapes c.args.s.now) (letters "\""))

pub escapes_at-last-requires : goal.escapes_at-last-requires
escapes_at-last-requires c = omega (
  arith,
  c.requires,
  ap length (quoted_parts c.args.s.now),
  length_three (letters "\"") (escapes c.args.s.now) (letters "\""),
  c.byte_at-first.ensures.next,
  c.byte_at-first.auto.out,
)

pub byte_at-requires : goal.byte_at-requires
byte_at-requires c = omega (
  arith,
  c.requires,
  ap length (quoted_parts c.args.s.now),
  length_three (letters "\"") (escapes c.args.s.now) (letters "\""),
  c.byte_at-first.ensures.next,
  c.byte_at-first.auto.out,
  c.escapes_at-last.ensures.next,
  c.escapes_at-last.auto.out,
)

pub returns : goal.returns
returns c = put_as (sym (quoted_parts c.args.s.now)) (put_whole (put_next (omega arith)
    (put_next (omega arith) c.byte_at-first.ensures c.escapes_at-last.ensures)
    c.byte_at.ensures))
