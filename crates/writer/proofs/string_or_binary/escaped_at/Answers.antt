-- `string_or_binary::escaped_at`: by the kind of the byte. Assumes nothing.
use mathlib.Core.Path.{sym, ap}
use native.Mathlib.Omega.{arith}
use lib.ListN.{length}
use Rattle.writer.proofs.LaidLaws.{put_at_as, put_next}
use Rattle.writer.proofs.PiecesLaws.{low_text}
use Rattle.writer.proofs.string_or_binary.escaped_at.Goals as goal

pub bytes_at-pair-requires : goal.bytes_at-pair-requires
bytes_at-pair-requires c = omega (arith, ap length (low_text _ c.if-is_plain.ensures c.in_default.ensures))

pub pair_at-requires : goal.pair_at-requires
pair_at-requires c = omega (arith, ap length (low_text _ c.if-is_plain.ensures c.in_default.ensures))

pub returns-in-Some : goal.returns-in-Some
returns-in-Some c = put_at_as (sym c.in-Some.ensures) (put_next (omega (arith, c.requires)) c.byte_at-second.ensures c.byte_at-in-Some.ensures)

pub returns : goal.returns
returns c = put_at_as (sym (low_text _ c.if-is_plain.ensures c.in_default.ensures))
    (put_next (omega (arith, c.requires)) c.bytes_at-pair.ensures c.pair_at.ensures)
