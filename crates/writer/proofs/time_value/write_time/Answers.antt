-- `time_value::write_time`: by cases, one piece after the other. Assumes nothing.
use mathlib.Core.Path.{sym, ap}
use native.Mathlib.Omega.{arith}
use Rattle.std.proofs.Common.{rules}
use lib.ListN.{length, length-append}
use mir.Syntax.{w16}
use mir.Val.{SFits}
use mir.ValLaws.{to_z-of_z}
use Rattle.writer.proofs.LaidLaws.{put_as, put_next, put_whole}
use Rattle.writer.proofs.PiecesLaws.{date_alone, clock_alone, local_parts, offset_date_parts}
use Rattle.writer.proofs.time_value.write_time.Goals as goal

pub date_at-requires : goal.date_at-requires
date_at-requires c = omega (arith, ap length (date_alone c.in-LocalDate.is))

pub clock_at-requires : goal.clock_at-requires
clock_at-requires c = omega (arith, ap length (clock_alone c.in-LocalTime.is))

pub date_at-letter-requires : goal.date_at-letter-requires
date_at-letter-requires c = omega (arith, simp length-append at (ap length (local_parts c.in-LocalDateTime.is)))

pub byte_at-first-requires : goal.byte_at-first-requires
byte_at-first-requires c = omega (arith, simp length-append at (ap length (local_parts c.in-LocalDateTime.is)))

pub clock_at-requires-in-LocalDateTime : goal.clock_at-requires-in-LocalDateTime
clock_at-requires-in-LocalDateTime c = omega (arith, simp length-append at (ap length (local_parts c.in-LocalDateTime.is)))

pub date_at-letter-requires-in-OffsetDateTime : goal.date_at-letter-requires-in-OffsetDateTime
date_at-letter-requires-in-OffsetDateTime c = omega (arith, simp length-append at (ap length (offset_date_parts c.in-OffsetDateTime.is)))

pub byte_at-first-requires-in-OffsetDateTime : goal.byte_at-first-requires-in-OffsetDateTime
byte_at-first-requires-in-OffsetDateTime c = omega (arith, simp length-append at (ap length (offset_date_parts c.in-OffsetDateTime.is)))

pub clock_at-after-requires : goal.clock_at-after-requires
clock_at-after-requires c = omega (arith, simp length-append at (ap length (offset_date_parts c.in-OffsetDateTime.is)))

pub offset_at-requires : goal.offset_at-requires
offset_at-requires c =
    let f : SFits w16 c.in-OffsetDateTime.offset = search rules in
    simp to_z-of_z (omega (arith, simp length-append at (ap length (offset_date_parts c.in-OffsetDateTime.is))))

pub returns-in-LocalDate : goal.returns-in-LocalDate
returns-in-LocalDate c = put_as (sym (date_alone c.in-LocalDate.is)) (put_whole c.date_at.ensures)

pub returns-in-LocalTime : goal.returns-in-LocalTime
returns-in-LocalTime c = put_as (sym (clock_alone c.in-LocalTime.is)) (put_whole c.clock_at.ensures)

pub returns-in-LocalDateTime : goal.returns-in-LocalDateTime
returns-in-LocalDateTime c =
    put_as (sym (local_parts c.in-LocalDateTime.is))
    (put_whole (put_next (omega arith) (put_next (omega arith) c.date_at-letter.ensures c.byte_at-first.ensures) c.clock_at-in-LocalDateTime.ensures))

pub returns-in-OffsetDateTime : goal.returns-in-OffsetDateTime
returns-in-OffsetDateTime c =
    let f : SFits w16 c.in-OffsetDateTime.offset = search rules in
    put_as (sym (offset_date_parts c.in-OffsetDateTime.is))
    (put_whole (put_next (omega arith)
    (put_next (omega arith) (put_next (omega arith) c.date_at-letter-in-OffsetDateTime.ensures c.byte_at-first-in-OffsetDateTime.ensures)
    c.clock_at-after.ensures) (simp to_z-of_z at c.offset_at.ensures)))
