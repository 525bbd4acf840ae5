-- `time_value::time_len`: by cases. Assumes nothing.
use mathlib.Core.Path.{sym, ap, ◌∙◌}
use native.Mathlib.Omega.{arith}
use Rattle.std.proofs.Common.{rules}
use lib.ListN.{length, length-append}
use mir.Syntax.{w16}
use mir.Val.{SFits}
use mir.ValLaws.{to_z-of_z}
use Rattle.meaning.proofs.Text.{date_length}
use Rattle.writer.proofs.PiecesLaws.{date_alone, clock_alone, local_parts, offset_date_parts}
use Rattle.writer.proofs.time_value.time_len.Goals as goal

pub returns-in-LocalDate : goal.returns-in-LocalDate
returns-in-LocalDate c = sym (ap length (date_alone c.in-LocalDate.is) ∙ date_length _)

pub returns-in-LocalTime : goal.returns-in-LocalTime
returns-in-LocalTime c = c.clock_len.ensures.0 ∙ sym (ap length (clock_alone c.in-LocalTime.is))

pub returns-in-LocalDateTime : goal.returns-in-LocalDateTime
returns-in-LocalDateTime c = omega (arith, simp length-append at (ap length (local_parts c.in-LocalDateTime.is)), date_length)

pub returns-in-OffsetDateTime : goal.returns-in-OffsetDateTime
returns-in-OffsetDateTime c =
    let f : SFits w16 c.in-OffsetDateTime.offset = search rules in
    omega
    (arith, simp length-append at (ap length (offset_date_parts c.in-OffsetDateTime.is)), date_length, simp to_z-of_z at c.offset_len.ensures.0)
