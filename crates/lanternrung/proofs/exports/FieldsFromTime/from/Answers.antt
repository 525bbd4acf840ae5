-- The four time types. Assumes nothing.
use mathlib.Core.Path.{sym, ap, ◌∙◌}
use native.Mathlib.Omega.{arith}
use lib.IntN.{ℤ}
use mir.Syntax.{w32}
use mir.Val.{of_z, to_z}
use Rattle.lanternrung.specs.Told.{dated_fields, time_fields}
use Rattle.lanternrung.proofs.ToldLaws.{passed}
use Rattle.lanternrung.proofs.exports.FieldsFromTime.from.Goals as goal

pub returns-in-LocalDate : goal.returns-in-LocalDate
unfolding time_fields
returns-in-LocalDate c = c.dated.ensures ∙ sym (ap time_fields c.in-LocalDate.is)

pub returns-in-LocalTime : goal.returns-in-LocalTime
unfolding time_fields
returns-in-LocalTime c = sym (ap time_fields c.in-LocalTime.is)

pub returns-in-LocalDateTime : goal.returns-in-LocalDateTime
unfolding time_fields
returns-in-LocalDateTime c = c.dated-in-LocalDateTime.ensures ∙ sym (ap time_fields c.in-LocalDateTime.is)

pub returns-in-OffsetDateTime : goal.returns-in-OffsetDateTime
unfolding time_fields
returns-in-OffsetDateTime c = c.dated-in-OffsetDateTime.ensures
    ∙ ap (dated_fields 11 c.in-OffsetDateTime.date c.in-OffsetDateTime.clock)
    (ap (λ (x : ℤ). to_z w32 (of_z w32 x)) c.from.ensures ∙ passed c.in-OffsetDateTime.offset (omega arith))
    ∙ sym (ap time_fields c.in-OffsetDateTime.is)
