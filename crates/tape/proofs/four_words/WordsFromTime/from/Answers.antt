-- `Words::from` of a time: by cases. Assumes nothing.
use mathlib.Core.Path.{refl, ap, ◌∙◌}
use mir.Syntax.{w16}
use mir.Val.{of_z, SFits}
use mir.ValLaws.{to_z-of_z}
use Rattle.meaning.specs.Between.Words.{mark_of, low_of, mid_of, high_of, month_day}
use Rattle.tape.proofs.ShapesLaws.{written}
use Rattle.tape.proofs.four_words.WordsFromTime.from.Goals as goal

pub returns-in-LocalDate : goal.returns-in-LocalDate
unfolding mark_of low_of mid_of high_of
returns-in-LocalDate c = rw c.in-LocalDate.is (written _ _ c.month_day.ensures.1
    (record { mark_is = refl; low_is = c.from.ensures; mid_is = c.month_day.ensures.0; high_is = refl }))

pub returns-in-LocalTime : goal.returns-in-LocalTime
unfolding mark_of low_of mid_of high_of
returns-in-LocalTime c = rw c.in-LocalTime.is (written _ _ c.in-LocalTime.known_told-in-LocalTime-1-own.given.0.1
    (record { mark_is = refl; low_is = refl; mid_is = refl; high_is = refl }))

pub returns-in-LocalDateTime : goal.returns-in-LocalDateTime
unfolding mark_of low_of mid_of high_of
returns-in-LocalDateTime c = rw c.in-LocalDateTime.is (written _ _ (
  c.month_day-in-LocalDateTime.ensures.1,
  c.in-LocalDateTime.known_told-in-LocalDateTime-1-own.given.1.0.1,
)
    (record { mark_is = refl; low_is = c.from-in-LocalDateTime.ensures; mid_is = c.month_day-in-LocalDateTime.ensures.0; high_is = refl }))

pub returns-in-OffsetDateTime : goal.returns-in-OffsetDateTime
unfolding mark_of low_of mid_of high_of
returns-in-OffsetDateTime c = let f : SFits w16 c.in-OffsetDateTime.offset =
    record { sfits = c.in-OffsetDateTime.known_told-in-OffsetDateTime-1-own.given.1.1.0.1 } in let e = c.cast_unsigned.ensures
    ∙ ap (of_z w16) (to_z-of_z w16 _ f) in
    rw c.in-OffsetDateTime.is (written _ _ (c.month_day-in-OffsetDateTime.ensures.1, c.in-OffsetDateTime.known_told-in-OffsetDateTime-1-own.given.1.0.1, f)
    (record {
      mark_is = refl;
      low_is = c.from-in-OffsetDateTime.ensures;
      mid_is = c.month_day-in-OffsetDateTime.ensures.0 ∙ ap (month_day c.in-OffsetDateTime.d) e;
      high_is = refl;
    }))
