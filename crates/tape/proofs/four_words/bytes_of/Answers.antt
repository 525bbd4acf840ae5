-- `four_words::bytes_of`: by the mark. Assumes nothing.
use mathlib.Core.Path.{refl, ap, ap₂}
use Prim.Native.Nat.{◌/◌, ◌<◌, ◌^◌}
use native.Mathlib.Omega.{arith}
use lib.IntN.{ℤ}
use mir.Syntax.{w16}
use Rattle.meaning.specs.declared.Date.{Date}
use Rattle.meaning.specs.declared.Time.TheVariants.{LocalDate, LocalDateTime, OffsetDateTime}
use Rattle.meaning.specs.declared.Record.{Record}
use Rattle.tape.specs.Between.Shapes.{record_of}
use Rattle.tape.proofs.LittleEndianSignLaws.{read_back}
use Rattle.tape.proofs.ShapesLaws.{past}
use Rattle.tape.proofs.four_words.bytes_of.Goals as goal

pub returns-in-29811 : goal.returns-in-29811
unfolding record_of
returns-in-29811 c = λ h. rw c.in-29811.is refl

pub returns-in-31083 : goal.returns-in-31083
unfolding record_of
returns-in-31083 c = λ h. rw c.in-31083.is refl

pub returns-in-31074 : goal.returns-in-31074
unfolding record_of
returns-in-31074 c = λ h. rw c.in-31074.is refl

pub returns-in-25708 : goal.returns-in-25708
unfolding record_of
returns-in-25708 c = λ h. rw c.in-25708.is (ap (λ (d : Date). Record.Time (LocalDate d)) c.date_of.ensures)

pub returns-in-29804 : goal.returns-in-29804
unfolding record_of
returns-in-29804 c = λ h. rw c.in-29804.is refl

pub returns-in-29796 : goal.returns-in-29796
unfolding record_of
returns-in-29796 c = λ h. rw c.in-29796.is (ap (λ (d : Date). Record.Time (LocalDateTime d c.args.w.high)) c.date_of-in-29796.ensures)

pub returns-in-25711 : goal.returns-in-25711
unfolding record_of
returns-in-25711 c = λ h. let small : c.args.w.mid / 65536 < 2 ^ 16 = omega (arith, c.requires.mid_small) in
    rw c.in-25711.is (ap₂ (λ (d : Date) (o : ℤ). Record.Time (OffsetDateTime d c.args.w.high o)) c.date_of-in-25711.ensures
    (read_back w16 _ _ (record { fits = small }) c.cast_signed.ensures))

pub returns-in-29281 : goal.returns-in-29281
unfolding record_of
returns-in-29281 c = λ h. rw c.in-29281.is refl

pub returns-in-25199 : goal.returns-in-25199
unfolding record_of
returns-in-25199 c = λ h. rw c.in-25199.is refl

pub returns-in_default : goal.returns-in_default
unfolding record_of
returns-in_default c = λ h. past c.args.w.mark 28514 _ h.no_flag (past c.args.w.mark 25198 _ h.no_finite
    (past c.args.w.mark 30830 _ h.no_other (past c.args.w.mark 29811 _ (λ q. omega arith)
    (past c.args.w.mark 31083 _ (λ q. omega arith) (past c.args.w.mark 31074 _ (λ q. omega arith)
    (past c.args.w.mark 25708 _ (λ q. omega arith) (past c.args.w.mark 29804 _ (λ q. omega arith)
    (past c.args.w.mark 29796 _ (λ q. omega arith) (past c.args.w.mark 25711 _ (λ q. omega arith)
    (past c.args.w.mark 29281 _ (λ q. omega arith) (past c.args.w.mark 25199 _ (λ q. omega arith) refl)))))))))))
