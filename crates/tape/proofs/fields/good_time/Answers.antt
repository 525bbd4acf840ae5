-- `fields::good_time`: by cases. Assumes nothing.
use mathlib.Core.Path.{sym, subst}
use Prim.Native.Nat.{◌≤◌, ◌<◌}
use lib.IntN.{nat_abs}
use mir.Syntax.{w16}
use mir.ValLaws.{to_z-of_z}
use Rattle.meaning.specs.Limits.{day, offset_limit}
use Rattle.rules.specs.Between.Tests.{Decides}
use Rattle.rules.proofs.TestsLaws.{held, decides_as, fails_too, both_test}
use Rattle.tape.proofs.fields.good_time.Goals as goal
use Rattle.tape.proofs.fields.good_time.Goals.{then-good_clock-2, else-good_clock-2}

pub returns-then-good_clock : goal.returns-then-good_clock
returns-then-good_clock c = let q = held c.good_clock-in-LocalDateTime.ensures c.if-good_clock.true in
    rw c.in-LocalDateTime.is (decides_as (λ p. (p, q)) (λ p. p.0) c.good_date-then-good_clock.ensures)

pub returns-else-good_clock : goal.returns-else-good_clock
returns-else-good_clock c = rw c.in-LocalDateTime.is (fails_too (λ p. p.1) c.good_clock-in-LocalDateTime.ensures c.if-good_clock.false)

-- what is known once the clock, and where that is good the offset, was tested
pub returns-then-good_offset : goal.returns-then-good_offset
returns-then-good_offset c =
    let known : Decides ((c.in-OffsetDateTime.clock < day) × (nat_abs c.in-OffsetDateTime.offset ≤ offset_limit)) c.if-good_clock-2.value =
    elim c.if-good_clock-2.branch [
      | then-good_clock-2 w ↦ subst (Decides _) (sym w.value-is)
          (both_test (held c.good_clock-in-OffsetDateTime.ensures w.if-good_clock-2.true)
          (rw (to_z-of_z w16 c.in-OffsetDateTime.offset (record { sfits = assumption })) at w.good_offset.ensures))
      | else-good_clock-2 w ↦ subst (Decides _) (sym w.value-is)
          (fails_too (λ p. p.0) c.good_clock-in-OffsetDateTime.ensures w.if-good_clock-2.false)
    ] in
    let q = held known c.if-good_offset.true in
    rw c.in-OffsetDateTime.is (decides_as (λ p. (p, q.0, q.1)) (λ p. p.0) c.good_date-then-good_offset.ensures)

pub returns-else-good_offset : goal.returns-else-good_offset
returns-else-good_offset c =
    let known : Decides ((c.in-OffsetDateTime.clock < day) × (nat_abs c.in-OffsetDateTime.offset ≤ offset_limit)) c.if-good_clock-2.value =
    elim c.if-good_clock-2.branch [
      | then-good_clock-2 w ↦ subst (Decides _) (sym w.value-is)
          (both_test (held c.good_clock-in-OffsetDateTime.ensures w.if-good_clock-2.true)
          (rw (to_z-of_z w16 c.in-OffsetDateTime.offset (record { sfits = assumption })) at w.good_offset.ensures))
      | else-good_clock-2 w ↦ subst (Decides _) (sym w.value-is)
          (fails_too (λ p. p.0) c.good_clock-in-OffsetDateTime.ensures w.if-good_clock-2.false)
    ] in
    rw c.in-OffsetDateTime.is (fails_too (λ p. (p.1, p.2)) known c.if-good_offset.false)
