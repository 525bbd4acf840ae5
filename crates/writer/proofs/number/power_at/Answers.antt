-- `number::power_at`: nothing for 0, else `e`, sign and digits. Assumes nothing.
use mathlib.Core.Path.{refl, sym}
use native.Mathlib.Omega.{arith}
use Rattle.writer.proofs.LaidLaws.{put_at_as, put_none, put_next}
use Rattle.writer.proofs.PiecesLaws.{power_none, power_some, power_length}
use Rattle.writer.proofs.number.power_at.Goals as goal

pub returns-then-power-eq0 : goal.returns-then-power-eq0
returns-then-power-eq0 c = put_at_as (sym (power_none _ c.ranges.power c.if-power-eq0.true)) (put_none _ _)

pub byte_at-sign-requires : goal.byte_at-sign-requires
byte_at-sign-requires c = omega (arith, power_length _ c.ranges.power c.if-power-eq0.false refl)

pub minus_at-first-requires : goal.minus_at-first-requires
minus_at-first-requires c = omega (arith, power_length _ c.ranges.power c.if-power-eq0.false refl)

pub decimal_at-requires : goal.decimal_at-requires
decimal_at-requires c = omega (arith, power_length _ c.ranges.power c.if-power-eq0.false c.unsigned_abs.ensures.value)

pub returns : goal.returns
returns c =
    put_at_as (sym (power_some _ c.ranges.power c.if-power-eq0.false c.unsigned_abs.ensures.value))
    (put_next (omega arith) (put_next (omega arith) c.byte_at-sign.ensures c.minus_at-first.ensures) c.decimal_at.ensures)
