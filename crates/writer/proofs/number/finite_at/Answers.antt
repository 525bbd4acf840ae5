-- `number::finite_at`: by its form. Assumes nothing.
use mathlib.Core.Path.{sym, ap}
use native.Mathlib.Omega.{arith}
use lib.ListN.{length}
use mir.Syntax.{w32}
use mir.Val.{SFits}
use mir.ValLaws.{to_z-of_z}
use Rattle.meaning.proofs.Digits.{fixed_length}
use Rattle.writer.proofs.LaidLaws.{put_at_as, put_next}
use Rattle.writer.proofs.NumberFormLaws.{form_held, zeros_text, power_text_lem, point_text, zeros_size, power_size, point_few}
use Rattle.writer.proofs.number.finite_at.Goals as goal

pub digits_at-after-requires : goal.digits_at-after-requires
digits_at-after-requires c = omega (arith, zeros_size _ _ c.decimal_len-d.ensures.0 (form_held c.ranges.power c.in-Zeros.ensures))

pub digits_at-requires : goal.digits_at-requires
digits_at-requires c = omega (arith, zeros_size _ _ c.decimal_len-d.ensures.0 (form_held c.ranges.power c.in-Zeros.ensures), fixed_length)

pub pointed_at-requires : goal.pointed_at-requires
pointed_at-requires c =
    let f = form_held c.ranges.power c.in-Point.ensures in
    (c.decimal_len-d.ensures.0, (point_few f).0, c.decimal_len-d.ensures.1, omega (arith, ap length (point_text c.args.c f)))

pub digits_at-after-requires-in-Power : goal.digits_at-after-requires-in-Power
digits_at-after-requires-in-Power c = omega (arith, power_size _ _ c.decimal_len-d.ensures.0 (form_held c.ranges.power c.in-Power.ensures))

pub power_at-requires : goal.power_at-requires
power_at-requires c =
    let f : SFits w32 c.args.power = c.ranges.power in
    simp to_z-of_z (omega (arith, power_size _ _ c.decimal_len-d.ensures.0 (form_held f c.in-Power.ensures), fixed_length))

pub returns-in-Zeros : goal.returns-in-Zeros
returns-in-Zeros c =
    put_at_as (sym (zeros_text _ _ c.decimal_len-d.ensures.0 (form_held c.ranges.power c.in-Zeros.ensures)))
    (put_next (omega arith) c.digits_at-after.ensures c.digits_at.ensures)

pub returns-in-Point : goal.returns-in-Point
returns-in-Point c = put_at_as (sym (point_text _ (form_held c.ranges.power c.in-Point.ensures))) c.pointed_at.ensures

pub returns-in-Power : goal.returns-in-Power
returns-in-Power c =
    let f : SFits w32 c.args.power = c.ranges.power in
    put_at_as (sym (power_text_lem _ _ c.decimal_len-d.ensures.0 (form_held f c.in-Power.ensures)))
    (put_next (omega arith) c.digits_at-after-in-Power.ensures (simp to_z-of_z at c.power_at.ensures))
