-- `number::finite_len`: as it is written. Assumes nothing.
use mathlib.Core.Path.{sym, ap, ◌∙◌}
use native.Mathlib.Omega.{arith}
use lib.ListN.{length}
use mir.Syntax.{w32}
use mir.Val.{SFits}
use mir.ValLaws.{to_z-of_z}
use Rattle.writer.proofs.NumberFormLaws.{form_held, point_text, zeros_size, power_size, pointed_size, zeros_few, point_few}
use Rattle.writer.proofs.number.finite_len.Goals as goal

pub overflow_add-result : goal.overflow_add-result
overflow_add-result c = omega (arith, zeros_few c.in-Zeros.ensures)

pub pointed_len-requires : goal.pointed_len-requires
pointed_len-requires c = (c.decimal_len-d.ensures.1, (point_few c.in-Point.ensures).1)

pub returns-in-Zeros : goal.returns-in-Zeros
returns-in-Zeros c = (
  omega (arith, zeros_size _ _ c.decimal_len-d.ensures.0 (form_held c.ranges.power c.in-Zeros.ensures)),
  omega (arith, zeros_few c.in-Zeros.ensures),
)

pub returns-in-Point : goal.returns-in-Point
returns-in-Point c = (
  pointed_size _ _ c.decimal_len-d.ensures.0 c.pointed_len.ensures ∙ sym (ap length (point_text _ (form_held c.ranges.power c.in-Point.ensures))),
  omega arith,
)

pub returns-in-Power : goal.returns-in-Power
returns-in-Power c =
    let f : SFits w32 c.args.power = c.ranges.power in
    (omega (arith, power_size _ _ c.decimal_len-d.ensures.0 (form_held f c.in-Power.ensures), simp to_z-of_z at c.power_len.ensures.0), omega arith)
