-- `number::form`: by the sign and the size of the power. Assumes nothing.
use mir.Syntax.{w32}
use mir.Val.{SFits}
use mir.ValLaws.{to_z-of_z}
use Rattle.writer.proofs.NumberFormLaws.{form_point, form_lowered, form_zeros, form_raised}
use Rattle.writer.proofs.number.form.Goals as goal

pub returns-then-size-le-PLAIN_DIGITS : goal.returns-then-size-le-PLAIN_DIGITS
returns-then-size-le-PLAIN_DIGITS c =
    let f : SFits w32 c.args.power = c.ranges.power in
    form_point _ (simp to_z-of_z at c.if-power-lt0.true) (simp to_z-of_z at c.unsigned_abs-size.ensures.value) c.if-size-le-PLAIN_DIGITS.true

pub returns-then-power-lt0 : goal.returns-then-power-lt0
returns-then-power-lt0 c =
    let f : SFits w32 c.args.power = c.ranges.power in
    form_lowered _ (simp to_z-of_z at c.if-power-lt0.true) (simp to_z-of_z at c.unsigned_abs-size.ensures.value) c.if-size-le-PLAIN_DIGITS.false

pub returns-then-d-size-le-PLAIN_DIGITS : goal.returns-then-d-size-le-PLAIN_DIGITS
returns-then-d-size-le-PLAIN_DIGITS c =
    let f : SFits w32 c.args.power = c.ranges.power in
    form_zeros _ (simp to_z-of_z at c.if-power-lt0.false) (simp to_z-of_z at c.unsigned_abs-size.ensures.value) c.if-d-size-le-PLAIN_DIGITS.true

pub returns : goal.returns
returns c =
    let f : SFits w32 c.args.power = c.ranges.power in
    form_raised _ (simp to_z-of_z at c.if-power-lt0.false) (simp to_z-of_z at c.unsigned_abs-size.ensures.value) c.if-d-size-le-PLAIN_DIGITS.false
