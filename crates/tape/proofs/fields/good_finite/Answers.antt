-- `fields::good_finite`: each rule of a coefficient and a power. Assumes nothing.
use mir.Syntax.{w32}
use borrow.Author.Tests.{eq-eqb}
use Rattle.tape.proofs.FieldsRangeLaws.{size_test, zero_good, ends_in_zero_bad, nonzero_good}
use Rattle.tape.proofs.fields.good_finite.Goals as goal

pub returns-then-coefficient-eq0 : goal.returns-then-coefficient-eq0
returns-then-coefficient-eq0 c = zero_good _ _ c.if-coefficient-eq0.true c.ranges.power

pub returns-then-coefficient-ne0 : goal.returns-then-coefficient-ne0
returns-then-coefficient-ne0 c = nonzero_good _ _ c.ranges.coefficient.fits c.if-coefficient-ne0.true
    (size_test w32 _ 9999 c.ranges.power c.unsigned_abs.ensures.value)

pub returns-else-coefficient-ne0 : goal.returns-else-coefficient-ne0
returns-else-coefficient-ne0 c =
    rw (eq-eqb _ _ c.if-coefficient-ne0.false) (ends_in_zero_bad _ _ c.if-coefficient-eq0.false c.if-coefficient-ne0.false)
