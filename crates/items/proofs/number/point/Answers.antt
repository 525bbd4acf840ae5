-- A digit must come; then it is a fraction after nothing. Assumes nothing.
use mathlib.Core.Path.{refl}
use Rattle.items.proofs.NumberOrTimeLaws.{handed_on}
use Rattle.items.proofs.NumberDecimalLaws.{point_edge, point_digits}
use Rattle.items.proofs.number.point.Goals as goal

pub returns-in_err-digit_here : goal.returns-in_err-digit_here
returns-in_err-digit_here c = let e = c.in_err-digit_here.ensures in handed_on _ c.from_residual.ensures.1 (rw e.0 (point_edge _ _ _ _ e.1))

pub returns : goal.returns
returns c = let d = c.in_ok-digit_here.ensures in point_digits _ _ _ _ _ refl refl _ d.inside d.digit c.fraction.ensures
