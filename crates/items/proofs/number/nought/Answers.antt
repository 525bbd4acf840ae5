-- Each byte that may follow, and every other. Assumes nothing.
use mathlib.Core.Path.{refl}
use native.Mathlib.Omega.{arith}
use Rattle.items.proofs.NumberDecimalLaws.{nought_over, nought_x, nought_point, nought_e, nought_ends}
use Rattle.items.proofs.number.nought.Goals as goal

pub returns-then-at-s : goal.returns-then-at-s
returns-then-at-s c = nought_over _ _ _ _ (omega arith) _ c.finite.ensures

pub returns-in-120 : goal.returns-in-120
returns-in-120 c = nought_x _ _ _ _ _ (omega arith) c.in-120.is c.hexadecimal.ensures

pub returns-in-46 : goal.returns-in-46
returns-in-46 c = nought_point _ _ _ _ _ refl refl _ (omega arith) c.in-46.is c.fraction.ensures

pub returns-in-101 : goal.returns-in-101
returns-in-101 c = nought_e _ _ _ _ _ refl refl _ (omega arith) c.in-101.is c.exponent.ensures

pub returns-in_default : goal.returns-in_default
returns-in_default c = nought_ends _ _ _ _ (omega arith) (λ e. grind arith) (λ e. grind arith) (λ e. grind arith) (λ e. grind arith) (λ e. grind arith) _
    c.finite-in_default.ensures
