-- A sign, or digits at once. Assumes nothing.
use native.Mathlib.Omega.{arith}
use Rattle.items.proofs.NumberDecimalLaws.{e_over, e_plus, e_minus, e_bare}
use Rattle.items.proofs.number.power.Goals as goal

pub returns-then-k-s : goal.returns-then-k-s
returns-then-k-s c = e_over _ _ _ _ _ _ (omega arith)

pub returns-in-43 : goal.returns-in-43
returns-in-43 c = e_plus _ _ _ _ _ _ _ (omega arith) c.in-43.is c.raised.ensures

pub returns-in-45 : goal.returns-in-45
returns-in-45 c = e_minus _ _ _ _ _ _ _ (omega arith) c.in-45.is c.raised-in-45.ensures

pub returns-in_default : goal.returns-in_default
returns-in_default c = e_bare _ _ _ _ _ _ _ (omega arith) (λ e. omega arith) (λ e. omega arith) c.raised-in_default.ensures
