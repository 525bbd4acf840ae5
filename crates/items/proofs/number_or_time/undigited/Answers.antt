-- Each byte that may begin a number with no digit, and every other. Assumes nothing.
use native.Mathlib.Omega.{arith}
use Rattle.items.proofs.NumberOrTimeFirstLaws.{sign_point, sign_nan, sign_infinity, sign_other}
use Rattle.items.proofs.number_or_time.undigited.Goals as goal

pub returns-in-46 : goal.returns-in-46
returns-in-46 c = sign_point _ _ _ _ (omega arith) _ c.in-46.is c.point.ensures

pub returns-in-78 : goal.returns-in-78
returns-in-78 c = sign_nan _ _ _ _ (omega arith) _ c.in-78.is c.named.ensures

pub returns-in-73 : goal.returns-in-73
returns-in-73 c = sign_infinity _ _ _ _ (omega arith) _ c.in-73.is c.named-in-73.ensures

pub returns-in_default : goal.returns-in_default
returns-in_default c = sign_other _ _ _ _ (omega arith) c.requires.2 (λ e. omega arith) (λ e. omega arith) (λ e. omega arith)
