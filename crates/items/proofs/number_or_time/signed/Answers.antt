-- Each byte that may follow a sign, and every other. Assumes nothing.
use mathlib.Core.Path.{refl}
use native.Mathlib.Omega.{arith}
use Rattle.items.proofs.NumberOrTimeFirstLaws.{sign_end, sign_nought, sign_digit}
use Rattle.items.specs.Between.NumberOrTime.{Edge}
use Rattle.items.proofs.number_or_time.signed.Goals as goal
use Rattle.items.proofs.number_or_time.signed.Goals.{in_default-via-then-this-lt48, in_default-via-else-this-lt48+else-this-lt58}

pub returns-then-i-s : goal.returns-then-i-s
returns-then-i-s c = sign_end _ _ _ _ (omega arith)

pub returns-in-48 : goal.returns-in-48
returns-in-48 c = sign_nought _ _ _ _ (omega arith) _ c.in-48.is c.nought.ensures

pub returns-in-49-to-57 : goal.returns-in-49-to-57
returns-in-49-to-57 c = sign_digit _ _ _ _ (omega arith) _ refl refl _ (omega arith) (omega arith) c.decimal.ensures

pub undigited-requires : goal.undigited-requires
undigited-requires c = (
  omega arith,
  omega arith,
  elim c.in_default.branch [
    | in_default-via-then-this-lt48 w ↦ Edge.under (omega arith)
    | in_default-via-else-this-lt48+else-this-lt58 w ↦ Edge.past (omega arith)
  ],
)
