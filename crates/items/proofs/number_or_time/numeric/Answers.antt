-- Each byte that may begin a number or a time value, and every other. Assumes nothing.
use native.Mathlib.Omega.{arith}
use Rattle.items.proofs.NumberOrTimeAnswerLaws.{numeric_says}
use Rattle.items.proofs.NumberOrTimeFirstLaws.{begin_plus, begin_minus, begin_other}
use Rattle.items.specs.Between.NumberOrTime.{Edge}
use Rattle.items.proofs.number_or_time.numeric.Goals as goal
use Rattle.items.proofs.number_or_time.numeric.Goals.{in_default-via-then-this-lt48, in_default-via-else-this-lt48+else-this-lt58}

pub returns-in-43 : goal.returns-in-43
returns-in-43 c = numeric_says _ _ (omega arith) _ (begin_plus _ _ (omega arith) _ c.in-43.is c.signed.ensures)

pub returns-in-45 : goal.returns-in-45
returns-in-45 c = numeric_says _ _ (omega arith) _ (begin_minus _ _ (omega arith) _ c.in-45.is c.signed-in-45.ensures)

pub returns-in-48-to-57 : goal.returns-in-48-to-57
returns-in-48-to-57 c = numeric_says _ _ (omega arith) _ c.unsigned.ensures

pub undigited-requires : goal.undigited-requires
undigited-requires c = (
  omega arith,
  omega arith,
  elim c.in_default.branch [
    | in_default-via-then-this-lt48 w ↦ Edge.under (omega arith)
    | in_default-via-else-this-lt48+else-this-lt58 w ↦ Edge.past (omega arith)
  ],
)

pub returns-in_default : goal.returns-in_default
returns-in_default c = numeric_says _ _ (omega arith) _ (begin_other _ _ (omega arith) _
    (elim c.in_default.branch [
      | in_default-via-then-this-lt48 w ↦ Edge.under (omega arith)
      | in_default-via-else-this-lt48+else-this-lt58 w ↦ Edge.past
          (omega arith)
    ]) (λ e. omega arith) (λ e. omega arith) c.undigited.ensures)
