-- By the number alone, but for a first half. Assumes nothing.
use native.Mathlib.Omega.{arith}
use Rattle.items.proofs.StringPartCharLaws.{char_low, char_up, char_lone}
use Rattle.items.proofs.string_part.unit.Goals as goal

pub returns-in-56320-to-57343 : goal.returns-in-56320-to-57343
returns-in-56320-to-57343 c = λ at t. char_lone _ _ _ _ t (omega arith) (omega arith)

pub returns-in_default : goal.returns-in_default
returns-in_default c = λ at t. char_low _ _ _ _ t (omega arith)

pub returns-in_default-2 : goal.returns-in_default-2
returns-in_default-2 c = λ at t. char_up _ _ _ _ t (omega arith)
