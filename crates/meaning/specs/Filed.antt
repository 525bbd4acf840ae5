-- The text that a meaning was filed in before ticket 6 (docs/FORMAT.md, 12): the canonical text but for its numbers.
-- Assumes nothing.
use Rattle.std.specs.Prelude.{List, ◌++◌, ℕ}
use Rattle.meaning.specs.declared.Number.{Number}
use Rattle.meaning.specs.declared.Number.TheVariants.{Finite, NotANumber, Infinite}
use Rattle.meaning.specs.Letters.{letters}
use Rattle.meaning.specs.Meaning.{Meaning}
use Rattle.meaning.specs.Canonical.{decimal, minus_text, power_text, text_with}

-- minus if set, coefficient, then `e` and the power where it isn't 0; words `NaN`, `Infinity`, `-Infinity`
unfoldable pub filed_number : Number → List ℕ
filed_number (Finite minus coefficient power) = minus_text minus ++ decimal coefficient ++ power_text power
filed_number NotANumber = letters "NaN"
filed_number (Infinite minus) = minus_text minus ++ letters "Infinity"

abbrev pub filed : Meaning → List ℕ
filed m = text_with filed_number m
