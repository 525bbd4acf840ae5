-- What the functions that read a hexadecimal digit and a short escape (docs/FORMAT.md, 3 and 4) promise, against the
-- machine's tables. Assumes nothing.
use Rattle.std.specs.Prelude.{◌≡◌, List, ℕ, ◌≤◌, ◌<◌, Option, Some, None, Result, Ok, Err}
use Rattle.machine.specs.Strings.{no_digit}
use Rattle.items.specs.Between.Places.{digit_at}
use Rattle.items.specs.declared.NotGrammar.{NotGrammar}

-- the machine's n, where `none` and more say that there is none
abbrev pub Below : ℕ → ℕ → Option ℕ → Type 0
Below none n (Some v) = (v ≡ n) × (v < none)
Below none n None = none ≤ n

-- a digit, or the place where none stands
abbrev pub DigitSays : List ℕ → ℕ → Result ℕ NotGrammar → Type 0
DigitSays s p (Ok v) = (v ≡ digit_at s p) × (v < no_digit)
DigitSays s p (Err e) = (no_digit ≤ digit_at s p) × (e.place ≡ p)
