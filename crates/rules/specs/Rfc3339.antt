-- The calendar as RFC 3339 has it (docs/FORMAT.md, 6): appendix C's leap years and section 5.7's days of a month, row
-- for row. Assumes nothing.
use Rattle.std.specs.Prelude.{◌≡◌, ℕ, ◌%◌, ◌≤◌, Result}
use Rattle.rules.specs.declared.NoDate.{NoDate}
use Rattle.rules.specs.Paper as paper
use Rattle.rules.specs.Paper.{date_said, refused}

-- appendix C: year % 4 == 0 && (year % 100 != 0 || year % 400 == 0)
pub data Leap (y : ℕ) : Type 0 where
  fourth : y % 4 ≡ 0 → (y % 100 ≡ 0 → ⊥) → Leap y
  fourth_hundred : y % 4 ≡ 0 → y % 400 ≡ 0 → Leap y

-- section 5.7: Days y m n, the month m of the year y has n days; a number that is no month has no row
pub data Days (y : ℕ) : ℕ → ℕ → Type 0 where
  january : Days y 1 31
  february_normal : (Leap y → ⊥) → Days y 2 28
  february_leap : Leap y → Days y 2 29
  march : Days y 3 31
  april : Days y 4 30
  may : Days y 5 31
  june : Days y 6 30
  july : Days y 7 31
  august : Days y 8 31
  september : Days y 9 30
  october : Days y 10 31
  november : Days y 11 30
  december : Days y 12 31

-- a date in years 0000 to 9999
pub record Date (y m d : ℕ) : Type 0 where
  pub year : y ≤ 9999
  pub days : ℕ
  pub month : Days y m days
  pub from : 1 ≤ d
  pub to : d ≤ days

-- what `date` may answer
pub data Dated (y m d : ℕ) (a : Result (Unit {0}) NoDate) : Type 0 where
  done : Date y m d → date_said a ≡ paper.done tt → Dated y m d a
  none : (Date y m d → ⊥) → date_said a ≡ refused 5 0 → Dated y m d a
