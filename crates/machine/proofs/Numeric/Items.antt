-- A number or a time value, as one rule; and what the scanner takes of a text for one. Assumes nothing.
use Prim.Native.Nat.{ℕ}
use mathlib.Core.Bool.{Bool}
use mathlib.Core.List.{List, ◌++◌}
use Rattle.meaning.specs.declared.Number as N
use Rattle.meaning.specs.declared.Date as D
use Rattle.meaning.specs.declared.Time as T
use Rattle.meaning.specs.declared.Time.TheVariants.{LocalDate}
use Rattle.meaning.specs.Letters.{letters}
use Rattle.meaning.specs.Meaning.{Meaning}
use Rattle.grammar.specs.Numbers.{Number}
use Rattle.grammar.specs.Times.{LocalDateText, TimeValue}

pub data NumericItem (k : Bool) : List ℕ → Meaning → Type 0 where
  number : {a : List ℕ} {n : N.Number} → Number k a n → NumericItem k a (Meaning.number n)
  time_value : {a : List ℕ} {t : T.Time} → TimeValue k a t → NumericItem k a (Meaning.time t)

pub data Taken (k : Bool) : List ℕ → Meaning → Type 0 where
  item : {a : List ℕ} {m : Meaning} → NumericItem k a m → Taken k a m
  -- a date, and a space after it that no digit follows
  trailed : {a : List ℕ} {d : D.Date} → LocalDateText k a d → Taken k (a ++ letters " ") (Meaning.time (LocalDate d))
