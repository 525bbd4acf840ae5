-- The scanner of a number or a time value agrees with the grammar: what the rules derive it takes, what it takes the rules derive. Assumes nothing.
use Prim.Native.Nat.{ℕ}
use mathlib.Core.Bool.{Bool, true}
use mathlib.Core.List.{List}
use Rattle.meaning.specs.Meaning.{Meaning}
use Rattle.machine.specs.Numeric.{begin, scan}
use Rattle.machine.proofs.Runs.{EndsItem, Goes}
-- what a row of its tables knows
pub mod Rows
-- the check of a number
pub mod Value
-- complete: numbers, time values
pub mod Complete
pub mod CompleteTime
-- the rules for both as one
pub mod Items
-- sound: numbers, time values, each state
pub mod Sound
pub mod SoundTime
pub mod Accept
-- how an item begins, and that its bytes are ASCII
pub mod Bytes
-- the places of its refusals
pub mod Places
-- two runs end with one meaning
pub mod Once
pub use Items.{NumericItem, Taken}
pub use Accept.{NumericRest, numeric_is, Loose, Broke, numeric_broke}
pub use Bytes.{Lead, Begins, Plain, number_begins, time_begins, numeric_begins, numeric_plain}
unfoldable pub use Places.{first_of}
pub use Places.{Blame, first_begin, numeric_first, numeric_place}

-- complete: every number and every time value is taken, and ends with its meaning before every byte that may follow it
pub numeric_goes : {a : List ℕ} {m : Meaning} → NumericItem true a m → (p : ℕ) → Goes scan EndsItem p begin a m
numeric_goes (NumericItem.number n) p = Complete.number_goes n p
numeric_goes (NumericItem.time_value t) p = CompleteTime.time_goes t p

-- sound: what is taken and ended is a number or a time value of that meaning, or a date and a space
pub numeric_taken : {k : Bool} {a : List ℕ} {m : Meaning} → NumericRest k begin a m → Taken k a m
numeric_taken t = t
