-- What one record must be by itself (docs/FORMAT.md, 11.4). Assumes nothing.
use Rattle.std.specs.Prelude.{◌≡◌, List, ℕ, ◌+◌, ◌*◌, ◌/◌, ◌≤◌, ◌<◌, ◌^◌, length, take, drop}
use Rattle.std.specs.Int.{w16, w32}
use Rattle.std.proofs.Common.{SFits}
use Rattle.rules.specs.Rfc3629.{Octets}
use Rattle.meaning.specs.declared.Number.TheVariants.{Finite, NotANumber, Infinite}
use Rattle.meaning.specs.declared.Date.{Date}
use Rattle.meaning.specs.declared.Time.TheVariants.{LocalDate, LocalTime, LocalDateTime, OffsetDateTime}
use Rattle.meaning.specs.declared.Record.{Record}
use Rattle.meaning.specs.Good.{GoodNumber, GoodTime}
use Rattle.meaning.specs.Tape.{record_bytes}

-- its bytes lie inside the store
abbrev pub Inside : ℕ → ℕ → List ℕ → Type 0
Inside size start store = start + size ≤ length store

-- inside the store, and UTF-8
abbrev pub Utf8Inside : ℕ → ℕ → List ℕ → Type 0
Utf8Inside size start store = Inside size start store × Octets (take size (drop start store))

-- container end past its own index and not above the number of whole records
abbrev pub Ends : ℕ → ℕ → ℕ → Type 0
Ends end index whole = (index < end) × (end ≤ whole)

-- the fields of the record at this index, among so many whole records, beside this store
abbrev pub OwnFields : Record → ℕ → ℕ → List ℕ → Type 0
OwnFields Record.Null index whole store = Unit {0}
OwnFields (Record.Bool b) index whole store = Unit {0}
OwnFields (Record.Number n) index whole store = GoodNumber n
OwnFields (Record.Str size start) index whole store = Utf8Inside size start store
OwnFields (Record.Key size start) index whole store = Utf8Inside size start store
OwnFields (Record.Bin size start) index whole store = Inside size start store
OwnFields (Record.Time t) index whole store = GoodTime t
OwnFields (Record.Array count end) index whole store = Ends end index whole
OwnFields (Record.Object count end) index whole store = Ends end index whole

-- the number of whole records
abbrev pub whole_records : List ℕ → ℕ
whole_records tape = length tape / 16

-- the fields fit their places
abbrev pub FitDate : Date → Type 0
FitDate d = (d.year < 2 ^ 16) × (d.month < 2 ^ 8) × (d.day < 2 ^ 8)

abbrev pub Fit : Record → Type 0
Fit Record.Null = Unit {0}
Fit (Record.Bool b) = Unit {0}
Fit (Record.Number (Finite minus coefficient power)) = (coefficient < 2 ^ 64) × SFits w32 power
Fit (Record.Number NotANumber) = Unit {0}
Fit (Record.Number (Infinite minus)) = Unit {0}
Fit (Record.Str size start) = (size < 2 ^ 32) × (start < 2 ^ 64)
Fit (Record.Key size start) = (size < 2 ^ 32) × (start < 2 ^ 64)
Fit (Record.Bin size start) = (size < 2 ^ 32) × (start < 2 ^ 64)
Fit (Record.Time (LocalDate d)) = FitDate d
Fit (Record.Time (LocalTime t)) = t < 2 ^ 64
Fit (Record.Time (LocalDateTime d t)) = FitDate d × (t < 2 ^ 64)
Fit (Record.Time (OffsetDateTime d t offset)) = FitDate d × (t < 2 ^ 64) × SFits w16 offset
Fit (Record.Array count end) = (count < 2 ^ 32) × (end < 2 ^ 64)
Fit (Record.Object count end) = (count < 2 ^ 32) × (end < 2 ^ 64)

-- The record r at this index: the sixteen bytes are its mark and fields, with unnamed bytes zero; each field fits its
-- place, and is as it must be.
pub record RecordAt (tape store : List ℕ) (index : ℕ) (r : Record) : Type 0 where
  pub within : index < whole_records tape
  pub lies : take 16 (drop (index * 16) tape) ≡ record_bytes r
  pub fits : Fit r
  pub own : OwnFields r index (whole_records tape) store
