-- The tape and the store (docs/FORMAT.md, 11). Assumes nothing.
use Rattle.std.specs.Prelude.{◌≡◌, true, false, List, [], ◌∷◌, ◌++◌, ℕ, ◌+◌, ◌≤◌, length}
use Rattle.std.specs.Int.{w16, w32}
use Rattle.std.proofs.Common.{of_z}
use Rattle.meaning.specs.declared.Number.TheVariants.{Finite, NotANumber, Infinite}
use Rattle.meaning.specs.declared.Date.{Date}
use Rattle.meaning.specs.declared.Time.TheVariants.{LocalDate, LocalTime, LocalDateTime, OffsetDateTime}
use Rattle.meaning.specs.declared.Record.{Record}
use Rattle.meaning.specs.Letters.{letters}
use Rattle.meaning.specs.Limits.{record_limit, store_limit}
use Rattle.meaning.specs.Meaning.{Meaning, Meanings, Members, null, bool, number, string, binary, time, array}
use Rattle.meaning.specs.Meaning.{object, none, more, bare, member}
use Rattle.meaning.specs.Good.{Good}
use Rattle.meaning.specs.Bytes.{le, unnamed, flag}

-- How many records.
unfoldable mutual
  pub records : Meaning → ℕ
  records null = 1
  records (bool b) = 1
  records (number n) = 1
  records (string s) = 1
  records (binary s) = 1
  records (time t) = 1
  records (array ms) = 1 + elements_records ms
  records (object ms) = 1 + members_records ms

  pub elements_records : Meanings → ℕ
  elements_records none = 0
  elements_records (more ms m) = elements_records ms + records m

  pub members_records : Members → ℕ
  members_records bare = 0
  members_records (member ms k m) = members_records ms + 1 + records m

-- How many elements or members are directly inside.
unfoldable pub elements_count : Meanings → ℕ
elements_count none = 0
elements_count (more ms m) = elements_count ms + 1

unfoldable pub members_count : Members → ℕ
members_count bare = 0
members_count (member ms k m) = members_count ms + 1

-- The store holds strings, keys and binary in tape order without gaps.
unfoldable mutual
  pub store_of : Meaning → List ℕ
  store_of null = []
  store_of (bool b) = []
  store_of (number n) = []
  store_of (string s) = s
  store_of (binary s) = s
  store_of (time t) = []
  store_of (array ms) = elements_store ms
  store_of (object ms) = members_store ms

  pub elements_store : Meanings → List ℕ
  elements_store none = []
  elements_store (more ms m) = elements_store ms ++ store_of m

  pub members_store : Members → List ℕ
  members_store bare = []
  members_store (member ms k m) = (members_store ms ++ k) ++ store_of m

-- how many store bytes
abbrev pub bytes : Meaning → ℕ
bytes m = length (store_of m)

-- the end of a container at this index: the index just after the last record inside, or after its own if empty
abbrev pub end_of : ℕ → ℕ → ℕ
end_of index inside = index + 1 + inside

-- The records of a meaning, in text order, where its own record has this index and its first string this start.
unfoldable mutual
  pub records_of : Meaning → ℕ → ℕ → List Record
  records_of null index start = Record.Null ∷ []
  records_of (bool b) index start = Record.Bool b ∷ []
  records_of (number n) index start = Record.Number n ∷ []
  records_of (string s) index start = Record.Str (length s) start ∷ []
  records_of (binary s) index start = Record.Bin (length s) start ∷ []
  records_of (time t) index start = Record.Time t ∷ []
  records_of (array ms) index start =
      Record.Array (elements_count ms) (end_of index (elements_records ms)) ∷ elements_of ms (index + 1) start
  records_of (object ms) index start =
      Record.Object (members_count ms) (end_of index (members_records ms)) ∷ members_of ms (index + 1) start

  pub elements_of : Meanings → ℕ → ℕ → List Record
  elements_of none index start = []
  elements_of (more ms m) index start =
      elements_of ms index start ++ records_of m (index + elements_records ms) (start + length (elements_store ms))

  pub members_of : Members → ℕ → ℕ → List Record
  members_of bare index start = []
  members_of (member ms k m) index start =
      (members_of ms index start ++ (Record.Key (length k) (start + length (members_store ms)) ∷ []))
      ++ records_of m (index + members_records ms + 1) (start + length (members_store ms) + length k)

-- 4-7 length; 8-15 start in the store
abbrev pub string_fields : ℕ → ℕ → List ℕ
string_fields size start = unnamed 2 ++ le 4 size ++ le 8 start

-- 2-3 year; 4 month; 5 day
abbrev pub date_fields : Date → List ℕ
date_fields d = le 2 d.year ++ le 1 d.month ++ le 1 d.day

-- 4-7 number of elements or members directly inside; 8-15 index just after the last record inside, or after its own if
-- empty
abbrev pub container_fields : ℕ → ℕ → List ℕ
container_fields count end = unnamed 2 ++ le 4 count ++ le 8 end

-- One record: a two-byte mark before its fields; numbers little-endian, signed ones two's complement; unnamed bytes
-- zero.
unfoldable pub record_bytes : Record → List ℕ
-- null
record_bytes Record.Null = letters "nu" ++ unnamed 14
-- byte 4: 0 false, 1 true
record_bytes (Record.Bool b) = letters "bo" ++ unnamed 2 ++ le 1 (flag b) ++ unnamed 11
-- byte 2: 1 if minus; 4-7 power; 8-15 coefficient
record_bytes (Record.Number (Finite minus coefficient power)) =
    letters "nb" ++ le 1 (flag minus) ++ unnamed 1 ++ le 4 (of_z w32 power) ++ le 8 coefficient
-- byte 4: 0 NaN, 1 Infinity, 2 -Infinity
record_bytes (Record.Number NotANumber) = letters "nx" ++ unnamed 2 ++ le 1 0 ++ unnamed 11
record_bytes (Record.Number (Infinite false)) = letters "nx" ++ unnamed 2 ++ le 1 1 ++ unnamed 11
record_bytes (Record.Number (Infinite true)) = letters "nx" ++ unnamed 2 ++ le 1 2 ++ unnamed 11
record_bytes (Record.Str size start) = letters "st" ++ string_fields size start
record_bytes (Record.Key size start) = letters "ky" ++ string_fields size start
record_bytes (Record.Bin size start) = letters "by" ++ string_fields size start
record_bytes (Record.Time (LocalDate d)) = letters "ld" ++ date_fields d ++ unnamed 10
-- 8-15 time of day
record_bytes (Record.Time (LocalTime t)) = letters "lt" ++ unnamed 6 ++ le 8 t
-- as `ld`, and 8-15 time of day
record_bytes (Record.Time (LocalDateTime d t)) = letters "dt" ++ date_fields d ++ unnamed 2 ++ le 8 t
-- as `dt`, and 6-7 offset
record_bytes (Record.Time (OffsetDateTime d t offset)) = letters "od" ++ date_fields d ++ le 2 (of_z w16 offset)
    ++ le 8 t
record_bytes (Record.Array count end) = letters "ar" ++ container_fields count end
record_bytes (Record.Object count end) = letters "ob" ++ container_fields count end

-- one after the other
unfoldable pub records_bytes : List Record → List ℕ
records_bytes [] = []
records_bytes (r ∷ rs) = record_bytes r ++ records_bytes rs

unfoldable pub tape_of : Meaning → List ℕ
tape_of m = records_bytes (records_of m 0 0)

-- A tape and store are well formed when they are those of one meaning within the limits, with at most 16,777,216
-- records and at most 16,777,216 store bytes.
pub record WellFormed (tape store : List ℕ) : Type 0 where
  pub meaning : Meaning
  pub good : Good meaning
  pub few : records meaning ≤ record_limit
  pub short : bytes meaning ≤ store_limit
  pub taped : tape ≡ tape_of meaning
  pub stored : store ≡ store_of meaning
