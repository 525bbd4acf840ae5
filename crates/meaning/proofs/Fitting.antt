-- What is good fits the places of a record, and its store is bytes. Assumes nothing.
use mathlib.Core.List.{List, [], ◌∷◌, ◌++◌}
use Prim.Native.Nat.{ℕ, ◌+◌, ◌^◌, ◌≤◌, ◌<◌}
use native.Mathlib.Omega.{arith}
use lib.IntN.{ℤ, pos, negsuc, nat_abs}
use lib.ListN.{length, length-append}
use lib.Signed.{mag}
use mir.Syntax.{Width, w16, w32}
use mir.Val.{hbits, SFits}
use Rattle.rules.specs.Rfc3339.{Days, january, february_normal, february_leap, march, april, may, june, july, august, september, october, november, december}
use Rattle.rules.specs.Rfc3629.{Char, utf8_1, utf8_2, utf8_3a, utf8_3b, utf8_3c, utf8_3d, utf8_4a, utf8_4b, utf8_4c, Octets, none as no_char, more as one_char}
use Rattle.meaning.specs.declared.Number.{Number}
use Rattle.meaning.specs.declared.Number.TheVariants.{Finite, NotANumber, Infinite}
use Rattle.meaning.specs.declared.Date.{Date}
use Rattle.meaning.specs.declared.Time.{Time}
use Rattle.meaning.specs.declared.Time.TheVariants.{LocalDate, LocalTime, LocalDateTime, OffsetDateTime}
use Rattle.meaning.specs.declared.Record.{Record}
use Rattle.meaning.specs.Limits.{coefficient_limit, power_limit, record_limit, store_limit}
use Rattle.meaning.specs.Meaning.{Meaning, Meanings, Members, null, bool, number, string, binary, time, array, object, none, more, bare, member}
use Rattle.meaning.specs.Good.{GoodFinite, nought, nonzero, GoodNumber, GoodDate, GoodTime, Bytes, GoodParts, GoodElements, GoodMembers}
use Rattle.meaning.specs.Tape.{records, elements_records, members_records, store_of, elements_store, members_store}
use Rattle.meaning.specs.Tape.{records_of, elements_of, members_of}
use Rattle.meaning.proofs.Sizes.{elements_few, members_few}
use Rattle.meaning.specs.Between.Words.{FitDate, Fit}
use Rattle.meaning.proofs.Bytes.{bytes_append}
use Rattle.meaning.proofs.Records.{Fits, fits_append}

-- ---- numbers

pub finite_below : {c : ℕ} {p : ℤ} → GoodFinite c p → c < coefficient_limit
finite_below nought = omega arith
finite_below (nonzero b n r) = b

pub finite_power : {c : ℕ} {p : ℤ} → GoodFinite c p → nat_abs p ≤ power_limit
finite_power nought = omega arith
finite_power (nonzero b n r) = r

pub mag_abs : (z : ℤ) → mag z ≤ nat_abs z
mag_abs (pos n) = omega arith
mag_abs (negsuc n) = omega arith

pub signed_fits : (w : Width) (z : ℤ) → nat_abs z < 2 ^ hbits w → SFits w z
signed_fits w z h = record { sfits = omega (arith, mag_abs z) }

pub number_fits : (n : Number) → GoodNumber n → Fit (Record.Number n)
number_fits (Finite minus c p) g = (finite_below g, signed_fits w32 p (omega (arith, finite_power g)))
number_fits NotANumber g = tt
number_fits (Infinite minus) g = tt

-- ---- times

pub month_small : {y m n : ℕ} → Days y m n → (1 ≤ m) × (m ≤ 12) × (n ≤ 31)
month_small january = omega arith
month_small (february_normal l) = omega arith
month_small (february_leap l) = omega arith
month_small march = omega arith
month_small april = omega arith
month_small may = omega arith
month_small june = omega arith
month_small july = omega arith
month_small august = omega arith
month_small september = omega arith
month_small october = omega arith
month_small november = omega arith
month_small december = omega arith

pub date_fits : (d : Date) → GoodDate d → FitDate d
date_fits d g = omega (arith, month_small g.month, g.year, g.to)

pub time_fits : (t : Time) → GoodTime t → Fit (Record.Time t)
time_fits (LocalDate d) g = date_fits d g
time_fits (LocalTime t) g = omega arith
time_fits (LocalDateTime d t) g = (date_fits d g.0, omega arith)
time_fits (OffsetDateTime d t o) g = (date_fits d g.0, omega arith, signed_fits w16 o (omega arith))

-- ---- strings

pub char_bytes : {c : List ℕ} → Char c → Bytes c
char_bytes (utf8_1 a) = omega arith
char_bytes (utf8_2 a b) = omega arith
char_bytes (utf8_3a b c) = omega arith
char_bytes (utf8_3b a b c) = omega arith
char_bytes (utf8_3c b c) = omega arith
char_bytes (utf8_3d a b c) = omega arith
char_bytes (utf8_4a b c d) = omega arith
char_bytes (utf8_4b a b c d) = omega arith
char_bytes (utf8_4c b c d) = omega arith

pub octets_bytes : {s : List ℕ} → Octets s → Bytes s
octets_bytes no_char = tt
octets_bytes (one_char {c = c} {t = t} h o) = bytes_append c t (char_bytes h) (octets_bytes o)

-- ---- a whole meaning

mutual
  unfolding records_of records store_of

  pub records_fit : (m : Meaning) (i at : ℕ) → GoodParts m → i + records m ≤ record_limit → at + length (store_of m) ≤ store_limit → Fits (records_of m i at)
  records_fit null i at p h g = (tt, tt)
  records_fit (bool b) i at p h g = (tt, tt)
  records_fit (number n) i at p h g = (number_fits n p, tt)
  records_fit (string s) i at p h g = ((omega arith, omega arith), tt)
  records_fit (binary s) i at p h g = ((omega arith, omega arith), tt)
  records_fit (time t) i at p h g = (time_fits t p, tt)
  records_fit (array ms) i at p h g = (omega (arith, elements_few ms), elements_fit ms (i + 1) at p (omega arith) g)
  records_fit (object ms) i at p h g = (omega (arith, members_few ms), members_fit ms (i + 1) at p (omega arith) g)

  pub elements_fit : (ms : Meanings) (i at : ℕ) → GoodElements ms → i + elements_records ms ≤ record_limit → at + length (elements_store ms) ≤ store_limit
      → Fits (elements_of ms i at)
  elements_fit none i at p h g = tt
  elements_fit (more ms m) i at p h g =
      let l = length-append (elements_store ms) (store_of m) in
      fits_append (elements_of ms i at) (records_of m (i + elements_records ms) (at + length (elements_store ms)))
      (elements_fit ms i at p.0 (omega arith) (omega arith))
      (records_fit m (i + elements_records ms) (at + length (elements_store ms)) p.1 (omega arith) (omega arith))

  pub members_fit : (ms : Members) (i at : ℕ) → GoodMembers ms → i + members_records ms ≤ record_limit → at + length (members_store ms) ≤ store_limit
      → Fits (members_of ms i at)
  members_fit bare i at p h g = tt
  members_fit (member ms k m) i at p h g =
      let l = length-append (members_store ms ++ k) (store_of m) in
      let l' = length-append (members_store ms) k in
      fits_append (members_of ms i at ++ (Record.Key (length k) (at + length (members_store ms)) ∷ []))
      (records_of m (i + members_records ms + 1) (at + length (members_store ms) + length k))
      (fits_append (members_of ms i at) (Record.Key (length k) (at + length (members_store ms)) ∷ []) (members_fit ms i at p.0 (omega arith) (omega arith))
      ((omega arith, omega arith), tt))
      (records_fit m (i + members_records ms + 1) (at + length (members_store ms) + length k) p.2 (omega arith) (omega arith))

mutual
  unfolding store_of

  pub store_bytes : (m : Meaning) → GoodParts m → Bytes (store_of m)
  store_bytes null p = tt
  store_bytes (bool b) p = tt
  store_bytes (number n) p = tt
  store_bytes (string s) p = octets_bytes p
  store_bytes (binary s) p = p
  store_bytes (time t) p = tt
  store_bytes (array ms) p = elements_bytes ms p
  store_bytes (object ms) p = members_bytes ms p

  pub elements_bytes : (ms : Meanings) → GoodElements ms → Bytes (elements_store ms)
  elements_bytes none p = tt
  elements_bytes (more ms m) p = bytes_append (elements_store ms) (store_of m) (elements_bytes ms p.0) (store_bytes m p.1)

  pub members_bytes : (ms : Members) → GoodMembers ms → Bytes (members_store ms)
  members_bytes bare p = tt
  members_bytes (member ms k m) p =
      bytes_append (members_store ms ++ k) (store_of m) (bytes_append (members_store ms) k (members_bytes ms p.0) (octets_bytes p.1)) (store_bytes m p.2)
