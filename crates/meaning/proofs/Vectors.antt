-- Vectors, computed by the checker: the sample record (docs/FORMAT.md, 14), each mark of the table, and the signs. Assumes nothing.
use mathlib.Core.Path.{◌≡◌, refl}
use mathlib.Core.Bool.{true, false}
use mathlib.Core.List.{List, [], ◌∷◌}
use mathlib.Core.Option.{Option, none as nowhere, some as first}
use Prim.Native.Nat.{ℕ, ◌%◌, ◌≤◌, ◌<◌}
use Prim.Native.String.{String}
use lib.IntN.{ℤ, pos, negsuc, nat_abs}
use native.Mathlib.Omega.{arith}
use Rattle.rules.specs.Rfc3339.{Days}
use Rattle.meaning.proofs.Quotes.{ascii_octets}
use Rattle.meaning.specs.Limits.{depth_limit, coefficient_limit, power_limit}
use Rattle.meaning.specs.declared.Number.{Number}
use Rattle.meaning.specs.declared.Number.TheVariants.{Finite, NotANumber, Infinite}
use Rattle.meaning.specs.declared.Date.{Date}
use Rattle.meaning.specs.declared.Time.TheVariants.{LocalDate, LocalTime, LocalDateTime, OffsetDateTime}
use Rattle.meaning.specs.declared.Record.{Record}
use Rattle.meaning.specs.Letters.{letters}
use Rattle.meaning.specs.Bytes.{le}
use Rattle.meaning.specs.Clock.{time_of_day}
use Rattle.meaning.specs.Once.{once, once_elements, once_members, held, same}
use Rattle.meaning.specs.Meaning.{Meaning, null, bool, number, string, binary, time, array, object, none, more, bare, member}
use Rattle.meaning.specs.Good.{GoodFinite, nonzero, GoodDate, most, depth, Good}
use Rattle.meaning.specs.Tape.{records, elements_count, members_count, store_of, bytes, records_of, record_bytes}
use Rattle.meaning.specs.Canonical.{decimal_in, decimal, fixed, trimmed, escaped, escapes, quoted, hex_pairs, binary_text, power_text, zeros, pointed}
use Rattle.meaning.specs.Canonical.{finite_text, number_text, date_text, fraction_text, clock_text, offset_text, time_text, text_with, canonical}
use Rattle.meaning.specs.Filed.{filed_number, filed}
use Rattle.meaning.specs.Json.{first_without, no_json}

abbrev pub march : Date
march = record { year = 2021; month = 3; day = 4 }

-- { run: 0x1F, eta: NaN, at: 2021-03-04 05:06:07.50Z, t: [.5, 1250.5,]}
abbrev pub sample : Meaning
sample =
    object
    (member
    (member
    (member (member bare (letters "run") (number (Finite false 31 (pos 0)))) (letters "eta") (number NotANumber))
    (letters "at") (time (OffsetDateTime march 18367500000000 (pos 0))))
    (letters "t") (array (more (more none (number (Finite false 5 (negsuc 0)))) (number (Finite false 12505 (negsuc 0))))))

-- what is computed, and what it must be
pub record Vector (A : Type 0) : Type 0 where
  pub got : A
  pub want : A

unfoldable pub gots : {A : Type 0} → List (Vector A) → List A
gots [] = []
gots (v ∷ vs) = v.got ∷ gots vs

unfoldable pub wants : {A : Type 0} → List (Vector A) → List A
wants [] = []
wants (v ∷ vs) = v.want ∷ wants vs

-- ---- meanings: how many records, how many store bytes, the store, the canonical text, the first record with no JSON form

pub record Shown : Type 0 where
  pub count : ℕ
  pub size : ℕ
  pub store : List ℕ
  pub text : List ℕ
  pub without : Option ℕ

unfoldable pub shows : Meaning → ℕ → ℕ → String → String → Option ℕ → Vector Shown
shows m count size store text without =
    record {
      got = record { count = records m; size = bytes m; store = store_of m; text = canonical m; without = no_json m };
      want = record { count = count; size = size; store = letters store; text = letters text; without = without };
    }

unfoldable pub meanings : List (Vector Shown)
meanings =
    shows sample 11 9 "runetaatt" "{\"run\":31,\"eta\":NaN,\"at\":2021-03-04T05:06:07.5Z,\"t\":[0.5,1250.5]}" (first 4)
    ∷ shows null 1 0 "" "null" nowhere
    ∷ shows (array (more (more none (bool true)) (bool false))) 3 0 "" "[true,false]" nowhere
    ∷ shows (array none) 1 0 "" "[]" nowhere
    ∷ shows (object bare) 1 0 "" "{}" nowhere
    ∷ shows (number (Finite true 0 (pos 0))) 1 0 "" "-0" nowhere
    ∷ shows (number (Finite false 18446744073709551615 (pos 1))) 1 0 "" "18446744073709551615e1" nowhere
    ∷ shows (number (Finite true 12 (negsuc 9998))) 1 0 "" "-12e-9999" nowhere
    ∷ shows (number (Finite false 1 (pos 19))) 1 0 "" "10000000000000000000" nowhere
    ∷ shows (number (Finite false 1 (pos 20))) 1 0 "" "1e20" nowhere
    ∷ shows (number (Finite true 99 (pos 18))) 1 0 "" "-99000000000000000000" nowhere
    ∷ shows (number (Finite false 99 (pos 19))) 1 0 "" "99e19" nowhere
    ∷ shows (number (Finite false 25 (negsuc 3))) 1 0 "" "0.0025" nowhere
    ∷ shows (number (Finite false 25 (negsuc 1))) 1 0 "" "0.25" nowhere
    ∷ shows (number (Finite true 1250001 (negsuc 2))) 1 0 "" "-1250.001" nowhere
    ∷ shows (number (Finite false 18446744073709551615 (negsuc 0))) 1 0 "" "1844674407370955161.5" nowhere
    ∷ shows (number (Finite false 18446744073709551615 (negsuc 19))) 1 0 "" "0.18446744073709551615" nowhere
    ∷ shows (number (Finite false 1 (negsuc 19))) 1 0 "" "0.00000000000000000001" nowhere
    ∷ shows (number (Finite false 12 (negsuc 20))) 1 0 "" "12e-21" nowhere
    ∷ shows (number (Infinite false)) 1 0 "" "Infinity" (first 0)
    ∷ shows (number (Infinite true)) 1 0 "" "-Infinity" (first 0)
    ∷ shows (string (letters "a\"\\\u{8}\u{c}\n\r\t\u{1}\u{1f}/\u{7f}")) 1 12 "a\"\\\u{8}\u{c}\n\r\t\u{1}\u{1f}/\u{7f}"
    "\"a\\\"\\\\\\b\\f\\n\\r\\t\\u0001\\u001f/\u{7f}\"" nowhere
    ∷ shows (binary (letters "\0\nÿ")) 1 3 "\0\nÿ" "$000aff" (first 0)
    ∷ shows (time (LocalDate march)) 1 0 "" "2021-03-04" (first 0)
    ∷ shows (time (LocalTime 86399999999999)) 1 0 "" "23:59:59.999999999" (first 0)
    ∷ shows (time (LocalTime 50000000)) 1 0 "" "00:00:00.05" (first 0)
    ∷ shows (time (LocalDateTime march 18367000000000)) 1 0 "" "2021-03-04T05:06:07" (first 0)
    ∷ shows (time (OffsetDateTime march 0 (pos 1439))) 1 0 "" "2021-03-04T00:00:00+23:59" (first 0)
    ∷ shows (time (OffsetDateTime march 0 (negsuc 89))) 1 0 "" "2021-03-04T00:00:00-01:30" (first 0)
    ∷ shows (object (member (member bare (letters "k") (array none)) (letters "k") (binary []))) 5 2 "kk" "{\"k\":[],\"k\":$}" (first 4)
    ∷ []

pub meanings_hold : gots meanings ≡ wants meanings
unfolding gots wants meanings shows records store_of records_of decimal_in decimal fixed trimmed escaped escapes quoted hex_pairs binary_text power_text zeros
    pointed
    finite_text number_text date_text fraction_text clock_text offset_text time_text text_with first_without no_json
meanings_hold = refl

-- the sample as it was filed before ticket 6
pub filed_sample : filed sample ≡ letters "{\"run\":31,\"eta\":NaN,\"at\":2021-03-04T05:06:07.5Z,\"t\":[5e-1,12505e-1]}"
unfolding decimal_in decimal fixed trimmed escaped escapes quoted power_text filed_number date_text fraction_text clock_text offset_text time_text text_with
filed_sample = refl

-- ---- records: the 16 bytes

unfoldable pub puts : Record → String → Vector (List ℕ)
puts r s = record { got = record_bytes r; want = letters s }

unfoldable pub marks : List (Vector (List ℕ))
marks =
    puts Record.Null "nu\0\0\0\0\0\0\0\0\0\0\0\0\0\0"
    ∷ puts (Record.Bool false) "bo\0\0\0\0\0\0\0\0\0\0\0\0\0\0"
    ∷ puts (Record.Bool true) "bo\0\0\u{1}\0\0\0\0\0\0\0\0\0\0\0"
    ∷ puts (Record.Number (Finite false 5 (negsuc 0))) "nb\0\0ÿÿÿÿ\u{5}\0\0\0\0\0\0\0"
    ∷ puts (Record.Number (Finite true 0 (pos 0))) "nb\u{1}\0\0\0\0\0\0\0\0\0\0\0\0\0"
    ∷ puts (Record.Number (Finite true 0x0102030405060708 (pos 9999))) "nb\u{1}\0\u{f}'\0\0\u{8}\u{7}\u{6}\u{5}\u{4}\u{3}\u{2}\u{1}"
    ∷ puts (Record.Number NotANumber) "nx\0\0\0\0\0\0\0\0\0\0\0\0\0\0"
    ∷ puts (Record.Number (Infinite false)) "nx\0\0\u{1}\0\0\0\0\0\0\0\0\0\0\0"
    ∷ puts (Record.Number (Infinite true)) "nx\0\0\u{2}\0\0\0\0\0\0\0\0\0\0\0"
    ∷ puts (Record.Str 3 256) "st\0\0\u{3}\0\0\0\0\u{1}\0\0\0\0\0\0"
    ∷ puts (Record.Key 3 256) "ky\0\0\u{3}\0\0\0\0\u{1}\0\0\0\0\0\0"
    ∷ puts (Record.Bin 3 256) "by\0\0\u{3}\0\0\0\0\u{1}\0\0\0\0\0\0"
    ∷ puts (Record.Time (LocalDate march)) "ldå\u{7}\u{3}\u{4}\0\0\0\0\0\0\0\0\0\0"
    ∷ puts (Record.Time (LocalTime 0x0807060504030201)) "lt\0\0\0\0\0\0\u{1}\u{2}\u{3}\u{4}\u{5}\u{6}\u{7}\u{8}"
    ∷ puts (Record.Time (LocalDateTime march 1)) "dtå\u{7}\u{3}\u{4}\0\0\u{1}\0\0\0\0\0\0\0"
    ∷ puts (Record.Time (OffsetDateTime march 1 (pos 90))) "odå\u{7}\u{3}\u{4}Z\0\u{1}\0\0\0\0\0\0\0"
    ∷ puts (Record.Time (OffsetDateTime march 1 (negsuc 89))) "odå\u{7}\u{3}\u{4}¦ÿ\u{1}\0\0\0\0\0\0\0"
    ∷ puts (Record.Array 0x04030201 258) "ar\0\0\u{1}\u{2}\u{3}\u{4}\u{2}\u{1}\0\0\0\0\0\0"
    ∷ puts (Record.Object 3 258) "ob\0\0\u{3}\0\0\0\u{2}\u{1}\0\0\0\0\0\0"
    ∷ []

pub marks_hold : gots marks ≡ wants marks
unfolding gots wants marks puts record_bytes le
marks_hold = refl

-- ---- the records of the sample

pub sample_time : time_of_day 5 6 7 500000000 ≡ 18367500000000
sample_time = refl

finite : (c : ℕ) (p : ℤ) → c < coefficient_limit → (c % 10 ≡ 0 → ⊥) → nat_abs p ≤ power_limit → GoodFinite c p
finite c p b n r = nonzero b n r

march_good : GoodDate march
march_good = record { year = omega arith; days = 31; month = Days.march; from = omega arith; to = omega arith }

pub sample_good : Good sample
unfolding depth most depth_limit once once_elements once_members held same
sample_good =
    let run = ascii_octets (letters "run") (omega arith) in
    let eta = ascii_octets (letters "eta") (omega arith) in
    let at = ascii_octets (letters "at") (omega arith) in
    let t = ascii_octets (letters "t") (omega arith) in
    let melt = finite 31 (pos 0) (omega arith) (λ e. omega arith) (omega arith) in
    let half = finite 5 (negsuc 0) (omega arith) (λ e. omega arith) (omega arith) in
    let tenths = finite 12505 (negsuc 0) (omega arith) (λ e. omega arith) (omega arith) in
    record {
      parts = ((((tt, run, melt), eta, tt), at, (march_good, omega arith, omega arith)), t, ((tt, half), tenths));
      shallow = omega arith;
      single = refl;
    }

abbrev one : Number
one = Finite false 1 (pos 0)

pub sample_records : records_of sample 0 0
    ≡ Record.Object 4 11
    ∷ Record.Key 3 0 ∷ Record.Number (Finite false 31 (pos 0))
    ∷ Record.Key 3 3 ∷ Record.Number NotANumber
    ∷ Record.Key 2 6 ∷ Record.Time (OffsetDateTime march 18367500000000 (pos 0))
    ∷ Record.Key 1 8 ∷ Record.Array 2 11
    ∷ Record.Number (Finite false 5 (negsuc 0)) ∷ Record.Number (Finite false 12505 (negsuc 0))
    ∷ []
unfolding records_of records store_of elements_count members_count
sample_records = refl

-- `[1,[],{a:1}]`: members are counted, and only what is directly inside
pub counts : records_of (array (more (more (more none (number one)) (array none)) (object (member bare (letters "a") (number one))))) 0 0
    ≡ Record.Array 3 6 ∷ Record.Number one ∷ Record.Array 0 3 ∷ Record.Object 1 6 ∷ Record.Key 1 0 ∷ Record.Number one ∷ []
unfolding records_of records store_of elements_count members_count
counts = refl
