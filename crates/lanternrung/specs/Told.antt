-- What the calls for C hand back (include/lanternrung.h; docs/FORMAT.md, 13): the number and place of each answer, 0
-- and 0 where nothing is refused; in a refusal all else is 0. Assumes nothing.
use Rattle.std.specs.Prelude.{◌≡◌, List, ℕ, ◌+◌, ℤ, pos, Result, Ok, Err}
use Rattle.std.proofs.lemmas.List.Edits.{sets}
use Rattle.rules.specs.Paper.{Said, utf8_said, date_said, number_said, place_said}
use Rattle.rules.specs.Rfc3339.{Dated}
use Rattle.rules.specs.Rfc3629.{Judged}
use Rattle.rules.specs.declared.exports.Status.{Status}
use Rattle.meaning.specs.declared.Date.{Date}
use Rattle.meaning.specs.declared.Number.{Number}
use Rattle.meaning.specs.declared.Number.TheVariants.{Finite, NotANumber, Infinite}
use Rattle.meaning.specs.declared.Record.{Record}
use Rattle.meaning.specs.declared.Refusal.{Refusal}
use Rattle.meaning.specs.declared.Time.{Time}
use Rattle.meaning.specs.declared.Time.TheVariants.{LocalDate, LocalTime, LocalDateTime, OffsetDateTime}
use Rattle.meaning.specs.Bytes.{flag}
use Rattle.meaning.specs.Paper.{row, number_of, place_of}
use Rattle.reader.specs.Answers.{Answer, Measures, Loosely, Reads}
use Rattle.tape.specs.Looking.{Looks}
use Rattle.writer.specs.Written.{WritesJaxn, WritesJson}
use Rattle.arriving.specs.declared.Check.{Check}
use Rattle.arriving.specs.Between.Arriving.{started, fed, ended}
use Rattle.arriving.specs.Between.Packing.{packed, unpacked, padded}
use Rattle.lanternrung.specs.declared.exports.Sizes.{Sizes}
use Rattle.lanternrung.specs.declared.exports.Text.{Text}
use Rattle.lanternrung.specs.declared.exports.Fields.{Fields}

-- lr_sizes
unfoldable pub sizes_of : Answer → Sizes
sizes_of (Ok n) = record { refused = 0; place = 0; records = n.records; bytes = n.bytes }
sizes_of (Err why) = record { refused = number_of why; place = place_of why; records = 0; bytes = 0 }

-- lr_written
unfoldable pub text_of : Result ℕ Refusal → Text
text_of (Ok size) = record { refused = 0; place = 0; length = size }
text_of (Err why) = record { refused = number_of why; place = place_of why; length = 0 }

-- ---- lr_record: kind 1 to 13 in the order nu bo nb nx st ky by ld lt dt od ar ob; flag the bool, the minus sign or
-- the nx value; the count of a container as it stands; 0 where a record has no such field

abbrev pub all_fields : ℕ × ℕ → ℕ → ℕ → ℤ × ℕ → ℕ × ℕ → Date → ℤ × ℕ → ℕ × ℕ → Fields
all_fields said kind flag number span date moment inside =
    record {
      refused = said.0;
      place = said.1;
      kind = kind;
      flag = flag;
      power = number.0;
      coefficient = number.1;
      length = span.0;
      start = span.1;
      year = date.year;
      month = date.month;
      day = date.day;
      offset = moment.0;
      time = moment.1;
      end = inside.1;
      count = inside.0;
    }

abbrev pub no_date : Date
no_date = record { year = 0; month = 0; day = 0 }

abbrev pub plain_fields : ℕ → ℕ → ℕ → ℕ → Fields
plain_fields kind flag length start = all_fields (0, 0) kind flag (pos 0, 0) (length, start) no_date (pos 0, 0) (0, 0)

abbrev pub container_fields : ℕ → ℕ → ℕ → Fields
container_fields kind count end = all_fields (0, 0) kind 0 (pos 0, 0) (0, 0) no_date (pos 0, 0) (count, end)

unfoldable pub number_fields : Number → Fields
number_fields (Finite minus coefficient power) =
    all_fields (0, 0) 3 (flag minus) (power, coefficient) (0, 0) no_date (pos 0, 0) (0, 0)
-- 0 NaN, 1 Infinity, 2 -Infinity
number_fields NotANumber = plain_fields 4 0 0 0
number_fields (Infinite minus) = plain_fields 4 (1 + flag minus) 0 0

abbrev pub dated_fields : ℕ → Date → ℕ → ℤ → Fields
dated_fields kind d clock offset = all_fields (0, 0) kind 0 (pos 0, 0) (0, 0) d (offset, clock) (0, 0)

unfoldable pub time_fields : Time → Fields
time_fields (LocalDate d) = dated_fields 8 d 0 (pos 0)
time_fields (LocalTime clock) = dated_fields 9 no_date clock (pos 0)
time_fields (LocalDateTime d clock) = dated_fields 10 d clock (pos 0)
time_fields (OffsetDateTime d clock offset) = dated_fields 11 d clock offset

unfoldable pub fields_of : Record → Fields
fields_of Record.Null = plain_fields 1 0 0 0
fields_of (Record.Bool b) = plain_fields 2 (flag b) 0 0
fields_of (Record.Number n) = number_fields n
fields_of (Record.Str size start) = plain_fields 5 0 size start
fields_of (Record.Key size start) = plain_fields 6 0 size start
fields_of (Record.Bin size start) = plain_fields 7 0 size start
fields_of (Record.Time t) = time_fields t
fields_of (Record.Array count end) = container_fields 12 count end
fields_of (Record.Object count end) = container_fields 13 count end

abbrev pub refused_fields : Refusal → Fields
refused_fields why = all_fields (row why) 0 0 (pos 0, 0) (0, 0) no_date (pos 0, 0) (0, 0)

unfoldable pub looked_fields : Result Record Refusal → Fields
looked_fields (Ok r) = fields_of r
looked_fields (Err why) = refused_fields why

-- ---- each call hands on an answer that the library's promise allows, with what it leaves in the lent buffers

-- what is handed on is what `fields` makes of an answer that is allowed
pub record Handed {A R : Type 0} (Allowed : A → Type 0) (fields : A → R) (r : R) : Type 0 where
  pub answer : A
  pub allowed : Allowed answer
  pub told : r ≡ fields answer

-- lr_status
unfoldable pub status_of : Said (Unit {0}) → Status
status_of said = record { refused = number_said said; place = place_said said }

abbrev pub Utf8Told : List ℕ → Status → Type 0
Utf8Told s = Handed (Judged s) (λ a. status_of (utf8_said a))

abbrev pub DateTold : ℕ → ℕ → ℕ → Status → Type 0
DateTold year month day = Handed (Dated year month day) (λ a. status_of (date_said a))

abbrev pub MeasureTold : List ℕ → Sizes → Type 0
MeasureTold text = Handed (Measures text) sizes_of

-- the same with 15 left out
abbrev pub LooselyTold : List ℕ → Sizes → Type 0
LooselyTold text = Handed (Loosely text) sizes_of

abbrev pub ReadTold : List ℕ → List ℕ → List ℕ → Sizes → List ℕ → List ℕ → Type 0
ReadTold text tape store r tape' store' = Handed (λ a. Reads text tape store a tape' store') sizes_of r

abbrev pub LookTold : List ℕ → List ℕ → ℕ → Fields → Type 0
LookTold tape store index = Handed (Looks tape store index) looked_fields

abbrev pub JaxnTold : List ℕ → List ℕ → List ℕ → Text → List ℕ → Type 0
JaxnTold tape store out r out' = Handed (λ a. WritesJaxn tape store out a out') text_of r

abbrev pub JsonTold : List ℕ → List ℕ → List ℕ → Text → List ℕ → Type 0
JsonTold tape store out r out' = Handed (λ a. WritesJson tape store out a out') text_of r

-- ---- a check of a text in parts: its state lies in the bytes that C lends

-- the check c is put over the first bytes, as far as there are any, and comes back out of them
pub record Keeps (c : Check) (state state' : List ℕ) : Type 0 where
  pub put : state' ≡ sets state 0 (packed c)
  pub back : unpacked (packed c) ≡ c

-- the check that lies in lent bytes: those that are missing count as zero
abbrev pub kept_in : List ℕ → Check
kept_in state = unpacked (padded state)

abbrev pub CheckStartTold : List ℕ → List ℕ → Type 0
CheckStartTold state state' = Keeps started state state'

abbrev pub CheckFeedTold : List ℕ → List ℕ → List ℕ → Type 0
CheckFeedTold state part state' = Keeps (fed (kept_in state) part) state state'

abbrev pub CheckFinishTold : List ℕ → Sizes → Type 0
CheckFinishTold state r = r ≡ sizes_of (ended (kept_in state))
