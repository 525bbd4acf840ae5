-- Wrong programs, each a function from what it is given to what it answers and leaves, and each ruled out by its
-- promise (docs/CLAIMS.md; docs/FORMAT.md, 13). Assumes nothing.
use Rattle.std.specs.Prelude.{◌≡◌, true, List, [], ◌∷◌, ◌++◌, ℕ, ◌≤◌, ◌<◌, ◌^◌, length, get_or, drop, Result, Ok, Err}
use Rattle.rules.specs.declared.IllFormed.{IllFormed}
use Rattle.rules.specs.declared.NoDate.{NoDate}
use Rattle.rules.specs.Rfc3629.{Judged}
use Rattle.rules.specs.Rfc3339.{Dated}
use Rattle.meaning.specs.declared.Record.{Record}
use Rattle.meaning.specs.declared.Refusal.{Refusal}
use Rattle.meaning.specs.Canonical.{canonical}
use Rattle.meaning.specs.Filed.{filed}
use Rattle.meaning.specs.Good.{Bytes}
use Rattle.meaning.specs.Letters.{letters}
use Rattle.meaning.specs.Look.{whole_records}
use Rattle.meaning.specs.Meaning.{Meaning, Members, null, object, bare, member}
use Rattle.meaning.specs.Tape.{records, members_records, bytes, records_bytes, tape_of, store_of}
use Rattle.grammar.specs.Values.{Loose, Text}
use Rattle.grammar.specs.Refused.{TextRefused}
use Rattle.tape.specs.Looking.{Looks}
use Rattle.reader.specs.Answers.{Answer, counts, tape_bytes, Measures, Loosely, Reads}
use Rattle.arriving.specs.Between.Arriving.{joined}
use Rattle.writer.specs.Written.{WritesJaxn, WritesJson}
use Rattle.lanternrung.specs.Claims.{Counted, Takes, Holds, Wrote, Prints}

-- what a program can be lent: bytes, fewer than 2^64
pub record Lent (s : List ℕ) : Type 0 where
  pub each : Bytes s
  pub few : length s < 2 ^ 64

-- ---- programs, and what it is for one to keep its promise, whatever it is given

abbrev pub Measurer : Type 0
Measurer = List ℕ → Answer

abbrev pub KeepsMeasure : Measurer → Type 0
KeepsMeasure f = (text : List ℕ) → Lent text → Measures text (f text)

-- the answer, the tape and the store at exit
abbrev pub Reader : Type 0
Reader = List ℕ → List ℕ → List ℕ → Answer × List ℕ × List ℕ

abbrev pub KeepsRead : Reader → Type 0
KeepsRead f = (text tape store : List ℕ) → Lent text → Lent tape → Lent store
    → Reads text tape store (f text tape store).0 (f text tape store).1 (f text tape store).2

-- the answer, and the output at exit
abbrev pub Writer : Type 0
Writer = List ℕ → List ℕ → List ℕ → Result ℕ Refusal × List ℕ

abbrev pub KeepsJaxn : Writer → Type 0
KeepsJaxn f = (tape store out : List ℕ) → Lent tape → Lent store → Lent out
    → WritesJaxn tape store out (f tape store out).0 (f tape store out).1

abbrev pub KeepsJson : Writer → Type 0
KeepsJson f = (tape store out : List ℕ) → Lent tape → Lent store → Lent out
    → WritesJson tape store out (f tape store out).0 (f tape store out).1

abbrev pub Looker : Type 0
Looker = List ℕ → List ℕ → ℕ → Result Record Refusal

abbrev pub KeepsLook : Looker → Type 0
KeepsLook f = (tape store : List ℕ) (index : ℕ) → Lent tape → Lent store → index < 2 ^ 64
    → Looks tape store index (f tape store index)

abbrev pub KeepsUtf8 : (List ℕ → Result (Unit {0}) IllFormed) → Type 0
KeepsUtf8 f = (s : List ℕ) → Lent s → Judged s (f s)

abbrev pub Calendar : Type 0
Calendar = ℕ → ℕ → ℕ → Result (Unit {0}) NoDate

abbrev pub KeepsDate : Calendar → Type 0
KeepsDate f = (y m d : ℕ) → y < 2 ^ 64 → m < 2 ^ 64 → d < 2 ^ 64 → Dated y m d (f y m d)

-- a check of a text in parts: its state at the start, after a part, and what it answers at the end
pub record Checker : Type 0 where
  pub start : List ℕ
  pub feed : List ℕ → List ℕ → List ℕ
  pub finish : List ℕ → Answer

-- the state s after these parts
abbrev pub after : Checker → List ℕ → List (List ℕ) → List ℕ
after f s [] = s
after f s (p ∷ ps) = after f (f.feed s p) ps

abbrev pub answers : Checker → List (List ℕ) → Answer
answers f ps = f.finish (after f f.start ps)

abbrev pub KeepsCheck : Checker → Type 0
KeepsCheck f = (ps : List (List ℕ)) → Lent (joined ps) → Loosely (joined ps) (answers f ps)

-- whatever it writes is the text t
abbrev pub WritesOnly : List ℕ → Writer → Type 0
WritesOnly t f = (tape store out : List ℕ) (n : ℕ) → (f tape store out).0 ≡ Ok n → (f tape store out).1 ≡ t
    ++ drop (length t) out

-- `[null]` as it was taped before there were counts
abbrev pub older_tape : List ℕ
older_tape = records_bytes (Record.Array 0 2 ∷ Record.Null ∷ [])

-- `{"a":null,"a":null}`, which no text means
abbrev pub twice : Meaning
twice = object (member (member bare (letters "a") null) (letters "a") null)

-- prints the canonical text of its tape, where there is room
abbrev pub PrintsTwice : Writer → Type 0
PrintsTwice f = (out : List ℕ) → length (canonical twice) ≤ length out
    → Prints (canonical twice) out (f (tape_of twice) (store_of twice) out).0 (f (tape_of twice) (store_of twice) out).1

-- prints a meaning's text in the old form, where there is room
abbrev pub Files : Writer → Type 0
Files f = (m : Meaning) (out : List ℕ) → length (filed m) ≤ length out
    → Prints (filed m) out (f (tape_of m) (store_of m) out).0 (f (tape_of m) (store_of m) out).1

pub record Impostors : Type 0 where
  -- a reader that refuses everything, for whatever reason
  pub refuses_all : (f : Reader) → ((text tape store : List ℕ) → (why : Refusal)
      × ((f text tape store).0 ≡ Err why)) → KeepsRead f → ⊥
  -- one that answers `null` for all that it accepts
  pub null_for_all : (f : Reader)
      → ((text tape store : List ℕ) (m : Meaning) → Takes text tape store m
      → Holds null tape store (f text tape store).0 (f text tape store).1 (f text tape store).2) → KeepsRead f
      → ⊥
  -- one that touches no buffer; one that leaves the tape, or the store, as it was
  pub touches_nothing : (f : Reader) → ((text tape store : List ℕ) → ((f text tape store).1 ≡ tape)
      × ((f text tape store).2 ≡ store)) → KeepsRead f → ⊥
  pub leaves_tape : (f : Reader) → ((text tape store : List ℕ) → (f text tape store).1 ≡ tape) → KeepsRead f → ⊥
  pub leaves_store : (f : Reader) → ((text tape store : List ℕ) → (f text tape store).2 ≡ store) → KeepsRead f → ⊥
  -- one that leaves 0 in the place of every count; one that counts an object by its records
  pub leaves_counts : (f : Reader) → ((text tape store : List ℕ) → get_or (f text tape store).1 4 0 ≡ 0) → KeepsRead f
      → ⊥
  pub counts_records : (f : Reader)
      → ((text tape store : List ℕ) (ms : Members) → Takes text tape store (object ms)
      → get_or (f text tape store).1 4 0 ≡ members_records ms) → KeepsRead f → ⊥
  -- a writer that takes a tape from before there were counts
  pub older_jaxn : (f : Writer) → ((out : List ℕ) → Wrote (f older_tape [] out).0) → KeepsJaxn f → ⊥
  pub older_json : (f : Writer) → ((out : List ℕ) → Wrote (f older_tape [] out).0) → KeepsJson f → ⊥
  -- a writer that prints an object with two equal keys
  pub repeated_jaxn : (f : Writer) → PrintsTwice f → KeepsJaxn f → ⊥
  pub repeated_json : (f : Writer) → PrintsTwice f → KeepsJson f → ⊥
  -- a writer that goes on in the old form; a reader that takes no text in the old form but where the new one is the
  -- same
  pub files_jaxn : (f : Writer) → Files f → KeepsJaxn f → ⊥
  pub files_json : (f : Writer) → Files f → KeepsJson f → ⊥
  pub refuses_filed : (f : Reader)
      → ((m : Meaning) (tape store : List ℕ) → (filed m ≡ canonical m → ⊥) → (why : Refusal)
      × ((f (filed m) tape store).0 ≡ Err why)) → KeepsRead f → ⊥
  -- a writer that always prints one text, or refuses
  pub one_text_jaxn : (f : Writer) (t : List ℕ) → WritesOnly t f → KeepsJaxn f → ⊥
  pub one_text_json : (f : Writer) (t : List ℕ) → WritesOnly t f → KeepsJson f → ⊥
  -- one that remembers the text that its tape was read from, and prints that
  pub copies : (f : List ℕ → Writer)
      → ((text : List ℕ) (m : Meaning) (out : List ℕ) → Text text m → length text ≤ length out
      → Prints text out (f text (tape_of m) (store_of m) out).0 (f text (tape_of m) (store_of m) out).1)
      → ((text : List ℕ) → KeepsJaxn (f text)) → ⊥
  -- a measure that invents its counts: for one text; the same for all; some for all
  pub invents : (f : Measurer) {text : List ℕ} {m : Meaning} → Text text m
      → (f text ≡ counts (records m) (bytes m) → ⊥) → KeepsMeasure f → ⊥
  pub one_count : (f : Measurer) (r s : ℕ) → ((text : List ℕ) → Counted (f text) → f text ≡ counts r s)
      → KeepsMeasure f → ⊥
  pub counts_all : (f : Measurer) → ((text : List ℕ) → Counted (f text)) → KeepsMeasure f → ⊥
  -- a measure, and a reader, that refuses some text with another number or at another place than the grammar
  pub misplaces : (f : Measurer) {text : List ℕ} {why : Refusal} → Lent text → TextRefused text why
      → (f text ≡ Err why → ⊥) → KeepsMeasure f → ⊥
  pub misplaces_reading : (f : Reader) {text : List ℕ} {why : Refusal} → Lent text → TextRefused text why
      → ((f text [] []).0 ≡ Err why → ⊥) → KeepsRead f → ⊥
  -- a measure that answers 15 at an earlier place, as that of the key which is repeated; a measure, and a reader, that
  -- takes a text with repeated keys
  pub earlier_key : (f : Measurer)
      → ((text : List ℕ) (p : ℕ) → TextRefused text (Refusal.RepeatedKey p)
      → (q : ℕ) × (q < p) × (f text ≡ Err (Refusal.RepeatedKey q))) → KeepsMeasure f → ⊥
  pub measures_repeated : (f : Measurer) → ((text : List ℕ) (m : Meaning) → Loose true text m → Counted (f text))
      → KeepsMeasure f → ⊥
  pub reads_repeated : (f : Reader)
      → ((text tape store : List ℕ) (m : Meaning) → Loose true text m → tape_bytes m ≤ length tape
      → bytes m ≤ length store → Counted (f text tape store).0) → KeepsRead f → ⊥
  -- a check that answers 15
  pub checks_keys : (f : Checker)
      → ((ps : List (List ℕ)) (p : ℕ) → TextRefused (joined ps) (Refusal.RepeatedKey p)
      → answers f ps ≡ Err (Refusal.RepeatedKey p)) → KeepsCheck f → ⊥
  -- a check that answers the same whatever parts come; one that forgets all but the last part; one that takes the first
  -- part only
  pub one_answer : (f : Checker) (a : Answer) → ((ps : List (List ℕ)) → answers f ps ≡ a) → KeepsCheck f → ⊥
  pub forgets : (f : Checker) → ((s p : List ℕ) → f.feed s p ≡ f.feed f.start p) → KeepsCheck f → ⊥
  pub first_only : (f : Checker) → ((s p q : List ℕ) → f.feed (f.feed s p) q ≡ f.feed s p) → KeepsCheck f → ⊥
  -- a look that answers `null` for all, or refuses all
  pub looks_null : (f : Looker) → ((tape store : List ℕ) (index : ℕ) → index < whole_records tape → f tape store index
      ≡ Ok Record.Null) → KeepsLook f → ⊥
  pub looks_nowhere : (f : Looker) → ((tape store : List ℕ) (index : ℕ) → (why : Refusal)
      × (f tape store index ≡ Err why)) → KeepsLook f → ⊥
  -- a test of UTF-8 that passes all, or refuses all
  pub all_utf8 : (f : List ℕ → Result (Unit {0}) IllFormed) → ((s : List ℕ) → f s ≡ Ok tt) → KeepsUtf8 f → ⊥
  pub no_utf8 : (f : List ℕ → Result (Unit {0}) IllFormed) →
      ((s : List ℕ) → (k : ℕ) × (f s ≡ Err (record { place = k }))) → KeepsUtf8 f → ⊥
  -- a calendar in which every month has 31 days, or that refuses all
  pub long_months : (f : Calendar) → ((y m d : ℕ) → y ≤ 9999 → 1 ≤ m → m ≤ 12 → 1 ≤ d → d ≤ 31 → f y m d
      ≡ Ok tt) → KeepsDate f → ⊥
  pub no_date_lem : (f : Calendar) → ((y m d : ℕ) → (e : NoDate) × (f y m d ≡ Err e)) → KeepsDate f → ⊥
