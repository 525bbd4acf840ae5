-- untouched, one-outcome-X: what each promise says of every input, refused ones too. Assumes nothing.
use mathlib.Core.Path.{◌≡◌, refl, sym, ◌∙◌}
use mathlib.Core.List.{List}
use Prim.Native.Nat.{ℕ}
use Rattle.meaning.specs.declared.Record.{Record}
use Rattle.meaning.specs.declared.Refusal.{Refusal}
use Rattle.std.specs.Prelude.{Result}
use Rattle.rules.specs.declared.IllFormed.{IllFormed}
use Rattle.rules.specs.declared.NoDate.{NoDate}
use Rattle.rules.specs.Rfc3629.{Judged}
use Rattle.rules.specs.Rfc3339.{Dated}
use Rattle.rules.proofs.Outcomes as rules
use Rattle.tape.specs.Looking.{Looks}
use Rattle.tape.proofs.Outcomes as tapes
use Rattle.reader.specs.Answers.{Answer, Measures, Reads}
use Rattle.reader.proofs.Claims as reader
use Rattle.arriving.specs.declared.Check.{Check}
use Rattle.arriving.specs.Between.Arriving.{started, fed, ended}
use Rattle.writer.specs.Written.{WritesJaxn, WritesJson}
use Rattle.writer.proofs.Outcomes as writer
use Rattle.lanternrung.specs.Claims.{Untouched, OneOutcome}

-- ---- untouched: after a refusal each lent buffer holds what it held before the call; utf8, date, measure and look are lent none to write

pub untouched : Untouched
untouched =
    record {
      read = λ {text} {tape} {store} {why} {tape'} {store'} p. reader.read_untouched text tape store tape' store' why p;
      write_jaxn = λ p. writer.untouched_jaxn p refl;
      write_json = λ p. writer.untouched_json p refl;
    }

-- ---- one-outcome-X: two outcomes that the promise of X allows for the same input are equal, answers and all final bytes

pub one_outcome_utf8 : {s : List ℕ} {a b : Result (Unit {0}) IllFormed} → Judged s a → Judged s b → a ≡ b
one_outcome_utf8 = rules.one_outcome_utf8

pub one_outcome_date : {year month day : ℕ} {a b : Result (Unit {0}) NoDate} → Dated year month day a → Dated year month day b → a ≡ b
one_outcome_date = rules.one_outcome_date

pub one_outcome_measure : (text : List ℕ) {a b : Answer} → Measures text a → Measures text b → a ≡ b
one_outcome_measure text {a} {b} = reader.one_outcome_measure text a b

pub one_outcome_read : {text tape store : List ℕ} {a b : Answer} {t u s v : List ℕ} → Reads text tape store a t s → Reads text tape store b u v → (a ≡ b)
    × (t ≡ u) × (s ≡ v)
one_outcome_read = reader.one_outcome_read

pub one_outcome_look : {tape store : List ℕ} {index : ℕ} {a b : Result Record Refusal} → Looks tape store index a → Looks tape store index b → a ≡ b
one_outcome_look = tapes.one_outcome_look

pub one_outcome_write_jaxn : {tape store out : List ℕ} {a b : Result ℕ Refusal} {x y : List ℕ} → WritesJaxn tape store out a x → WritesJaxn tape store out b y
    → (a ≡ b)
    × (x ≡ y)
one_outcome_write_jaxn = writer.one_outcome_jaxn

pub one_outcome_write_json : {tape store out : List ℕ} {a b : Result ℕ Refusal} {x y : List ℕ} → WritesJson tape store out a x → WritesJson tape store out b y
    → (a ≡ b)
    × (x ≡ y)
one_outcome_write_json = writer.one_outcome_json

-- a promise that is an equation
same : {A : Type 0} {a b c : A} → a ≡ c → b ≡ c → a ≡ b
same p q = p ∙ sym q

pub one_outcome_check_start : {a b : Check} → a ≡ started → b ≡ started → a ≡ b
one_outcome_check_start = same

pub one_outcome_check_feed : (c : Check) (part : List ℕ) {a b : Check} → a ≡ fed c part → b ≡ fed c part → a ≡ b
one_outcome_check_feed c part = same

pub one_outcome_check_finish : (c : Check) {a b : Answer} → a ≡ ended c → b ≡ ended c → a ≡ b
one_outcome_check_finish c = same

pub one_outcome : OneOutcome
one_outcome =
    record {
      utf8 = λ s a b p q. one_outcome_utf8 p q;
      date = λ year month day a b p q. one_outcome_date p q;
      measure = λ text a b p q. one_outcome_measure text p q;
      read = λ text tape store a b t u s v p q. one_outcome_read p q;
      look = λ tape store index a b p q. one_outcome_look p q;
      write_jaxn = λ tape store out a b x y p q. one_outcome_write_jaxn p q;
      write_json = λ tape store out a b x y p q. one_outcome_write_json p q;
      check_start = λ a b p q. one_outcome_check_start p q;
      check_feed = λ c part a b p q. one_outcome_check_feed c part p q;
      check_finish = λ c a b p q. one_outcome_check_finish c p q;
    }
