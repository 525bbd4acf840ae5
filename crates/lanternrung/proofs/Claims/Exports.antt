-- one_outcome_c_X, calls_for_c: what holds of the calls for C (include/lanternrung.h), by what they pass on. Assumes nothing.
use mathlib.Core.Path.{◌≡◌, refl, sym, ap, ◌∙◌, subst}
use mathlib.Core.List.{List}
use Prim.Native.Nat.{ℕ}
use native.Mathlib.Omega.{arith}
use Rattle.std.specs.Prelude.{Result, Ok, Err}
use Rattle.meaning.specs.declared.Refusal.{Refusal}
use Rattle.meaning.specs.declared.Refusal.TheVariants.{TextTooLong, NotUtf8, NotGrammar, BadEscape, BadTime, BadNumber, TooDeep, TapeTooShort, StoreTooShort}
use Rattle.meaning.specs.declared.Refusal.TheVariants.{NotWellFormed, NoJsonForm, OutputTooShort, WrittenTooLong, NoSuchRecord, RepeatedKey}
use Rattle.rules.specs.Paper.{utf8_said, date_said}
use Rattle.meaning.specs.Paper.{number_of}
use Rattle.reader.specs.Answers.{Answer, counts, Measures, Reads}
use Rattle.writer.specs.Written.{WritesJaxn, WritesJson}
use Rattle.rules.specs.declared.exports.Status.{Status}
use Rattle.lanternrung.specs.declared.exports.Sizes.{Sizes}
use Rattle.lanternrung.specs.declared.exports.Text.{Text}
use Rattle.lanternrung.specs.declared.exports.Fields.{Fields}
use Rattle.lanternrung.specs.Told.{sizes_of, text_of, looked_fields, status_of, Utf8Told, DateTold, MeasureTold, ReadTold, LookTold, JaxnTold, JsonTold}
use Rattle.lanternrung.specs.Told.{CheckStartTold, CheckFeedTold, CheckFinishTold}
use Rattle.lanternrung.specs.Claims.{OneOutcomeC, CallsForC}
use Rattle.lanternrung.proofs.Claims.Outcomes.{untouched, one_outcome_utf8, one_outcome_date, one_outcome_measure, one_outcome_read, one_outcome_look}
use Rattle.lanternrung.proofs.Claims.Outcomes.{one_outcome_write_jaxn, one_outcome_write_json}

-- ---- two outcomes that the promise of a call for C allows for the same input are equal

pub one_outcome_c_utf8 : {s : List ℕ} {a b : Status} → Utf8Told s a → Utf8Told s b → a ≡ b
one_outcome_c_utf8 p q = p.told ∙ ap (λ a. status_of (utf8_said a)) (one_outcome_utf8 p.allowed q.allowed) ∙ sym q.told

pub one_outcome_c_date : {year month day : ℕ} {a b : Status} → DateTold year month day a → DateTold year month day b → a ≡ b
one_outcome_c_date p q = p.told ∙ ap (λ a. status_of (date_said a)) (one_outcome_date p.allowed q.allowed) ∙ sym q.told

pub one_outcome_c_measure : {text : List ℕ} {a b : Sizes} → MeasureTold text a → MeasureTold text b → a ≡ b
one_outcome_c_measure {text} p q = p.told ∙ ap sizes_of (one_outcome_measure text p.allowed q.allowed) ∙ sym q.told

pub one_outcome_c_read : {text tape store : List ℕ} {a b : Sizes} {t u s v : List ℕ} → ReadTold text tape store a t s → ReadTold text tape store b u v → (a ≡ b)
    × (t ≡ u) × (s ≡ v)
one_outcome_c_read p q = let e = one_outcome_read p.allowed q.allowed in (p.told ∙ ap sizes_of e.0 ∙ sym q.told, e.1, e.2)

pub one_outcome_c_look : {tape store : List ℕ} {index : ℕ} {a b : Fields} → LookTold tape store index a → LookTold tape store index b → a ≡ b
one_outcome_c_look p q = p.told ∙ ap looked_fields (one_outcome_look p.allowed q.allowed) ∙ sym q.told

pub one_outcome_c_write_jaxn : {tape store out : List ℕ} {a b : Text} {x y : List ℕ} → JaxnTold tape store out a x → JaxnTold tape store out b y → (a ≡ b)
    × (x ≡ y)
one_outcome_c_write_jaxn p q = let e = one_outcome_write_jaxn p.allowed q.allowed in (p.told ∙ ap text_of e.0 ∙ sym q.told, e.1)

pub one_outcome_c_write_json : {tape store out : List ℕ} {a b : Text} {x y : List ℕ} → JsonTold tape store out a x → JsonTold tape store out b y → (a ≡ b)
    × (x ≡ y)
one_outcome_c_write_json p q = let e = one_outcome_write_json p.allowed q.allowed in (p.told ∙ ap text_of e.0 ∙ sym q.told, e.1)

pub one_outcome_c_check_start : {state x y : List ℕ} → CheckStartTold state x → CheckStartTold state y → x ≡ y
one_outcome_c_check_start p q = p.put ∙ sym q.put

pub one_outcome_c_check_feed : (state part : List ℕ) {x y : List ℕ} → CheckFeedTold state part x → CheckFeedTold state part y → x ≡ y
one_outcome_c_check_feed state part p q = p.put ∙ sym q.put

pub one_outcome_c_check_finish : (state : List ℕ) {a b : Sizes} → CheckFinishTold state a → CheckFinishTold state b → a ≡ b
one_outcome_c_check_finish state p q = p ∙ sym q

pub one_outcome_c : OneOutcomeC
one_outcome_c =
    record {
      utf8 = λ s a b p q. one_outcome_c_utf8 p q;
      date = λ year month day a b p q. one_outcome_c_date p q;
      measure = λ text a b p q. one_outcome_c_measure p q;
      read = λ text tape store a b t u s v p q. one_outcome_c_read p q;
      look = λ tape store index a b p q. one_outcome_c_look p q;
      write_jaxn = λ tape store out a b x y p q. one_outcome_c_write_jaxn p q;
      write_json = λ tape store out a b x y p q. one_outcome_c_write_json p q;
      check_start = λ state x y p q. one_outcome_c_check_start p q;
      check_feed = λ state part x y p q. one_outcome_c_check_feed state part p q;
      check_finish = λ state a b p q. one_outcome_c_check_finish state p q;
    }

-- ---- where `refused` is 0 the library's answer is done, with these counts; where it is not, each lent buffer is as it was

-- no refusal has the number 0
numbered : (why : Refusal) → number_of why ≡ 0 → ⊥
numbered TextTooLong e = omega arith
numbered (NotUtf8 p) e = omega arith
numbered (NotGrammar p) e = omega arith
numbered (BadEscape p) e = omega arith
numbered (BadTime p) e = omega arith
numbered (BadNumber p) e = omega arith
numbered (TooDeep p) e = omega arith
numbered (TapeTooShort p) e = omega arith
numbered (StoreTooShort p) e = omega arith
numbered (NotWellFormed p) e = omega arith
numbered (NoJsonForm p) e = omega arith
numbered (OutputTooShort p) e = omega arith
numbered (WrittenTooLong p) e = omega arith
numbered (NoSuchRecord p) e = omega arith
numbered (RepeatedKey p) e = omega arith

counts_told : (a : Answer) → (sizes_of a).refused ≡ 0 → a ≡ counts (sizes_of a).records (sizes_of a).bytes
unfolding sizes_of
counts_told (Ok n) e = refl
counts_told (Err why) e = absurd (numbered why e)

no_counts : (a : Answer) → ((sizes_of a).refused ≡ 0 → ⊥) → (why : Refusal) × (a ≡ Err why)
unfolding sizes_of
no_counts (Ok c) n = absurd (n refl)
no_counts (Err why) n = (why, refl)

length_told : (a : Result ℕ Refusal) → (text_of a).refused ≡ 0 → a ≡ Ok (text_of a).length
unfolding text_of
length_told (Ok n) e = refl
length_told (Err why) e = absurd (numbered why e)

no_length : (a : Result ℕ Refusal) → ((text_of a).refused ≡ 0 → ⊥) → (why : Refusal) × (a ≡ Err why)
unfolding text_of
no_length (Ok n) e = absurd (e refl)
no_length (Err why) e = (why, refl)

-- the library's answer, by what C is told of it
sizes_done : {a : Answer} {r : Sizes} → r ≡ sizes_of a → r.refused ≡ 0 → a ≡ counts r.records r.bytes
sizes_done {a} e z = rw e (counts_told a (rw e at z))

sizes_refused : {a : Answer} {r : Sizes} → r ≡ sizes_of a → (r.refused ≡ 0 → ⊥) → (why : Refusal) × (a ≡ Err why)
sizes_refused {a} e n = no_counts a (rw e at n)

text_done : {a : Result ℕ Refusal} {r : Text} → r ≡ text_of a → r.refused ≡ 0 → a ≡ Ok r.length
text_done {a} e z = rw e (length_told a (rw e at z))

text_refused : {a : Result ℕ Refusal} {r : Text} → r ≡ text_of a → (r.refused ≡ 0 → ⊥) → (why : Refusal) × (a ≡ Err why)
text_refused {a} e n = no_length a (rw e at n)

pub calls_for_c : CallsForC
calls_for_c =
    record {
      measure_done = λ {text} t z. subst (Measures text) (sizes_done t.told z) t.allowed;
      read_done = λ {text} {tape} {store} {r} {tape'} {store'} t z.
          subst (λ (a : Answer). Reads text tape store a tape' store') (sizes_done t.told z) t.allowed;
      jaxn_done = λ {tape} {store} {out} {r} {out'} t z. subst (λ (a : Result ℕ Refusal). WritesJaxn tape store out a out') (text_done t.told z) t.allowed;
      json_done = λ {tape} {store} {out} {r} {out'} t z. subst (λ (a : Result ℕ Refusal). WritesJson tape store out a out') (text_done t.told z) t.allowed;
      read_refused = λ {text} {tape} {store} {r} {tape'} {store'} t n.
          untouched.read (subst (λ (a : Answer). Reads text tape store a tape' store') (sizes_refused t.told n).1 t.allowed);
      jaxn_refused = λ {tape} {store} {out} {r} {out'} t n.
          untouched.write_jaxn (subst (λ (a : Result ℕ Refusal). WritesJaxn tape store out a out') (text_refused t.told n).1 t.allowed);
      json_refused = λ {tape} {store} {out} {r} {out'} t n.
          untouched.write_json (subst (λ (a : Result ℕ Refusal). WritesJson tape store out a out') (text_refused t.told n).1 t.allowed);
    }
