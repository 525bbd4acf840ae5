-- Each public promise leaves one outcome, answer and final bytes; and what follows from it. Assumes nothing.
use mathlib.Core.Path.{◌≡◌, refl, sym, ap, ◌∙◌, subst}
use mathlib.Core.List.{List}
use mathlib.Core.Option.{none}
use Prim.Native.Nat.{ℕ}
use native.Mathlib.Omega.{arith}
use Rattle.std.specs.Prelude.{Result, Ok, Err}
use Rattle.rules.specs.Paper.{Said, done, refused}
use Rattle.rules.proofs.Outcomes.{done_apart}
use Rattle.meaning.specs.declared.Refusal.{Refusal}
use Rattle.meaning.specs.Meaning.{Meaning}
use Rattle.meaning.specs.Tape.{WellFormed}
use Rattle.meaning.specs.Canonical.{canonical}
use Rattle.meaning.specs.Json.{no_json, json}
use Rattle.meaning.proofs.Paper.{same_refusal}
use Rattle.meaning.proofs.Whole.{one_meaning}
use Rattle.writer.specs.Paper.{write_said}
use Rattle.writer.specs.Written.{Writes, too_long, too_short, written, WritesJaxn, WritesJson}

abbrev Same : Result ℕ Refusal → Result ℕ Refusal → List ℕ → List ℕ → Type 0
Same a b x y = (a ≡ b) × (x ≡ y)

-- what is said tells the answer
pub same_written : (a b : Result ℕ Refusal) → write_said a ≡ write_said b → a ≡ b
same_written (Ok m) (Ok n) e = cc
same_written (Ok m) (Err w) e = absurd (done_apart e)
same_written (Err v) (Ok n) e = absurd (done_apart (sym e))
same_written (Err v) (Err w) e = ap Err (same_refusal v w e)

-- what was said, of an answer that is known
pub wrote_length : {a : Result ℕ Refusal} {n m : ℕ} → write_said a ≡ done m → a ≡ Ok n → n ≡ m
wrote_length s e = let z = sym (ap write_said e) ∙ s in cc

pub wrote_apart : {a : Result ℕ Refusal} {n k p : ℕ} → write_said a ≡ refused k p → a ≡ Ok n → ⊥
wrote_apart s e = done_apart (sym (ap write_said e) ∙ s)

pub refused_apart : {a : Result ℕ Refusal} {why : Refusal} {n : ℕ} → write_said a ≡ done n → a ≡ Err why → ⊥
refused_apart s e = done_apart (sym s ∙ ap write_said e)

-- two answers of which one thing is said
same : {a b : Result ℕ Refusal} {x : List ℕ} {k : Said ℕ} → write_said a ≡ k → write_said b ≡ k → Same a b x x
same {a} {b} e g = (same_written a b (e ∙ sym g), refl)

one_text : {t o : List ℕ} {a b : Result ℕ Refusal} {x y : List ℕ} → Writes t o a x → Writes t o b y → Same a b x y
one_text (too_long h e) (too_long k g) = same e g
one_text (too_long h e) (too_short k l g) = absurd (omega arith)
one_text (too_long h e) (written k l g) = absurd (omega arith)
one_text (too_short h i e) (too_long k g) = absurd (omega arith)
one_text (too_short h i e) (too_short k l g) = same e g
one_text (too_short h i e) (written k l g) = absurd (omega arith)
one_text (written h i e) (too_long k g) = absurd (omega arith)
one_text (written h i e) (too_short k l g) = absurd (omega arith)
one_text (written h i e) (written k l g) = same e g

same_form : {tape store : List ℕ} (v w : WellFormed tape store) → no_json v.meaning ≡ no_json w.meaning
same_form {tape} {store} v w = ap no_json (one_meaning tape store v w)

module _ {tape store o : List ℕ} where
  -- two texts of one tape and store
  one_of : (v w : WellFormed tape store) {a b : Result ℕ Refusal} {x y : List ℕ} → Writes (canonical v.meaning) o a x → Writes (canonical w.meaning) o b y
      → Same a b x y
  one_of v w {b = b} {y = y} p q = one_text p (subst (λ (m : Meaning). Writes (canonical m) o b y) (sym (one_meaning tape store v w)) q)

  pub one_outcome_jaxn : {a b : Result ℕ Refusal} {x y : List ℕ} → WritesJaxn tape store o a x → WritesJaxn tape store o b y → Same a b x y
  one_outcome_jaxn (WritesJaxn.ill n e) (WritesJaxn.ill k g) = same e g
  one_outcome_jaxn (WritesJaxn.ill n e) (WritesJaxn.text w q) = absurd (n w)
  one_outcome_jaxn (WritesJaxn.text v p) (WritesJaxn.ill k g) = absurd (k v)
  one_outcome_jaxn (WritesJaxn.text v p) (WritesJaxn.text w q) = one_of v w p q

  pub one_outcome_json : {a b : Result ℕ Refusal} {x y : List ℕ} → WritesJson tape store o a x → WritesJson tape store o b y → Same a b x y
  one_outcome_json (WritesJson.ill n e) (WritesJson.ill k g) = same e g
  one_outcome_json (WritesJson.ill n e) (WritesJson.formless w f g) = absurd (n w)
  one_outcome_json (WritesJson.ill n e) (WritesJson.text w f q) = absurd (n w)
  one_outcome_json (WritesJson.formless v e h) (WritesJson.ill k g) = absurd (k v)
  one_outcome_json (WritesJson.formless {index = i} v e h) (WritesJson.formless {index = j} w f g) =
      let s = same_form v w in
      let z : i ≡ j = cc in
      same (h ∙ ap (refused 11) z) g
  one_outcome_json (WritesJson.formless v e h) (WritesJson.text w f q) =
      let s = same_form v w in
      let z : ◌≡◌ {A = ℕ} 0 1 = cc in
      absurd (omega arith)
  one_outcome_json (WritesJson.text v e p) (WritesJson.ill k g) = absurd (k v)
  one_outcome_json (WritesJson.text v e p) (WritesJson.formless w f g) =
      let s = same_form v w in
      let z : ◌≡◌ {A = ℕ} 0 1 = cc in
      absurd (omega arith)
  one_outcome_json (WritesJson.text v e p) (WritesJson.text w f q) = one_of v w p q

-- ---- what follows from a promise

untouched_text : {t o out : List ℕ} {a : Result ℕ Refusal} {why : Refusal} → Writes t o a out → a ≡ Err why → out ≡ o
untouched_text (too_long h s) e = refl
untouched_text (too_short h k s) e = refl
untouched_text (written h k s) e = absurd (refused_apart s e)

module _ {tape store o : List ℕ} where
  -- a refusal leaves the output as it was
  pub untouched_jaxn : {out : List ℕ} {a : Result ℕ Refusal} {why : Refusal} → WritesJaxn tape store o a out → a ≡ Err why → out ≡ o
  untouched_jaxn (WritesJaxn.ill n s) e = refl
  untouched_jaxn (WritesJaxn.text w p) e = untouched_text p e

  pub untouched_json : {out : List ℕ} {a : Result ℕ Refusal} {why : Refusal} → WritesJson tape store o a out → a ≡ Err why → out ≡ o
  untouched_json (WritesJson.ill n s) e = refl
  untouched_json (WritesJson.formless w f s) e = refl
  untouched_json (WritesJson.text w f p) e = untouched_text p e

  -- the text is the canonical text of the one meaning of tape and store
  pub written_jaxn : {out : List ℕ} {a : Result ℕ Refusal} (w : WellFormed tape store) → WritesJaxn tape store o a out → Writes (canonical w.meaning) o a out
  written_jaxn w (WritesJaxn.ill n s) = absurd (n w)
  written_jaxn {out} {a} w (WritesJaxn.text v p) = subst (λ (m : Meaning). Writes (canonical m) o a out) (one_meaning tape store v w) p

  pub written_json : {out : List ℕ} {a : Result ℕ Refusal} (w : WellFormed tape store) → no_json w.meaning ≡ none → WritesJson tape store o a out
      → Writes (json w.meaning) o a out
  written_json w e (WritesJson.ill n s) = absurd (n w)
  written_json w e (WritesJson.formless v f h) =
      let s = same_form v w in
      let z : ◌≡◌ {A = ℕ} 0 1 = cc in
      absurd (omega arith)
  written_json {out} {a} w e (WritesJson.text v f p) = subst (λ (m : Meaning). Writes (json m) o a out) (one_meaning tape store v w) p
