-- What the promises of `measure` and `read` come to. Each holds of any outcome that a promise allows. Assumes nothing.
use mathlib.Core.Path.{◌≡◌, refl, sym, ap, ap₂, ◌∙◌, subst}
use mathlib.Core.Logic.{◌⊎◌, inl, inr}
use mathlib.Core.List.{List, ◌++◌}
use Prim.Native.Nat.{ℕ, ◌≤◌}
use native.Mathlib.Omega.{arith}
use lib.ListN.{length, drop}
use Rattle.rules.specs.Paper.{Said, done, refused}
use Rattle.rules.proofs.Outcomes.{done_apart}
use Rattle.meaning.specs.declared.Refusal.{Refusal}
use Rattle.meaning.specs.declared.Refusal.TheVariants.{RepeatedKey}
use Rattle.meaning.specs.Bytes.{laid}
use Rattle.meaning.specs.Meaning.{Meaning}
use Rattle.meaning.specs.Paper.{refusal_said}
use Rattle.meaning.specs.Tape.{records, bytes, tape_of, store_of}
use Rattle.meaning.proofs.Paper.{same_refusal}
use Rattle.grammar.specs.Values.{Text}
use Rattle.grammar.specs.Refused.{TextRefused, loose, repeated}
use Rattle.grammar.proofs.Sizes.{text_fits}
use Rattle.machine.proofs.Whole.{loosely_unambiguous}
use Rattle.machine.proofs.Refusals.Whole.{one_loose_refusal, loose_not_refused}
use Rattle.machine.proofs.Accepted.{unambiguous, one_text_refusal, not_refused}
use Rattle.std.specs.Prelude.{Ok, Err}
use Rattle.reader.specs.declared.Counts.{Counts}
use Rattle.reader.specs.Answers.{Answer, counts, answer_said, tape_bytes, Measures, Loosely, Reads, filled, tape_short, store_short}

-- ---- what is said tells the answer

abbrev records_said : Said (ℕ × ℕ) → ℕ
records_said (done v) = v.0
records_said (refused number place) = 0

abbrev bytes_said : Said (ℕ × ℕ) → ℕ
bytes_said (done v) = v.1
bytes_said (refused number place) = 0

counts_records : {n : Counts} {x y : ℕ} → answer_said (Ok n) ≡ done (x, y) → n.records ≡ x
counts_records e = ap records_said e

counts_bytes : {n : Counts} {x y : ℕ} → answer_said (Ok n) ≡ done (x, y) → n.bytes ≡ y
counts_bytes e = ap bytes_said e

same_answer : (a b : Answer) → answer_said a ≡ answer_said b → a ≡ b
same_answer (Ok n) (Ok k) e = ap₂ counts (ap records_said e) (ap bytes_said e)
same_answer (Ok n) (Err w) e = absurd (done_apart e)
same_answer (Err v) (Ok k) e = absurd (done_apart (sym e))
same_answer (Err v) (Err w) e = ap Err (same_refusal v w e)

-- ---- one outcome

-- two meanings of one text
same_sizes : {text : List ℕ} {m n : Meaning} → Text text m → Text text n
    → ◌≡◌ {A = Said (ℕ × ℕ)} (done (records m, bytes m)) (done (records n, bytes n))
same_sizes x y = ap (λ (m : Meaning). done (records m, bytes m)) (unambiguous x y)

-- two refusals of one text
same_told : {text : List ℕ} {v w : Refusal} → TextRefused text v → TextRefused text w → ◌≡◌ {A = Said (ℕ × ℕ)} (refusal_said v) (refusal_said w)
same_told x y = ap refusal_said (one_text_refusal x y)

pub one_outcome_measure : (text : List ℕ) (a b : Answer) → Measures text a → Measures text b → a ≡ b
one_outcome_measure text a b p q = same_answer a b (said p q)
  where
    said : Measures text a → Measures text b → answer_said a ≡ answer_said b
    said (Measures.sizes x e) (Measures.sizes y f) = e ∙ same_sizes x y ∙ sym f
    said (Measures.sizes x e) (Measures.no_text y f) = absurd (not_refused x y)
    said (Measures.no_text x e) (Measures.sizes y f) = absurd (not_refused y x)
    said (Measures.no_text x e) (Measures.no_text y f) = e ∙ same_told x y ∙ sym f

-- ---- with 15 left out

pub one_outcome_loosely : (text : List ℕ) (a b : Answer) → Loosely text a → Loosely text b → a ≡ b
one_outcome_loosely text a b p q = same_answer a b (said p q)
  where
    said : Loosely text a → Loosely text b → answer_said a ≡ answer_said b
    said (Loosely.sizes x e) (Loosely.sizes y f) = e ∙ ap (λ (m : Meaning). done (records m, bytes m)) (loosely_unambiguous x y) ∙ sym f
    said (Loosely.sizes x e) (Loosely.no_text y f) = absurd (loose_not_refused x y)
    said (Loosely.no_text x e) (Loosely.sizes y f) = absurd (loose_not_refused y x)
    said (Loosely.no_text x e) (Loosely.no_text y f) = e ∙ ap refusal_said (one_loose_refusal x y) ∙ sym f

-- the two answers are one, or the text is refused for a repeated key alone
pub left_out : (text : List ℕ) (a b : Answer) → Measures text a → Loosely text b
    → (a ≡ b) ⊎ ((q : ℕ) × (a ≡ Err (RepeatedKey q)) × ((r : ℕ) × (s : ℕ) × (b ≡ counts r s)))
left_out text a b (Measures.sizes x e) q = inl (one_outcome_loosely text a b (Loosely.sizes x.loose e) q)
left_out text a b (Measures.no_text (loose x) e) q = inl (one_outcome_loosely text a b (Loosely.no_text x e) q)
left_out text a b (Measures.no_text (repeated {m = m} {p = p} x y z) e) q =
    let w = one_outcome_loosely text (counts (records m) (bytes m)) b (Loosely.sizes x refl) q in
    inr (p, same_answer a (Err (RepeatedKey p)) e, (records m, bytes m, sym w))

-- ---- one outcome of `read`

abbrev Same : Answer → Answer → List ℕ → List ℕ → List ℕ → List ℕ → Type 0
Same a b t u s v = (a ≡ b) × (t ≡ u) × (s ≡ v)

module _ (tape store : List ℕ) where
  one_filled : {a b : Answer} {m n : Meaning} → m ≡ n → answer_said a ≡ done (records m, bytes m) → answer_said b ≡ done (records n, bytes n)
      → Same a b (laid (tape_of m) tape) (laid (tape_of n) tape) (laid (store_of m) store) (laid (store_of n) store)
  one_filled {a} {b} z e f = (
    same_answer a b (e ∙ ap (λ (k : Meaning). done (records k, bytes k)) z ∙ sym f),
    ap (λ (k : Meaning). laid (tape_of k) tape) z,
    ap (λ (k : Meaning). laid (store_of k) store) z,
  )

  one_short : {a b : Answer} (f : Meaning → ℕ) (n : ℕ) {m k : Meaning} → m ≡ k → answer_said a ≡ refused n (f m)
      → answer_said b ≡ refused n (f k) → Same a b tape tape store store
  one_short {a} {b} f n z e g = (same_answer a b (e ∙ ap (λ (x : Meaning). refused n (f x)) z ∙ sym g), refl, refl)

module _ {text tape store : List ℕ} where
  pub one_outcome_read : {a b : Answer} {t u s v : List ℕ} → Reads text tape store a t s → Reads text tape store b u v → (a ≡ b) × (t ≡ u) × (s ≡ v)
  one_outcome_read (filled x h k e) (filled y i j f) = one_filled tape store (unambiguous x y) e f
  one_outcome_read (filled x h k e) (tape_short y i f) = let z = ap tape_bytes (unambiguous x y) in absurd (omega arith)
  one_outcome_read (filled x h k e) (store_short y i j f) = let z = ap bytes (unambiguous x y) in absurd (omega arith)
  one_outcome_read (filled x h k e) (Reads.no_text y f) = absurd (not_refused x y)
  one_outcome_read (tape_short x h e) (filled y i j f) = let z = ap tape_bytes (unambiguous x y) in absurd (omega arith)
  one_outcome_read (tape_short x h e) (tape_short y i f) = one_short tape store tape_bytes 8 (unambiguous x y) e f
  one_outcome_read (tape_short x h e) (store_short y i j f) = let z = ap tape_bytes (unambiguous x y) in absurd (omega arith)
  one_outcome_read (tape_short x h e) (Reads.no_text y f) = absurd (not_refused x y)
  one_outcome_read (store_short x h k e) (filled y i j f) = let z = ap bytes (unambiguous x y) in absurd (omega arith)
  one_outcome_read (store_short x h k e) (tape_short y i f) = let z = ap tape_bytes (unambiguous x y) in absurd (omega arith)
  one_outcome_read (store_short x h k e) (store_short y i j f) = one_short tape store bytes 9 (unambiguous x y) e f
  one_outcome_read (store_short x h k e) (Reads.no_text y f) = absurd (not_refused x y)
  one_outcome_read (Reads.no_text x e) (filled y i j f) = absurd (not_refused y x)
  one_outcome_read (Reads.no_text x e) (tape_short y i f) = absurd (not_refused y x)
  one_outcome_read (Reads.no_text x e) (store_short y i j f) = absurd (not_refused y x)
  one_outcome_read {a} {b} (Reads.no_text x e) (Reads.no_text y f) = (same_answer a b (e ∙ same_told x y ∙ sym f), refl, refl)

-- two texts of one meaning are read alike
pub reads_as : {s t tape store : List ℕ} {m : Meaning} {a : Answer} {tape' store' : List ℕ} → Text s m → Text t m
    → Reads s tape store a tape' store' → Reads t tape store a tape' store'
reads_as {t = t} x y (filled z h k e) = filled (subst (Text t) (unambiguous x z) y) h k e
reads_as {t = t} x y (tape_short z h e) = tape_short (subst (Text t) (unambiguous x z) y) h e
reads_as {t = t} x y (store_short z h k e) = store_short (subst (Text t) (unambiguous x z) y) h k e
reads_as x y (Reads.no_text z e) = absurd (not_refused x z)

-- ---- measured: the counts are the sizes of the meaning's tape and store

-- a text with its meaning and the sizes of that
pub record Sized (text : List ℕ) (r s : ℕ) : Type 0 where
  pub meaning : Meaning
  pub text_means : Text text meaning
  pub counted : r ≡ records meaning
  pub held : s ≡ bytes meaning

pub measure_accepts : (text : List ℕ) (r s : ℕ) → Measures text (counts r s) → Sized text r s
measure_accepts text r s (Measures.sizes {m = m} x e) = record { meaning = m; text_means = x; counted = counts_records e; held = counts_bytes e }
measure_accepts text r s (Measures.no_text x e) = absurd (done_apart e)

pub accepts_measure : {text : List ℕ} {m : Meaning} → Text text m → Measures text (counts (records m) (bytes m))
accepts_measure x = Measures.sizes x refl

-- ---- accepted: done just where the grammar gives the text a meaning and there is room; then the tape and the store hold it

pub record Held (text tape store : List ℕ) (r s : ℕ) (tape' store' : List ℕ) : Type 0 where
  pub meaning : Meaning
  pub text_means : Text text meaning
  pub tape_room : tape_bytes meaning ≤ length tape
  pub store_room : bytes meaning ≤ length store
  pub counted : r ≡ records meaning
  pub held : s ≡ bytes meaning
  pub taped : tape' ≡ tape_of meaning ++ drop (length (tape_of meaning)) tape
  pub stored : store' ≡ store_of meaning ++ drop (length (store_of meaning)) store

module _ (text tape store : List ℕ) where
  pub read_accepts : (r s : ℕ) (tape' store' : List ℕ) → Reads text tape store (counts r s) tape' store' → Held text tape store r s tape' store'
  read_accepts r s tape' store' (filled {m = m} x h k e) =
      record { meaning = m; text_means = x; tape_room = h; store_room = k; counted = counts_records e; held = counts_bytes e; taped = refl; stored = refl }
  read_accepts r s tape' store' (tape_short x h e) = absurd (done_apart e)
  read_accepts r s tape' store' (store_short x h k e) = absurd (done_apart e)
  read_accepts r s tape' store' (Reads.no_text x e) = absurd (done_apart e)

  pub accepts_read : (tape' store' : List ℕ) (a : Answer) (m : Meaning) → Text text m → tape_bytes m ≤ length tape
      → bytes m ≤ length store → Reads text tape store a tape' store' → a ≡ counts (records m) (bytes m)
  accepts_read tape' store' a m x h k p = (one_outcome_read p (filled x h k refl)).0

  -- ---- untouched: after a refusal each lent buffer is as it was
  pub read_untouched : (tape' store' : List ℕ) (why : Refusal) → Reads text tape store (Err why) tape' store' → (tape' ≡ tape) × (store' ≡ store)
  read_untouched tape' store' why (filled x h k e) = absurd (done_apart (sym e))
  read_untouched tape' store' why (tape_short x h e) = (refl, refl)
  read_untouched tape' store' why (store_short x h k e) = (refl, refl)
  read_untouched tape' store' why (Reads.no_text x e) = (refl, refl)

-- ---- refused: a refusal of 1 to 7 or 15 is given by both, whatever is lent

pub measure_refuses : {text : List ℕ} {a : Answer} {why : Refusal} → TextRefused text why → Measures text a → a ≡ Err why
measure_refuses {text} {a} {why} x p = one_outcome_measure text a (Err why) p (Measures.no_text x refl)

pub read_refuses : {text tape store tape' store' : List ℕ} {a : Answer} {why : Refusal} → TextRefused text why
    → Reads text tape store a tape' store' → a ≡ Err why
read_refuses x p = (one_outcome_read p (Reads.no_text x refl)).0

-- ---- bounded: records and store bytes are each at most the text's length

pub bounded : {text : List ℕ} {r s : ℕ} → Sized text r s → (r ≤ length text) × (s ≤ length text)
bounded h = let f = text_fits h.text_means.loose in (omega (arith, f.few, h.counted), omega (arith, f.small, h.held))
