-- Runs of a scanner over places of a slice: one step, and what ends it. Assumes nothing.
use mathlib.Core.Path.{◌≡◌, refl, sym, ap, subst, ◌∙◌}
use Prim.Native.Nat.{ℕ, zero, suc, ◌+◌, ◌≤◌, ◌<◌}
use mathlib.Core.List.{List, [], ◌∷◌}
use mathlib.Core.Logic.{◌⊎◌, inl, inr}
use mathlib.Core.Bool.{Bool, true, false}
use lib.ListN.{length, drop, get_or, get_or-eq_default}
use lib.Seq.{drop-cons, get_or-drop}
use lib.Dec.{ltb}
use native.Mathlib.Omega.{arith}
use native.Mathlib.Numerals.{add-one}
use native.Mathlib.Nat.{add-suc, add-zero, zero-add}
use borrow.Author.Tests.{ltb-true, ltb-false}
use Rattle.std.specs.Prelude.{Result, Err, IsErrAnd}
use Rattle.std.proofs.lemmas.Result.{err_from_is_err_and}
use Rattle.meaning.specs.declared.Refusal.{Refusal}
use Rattle.machine.specs.Scan.{Out, takes, stops, breaks, over, Ran, ended, broke, unended, goes_on, ran}
use Rattle.items.specs.declared.NotGrammar.{NotGrammar}
use Rattle.items.specs.Between.Places.{byte_at, Onward, ran_from, Goes, ran_at, Runs}

pub byte_in : (s : List ℕ) (i : ℕ) → i < length s → byte_at s i ≡ get_or s i 0
byte_in [] i h = absurd (omega arith)
byte_in (b ∷ s) zero h = refl
byte_in (b ∷ s) (suc i) h = byte_in s i (omega arith)

pub byte_out : (s : List ℕ) (i : ℕ) → length s ≤ i → byte_at s i ≡ over
byte_out s i h = get_or-eq_default s over h

-- a place is within or past the end
pub late : (s : List ℕ) (i : ℕ) → (i < length s) ⊎ (length s ≤ i)
late s i = by (ltb i (length s)) refl
  where
    by : (t : Bool) → ltb i (length s) ≡ t → (i < length s) ⊎ (length s ≤ i)
    by true e = inl (ltb-true _ _ e)
    by false e = inr (ltb-false _ _ e)

module _ {S M : Type 0} (scan : ℕ → S → ℕ → Out S M) where
  abbrev after : ℕ → List ℕ → S → Ran M
  after p [] d = unended
  after p (b ∷ t) d = ran scan (suc p) d t

  one_step : (p : ℕ) (c : S) (t : List ℕ) → ran scan p c t ≡ goes_on scan p (after p t) (scan p c (get_or t 0 over))
  unfolding ran
  one_step p c [] = refl
  one_step p c (b ∷ t) = refl

  module _ (base : ℕ) (s : List ℕ) where
    step : (c : S) (i : ℕ) → ran_from scan base s c i ≡ goes_on scan (base + i) (after (base + i) (drop i s)) (scan (base + i) c (byte_at s i))
    step c i = one_step (base + i) c (drop i s) ∙ ap (λ (b : ℕ). goes_on scan (base + i) (after (base + i) (drop i s)) (scan (base + i) c b))
        (get_or-drop i s 0 over ∙ ap (λ (n : ℕ). get_or s n over) (add-zero i))

    -- by the byte at i, or the text's end
    pub goes_by : (c d : S) (i j : ℕ) → i < length s → j ≡ i + 1 → scan (base + i) c (byte_at s i) ≡ takes d → Goes scan base s c i d j
    goes_by c d i j h e x =
        step c i ∙ ap (λ (o : Out S M). goes_on scan (base + i) (after (base + i) (drop i s)) o) x
        ∙ ap (λ (t : List ℕ). after (base + i) t d) (drop-cons s i 0 h)
        ∙ rw (e, add-one, add-suc base i)

    pub breaks_by : (c : S) (r : Refusal) (i : ℕ) → scan (base + i) c (byte_at s i) ≡ breaks r → ran_from scan base s c i ≡ broke r
    breaks_by c r i x = step c i ∙ ap (λ (o : Out S M). goes_on scan (base + i) (after (base + i) (drop i s)) o) x

    pub stops_by : (c : S) (v : M) (i : ℕ) → scan (base + i) c (byte_at s i) ≡ stops v → ran_from scan base s c i ≡ ended v (base + i)
    stops_by c v i x = step c i ∙ ap (λ (o : Out S M). goes_on scan (base + i) (after (base + i) (drop i s)) o) x

    -- two states that do the same at i
    pub alike : (c d : S) (i : ℕ) → scan (base + i) c (byte_at s i) ≡ scan (base + i) d (byte_at s i) → Goes scan base s c i d i
    alike c d i x = step c i ∙ ap (λ (o : Out S M). goes_on scan (base + i) (after (base + i) (drop i s)) o) x ∙ sym (step d i)

    -- by a byte that is there
    pub go : (c d : S) (i j : ℕ) → i < length s → j ≡ i + 1 → scan (base + i) c (get_or s i 0) ≡ takes d → Goes scan base s c i d j
    go c d i j h e x = goes_by c d i j h e (rw (byte_in s i h) x)

    pub halt : (c : S) (r : Refusal) (i : ℕ) → i < length s → scan (base + i) c (get_or s i 0) ≡ breaks r → ran_from scan base s c i ≡ broke r
    halt c r i h x = breaks_by c r i (rw (byte_in s i h) x)

    pub like : (c d : S) (i : ℕ) → i < length s → scan (base + i) c (get_or s i 0) ≡ scan (base + i) d (get_or s i 0) → Goes scan base s c i d i
    like c d i h x = alike c d i (rw (byte_in s i h) x)

    -- at the text's end
    pub end : (c : S) (r : Refusal) (i : ℕ) → length s ≤ i → scan (base + i) c over ≡ breaks r → ran_from scan base s c i ≡ broke r
    end c r i h x = breaks_by c r i (rw (byte_out s i h) x)

    pub moves : (x c d : S) (i j : ℕ) → Goes scan base s x i c j → c ≡ d → Goes scan base s x i d j
    moves x c d i j g e = g ∙ ap (λ (y : S). ran_from scan base s y j) e

-- ---- in the text's own places

module _ {S M : Type 0} (scan : ℕ → S → ℕ → Out S M) (s : List ℕ) where
  at_zero : (c : S) (p : ℕ) → ran_from scan 0 s c p ≡ ran_at scan s c p
  at_zero c p = ap (λ (n : ℕ). ran scan n c (drop p s)) (zero-add p)

  does : (c : S) (p : ℕ) (o : Out S M) → scan p c (byte_at s p) ≡ o → scan (0 + p) c (byte_at s p) ≡ o
  does c p o x = ap (λ (n : ℕ). scan n c (byte_at s p)) (zero-add p) ∙ x

  pub runs_by : (c d : S) (p q : ℕ) → p < length s → q ≡ p + 1 → scan p c (byte_at s p) ≡ takes d → Runs scan s c p d q
  runs_by c d p q h e x = sym (at_zero c p) ∙ goes_by scan 0 s c d p q h e (does c p (takes d) x) ∙ at_zero d q

  pub broken_by : (c : S) (r : Refusal) (p : ℕ) → scan p c (byte_at s p) ≡ breaks r → ran_at scan s c p ≡ broke r
  broken_by c r p x = sym (at_zero c p) ∙ breaks_by scan 0 s c r p (does c p (breaks r) x)

  pub ended_by : (c : S) (v : M) (p : ℕ) → scan p c (byte_at s p) ≡ stops v → ran_at scan s c p ≡ ended v p
  ended_by c v p x = sym (at_zero c p) ∙ stops_by scan 0 s c v p (does c p (stops v) x) ∙ ap (ended v) (zero-add p)

  module _ (p : ℕ) (c : S) where
    -- by a byte that is there
    pub run_take : (d : S) → p < length s → scan p c (get_or s p 0) ≡ takes d → Runs scan s c p d (p + 1)
    run_take d h x = runs_by c d p (p + 1) h refl (rw (byte_in s p h) x)

    pub run_stop : (v : M) → p < length s → scan p c (get_or s p 0) ≡ stops v → ran_at scan s c p ≡ ended v p
    run_stop v h x = ended_by c v p (rw (byte_in s p h) x)

    pub run_break : (r : Refusal) → p < length s → scan p c (get_or s p 0) ≡ breaks r → ran_at scan s c p ≡ broke r
    run_break r h x = broken_by c r p (rw (byte_in s p h) x)

    -- at the text's end
    pub end_stop : (v : M) → length s ≤ p → scan p c over ≡ stops v → ran_at scan s c p ≡ ended v p
    end_stop v h x = ended_by c v p (rw (byte_out s p h) x)

    pub end_break : (r : Refusal) → length s ≤ p → scan p c over ≡ breaks r → ran_at scan s c p ≡ broke r
    end_break r h x = broken_by c r p (rw (byte_out s p h) x)

-- ---- from one place on to another

pub here : (text : List ℕ) (p : ℕ) → p ≤ length text → Onward text p p
here text p h = record { behind = omega arith; within = h }

pub further : {text : List ℕ} {p q : ℕ} → Onward text p q → q < length text → Onward text p (q + 1)
further o h = record { behind = omega (arith, o.behind); within = omega arith }

pub then : {text : List ℕ} {p q r : ℕ} → Onward text p q → Onward text q r → Onward text p r
then o u = record { behind = omega (arith, o.behind, u.behind); within = u.within }

-- ---- an error that `?` hands on

module _ {T E : Type 0} (P : Result T E → Type 0) (r : Result T E) where
  pub passed_on : {e : E} → IsErrAnd r (λ y. y ≡ e) → P (Err e) → P r
  passed_on h t = let p = err_from_is_err_and r h in subst P (sym (p.1 ∙ ap Err p.2)) t

-- the place where it is not the grammar
pub passed_at : {T : Type 0} (P : Result T NotGrammar → Type 0) (r : Result T NotGrammar) {e : NotGrammar} {p : ℕ} → IsErrAnd r (λ y. y ≡ e)
    → e.place ≡ p → P (Err (record { place = p })) → P r
passed_at P r {e} {p} h f t = passed_on P r h (subst (λ (n : ℕ). P (Err (record { place = n }))) (sym f) t)
