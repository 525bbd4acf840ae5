-- Bytes that stand for themselves: one, a run, and a run's share of a string's text. Assumes nothing.
use mathlib.Core.Path.{◌≡◌, sym, ap, ap₂, ◌∙◌, subst}
use mathlib.Core.Bool.{Bool, true, not}
use mathlib.Core.List.{List, [], ◌∷◌, ◌++◌}
use Prim.Native.Nat.{ℕ, zero, suc, ◌+◌, ◌-◌, ◌≤◌, ◌<◌}
use native.Mathlib.Decide.{dec_lt}
use native.Mathlib.Omega.{arith}
use borrow.Author.Tests.{eq-eqb}
use lib.Dec.{eqb}
use lib.ListN.{length, get_or, take, drop, length-append, length-take, length-drop}
use Rattle.meaning.specs.Letters.{ch}
use Rattle.meaning.specs.Canonical.{escaped, escapes}
use Rattle.meaning.proofs.Quotes.{escaped_plain, escapes_more}
use Rattle.writer.specs.Between.Pieces.{Ease, EaseAll, PlainRun, PlainLast}
use Rattle.writer.proofs.LaidLaws.{drop_more}

-- ---- one byte

pub ease_of : (b r : ℕ) → ((r ≡ 0 → ⊥) → (ch " " ≤ b) × (b ≡ ch "\"" → ⊥) × (b ≡ ch "\\" → ⊥)) → Ease b r
ease_of b r h = record { plain = λ n. escaped_plain b (h n).1 (h n).2 (h n).0 }

-- ---- a run

module _ (s : List ℕ) where
  pub run_none : (i : ℕ) → i ≤ length s → PlainRun s i i
  run_none i h = record { behind = omega arith; within = h; each = λ k a b. absurd (omega arith) }

  pub run_join : (a b c : ℕ) → PlainRun s a b → PlainRun s b c → PlainRun s a c
  run_join a b c p q =
      record {
        behind = omega (arith, p.behind, q.behind);
        within = q.within;
        each = λ k f g. elim (dec_lt k b) [ yes h ↦ p.each k f h | no h ↦ q.each k (omega arith) g ];
      }

  pub run_more : (from i : ℕ) → PlainRun s from i → i < length s → escaped (get_or s i 0) ≡ get_or s i 0 ∷ [] → PlainRun s from (i + 1)
  run_more from i p h plain =
      run_join from i (i + 1) p (
      record {
        behind = omega arith;
        within = omega arith;
        each = λ k f g. let z : i ≡ k = omega arith in
            subst (λ (x : ℕ). escaped (get_or s x 0) ≡ get_or s x 0 ∷ []) z plain;
      }
      )

  all_at : (at r k : ℕ) → EaseAll s at 16 r → (r ≡ 0 → ⊥) → at ≤ k → k < at + 16 → escaped (get_or s k 0) ≡ get_or s k 0 ∷ []
  all_at at r k d n f g =
      let z : at + (k - at) ≡ k = omega arith in
      subst (λ (x : ℕ). escaped (get_or s x 0) ≡ get_or s x 0 ∷ []) z ((d.each (k - at) (omega arith)).plain n)

  pub run_block : (from i r : ℕ) → PlainRun s from i → 16 ≤ length s - i → EaseAll s i 16 r → (r ≡ 0 → ⊥) → PlainRun s from (i + 16)
  run_block from i r p h d n =
      run_join from i (i + 16) p (record { behind = omega arith; within = omega arith; each = λ k f g. all_at i r k d n f g })

  pub last_block : (r : ℕ) → 16 ≤ length s → EaseAll s (length s - 16) 16 r → PlainLast s (not (eqb r 0))
  last_block r h d =
      record { run = λ e k f g. all_at (length s - 16) r k d (λ z. let t = eq-eqb r 0 z in cc) (omega arith) (omega arith) }

  pub run_last : (from i : ℕ) {b : Bool} → PlainRun s from i → length s - i < 16 → PlainLast s b → b ≡ true → PlainRun s from (length s)
  run_last from i p h d e =
      run_join from i (length s) p (record { behind = p.within; within = omega arith; each = λ k f g. d.run e k (omega arith) g })

  -- ---- its text is itself

  text_of : (n i : ℕ) → i + n ≤ length s → ((k : ℕ) → i ≤ k → k < i + n → escaped (get_or s k 0) ≡ get_or s k 0 ∷ [])
      → escapes (drop i s) ≡ take n (drop i s) ++ escapes (drop (i + n) s)
  text_of zero i h each = let z : i ≡ i + 0 = omega arith in ap (λ (k : ℕ). escapes (drop k s)) z
  text_of (suc n) i h each =
      let z : i + 1 + n ≡ i + suc n = omega arith in
      escapes_more s i (omega arith)
      ∙ ap₂ (λ (x y : List ℕ). x ++ y) (each i (omega arith) (omega arith)) (text_of n (i + 1) (omega arith) (λ k f g. each k (omega arith) (omega arith)))
      ∙ ap (λ (k : ℕ). get_or s i 0 ∷ (take n (drop (i + 1) s) ++ escapes (drop k s))) z
      ∙ ap (λ (l : List ℕ). take (suc n) l ++ escapes (drop (i + suc n) s)) (sym (drop_more s i (omega arith)))

  module _ (i j : ℕ) (p : PlainRun s i j) where
    pub run_text : escapes (drop i s) ≡ take (j - i) (drop i s) ++ escapes (drop j s)
    run_text =
        let z : i + (j - i) ≡ j = omega (arith, p.behind) in
        text_of (j - i) i (omega (arith, p.behind, p.within)) (λ k f g. p.each k f (omega arith))
        ∙ ap (λ (k : ℕ). take (j - i) (drop i s) ++ escapes (drop k s)) z

    pub run_count : length (escapes (drop i s)) ≡ j - i + length (escapes (drop j s))
    run_count =
        ap length run_text ∙ length-append (take (j - i) (drop i s)) (escapes (drop j s))
        ∙ omega (arith, length-take (j - i) (drop i s), length-drop i s, p.behind, p.within)
