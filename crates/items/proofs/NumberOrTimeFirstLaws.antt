-- Words, a sign, and what begins a number or a time value. Assumes nothing.
use Prim.Native.Nat.{ℕ, suc, ◌+◌, ◌≤◌, ◌<◌}
use mathlib.Core.Path.{◌≡◌, refl}
use mathlib.Core.Bool.{Bool, true, false, cond}
use mathlib.Core.List.{List, [], ◌∷◌}
use Rattle.std.specs.Prelude.{Ok, Err}
use native.Mathlib.Omega.{arith}
use lib.Dec.{eqb}
use lib.ListN.{length, get_or, drop}
use Rattle.meaning.specs.Letters.{ch, letters}
use Rattle.meaning.specs.declared.Number.{Number}
use Rattle.meaning.specs.declared.Number.TheVariants.{NotANumber, Infinite}
use Rattle.meaning.specs.declared.Refusal.TheVariants.{NotGrammar}
use Rattle.meaning.specs.Meaning.{Meaning}
use Rattle.machine.specs.Scan.{takes, breaks, Ran, ended, broke, unended, goes_on, ran, over as textEnd}
use Rattle.machine.specs.Names.{word_scan}
use Rattle.machine.specs.Numeric as S
use Rattle.machine.specs.Numeric.{scan, word, sign, begin, nought, point, int}
use Rattle.machine.proofs.Runs.{NoDigit}
use Rattle.machine.proofs.Numeric.Rows.{FstIs, fst_class, fst_digit, num_digit}
use Rattle.items.specs.Between.Places.{byte_at}
use Rattle.items.specs.Between.Spelling.{WordSays}
use Rattle.items.specs.Between.NumberOrTime.{Scanned, taken, Means, Tells, Reads, Edge, From}
use Rattle.items.specs.declared.number.Acc.{Acc}
use Rattle.items.specs.declared.NotGrammar as items
use Rattle.items.specs.declared.Item.TheVariants as Item
use Rattle.items.proofs.PlacesLaws.{byte_in, byte_out}
use Rattle.items.proofs.NumberOrTimeLaws.{edge_none, no_digit_lem, took, breaks_at, same}
use Rattle.items.proofs.NumberDecimalLaws.{holds_none}

-- ---- a word's letters, and its number

abbrev with_number : Number → Ran (Unit {0}) → Ran Meaning
with_number n (ended u p) = ended (Meaning.number n) p
with_number n (broke r) = broke r
with_number n unended = unended

-- the scanner of a word, and that of a number
word_ran : (n : Number) (t : List ℕ) (i : ℕ) (l : List ℕ) → ran scan i (word l n) t ≡ with_number n (ran word_scan i l t)
unfolding ran word_scan
word_ran n [] i [] = refl
word_ran n [] i (a ∷ l) = go (eqb textEnd a)
  where
    go : (x : Bool) → goes_on scan i (λ s. unended) (cond x (takes (word l n)) (breaks (NotGrammar i)))
        ≡ with_number n (goes_on word_scan i (λ s. unended) (cond x (takes l) (breaks (NotGrammar i))))
    go true = refl
    go false = refl
word_ran n (b ∷ t) i [] = refl
word_ran n (b ∷ t) i (a ∷ l) = go (word_ran n t (suc i) l) (eqb b a)
  where
    go : ran scan (suc i) (word l n) t ≡ with_number n (ran word_scan (suc i) l t) → (x : Bool)
        → goes_on scan i (λ s. ran scan (suc i) s t) (cond x (takes (word l n)) (breaks (NotGrammar i)))
        ≡ with_number n (goes_on word_scan i (λ s. ran word_scan (suc i) s t) (cond x (takes l) (breaks (NotGrammar i))))
    go e true = e
    go e false = refl

module _ (s : List ℕ) (i : ℕ) (l : List ℕ) (n : Number) where
  pub named_cut : (e : items.NotGrammar) → WordSays s i l (Err e) → Reads s i (word l n) (Err (NotGrammar e.place))
  named_cut e h = record { tells = rw (word_ran n (drop i s) i l, h.0) Tells.refused }

  pub named_whole : (p : ℕ) → WordSays s i l (Ok p) → Reads s i (word l n) (Ok (taken (Item.Number n) p))
  named_whole p h = record { tells = rw (word_ran n (drop i s) i l, h.0) (Tells.item Means.number) }

-- ---- after a sign

module _ (s : List ℕ) (q : ℕ) (g : Bool) (i : ℕ) where
  pub sign_end : length s ≤ i → Reads s i (sign q g) (Err (NotGrammar i))
  sign_end h = breaks_at (rw (byte_out s i h))

  sign_none : {b : ℕ} {c : S.Fst} → FstIs b c → NoDigit b → (b ≡ ch "." → ⊥) → (b ≡ ch "N" → ⊥) → (b ≡ ch "I" → ⊥) → S.on_sign i q g b c ≡ breaks (NotGrammar i)
  sign_none (FstIs.digit x) n p y z = absurd (no_digit_lem n (omega arith))
  sign_none FstIs.nought n p y z = absurd (no_digit_lem n (omega arith))
  sign_none FstIs.plus n p y z = refl
  sign_none FstIs.minus n p y z = refl
  sign_none FstIs.point n p y z = absurd (p refl)
  sign_none FstIs.n_is n p y z = absurd (y refl)
  sign_none FstIs.i_is n p y z = absurd (z refl)
  sign_none FstIs.other n p y z = refl

  module _ (h : i < length s) where
    pub sign_other : Edge s i → (get_or s i 0 ≡ ch "." → ⊥) → (get_or s i 0 ≡ ch "N" → ⊥) → (get_or s i 0 ≡ ch "I" → ⊥)
        → Reads s i (sign q g) (Err (NotGrammar i))
    sign_other e p n j = let b = byte_in s i h in breaks_at (sign_none (fst_class (byte_at s i)) (edge_none e) (rw (← b) at p) (rw (← b) at n) (rw (← b) at j))

    pub sign_nought : (r : Scanned) → get_or s i 0 ≡ ch "0" → Reads s (i + 1) (nought q g) r → Reads s i (sign q g) r
    sign_nought r e k = took (nought q g) h (rw e) k

    pub sign_point : (r : Scanned) → get_or s i 0 ≡ ch "." → Reads s (i + 1) (point q g) r → Reads s i (sign q g) r
    sign_point r e k = took (point q g) h (rw e) k

    pub sign_nan : (r : Scanned) → get_or s i 0 ≡ ch "N" → Reads s (i + 1) (word (letters "aN") NotANumber) r → Reads s i (sign q g) r
    sign_nan r e k = took (word (letters "aN") NotANumber) h (rw e) k

    pub sign_infinity : (r : Scanned) → get_or s i 0 ≡ ch "I" → Reads s (i + 1) (word (letters "nfinity") (Infinite g)) r → Reads s i (sign q g) r
    sign_infinity r e k = took (word (letters "nfinity") (Infinite g)) h (rw e) k

    pub sign_digit : (a : Acc) → a.c ≡ 0 → a.over ≡ false → (r : Scanned) → ch "1" ≤ get_or s i 0 → get_or s i 0 ≤ ch "9" → From s a i (λ m. int q g m) r
        → Reads s i (sign q g) r
    sign_digit a c o r l u t =
        let b = byte_in s i h in
        same (int q g 0) (rw (b, fst_digit (get_or s i 0) (record { low = l; high = u }), num_digit (get_or s i 0) (omega arith)))
        (t.reads 0 (holds_none a c o))

-- ---- the first byte

module _ (s : List ℕ) (q : ℕ) (h : q < length s) (r : Scanned) where
  pub begin_plus : get_or s q 0 ≡ ch "+" → Reads s (q + 1) (sign q false) r → Reads s q begin r
  begin_plus e k = took (sign q false) h (rw e) k

  pub begin_minus : get_or s q 0 ≡ ch "-" → Reads s (q + 1) (sign q true) r → Reads s q begin r
  begin_minus e k = took (sign q true) h (rw e) k

  as_sign : {b : ℕ} {c : S.Fst} → FstIs b c → NoDigit b → (b ≡ ch "+" → ⊥) → (b ≡ ch "-" → ⊥) → S.on_begin q b c ≡ S.on_sign q q false b c
  as_sign (FstIs.digit x) n p m = absurd (no_digit_lem n (omega arith))
  as_sign FstIs.nought n p m = absurd (no_digit_lem n (omega arith))
  as_sign FstIs.plus n p m = absurd (p refl)
  as_sign FstIs.minus n p m = absurd (m refl)
  as_sign FstIs.point n p m = refl
  as_sign FstIs.n_is n p m = refl
  as_sign FstIs.i_is n p m = refl
  as_sign FstIs.other n p m = refl

  pub begin_other : Edge s q → (get_or s q 0 ≡ ch "+" → ⊥) → (get_or s q 0 ≡ ch "-" → ⊥) → Reads s q (sign q false) r → Reads s q begin r
  begin_other e p m k = let b = byte_in s q h in same (sign q false) (as_sign (fst_class (byte_at s q)) (edge_none e) (rw (← b) at p) (rw (← b) at m)) k
