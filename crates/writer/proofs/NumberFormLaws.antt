-- A finite number's text by its form, as the code goes by it. Assumes nothing.
use mathlib.Core.Path.{◌≡◌, refl, sym, ap, ap₂, ◌∙◌, subst}
use mathlib.Core.Bool.{Bool, true, false, cond}
use mathlib.Core.List.{List, [], ◌∷◌, ◌++◌}
use Prim.Native.Nat.{ℕ, zero, suc, ◌+◌, ◌-◌, ◌/◌, ◌^◌, ◌≤◌, ◌<◌}
use native.Mathlib.Decide.{dec_le}
use native.Mathlib.Nat.{lt_of_not-le}
use native.Mathlib.Omega.{arith}
use lib.IntN.{ℤ, pos, negsuc, nat_abs}
use lib.ListN.{length, length-append}
use lib.Signed.{lt_z}
use mir.Syntax.{w32}
use mir.Val.{SFits, of_z, to_z}
use mir.ValLaws.{to_z-of_z}
use borrow.Author.Tests.{ltb-true, le-leb, lt-leb}
use Rattle.meaning.specs.Letters.{letters}
use Rattle.meaning.specs.Limits.{plain_digits}
use Rattle.meaning.specs.Canonical.{digit, decimal, fixed, power_text, zeros, pointed, finite_text}
use Rattle.meaning.proofs.Digits.{decimal_small, cut_count, cut_none, fixed_length}
use Rattle.meaning.proofs.Text.{pointed_few as few, pointed_more as more}
use Rattle.writer.specs.declared.Form.{Form}
use Rattle.writer.specs.declared.Form.TheVariants.{Zeros, Point, Power as WithPower}
use Rattle.writer.specs.Between.Pieces as P
use Rattle.writer.specs.Between.Pieces.{FormOf, PointedLength, Power}
use Rattle.writer.proofs.ByteOrDigitLaws.{decimal_fixed}

-- ---- the form by the sign and the size of the power

module _ {d n : ℕ} where
  pub form_point : (p : ℤ) → lt_z p (pos 0) ≡ true → n ≡ nat_abs p → n ≤ plain_digits → FormOf d p (Point n)
  form_point (pos k) t e h = absurd (omega (arith, ltb-true k 0 t))
  form_point (negsuc k) t e h = subst (λ (x : ℕ). FormOf d (negsuc k) (Point x)) (sym e) (P.point {n = k} (omega arith))

  pub form_lowered : (p : ℤ) → lt_z p (pos 0) ≡ true → n ≡ nat_abs p → plain_digits < n → FormOf d p WithPower
  form_lowered (pos k) t e h = absurd (omega (arith, ltb-true k 0 t))
  form_lowered (negsuc k) t e h = P.lowered {n = k} (omega arith)

  pub form_zeros : (p : ℤ) → lt_z p (pos 0) ≡ false → n ≡ nat_abs p → d + n ≤ plain_digits → FormOf d p (Zeros n)
  form_zeros (pos k) t e h = subst (λ (x : ℕ). FormOf d (pos k) (Zeros x)) (sym e) (P.zeros {p = k} (omega arith))
  form_zeros (negsuc k) t e h = cc

  pub form_raised : (p : ℤ) → lt_z p (pos 0) ≡ false → n ≡ nat_abs p → plain_digits < d + n → FormOf d p WithPower
  form_raised (pos k) t e h = P.raised {p = k} (omega arith)
  form_raised (negsuc k) t e h = cc

-- of a power as it is handed over
pub form_held : {d : ℕ} {p : ℤ} {f : Form} → SFits w32 p → FormOf d (to_z w32 (of_z w32 p)) f → FormOf d p f
form_held {d} {p} {f} h x = subst (λ (q : ℤ). FormOf d q f) (to_z-of_z w32 p h) x

-- ---- zeros

zeros_last : (n : ℕ) → zeros (suc n) ≡ zeros n ++ (digit 0 ∷ [])
unfolding zeros
zeros_last zero = refl
zeros_last (suc n) = ap (λ (l : List ℕ). digit 0 ∷ l) (zeros_last n)

zeros_fixed : (n : ℕ) → zeros n ≡ fixed n 0
unfolding zeros fixed
zeros_fixed zero = refl
zeros_fixed (suc n) = zeros_last n ∙ ap (λ (l : List ℕ). l ++ (digit 0 ∷ [])) (zeros_fixed n)

-- ---- the text by the form

module _ (c d : ℕ) (e : d ≡ length (decimal c)) where
  -- all digits of c
  pub all_digits : decimal c ≡ fixed d c
  all_digits = decimal_fixed c ∙ ap (λ (k : ℕ). fixed k c) (sym e)

  pub zeros_text : {p : ℤ} {n : ℕ} → FormOf d p (Zeros n) → finite_text c p ≡ fixed d c ++ fixed n 0
  unfolding finite_text
  zeros_text {n = n} (P.zeros h) =
      ap (λ (b : Bool). decimal c ++ cond b (zeros n) (power_text (pos n))) (le-leb (length (decimal c) + n) plain_digits (omega arith))
      ∙ ap₂ (λ (s t : List ℕ). s ++ t) all_digits (zeros_fixed n)

  pub power_text_lem : {p : ℤ} → FormOf d p WithPower → finite_text c p ≡ fixed d c ++ power_text p
  unfolding finite_text
  power_text_lem (P.raised {p = p} h) =
      ap (λ (b : Bool). decimal c ++ cond b (zeros p) (power_text (pos p))) (lt-leb (length (decimal c) + p) plain_digits (omega arith))
      ∙ ap (λ (s : List ℕ). s ++ power_text (pos p)) all_digits
  power_text_lem (P.lowered {n = n} h) =
      ap (λ (b : Bool). cond b (pointed (suc n) c) (decimal c ++ power_text (negsuc n))) (lt-leb (suc n) plain_digits h)
      ∙ ap (λ (s : List ℕ). s ++ power_text (negsuc n)) all_digits

  pub zeros_size : {p : ℤ} {n : ℕ} → FormOf d p (Zeros n) → length (finite_text c p) ≡ d + n
  zeros_size {n = n} f = ap length (zeros_text f) ∙ omega (arith, length-append (fixed d c) (fixed n 0), fixed_length d c, fixed_length n 0)

  pub power_size : {p : ℤ} → FormOf d p WithPower → length (finite_text c p) ≡ d + length (power_text p)
  power_size {p} f = ap length (power_text_lem f) ∙ omega (arith, length-append (fixed d c) (power_text p), fixed_length d c)

  -- before the point
  pub pointed_few : {n : ℕ} → d ≤ n → pointed n c ≡ letters "0." ++ fixed n c
  unfolding pointed
  pointed_few {n} h =
      ap (λ (s : List ℕ). s ++ letters "." ++ fixed n c)
      (ap decimal (cut_none n c (omega arith)) ∙ decimal_small 0 (omega arith))

  pub pointed_more : {n r : ℕ} → Power n r → 0 < n → n < d → pointed n c ≡ fixed (d - n) (c / r) ++ letters "." ++ fixed n c
  unfolding pointed
  pointed_more {n} {r} x l h =
      let q = c / 10 ^ n in
      let z : length (decimal q) ≡ d - n = omega (arith, cut_count n c (omega arith)) in
      ap (λ (s : List ℕ). s ++ letters "." ++ fixed n c)
      (decimal_fixed q ∙ ap₂ (λ (k m : ℕ). fixed k m) z (ap (λ (m : ℕ). c / m) (sym (x.some l))))

  pub few_length : {n : ℕ} → d ≤ n → length (pointed n c) ≡ n + 2
  few_length {n} h = few n c (omega arith)

  pub more_length : {n : ℕ} → n < d → length (pointed n c) ≡ d + 1
  more_length {n} h = omega (arith, more n c (omega arith))

  pub pointed_size : {n r : ℕ} → PointedLength d n r → r ≡ length (pointed n c)
  pointed_size {n} x =
      elim (dec_le d n) [
        | yes h ↦ x.few h ∙ sym (few_length h)
        | no h ↦ x.more (lt_of_not-le h) ∙ sym (more_length (lt_of_not-le h))
      ]

pub point_text : (c : ℕ) {d : ℕ} {p : ℤ} {n : ℕ} → FormOf d p (Point n) → finite_text c p ≡ pointed n c
unfolding finite_text
point_text c (P.point {n = n} h) =
    ap (λ (b : Bool). cond b (pointed (suc n) c) (decimal c ++ power_text (negsuc n))) (le-leb (suc n) plain_digits h)

pub zeros_few : {d : ℕ} {p : ℤ} {n : ℕ} → FormOf d p (Zeros n) → d + n ≤ plain_digits
zeros_few (P.zeros h) = h

pub point_few : {d : ℕ} {p : ℤ} {n : ℕ} → FormOf d p (Point n) → (0 < n) × (n ≤ plain_digits)
point_few (P.point h) = (omega arith, h)
