-- The text of a good number, canonical or as it was filed before, is derived. Assumes nothing.
use Prim.Native.Nat.{ℕ, zero, suc, ◌+◌, ◌*◌, ◌/◌, ◌%◌, ◌<◌, ◌^◌}
use mathlib.Core.Path.{◌≡◌, refl, sym, ap, ◌∙◌, subst}
use mathlib.Core.Bool.{Bool, true, false, cond}
use mathlib.Core.List.{List, [], ◌∷◌, ◌++◌, append_assoc, append-nil}
use native.Mathlib.Nat.{mul-one, zero-add, add-zero, suc-add, mul_assoc, mul_comm, pow-suc}
use native.Mathlib.Omega.{arith}
use lib.Dec.{leb}
use lib.IntN.{ℤ, pos, negsuc}
use lib.ListN.{length}
use Rattle.meaning.specs.Letters.{letters, ch}
use Rattle.meaning.specs.declared.Number.{Number as NumberMeant}
use Rattle.meaning.specs.declared.Number.TheVariants.{NotANumber, Infinite, Finite as FiniteNumber}
use Rattle.meaning.specs.Limits.{plain_digits}
use Rattle.meaning.specs.Good.{GoodFinite, GoodNumber}
use Rattle.meaning.specs.Canonical.{digit, decimal_in, decimal, fixed, minus_text, power_text, zeros, pointed, finite_text, number_text}
use Rattle.meaning.specs.Filed.{filed_number}
use Rattle.grammar.specs.Characters.{Digits, Decimal}
use Rattle.grammar.specs.Numbers.{Finite, Sign, Int, Frac0, E, Exp, Dec, Unsigned, Number}
use Rattle.grammar.proofs.Canonical.Digits.{decimal_some, decimal_int, digit_is, Lead, decimal_lead, fixed_behind}

sign : (g : Bool) → Sign (minus_text g) g
sign true = Sign.minus
sign false = Sign.unsigned

-- the coefficient's digits, no fraction, and an exponent
dec : (c up dn : ℕ) {x : List ℕ} → Exp x up dn → Dec (decimal c ++ x) c up dn
dec c up dn {x} r = subst (Dec (decimal c ++ x) c up) (zero-add dn) (Dec.whole {b = []} (decimal_int c) Frac0.absent r)

raised : (n : ℕ) → Exp (power_text (pos (suc n))) (suc n) 0
unfolding power_text
raised n = let s = decimal_some (suc n) (omega arith) in Exp.given E.small Sign.unsigned s.digits

lowered : (n : ℕ) → Exp (power_text (negsuc n)) 0 (suc n)
unfolding power_text
lowered n = let s = decimal_some (suc n) (omega arith) in Exp.given E.small Sign.minus s.digits

none : Exp (power_text (pos 0)) 0 0
unfolding power_text
none = Exp.absent

-- ---- the `e` form

filed_value : (g : Bool) {c : ℕ} {p : ℤ} → GoodFinite c p → Unsigned true g (decimal c ++ power_text p) (FiniteNumber g c p)
filed_value g GoodFinite.nought = Unsigned.dec (dec 0 0 0 none) (Finite.nought refl)
filed_value g (GoodFinite.nonzero {c = c} {p = pos zero} l e h) = Unsigned.dec (dec c 0 0 none) (Finite.whole (sym (mul-one (c * 1))) e l h)
filed_value g (GoodFinite.nonzero {c = c} {p = pos (suc n)} l e h) = Unsigned.dec (dec c (suc n) 0 (raised n))
    (Finite.whole (sym (mul-one (c * 10 ^ suc n))) e l h)
filed_value g (GoodFinite.nonzero {c = c} {p = negsuc n} l e h) = Unsigned.dec (dec c 0 (suc n) (lowered n))
    (Finite.part (ap (λ (x : ℕ). x * 10 ^ suc n) (mul-one c)) e l h)

-- ---- digits and zeros

-- so many zeros behind: times a power of ten
zeros_behind : (n v : ℕ) → Decimal n v (zeros n) (v * 10 ^ n)
unfolding zeros
zeros_behind zero v = subst (Decimal zero v []) (sym (mul-one v)) Digits.over
zeros_behind (suc n) v =
    subst (Decimal (suc n) v (digit 0 ∷ zeros n)) again (Digits.next (digit_is 0 (omega arith)) (zeros_behind n (10 * v + 0)))
  where
    tens : 10 * v + 0 ≡ v * 10
    tens = omega arith

    again : (10 * v + 0) * 10 ^ n ≡ v * 10 ^ suc n
    again = ap (λ (x : ℕ). x * 10 ^ n) tens ∙ mul_assoc v 10 (10 ^ n) ∙ ap (λ (x : ℕ). v * x) (mul_comm 10 (10 ^ n) ∙ sym (pow-suc 10 n))

-- one row of digits after the other
joined : {n j v w x : ℕ} {a b : List ℕ} → Decimal n v a w → Decimal j w b x → Decimal (n + j) v (a ++ b) x
joined {j = j} {v = v} {x = x} {b = b} Digits.over e = subst (λ (k : ℕ). Decimal k v b x) (sym (zero-add j)) e
joined {n = suc n} {j = j} {v = v} {x = x} {a = a} {b = b} (Digits.next c r) e =
    subst (λ (k : ℕ). Decimal k v (a ++ b) x) (sym (suc-add n j)) (Digits.next c (joined r e))

int_zeros : (c p : ℕ) → 0 < c → Int (decimal c ++ zeros p) (c * 10 ^ p)
int_zeros c p h = go (decimal_lead c h)
  where
    go : {a : List ℕ} → Lead a c → Int (a ++ zeros p) (c * 10 ^ p)
    go (Lead.lead i d) = Int.positive i (joined d (zeros_behind p c))

-- an integer, no fraction and no exponent
whole : {a : List ℕ} {w : ℕ} → Int a w → Dec a w 0 0
whole {a} {w} i = subst (λ (s : List ℕ). Dec s w 0 0) (append-nil a) (Dec.whole {b = []} i Frac0.absent Exp.absent)

-- ---- digits with a decimal point: the coefficient over a power of ten

dec_pointed : (n c : ℕ) → Dec (pointed (suc n) c) c 0 (suc n)
unfolding pointed
dec_pointed n c =
    let q = c / 10 ^ suc n in
    let b = ch "." ∷ fixed (suc n) c in
    subst (λ (k : ℕ). Dec (decimal q ++ letters "." ++ fixed (suc n) c) c 0 k) (add-zero (suc n))
    (subst (λ (s : List ℕ). Dec s c 0 (suc n + 0)) (simp (append_assoc, append-nil))
    (Dec.whole {b = b} (decimal_int q) (Frac0.given (fixed_behind (suc n) c)) Exp.absent))

-- ---- all three

nought_value : (g : Bool) → Unsigned true g (finite_text 0 (pos 0)) (FiniteNumber g 0 (pos 0))
unfolding finite_text decimal decimal_in zeros
nought_value g = Unsigned.dec (whole Int.zero_digit) (Finite.nought refl)

some : (c : ℕ) → (c % 10 ≡ 0 → ⊥) → 0 < c
some zero e = absurd (e refl)
some (suc c) e = omega arith

value : (g : Bool) {c : ℕ} {p : ℤ} → GoodFinite c p → Unsigned true g (finite_text c p) (FiniteNumber g c p)
unfolding finite_text
value g GoodFinite.nought = nought_value g
value g (GoodFinite.nonzero {c = c} {p = pos n} l e h) = go (leb (length (decimal c) + n) plain_digits)
  where
    go : (b : Bool) → Unsigned true g (decimal c ++ cond b (zeros n) (power_text (pos n))) (FiniteNumber g c (pos n))
    go true = Unsigned.dec (whole (int_zeros c n (some c e))) (Finite.whole refl e l h)
    go false = filed_value g (GoodFinite.nonzero l e h)
value g (GoodFinite.nonzero {c = c} {p = negsuc n} l e h) = go (leb (suc n) plain_digits)
  where
    go : (b : Bool) → Unsigned true g (cond b (pointed (suc n) c) (decimal c ++ power_text (negsuc n))) (FiniteNumber g c (negsuc n))
    go true = Unsigned.dec (dec_pointed n c) (Finite.part (ap (λ (x : ℕ). x * 10 ^ suc n) (mul-one c)) e l h)
    go false = filed_value g (GoodFinite.nonzero l e h)

pub number_derived : (n : NumberMeant) → GoodNumber n → Number true (number_text n) n
unfolding number_text
number_derived (FiniteNumber minus c p) h = Number.number (sign minus) (value minus h)
number_derived NotANumber h = Number.number Sign.unsigned (Unsigned.nan)
number_derived (Infinite minus) h = Number.number (sign minus) Unsigned.inf

pub filed_number_derived : (n : NumberMeant) → GoodNumber n → Number true (filed_number n) n
unfolding filed_number
filed_number_derived (FiniteNumber minus c p) h =
    rw (append_assoc (minus_text minus) (decimal c) (power_text p)) (Number.number (sign minus) (filed_value minus h))
filed_number_derived NotANumber h = Number.number Sign.unsigned (Unsigned.nan)
filed_number_derived (Infinite minus) h = Number.number (sign minus) Unsigned.inf
