-- One value has one coefficient and one power: what is filed once is not filed again. Assumes nothing.
use mathlib.Core.Path.{◌≡◌, refl, sym, ap, ◌∙◌}
use Prim.Native.Nat.{ℕ, zero, suc, ◌+◌, ◌-◌, ◌*◌, ◌%◌, ◌^◌, ◌≤◌}
use native.Mathlib.Nat.{mul-one, zero-mul, pow-suc, mul_assoc}
use native.Mathlib.Omega.{arith}
use lib.IntN.{ℤ, pos, negsuc, nat_abs}
use Rattle.meaning.specs.Limits.{power_limit}
use Rattle.meaning.specs.Good.{GoodFinite, nought, nonzero}

pub tenfold : (c z : ℕ) → c * 10 ^ suc z ≡ c * 10 ^ z * 10
tenfold c z = ap (λ (x : ℕ). c * x) (pow-suc 10 z) ∙ sym (mul_assoc c (10 ^ z) 10)

-- two coefficients that don't end in 0
pub once : (c d z w : ℕ) → c * 10 ^ z ≡ d * 10 ^ w → (c % 10 ≡ 0 → ⊥) → (d % 10 ≡ 0 → ⊥) → (c ≡ d) × (z ≡ w)
once c d zero zero e p q = (sym (mul-one c) ∙ e ∙ mul-one d, refl)
once c d zero (suc w) e p q = let f : c ≡ d * 10 ^ w * 10 = sym (mul-one c) ∙ e ∙ tenfold d w in absurd (p (omega arith))
once c d (suc z) zero e p q = let f : d ≡ c * 10 ^ z * 10 = sym (mul-one d) ∙ sym e ∙ tenfold c z in absurd (q (omega arith))
once c d (suc z) (suc w) e p q =
    let f : c * 10 ^ z * 10 ≡ d * 10 ^ w * 10 = sym (tenfold c z) ∙ e ∙ tenfold d w in
    let r = once c d z w (omega arith) p q in
    (r.0, ap suc r.1)

pub not_nought : (c z : ℕ) → c * 10 ^ z ≡ 0 → (c % 10 ≡ 0 → ⊥) → ⊥
not_nought c zero e p = let f : c ≡ 0 = sym (mul-one c) ∙ e in p (omega arith)
not_nought c (suc z) e p = let f : c * 10 ^ z * 10 ≡ 0 = sym (tenfold c z) ∙ e in not_nought c z (omega arith) p

-- the power above the least one
unfoldable pub above : ℤ → ℕ
above (pos n) = power_limit + n
above (negsuc n) = power_limit - suc n

above_one : (p q : ℤ) → nat_abs p ≤ power_limit → nat_abs q ≤ power_limit → above p ≡ above q → p ≡ q
unfolding above
above_one (pos m) (pos n) h k e = ap pos (omega arith)
above_one (pos m) (negsuc n) h k e = absurd (omega arith)
above_one (negsuc m) (pos n) h k e = absurd (omega arith)
above_one (negsuc m) (negsuc n) h k e = ap negsuc (omega arith)

pub one_value : {c d : ℕ} {p q : ℤ} → GoodFinite c p → GoodFinite d q → c * 10 ^ above p ≡ d * 10 ^ above q → (c ≡ d) × (p ≡ q)
one_value nought nought e = (refl, refl)
one_value {d = d} {q = q} nought (nonzero b n r) e = absurd (not_nought d (above q) (sym e ∙ zero-mul _) n)
one_value {c = c} {p = p} (nonzero b n r) nought e = absurd (not_nought c (above p) (e ∙ zero-mul _) n)
one_value {c = c} {d = d} {p = p} {q = q} (nonzero b n r) (nonzero b' n' r') e =
    let o = once c d (above p) (above q) e n n' in
    (o.0, above_one p q r r' o.1)
