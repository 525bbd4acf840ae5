-- The check of a number: m × 10 ^ up / 10 ^ dn has one coefficient that does not end in 0 and one power of ten. Assumes nothing.
use Prim.Native.Nat.{ℕ, zero, suc, ◌+◌, ◌*◌, ◌-◌, ◌≤◌, ◌<◌, ◌/◌, ◌%◌, ◌^◌}
use mathlib.Core.Path.{◌≡◌, refl, sym, ◌∙◌, ap}
use mathlib.Core.Bool.{Bool, true, false, cond}
use native.Mathlib.Nat.{zero-mul, mul-one, pow-suc, mul_assoc, div-add-mod', div-lt_self}
use native.Mathlib.Omega.{arith}
use lib.Dec.{ltb, leb, eqb}
use lib.IntN.{pos, negsuc}
use lib.Pow.{pow-add}
use borrow.Author.Tests.{ltb-true, leb-true, leb-false, eqb-true, eqb-false, lt-ltb, le-leb, lt-leb, eq-eqb, ne_eqb}
use Rattle.meaning.specs.declared.Number.{Number}
use Rattle.meaning.specs.declared.Refusal.TheVariants.{BadNumber}
use Rattle.meaning.specs.Limits.{coefficient_limit, power_limit}
use Rattle.meaning.specs.Meaning.{Meaning}
use Rattle.meaning.proofs.Values.{once, not_nought}
use Rattle.grammar.specs.Numbers.{Finite}
use Rattle.machine.specs.Scan.{stops, breaks}
use Rattle.machine.specs.Numeric.{Res, strip, finite, ranged, checked, settle}

pub powers : (c a b : ℕ) → c * 10 ^ a * 10 ^ b ≡ c * 10 ^ (a + b)
powers c a b = mul_assoc c (10 ^ a) (10 ^ b) ∙ ap (λ (x : ℕ). c * x) (sym (pow-add 10 a b))

abbrev pub Stripped : ℕ → ℕ → ℕ × ℕ → Type 0
Stripped m z r = (m * 10 ^ z ≡ r.0 * 10 ^ r.1) × (r.0 % 10 ≡ 0 → ⊥)

pub strip_is : (n m z : ℕ) → 0 < m → m ≤ n → Stripped m z (strip n m z)
unfolding strip
strip_is zero m z l h = absurd (omega arith)
strip_is (suc n) m z l h = go (λ a b. strip_is n (m / 10) (suc z) a b) (eqb (m % 10) 0) refl
  where
    go : (0 < m / 10 → m / 10 ≤ n → Stripped (m / 10) (suc z) (strip n (m / 10) (suc z))) → (x : Bool) → eqb (m % 10) 0 ≡ x
        → Stripped m z (cond x (strip n (m / 10) (suc z)) (m, z))
    go k true e =
        let f : m ≡ m / 10 * 10 = omega (arith, div-add-mod' m 10, eqb-true (m % 10) 0 e) in
        let r = k (omega arith) (omega (arith, div-lt_self {n = m} {k = 10} l (omega arith))) in
        (ap (λ (x : ℕ). x * 10 ^ z) f ∙ mul_assoc (m / 10) 10 (10 ^ z) ∙ ap (λ (x : ℕ). m / 10 * x) (omega (arith, pow-suc 10 z)) ∙ r.0, r.1)
    go k false e = (refl, eqb-false _ _ e)

-- m × 10 ^ up, by what is left of m without its zeros
stripped : (m up : ℕ) → 0 < m → m * 10 ^ up ≡ (strip m m 0).0 * 10 ^ ((strip m m 0).1 + up)
stripped m up l = ap (λ (x : ℕ). x * 10 ^ up) (sym (mul-one m) ∙ (strip_is m m 0 l (omega arith)).0) ∙ powers (strip m m 0).0 (strip m m 0).1 up

module _ (q : ℕ) (g : Bool) where
  -- whatever holds of a stop with a meaning of the number, and of 6 at q, holds of what `settle` does
  module _ (m up dn : ℕ) (P : Res → Type 0) (stop : (x : Number) → Finite true g m up dn x → P (stops (Meaning.number x))) (no : P (breaks (BadNumber q))) where
    ranged_is : (c u : ℕ) → m * 10 ^ up ≡ c * 10 ^ u → (c % 10 ≡ 0 → ⊥) → c < coefficient_limit → P (ranged q g c u dn)
    ranged_is c u e n l = go (leb dn u) refl
      where
        up_go : dn ≤ u → (x : Bool) → leb (u - dn) power_limit ≡ x → P (cond x (finite g c (pos (u - dn))) (breaks (BadNumber q)))
        up_go h true f = let k : u ≡ u - dn + dn = omega arith in stop _ (Finite.whole (e ∙ ap (λ (x : ℕ). c * 10 ^ x) k ∙ sym (powers c (u - dn) dn)) n l
            (leb-true _ _ f))
        up_go h false f = no

        dn_go : u < dn → (x : Bool) → leb (dn - u) power_limit ≡ x → P (cond x (finite g c (negsuc (dn - u - 1))) (breaks (BadNumber q)))
        dn_go h true f = let k : u + suc (dn - u - 1) ≡ dn = omega arith in stop _
            (Finite.part (ap (λ (x : ℕ). x * 10 ^ suc (dn - u - 1)) e ∙ powers c u (suc (dn - u - 1)) ∙ ap (λ (x : ℕ). c * 10 ^ x) k) n l
            (omega (arith, leb-true (dn - u) power_limit f)))
        dn_go h false f = no

        go : (x : Bool) → leb dn u ≡ x → P (cond x (cond (leb (u - dn) power_limit) (finite g c (pos (u - dn))) (breaks (BadNumber q)))
            (cond (leb (dn - u) power_limit) (finite g c (negsuc (dn - u - 1))) (breaks (BadNumber q))))
        go true f = up_go (leb-true _ _ f) (leb (u - dn) power_limit) refl
        go false f = dn_go (leb-false _ _ f) (leb (dn - u) power_limit) refl

    checked_is : (c u : ℕ) → m * 10 ^ up ≡ c * 10 ^ u → (c % 10 ≡ 0 → ⊥) → P (checked q g c u dn)
    checked_is c u e n = go (ltb c coefficient_limit) refl
      where
        go : (x : Bool) → ltb c coefficient_limit ≡ x → P (cond x (ranged q g c u dn) (breaks (BadNumber q)))
        go true f = ranged_is c u e n (ltb-true _ _ f)
        go false f = no

    pub settle_is : P (settle q g m up dn)
    unfolding settle
    settle_is = go (eqb m 0) refl
      where
        go : (x : Bool) → eqb m 0 ≡ x → P (cond x (finite g 0 (pos 0)) (checked q g (strip m m 0).0 ((strip m m 0).1 + up) dn))
        go true f = stop _ (Finite.nought (eqb-true _ _ f))
        go false f = let l : 0 < m = omega (arith, eqb-false m 0 f) in checked_is (strip m m 0).0 ((strip m m 0).1 + up) (stripped m up l)
            (strip_is m m 0 l (omega arith)).1

-- out of the range too there is a coefficient and a power
pub some_finite : (g : Bool) (m up dn : ℕ) → (x : Number) × Finite false g m up dn x
some_finite g m up dn = go (eqb m 0) refl
  where
    by_power : (c u : ℕ) → m * 10 ^ up ≡ c * 10 ^ u → (c % 10 ≡ 0 → ⊥) → (x : Bool) → leb dn u ≡ x → (y : Number) × Finite false g m up dn y
    by_power c u e n true f = let h = leb-true dn u f in let k : u ≡ u - dn + dn = omega arith in
        (_, Finite.whole (e ∙ ap (λ (x : ℕ). c * 10 ^ x) k ∙ sym (powers c (u - dn) dn)) n tt tt)
    by_power c u e n false f = let h = leb-false dn u f in let k : u + suc (dn - u - 1) ≡ dn = omega arith in
        (_, Finite.part (ap (λ (x : ℕ). x * 10 ^ suc (dn - u - 1)) e ∙ powers c u (suc (dn - u - 1)) ∙ ap (λ (x : ℕ). c * 10 ^ x) k) n tt tt)

    go : (x : Bool) → eqb m 0 ≡ x → (y : Number) × Finite false g m up dn y
    go true f = (_, Finite.nought (eqb-true _ _ f))
    go false f = let l : 0 < m = omega (arith, eqb-false m 0 f) in by_power (strip m m 0).0 ((strip m m 0).1 + up) (stripped m up l)
        (strip_is m m 0 l (omega arith)).1 (leb dn ((strip m m 0).1 + up)) refl

pub finite_by : (k : Bool) {g : Bool} {m up dn : ℕ} {w : Number} → Finite true g m up dn w → Finite k g m up dn w
finite_by true h = h
finite_by false (Finite.nought e) = Finite.nought e
finite_by false (Finite.whole e p c n) = Finite.whole e p tt tt
finite_by false (Finite.part e p c n) = Finite.part e p tt tt

-- the only coefficient and power
module _ (m up d w : ℕ) (e : m * 10 ^ up ≡ d * 10 ^ w) (n : d % 10 ≡ 0 → ⊥) where
  pub positive : 0 < m
  positive = let k : (m ≡ 0 → ⊥) = λ z. not_nought d w (sym e ∙ ap (λ (x : ℕ). x * 10 ^ up) z ∙ zero-mul (10 ^ up)) n in omega arith

  pub only_one : ((strip m m 0).0 ≡ d) × ((strip m m 0).1 + up ≡ w)
  only_one = once (strip m m 0).0 d ((strip m m 0).1 + up) w (sym (stripped m up positive) ∙ e) (strip_is m m 0 positive (omega arith)).1 n

settle_by : (q : ℕ) (g : Bool) (m up dn d w : ℕ) (x : Res) → 0 < m → (strip m m 0).0 ≡ d → (strip m m 0).1 + up ≡ w → checked q g d w dn ≡ x
    → settle q g m up dn
    ≡ x
unfolding settle
settle_by q g m up dn d w x l e f h = rw (ne_eqb m 0 (λ z. omega arith), e, f) h

pub settle_to : {g : Bool} {m up dn : ℕ} {x : Number} → Finite true g m up dn x → (q : ℕ) → settle q g m up dn ≡ stops (Meaning.number x)
unfolding settle
settle_to (Finite.nought e) q = rw (eq-eqb _ 0 e)
settle_to {g = g} {m = m} {up = up} {dn = dn} (Finite.whole {c = c} {n = n} e p l h) q =
    let f = e ∙ powers c n dn in
    let o = only_one m up c (n + dn) f p in
    settle_by q g m up dn c (n + dn) _ (positive m up c (n + dn) f p) o.0 o.1
    (let k : n + dn - dn ≡ n = omega arith in rw (lt-ltb c coefficient_limit l, le-leb dn (n + dn) (omega arith), k, le-leb n power_limit h))
settle_to {g = g} {m = m} {up = up} {dn = dn} (Finite.part {c = c} {n = n} e p l h) q =
    let f = sym (powers m up (suc n)) ∙ e in
    let o = only_one m (up + suc n) c dn f p in
    settle_by q g m up dn c (dn - suc n) _ (positive m (up + suc n) c dn f p) o.0 (omega (arith, o.1))
    (let i : suc n ≤ dn = omega (arith, o.1) in
    let k : dn - (dn - suc n) ≡ suc n = omega arith in
    let j : suc n - 1 ≡ n = omega arith in
    rw (lt-ltb c coefficient_limit l, lt-leb dn (dn - suc n) (omega arith), k, le-leb (suc n) power_limit h, j))
