-- What the loops over digits keep: a coefficient with its zeros, and an exponent that stops at a thousand million. Assumes nothing.
use Rattle.std.specs.Prelude.{Some, None}
use Prim.Native.Nat.{ℕ, suc, ◌+◌, ◌*◌, ◌-◌, ◌≤◌, ◌<◌, ◌/◌, ◌%◌, ◌^◌}
use mathlib.Core.Path.{◌≡◌, refl, sym, ◌∙◌, ap, subst}
use mathlib.Core.Bool.{Bool, true, false}
use mathlib.Core.Logic.{inl, inr}
use mathlib.Core.List.{List}
use lib.Dec.{leb}
use borrow.Author.Tests.{leb-true, leb-false, lt-ltb, le-ltb, eq-eqb, ne_eqb}
use native.Mathlib.Nat.{mul-le-mul_right, div-add-mod', mul-one, pow-suc, mul_assoc, mul-le-mul_left, pow-le-pow_right, zero-mul}
use native.Mathlib.Numerals.{add-one}
use native.Mathlib.Omega.{arith}
use lib.ListN.{length, get_or}
use Rattle.meaning.specs.Letters.{ch}
use Rattle.meaning.specs.Limits.{coefficient_limit}
use Rattle.machine.specs.Numeric.{dig}
use Rattle.items.specs.Between.NumberOrTime.{Held, Holds, Shifted, Span, Capped, acc_of, pushed, raised_by}
use Rattle.items.specs.declared.number.Acc.{Acc}

pub tenfold : (c z : ℕ) → c * 10 ^ (z + 1) ≡ c * 10 ^ z * 10
tenfold c z = ap (λ (x : ℕ). c * 10 ^ x) (add-one z) ∙ ap (λ (x : ℕ). c * x) (pow-suc 10 z) ∙ sym (mul_assoc c (10 ^ z) 10)

pub grows : (c i k : ℕ) → i ≤ k → c * 10 ^ i ≤ c * 10 ^ k
grows c i k h = mul-le-mul_left c (pow-le-pow_right {n = 10} (omega arith) h)

pub none_shifted : (c k : ℕ) → c ≡ 0 → Shifted (c * 10 ^ k) (Some 0)
none_shifted c k e = let f : c * 10 ^ k ≡ 0 = ap (λ (x : ℕ). x * 10 ^ k) e ∙ zero-mul (10 ^ k) in
    subst (λ (x : ℕ). Shifted x (Some 0)) (sym f) (Shifted.fits (omega arith))

pub over_shifted : (c k i v : ℕ) → i < k → v ≡ c * 10 ^ i → (v * 10 < 2 ^ 64 → ⊥) → Shifted (c * 10 ^ k) None
over_shifted c k i v l e h = Shifted.over (omega (arith, h, grows c (i + 1) k (omega arith), tenfold c i))

pub all_shifted : (c k i v : ℕ) → i ≡ k → v ≡ c * 10 ^ i → v < 2 ^ 64 → Shifted (c * 10 ^ k) (Some v)
all_shifted c k i v q e h = let f : v ≡ c * 10 ^ k = e ∙ ap (λ (x : ℕ). c * 10 ^ x) q in subst (λ (x : ℕ). Shifted x (Some v)) f (Shifted.fits h)

shifted_is : {x v : ℕ} → Shifted x (Some v) → v ≡ x
shifted_is (Shifted.fits h) = refl

shifted_large : {x : ℕ} → Shifted x None → coefficient_limit ≤ x
shifted_large (Shifted.over h) = h

-- ---- one more digit

pub held_zero : (m c : ℕ) (o : Bool) (z b : ℕ) → b ≡ ch "0" → Held m c o z → Held (dig m b) c o (z + 1)
held_zero m c false z b e h = (omega (arith, tenfold c z), h.1)
held_zero m c true z b e h = (h.0, omega (arith, tenfold h.0 z), h.2, h.3)

module _ (m c z b : ℕ) (l : ch "0" ≤ b) (u : b ≤ ch "9") (n : b ≡ ch "0" → ⊥) where
  big : coefficient_limit ≤ dig m b → (o : Bool) → Held (dig m b) 0 true 0
  big k o = (dig m b, sym (mul-one (dig m b)), k, λ e. n (omega arith))

  pub held_big : (o : Bool) → o ≡ true → Held m c o z → Held (dig m b) 0 true 0
  held_big true e h = big (omega (arith, grows h.0 0 z (omega arith), mul-one h.0)) true
  held_big false e h = let y : ◌≡◌ {A = ℕ} 0 1 = cc in absurd (omega arith)

  module _ (o : Bool) (f : o ≡ false) (h : Held m c o z) where
    ten : c * 10 ^ (z + 1) ≡ 10 * m
    ten = let g : Held m c false z = subst (λ (x : Bool). Held m c x z) f h in omega (arith, tenfold c z)

    pub held_over : Shifted (c * 10 ^ (z + 1)) None → Held (dig m b) 0 true 0
    held_over s = big (omega (arith, ten, shifted_large s)) true

    pub held_past : (v : ℕ) → Shifted (c * 10 ^ (z + 1)) (Some v) → 18446744073709551615 - (b - ch "0") < v → Held (dig m b) 0 true 0
    held_past v s k = big (omega (arith, ten, shifted_is s)) true

    pub held_fits : (v : ℕ) → Shifted (c * 10 ^ (z + 1)) (Some v) → Held (dig m b) (v + (b - ch "0")) false 0
    held_fits v s = (omega (arith, mul-one (v + (b - ch "0")), ten, shifted_is s), inr (λ q. n (omega (arith, ten, shifted_is s))))

-- ---- the accumulator after one more digit

module _ (a : Acc) (b : ℕ) where
  pub pushed_zero : b ≡ ch "0" → acc_of a.c a.over (a.z + 1) ≡ pushed a b
  unfolding pushed
  pushed_zero e = rw (eq-eqb b (ch "0") e)

  module _ (n : b ≡ ch "0" → ⊥) where
    pub pushed_large : a.over ≡ true → acc_of 0 true 0 ≡ pushed a b
    unfolding pushed
    pushed_large o = rw (ne_eqb b (ch "0") n, o)

    module _ (o : a.over ≡ false) where
      past : coefficient_limit ≤ a.c * 10 ^ (a.z + 1) + (b - ch "0") → acc_of 0 true 0 ≡ pushed a b
      unfolding pushed
      past h = rw (ne_eqb b (ch "0") n, o, le-ltb _ _ h)

      fit : a.c * 10 ^ (a.z + 1) + (b - ch "0") < coefficient_limit → acc_of (a.c * 10 ^ (a.z + 1) + (b - ch "0")) false 0 ≡ pushed a b
      unfolding pushed
      fit h = rw (ne_eqb b (ch "0") n, o, lt-ltb _ _ h)

      pub pushed_over : Shifted (a.c * 10 ^ (a.z + 1)) None → acc_of 0 true 0 ≡ pushed a b
      pushed_over s = past (omega (arith, shifted_large s))

      pub pushed_past : (v : ℕ) → Shifted (a.c * 10 ^ (a.z + 1)) (Some v) → ch "0" ≤ b → b ≤ ch "9" → 18446744073709551615 - (b - ch "0") < v
          → acc_of 0 true 0 ≡ pushed a b
      pushed_past v s l u k = past (omega (arith, shifted_is s))

      pub pushed_fits : (v : ℕ) → Shifted (a.c * 10 ^ (a.z + 1)) (Some v) → ch "0" ≤ b → b ≤ ch "9" → v ≤ 18446744073709551615 - (b - ch "0")
          → acc_of (v + (b - ch "0")) false 0 ≡ pushed a b
      pushed_fits v s l u k =
          let f = shifted_is s in
          ap (λ (x : ℕ). acc_of (x + (b - ch "0")) false 0) f ∙ fit (omega (arith, f))

-- ---- digits

pub span_next : (s : List ℕ) (i m j w b : ℕ) → b ≡ get_or s j 0 → Span s i m j w → j < length s → ch "0" ≤ b → b ≤ ch "9" → Span s i m (j + 1) (dig w b)
span_next s i m j w b e h k l u = subst (λ (x : ℕ). Span s i m x (dig w b)) (sym (add-one j))
    (subst (λ (x : ℕ). Span s i m (suc j) (dig w x)) (sym e) (Span.next h k (omega arith)))

abbrev pub Loop : List ℕ → ℕ → Acc → Acc → ℕ → Type 0
Loop s from a x i = (m : ℕ) → Holds m a → (w : ℕ) × Span s from m i w × Holds w x

pub loop_next : (s : List ℕ) (from : ℕ) (a x y : Acc) (i b : ℕ) → b ≡ get_or s i 0 → Loop s from a x i → i < length s → ch "0" ≤ b → b ≤ ch "9"
    → ((m : ℕ) → Holds m x → Holds (dig m b) y) → Loop s from a y (i + 1)
loop_next s from a x y i b e h k l u f = λ m q. let r = h m q in (dig r.0 b, span_next s from m i r.0 b e r.1 k l u, f r.0 r.2)

-- ---- an exponent's digits

pub capped_low : (w e b : ℕ) → ch "0" ≤ b → e < 1000000000 → Capped w e → Capped (dig w b) (e * 10 + (b - ch "0"))
capped_low w e b l h (inl q) = inl (omega arith)
capped_low w e b l h (inr q) = absurd (omega arith)

pub capped_high : (w e b : ℕ) → 1000000000 ≤ e → Capped w e → Capped (dig w b) e
capped_high w e b h (inl q) = inr (h, omega arith)
capped_high w e b h (inr q) = inr (h, omega arith)

pub raised_low : (e b : ℕ) → e < 1000000000 → e * 10 + (b - ch "0") ≡ raised_by e b
unfolding raised_by
raised_low e b h = rw (lt-ltb e 1000000000 h) (omega arith)

pub raised_high : (e b : ℕ) → 1000000000 ≤ e → e ≡ raised_by e b
unfolding raised_by
raised_high e b h = rw (le-ltb e 1000000000 h)

abbrev pub Rises : List ℕ → ℕ → ℕ → ℕ → Type 0
Rises s from e i = (w : ℕ) × Span s from 0 i w × Capped w e

pub rises_next : (s : List ℕ) (from e d i b : ℕ) → b ≡ get_or s i 0 → Rises s from e i → i < length s → ch "0" ≤ b → b ≤ ch "9"
    → ((w : ℕ) → Capped w e → Capped (dig w b) d) → Rises s from d (i + 1)
rises_next s from e d i b q h k l u f = (dig h.0 b, span_next s from 0 i h.0 b q h.1 k l u, f h.0 h.2)

-- ---- zeros at the end

pub fewer : (v c z : ℕ) → 0 < c → c % 10 ≡ 0 → v ≡ c * 10 ^ z → v ≡ c / 10 * 10 ^ (z + 1)
fewer v c z h e f =
    let d : c ≡ c / 10 * 10 = omega (arith, div-add-mod' c 10) in
    f ∙ ap (λ (x : ℕ). x * 10 ^ z) d ∙ mul_assoc (c / 10) 10 (10 ^ z) ∙ ap (λ (x : ℕ). c / 10 * x)
    (omega (arith, pow-suc 10 z, ap (λ (x : ℕ). 10 ^ x) (add-one z)))

pub few_zeros : (v c z : ℕ) → v < 2 ^ 64 → 0 < c → v ≡ c * 10 ^ z → z < 20
few_zeros v c z l h e = go (leb 20 z) refl
  where
    go : (x : Bool) → leb 20 z ≡ x → z < 20
    go true k = absurd (omega (arith, pow-le-pow_right {n = 10} (omega arith) (leb-true 20 z k), mul-le-mul_right (10 ^ z) h))
    go false k = leb-false 20 z k
