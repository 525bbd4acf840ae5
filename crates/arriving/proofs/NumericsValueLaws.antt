-- What the check keeps of a number's value: its digits as a coefficient and zeros, its exponent, its hexadecimal digits. Assumes nothing.
use Prim.Native.Nat.{ℕ, ◌+◌, ◌*◌, ◌-◌, ◌≤◌, ◌<◌, ◌^◌}
use mathlib.Core.Path.{◌≡◌, refl, sym, ◌∙◌, ap, subst}
use mathlib.Core.Bool.{Bool, true, false, cond}
use mathlib.Core.Logic.{inl, inr}
use native.Mathlib.Nat.{mul-one}
use native.Mathlib.Omega.{arith}
use native.Mathlib.Decide.{dec_lt, ℕ_discrete}
use lib.Dec.{eqb, ltb}
use borrow.Author.Tests.{ltb-true, ltb-false, eqb-true, eqb-false}
use Rattle.meaning.specs.Letters.{ch}
use Rattle.meaning.specs.Limits.{coefficient_limit}
use Rattle.meaning.specs.Meaning.{Meaning}
use Rattle.meaning.specs.declared.Number.{Number}
use Rattle.grammar.specs.Numbers as G
use Rattle.grammar.specs.Characters.{Hexdig}
use Rattle.machine.specs.Scan.{stops}
use Rattle.machine.specs.Numeric.{dig, strip, settle}
use Rattle.machine.proofs.Numeric.Value.{strip_is, settle_to}
use Rattle.items.specs.declared.number.Acc.{Acc}
use Rattle.items.specs.Between.NumberOrTime.{IsDigit, Held, Holds, Capped, Kept, acc_of, pushed, raised_by}
use Rattle.items.proofs.NumberDigitLaws.{tenfold, grows, few_zeros, held_zero, held_big}
use Rattle.items.proofs.NumberDigitLaws.{capped_low, capped_high, raised_low, raised_high}
use Rattle.arriving.specs.Between.Figures.{no_digits, sixteenth}

-- ---- decimal digits

-- the accumulator holds the value m, and its coefficient is one
pub record Sums (m : ℕ) (a : Acc) : Type 0 where
  pub holds : Holds m a
  pub small : a.c < coefficient_limit

pub no_sum : Sums 0 no_digits
no_sum = record { holds = (refl, inl refl); small = omega arith }

-- another digit than 0, after a coefficient c
more : (m c z b : ℕ) → IsDigit b → (b ≡ ch "0" → ⊥) → Held m c false z → (x : Bool) → ltb (c * 10 ^ (z + 1) + (b - ch "0")) coefficient_limit ≡ x
    → Sums (dig m b) (cond x (acc_of (c * 10 ^ (z + 1) + (b - ch "0")) false 0) (acc_of 0 true 0))
more m c z b i n h true e =
    let v = c * 10 ^ (z + 1) + (b - ch "0") in
    let f : v ≡ dig m b = omega (arith, tenfold c z, h.0) in
    record { holds = (sym f ∙ sym (mul-one v), inr (λ k. n (omega (arith, i.low, i.high)))); small = ltb-true v coefficient_limit e }
more m c z b i n h false e =
    let v = c * 10 ^ (z + 1) + (b - ch "0") in
    let f : v ≡ dig m b = omega (arith, tenfold c z, h.0) in
    let l = ltb-false v coefficient_limit e in
    record { holds = (dig m b, sym (mul-one (dig m b)), omega arith, λ k. n (omega (arith, i.low, i.high))); small = omega arith }

pub pushed_sums : (m b : ℕ) (a : Acc) → IsDigit b → Sums m a → Sums (dig m b) (pushed a b)
unfolding pushed
pushed_sums m b a i s = go (eqb b (ch "0")) refl a.over s.holds
  where
    go : (x : Bool) → eqb b (ch "0") ≡ x → (o : Bool) → Held m a.c o a.z → Sums (dig m b) (cond x (acc_of a.c o (a.z + 1))
        (cond o (acc_of 0 true 0) (cond (ltb (a.c * 10 ^ (a.z + 1) + (b - ch "0")) coefficient_limit)
        (acc_of (a.c * 10 ^ (a.z + 1) + (b - ch "0")) false 0) (acc_of 0 true 0))))
    go true e o h = record { holds = held_zero m a.c o a.z b (eqb-true b (ch "0") e) h; small = s.small }
    go false e true h = record {
      holds = held_big m a.c a.z b i.low i.high (eqb-false b (ch "0") e) true refl h;
      small = omega arith;
    }
    go false e false h = more m a.c a.z b i (eqb-false b (ch "0") e) h (ltb (a.c * 10 ^ (a.z + 1) + (b - ch "0")) coefficient_limit) refl

-- ---- an exponent

pub first_capped : (b : ℕ) → Capped (dig 0 b) (b - ch "0")
first_capped b = inl (omega arith)

pub raised_capped : (w e b : ℕ) → IsDigit b → Capped w e → Capped (dig w b) (raised_by e b)
raised_capped w e b i h = by (dec_lt e 1000000000)
  where
    by : Dec (e < 1000000000) → Capped (dig w b) (raised_by e b)
    by (Dec.yes l) = subst (λ (x : ℕ). Capped (dig w b) x) (raised_low e b l) (capped_low w e b i.low l h)
    by (Dec.no l) = subst (λ (x : ℕ). Capped (dig w b) x) (raised_high e b (omega arith)) (capped_high w e b (omega arith) h)

-- ---- hexadecimal digits

-- the value w is kept as v, or is too large, and v then stays
pub record Sixteens (w v : ℕ) (o : Bool) : Type 0 where
  pub kept : Kept w v o
  pub small : v < coefficient_limit
  pub large : o ≡ true → sixteenth < v

-- a digit's value
pub hex_small : {b x : ℕ} → Hexdig b x → x < 16
hex_small (Hexdig.decimal i) = omega arith
hex_small (Hexdig.upper i) = omega arith
hex_small (Hexdig.lower i) = omega arith

pub first_sixteen : (x : ℕ) → x < 16 → Sixteens (16 * 0 + x) x false
first_sixteen x l = record { kept = omega arith; small = omega arith; large = λ e. let z : ◌≡◌ {A = ℕ} 0 1 = cc in absurd (omega arith) }

pub sixteen_more : (w v : ℕ) (o : Bool) (x : ℕ) → x < 16 → v ≤ sixteenth → Sixteens w v o → Sixteens (16 * w + x) (16 * v + x) o
sixteen_more w v false x l h s = record {
  kept = ap (λ (y : ℕ). 16 * y + x) s.kept;
  small = omega arith;
  large = λ e. let z : ◌≡◌ {A = ℕ} 0 1 = cc in absurd (omega arith);
}
sixteen_more w v true x l h s = absurd (omega (arith, s.large refl))

pub sixteen_over : (w v : ℕ) (o : Bool) (x : ℕ) → sixteenth < v → Sixteens w v o → Sixteens (16 * w + x) v true
sixteen_over w v o x h s = record { kept = go o s.kept; small = s.small; large = λ e. h }
  where
    go : (o : Bool) → Kept w v o → coefficient_limit ≤ 16 * w + x
    go true e = omega arith
    go false e = omega arith

-- a value that is itself a coefficient is a number
pub small_settles : (q : ℕ) (g : Bool) (w : ℕ) → w < coefficient_limit → (n : Number) × (settle q g w 0 0 ≡ stops (Meaning.number n))
small_settles q g w l = by (ℕ_discrete w 0)
  where
    by : Dec (w ≡ 0) → (n : Number) × (settle q g w 0 0 ≡ stops (Meaning.number n))
    by (Dec.yes e) = (_, settle_to (G.Finite.nought e) q)
    by (Dec.no e) =
        let k : 0 < w = omega arith in
        let r = strip_is w w 0 k (omega arith) in
        let c = (strip w w 0).0 in
        let z = (strip w w 0).1 in
        let f : w ≡ c * 10 ^ z = sym (mul-one w) ∙ r.0 in
        let p : (c ≡ 0 → ⊥) = λ y. r.1 (omega arith) in
        let s : z < 20 = few_zeros w c z l (omega arith) f in
        (_, settle_to (G.Finite.whole (r.0 ∙ sym (mul-one (c * 10 ^ z))) r.1 (omega (arith, grows c 0 z (omega arith), mul-one c)) (omega arith)) q)
