-- Where a number ends: what the scanner's check makes of a value that an accumulator holds. Assumes nothing.
use Rattle.std.specs.Prelude.{Ok, Err}
use Prim.Native.Nat.{ℕ, zero, suc, ◌+◌, ◌*◌, ◌-◌, ◌≤◌, ◌<◌, ◌%◌, ◌^◌}
use mathlib.Core.Path.{◌≡◌, refl, sym, ◌∙◌, ap, subst}
use mathlib.Core.Bool.{Bool, true, false}
use mathlib.Core.Logic.{◌⊎◌, inl, inr}
use native.Mathlib.Nat.{zero-mul}
use native.Mathlib.Omega.{arith}
use lib.IntN.{ℤ, pos, negsuc, neg_ℤ}
use lib.Signed.{mag}
use mir.Syntax.{Width}
use mir.Val.{hbits, SFits, of_z, to_z}
use mir.ValLaws.{to_z-of_z}
use borrow.Author.Tests.{lt-ltb, le-ltb, le-leb, lt-leb, ne_eqb}
use Rattle.meaning.specs.declared.Number.TheVariants.{Finite}
use Rattle.meaning.specs.declared.Refusal.TheVariants.{BadNumber}
use Rattle.meaning.specs.Limits.{text_limit, coefficient_limit, power_limit}
use Rattle.grammar.specs.Numbers as G
use Rattle.grammar.specs.Times.{signed}
use Rattle.machine.specs.Scan.{breaks}
use Rattle.machine.specs.Numeric.{Res, settle, strip, ranged, checked, finite}
use Rattle.machine.proofs.Numeric.Value.{settle_to, only_one, positive, powers}
use Rattle.items.specs.Between.NumberOrTime.{Scanned, taken, Means, Tells, Held, Holds, Capped, Settles}
use Rattle.items.specs.declared.number.Acc.{Acc}
use Rattle.items.specs.declared.Item.TheVariants as Item

-- ---- negation: -z, which the machine has as 0 - z

neg_mag : (z : ℤ) → mag (neg_ℤ z) ≤ suc (mag z)
neg_mag (pos zero) = omega arith
neg_mag (pos (suc n)) = omega arith
neg_mag (negsuc n) = omega arith

module _ (w : Width) (z : ℤ) (f : suc (mag z) < 2 ^ hbits w) where
  fits_z : SFits w z
  fits_z = record { sfits = omega arith }

  pub fits_neg : SFits w (neg_ℤ z)
  fits_neg = record { sfits = omega (arith, neg_mag z) }

neg_suc : (n : ℕ) → 0 < n → neg_ℤ (pos n) ≡ negsuc (n - 1)
neg_suc zero h = absurd (omega arith)
neg_suc (suc n) h = ap negsuc (omega arith)

-- a signed number that was stored and read back
pub back : (w : Width) (z : ℤ) (b : Bool) (n : ℕ) → suc n < 2 ^ hbits w → z ≡ signed b n → to_z w (of_z w z) ≡ signed b n
back w z false n h e = ap (λ (y : ℤ). to_z w (of_z w y)) e ∙ to_z-of_z w (pos n) (record { sfits = omega arith })
back w z true n h e = ap (λ (y : ℤ). to_z w (of_z w y)) e ∙ to_z-of_z w (neg_ℤ (pos n)) (fits_neg w (pos n) h)

-- ---- the check

module _ (q : ℕ) (g : Bool) (m up dn : ℕ) where
  by_parts : (d w : ℕ) (x : Res) → 0 < m → (strip m m 0).0 ≡ d → (strip m m 0).1 + up ≡ w → checked q g d w dn ≡ x → settle q g m up dn ≡ x
  unfolding settle
  by_parts d w x l e f h = rw (ne_eqb m 0 (λ z. omega arith), e, f) h

  by : (d z : ℕ) (x : Res) → m ≡ d * 10 ^ z → (d % 10 ≡ 0 → ⊥) → checked q g d (z + up) dn ≡ x → settle q g m up dn ≡ x
  by d z x e n h =
      let f = ap (λ (y : ℕ). y * 10 ^ up) e ∙ powers d z up in
      let o = only_one m up d (z + up) f n in
      by_parts d (z + up) x (positive m up d (z + up) f n) o.0 o.1 h

  pub of_none : (c z : ℕ) → c ≡ 0 → Held m c false z → settle q g m up dn ≡ finite g 0 (pos 0)
  of_none c z e h = settle_to (G.Finite.nought (h.0 ∙ ap (λ (y : ℕ). y * 10 ^ z) e ∙ zero-mul (10 ^ z))) q

  pub of_over : (c z : ℕ) → Held m c true z → settle q g m up dn ≡ breaks (BadNumber q)
  of_over c z h = by h.0 z _ h.1 h.3 (rw (le-ltb h.0 coefficient_limit h.2))

  pub of_fits : (c z : ℕ) → (c ≡ 0 → ⊥) → c < coefficient_limit → Held m c false z → settle q g m up dn ≡ ranged q g c (z + up) dn
  of_fits c z n l h = go h.1
    where
      go : (c ≡ 0) ⊎ (c % 10 ≡ 0 → ⊥) → settle q g m up dn ≡ ranged q g c (z + up) dn
      go (inl e) = absurd (n e)
      go (inr k) = by c z _ h.0 k (rw (lt-ltb c coefficient_limit l))

module _ (q : ℕ) (g : Bool) (c u dn : ℕ) where
  pub in_up : dn ≤ u → u - dn ≤ power_limit → ranged q g c u dn ≡ finite g c (pos (u - dn))
  in_up h k = rw (le-leb dn u h, le-leb (u - dn) power_limit k)

  pub out_up : dn ≤ u → power_limit < u - dn → ranged q g c u dn ≡ breaks (BadNumber q)
  out_up h k = rw (le-leb dn u h, lt-leb (u - dn) power_limit k)

  pub in_dn : u < dn → dn - u ≤ power_limit → ranged q g c u dn ≡ finite g c (negsuc (dn - u - 1))
  in_dn h k = rw (lt-leb dn u h, le-leb (dn - u) power_limit k)

  pub out_dn : u < dn → power_limit < dn - u → ranged q g c u dn ≡ breaks (BadNumber q)
  out_dn h k = rw (lt-leb dn u h, lt-leb (dn - u) power_limit k)

-- ---- what `settle` answers

module _ (q : ℕ) (g : Bool) (a : Acc) (up dn at : ℕ) where
  refuses : ((m : ℕ) → Holds m a → settle q g m up dn ≡ breaks (BadNumber q)) → Settles q g a up dn at (Err (BadNumber q))
  refuses f = record { closes = λ m k. rw (f m k) (record { tells = Tells.refused }) }

  gives : (c : ℕ) (p p' : ℤ) (r : Scanned) → r ≡ Ok (taken (Item.Number (Finite g c p')) at) → p' ≡ p
      → ((m : ℕ) → Holds m a → settle q g m up dn ≡ finite g c p)
      → Settles q g a up dn at r
  gives c p p' r i e f = record { closes = λ m k. rw (f m k, i, e) (record { tells = Tells.item Means.number }) }

  pub settles_over : a.over ≡ true → Settles q g a up dn at (Err (BadNumber q))
  settles_over e = refuses (λ m k. of_over q g m up dn a.c a.z (subst (λ (x : Bool). Held m a.c x a.z) e k))

  module _ (e : a.over ≡ false) where
    held : (m : ℕ) → Holds m a → Held m a.c false a.z
    held m k = subst (λ (x : Bool). Held m a.c x a.z) e k

    pub settles_none : a.c ≡ 0 → (r : Scanned) → r ≡ Ok (taken (Item.Number (Finite g 0 (pos 0))) at) → Settles q g a up dn at r
    settles_none n r i = gives 0 (pos 0) (pos 0) r i refl (λ m k. of_none q g m up dn a.c a.z n (held m k))

    module _ (n : a.c ≡ 0 → ⊥) (l : a.c < coefficient_limit) where
      fits : (o : Res) → ranged q g a.c (a.z + up) dn ≡ o → (m : ℕ) → Holds m a → settle q g m up dn ≡ o
      fits o h m k = of_fits q g m up dn a.c a.z n l (held m k) ∙ h

      pub settles_up : (r : Scanned) (p : ℤ) → r ≡ Ok (taken (Item.Number (Finite g a.c p)) at) → dn ≤ a.z + up → a.z + up - dn ≤ power_limit → p
          ≡ pos (a.z + up - dn) → Settles q g a up dn at r
      settles_up r p i h k f = gives a.c (pos (a.z + up - dn)) p r i f (fits _ (in_up q g a.c (a.z + up) dn h k))

      pub settles_high : dn ≤ a.z + up → power_limit < a.z + up - dn → Settles q g a up dn at (Err (BadNumber q))
      settles_high h k = refuses (fits _ (out_up q g a.c (a.z + up) dn h k))

      pub settles_dn : (r : Scanned) (p : ℤ) → r ≡ Ok (taken (Item.Number (Finite g a.c p)) at) → a.z + up < dn → dn - (a.z + up) ≤ power_limit → p
          ≡ neg_ℤ (pos (dn - (a.z + up))) → Settles q g a up dn at r
      settles_dn r p i h k f = gives a.c (negsuc (dn - (a.z + up) - 1)) p r i (f ∙ neg_suc (dn - (a.z + up)) (omega arith))
          (fits _ (in_dn q g a.c (a.z + up) dn h k))

      pub settles_low : a.z + up < dn → power_limit < dn - (a.z + up) → Settles q g a up dn at (Err (BadNumber q))
      settles_low h k = refuses (fits _ (out_dn q g a.c (a.z + up) dn h k))

-- ---- exponents that are too large anyway

module _ (q : ℕ) (g : Bool) (m c z : ℕ) (l : c < coefficient_limit) (small : z ≤ text_limit) where
  far_up : (o : Bool) (e w dn : ℕ) → Held m c o z → 1000000000 ≤ e → 1000000000 ≤ w → dn ≤ text_limit → settle q g m e dn ≡ settle q g m w dn
  far_up true e w dn h i j k = of_over q g m e dn c z h ∙ sym (of_over q g m w dn c z h)
  far_up false e w dn h i j k = go h.1
    where
      go : (c ≡ 0) ⊎ (c % 10 ≡ 0 → ⊥) → settle q g m e dn ≡ settle q g m w dn
      go (inl n) = of_none q g m e dn c z n h ∙ sym (of_none q g m w dn c z n h)
      go (inr n) = let y : (c ≡ 0 → ⊥) = λ x. n (omega arith) in
          of_fits q g m e dn c z y l h ∙ out_up q g c (z + e) dn (omega arith) (omega arith) ∙ sym (out_up q g c (z + w) dn (omega arith) (omega arith))
          ∙ sym (of_fits q g m w dn c z y l h)

  far_dn : (o : Bool) (e w : ℕ) → Held m c o z → 1000000000 ≤ e → 1000000000 ≤ w → settle q g m 0 e ≡ settle q g m 0 w
  far_dn true e w h i j = of_over q g m 0 e c z h ∙ sym (of_over q g m 0 w c z h)
  far_dn false e w h i j = go h.1
    where
      go : (c ≡ 0) ⊎ (c % 10 ≡ 0 → ⊥) → settle q g m 0 e ≡ settle q g m 0 w
      go (inl n) = of_none q g m 0 e c z n h ∙ sym (of_none q g m 0 w c z n h)
      go (inr n) = let y : (c ≡ 0 → ⊥) = λ x. n (omega arith) in
          of_fits q g m 0 e c z y l h ∙ out_dn q g c (z + 0) e (omega arith) (omega arith) ∙ sym (out_dn q g c (z + 0) w (omega arith) (omega arith))
          ∙ sym (of_fits q g m 0 w c z y l h)

  pub capped_up : (o : Bool) (e w f : ℕ) → Held m c o z → Capped w e → f ≤ text_limit → settle q g m w f ≡ settle q g m e f
  capped_up o e w f h (inl k) i = ap (λ (x : ℕ). settle q g m x f) (sym k)
  capped_up o e w f h (inr k) i = far_up o w e f h k.1 k.0 i

  pub capped_dn : (o : Bool) (e w f : ℕ) → Held m c o z → Capped w e → settle q g m 0 (f + w) ≡ settle q g m 0 (f + e)
  capped_dn o e w f h (inl k) = ap (λ (x : ℕ). settle q g m 0 (f + x)) (sym k)
  capped_dn o e w f h (inr k) = far_dn o (f + w) (f + e) h (omega arith) (omega arith)
