-- Single steps of the scanner of a string part: digits, and an escape from its backslash. Assumes nothing.
use mathlib.Core.Path.{◌≡◌, refl, sym, ap, ◌∙◌}
use Prim.Native.Nat.{ℕ, ◌+◌, ◌*◌, ◌≤◌, ◌<◌}
use mathlib.Core.List.{List}
use mathlib.Core.Logic.{◌⊎◌, inl, inr}
use lib.ListN.{length, get_or}
use native.Mathlib.Omega.{arith}
use borrow.Author.Tests.{lt-ltb, le-ltb, ne_eqb}
use Rattle.rules.specs.Rfc3629.{encode}
use Rattle.meaning.specs.declared.Refusal.TheVariants.{NotGrammar}
use Rattle.meaning.specs.Letters.{ch}
use Rattle.machine.specs.Scan.{takes, broke}
use Rattle.machine.specs.Strings.{Ctx, give, body, esc, uni, hex, brace0, brace, hexed, on_hex, on_brace, on_short, on_body, scan, hex_of, short_of}
use Rattle.items.specs.Between.Places.{byte_at, ran_from, Goes, digit_at}
use Rattle.items.proofs.PlacesLaws.{byte_out, late, goes_by, breaks_by, go, halt, like, end}

-- a digit is within
pub digit_in : (s : List ℕ) (p : ℕ) → digit_at s p < 16 → p < length s
unfolding hex_of
digit_in s p h = by (late s p)
  where
    by : (p < length s) ⊎ (length s ≤ p) → p < length s
    by (inl l) = l
    by (inr l) = absurd (let z : 16 < 16 = rw (byte_out s p l) at h in omega arith)

module _ (base : ℕ) (s : List ℕ) where
  module _ (k : Ctx) (a : ℕ) where
    -- a digit
    pub dig : (n v p j w : ℕ) → digit_at s p < 16 → j ≡ p + 1 → w ≡ 16 * v + digit_at s p → Goes scan base s (hex k a n v) p (hexed k a n w) j
    unfolding scan on_hex
    dig n v p j w h e x = goes_by scan base s (hex k a n v) (hexed k a n w) p j (digit_in s p h) e
        (rw (lt-ltb _ _ h) (ap (λ (y : ℕ). takes (hexed k a n y)) (sym x)))

    pub dig0 : (p j w : ℕ) → digit_at s p < 16 → j ≡ p + 1 → w ≡ digit_at s p → Goes scan base s (brace0 k a) p (brace k a w) j
    unfolding scan on_brace
    dig0 p j w h e x = goes_by scan base s (brace0 k a) (brace k a w) p j (digit_in s p h) e
        (rw (lt-ltb _ _ h) (ap (λ (y : ℕ). takes (brace k a y)) (let z : 16 * 0 + digit_at s p ≡ w = omega arith in z)))

    pub dig1 : (v p j w : ℕ) → (byte_at s p ≡ ch "}" → ⊥) → digit_at s p < 16 → j ≡ p + 1 → w ≡ 16 * v + digit_at s p
        → Goes scan base s (brace k a v) p (brace k a w) j
    unfolding scan on_brace
    dig1 v p j w ne h e x = goes_by scan base s (brace k a v) (brace k a w) p j (digit_in s p h) e
        (rw (ne_eqb _ _ ne) (rw (lt-ltb _ _ h) (ap (λ (y : ℕ). takes (brace k a y)) (sym x))))

    -- no digit
    module _ (p : ℕ) (g : 16 ≤ digit_at s p) where
      pub undig : (n v : ℕ) → ran_from scan base s (hex k a n v) p ≡ broke (NotGrammar (base + p))
      unfolding scan on_hex
      undig n v = breaks_by scan base s (hex k a n v) (NotGrammar (base + p)) p (rw (le-ltb _ _ g))

      pub undig0 : ran_from scan base s (brace0 k a) p ≡ broke (NotGrammar (base + p))
      unfolding scan on_brace
      undig0 = breaks_by scan base s (brace0 k a) (NotGrammar (base + p)) p (rw (le-ltb _ _ g))

      pub undig1 : (v : ℕ) → (byte_at s p ≡ ch "}" → ⊥) → ran_from scan base s (brace k a v) p ≡ broke (NotGrammar (base + p))
      unfolding scan on_brace
      undig1 v ne = breaks_by scan base s (brace k a v) (NotGrammar (base + p)) p (rw (ne_eqb _ _ ne) (rw (le-ltb _ _ g)))

  -- from the backslash
  module _ (at : ℕ) (h0 : at < length s) (e0 : get_or s at 0 ≡ ch "\\") (k : Ctx) where
    pub to_esc : Goes scan base s (body k) at (esc k (base + at)) (at + 1)
    unfolding scan on_body
    to_esc = go scan base s (body k) (esc k (base + at)) at (at + 1) h0 refl (rw e0)

    pub esc_end : length s ≤ at + 1 → ran_from scan base s (body k) at ≡ broke (NotGrammar (base + (at + 1)))
    unfolding scan on_short short_of
    esc_end h = to_esc ∙ end scan base s (esc k (base + at)) (NotGrammar (base + (at + 1))) (at + 1) h refl

    module _ (h1 : at + 1 < length s) where
      module _ (ne : get_or s (at + 1) 0 ≡ ch "u" → ⊥) (c : ℕ) (e : c ≡ short_of (get_or s (at + 1) 0)) where
        pub esc_short : c < 256 → Goes scan base s (body k) at (body (give k (encode c))) (at + 1 + 1)
        unfolding scan on_short
        esc_short l = to_esc ∙ go scan base s (esc k (base + at)) (body (give k (encode c))) (at + 1) (at + 1 + 1) h1 refl
            (rw (ne_eqb _ _ ne) (rw (← e) (rw (lt-ltb _ _ l))))

        pub esc_none : 256 ≤ c → ran_from scan base s (body k) at ≡ broke (NotGrammar (base + (at + 1)))
        unfolding scan on_short
        esc_none l = to_esc ∙ halt scan base s (esc k (base + at)) (NotGrammar (base + (at + 1))) (at + 1) h1
            (rw (ne_eqb _ _ ne) (rw (← e) (rw (le-ltb _ _ l))))

      module _ (e1 : get_or s (at + 1) 0 ≡ ch "u") where
        to_uni : Goes scan base s (body k) at (uni k (base + at)) (at + 2)
        unfolding scan
        to_uni = to_esc ∙ go scan base s (esc k (base + at)) (uni k (base + at)) (at + 1) (at + 2) h1 (omega arith) (rw e1)

        pub uni_end : length s ≤ at + 2 → ran_from scan base s (body k) at ≡ broke (NotGrammar (base + (at + 2)))
        unfolding scan on_hex hex_of
        uni_end h = to_uni ∙ end scan base s (uni k (base + at)) (NotGrammar (base + (at + 2))) (at + 2) h refl

        module _ (h2 : at + 2 < length s) where
          pub to_hex : (get_or s (at + 2) 0 ≡ ch "{" → ⊥) → Goes scan base s (body k) at (hex k (base + at) 3 0) (at + 2)
          unfolding scan
          to_hex ne = to_uni ∙ like scan base s (uni k (base + at)) (hex k (base + at) 3 0) (at + 2) h2 (rw (ne_eqb _ _ ne))

          pub to_brace : get_or s (at + 2) 0 ≡ ch "{" → Goes scan base s (body k) at (brace0 k (base + at)) (at + 3)
          unfolding scan
          to_brace e = to_uni ∙ go scan base s (uni k (base + at)) (brace0 k (base + at)) (at + 2) (at + 3) h2 (omega arith) (rw e)
