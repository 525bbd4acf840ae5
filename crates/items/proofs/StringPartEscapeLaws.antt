-- What one escape comes to: short, of four digits, in braces. Assumes nothing.
use mathlib.Core.Path.{◌≡◌, refl, sym, ap, ◌∙◌}
use Prim.Native.Nat.{ℕ, ◌+◌, ◌*◌, ◌≤◌, ◌<◌}
use mathlib.Core.List.{List}
use lib.ListN.{length, get_or}
use native.Mathlib.Omega.{arith}
use native.Mathlib.Decide.{dec_le}
use borrow.Author.Tests.{lt-ltb, le-ltb, le-leb, lt-leb}
use Rattle.rules.specs.Rfc3629.{encode}
use Rattle.rules.proofs.Numbers.{row_1, row_2, row_3, row_4}
use Rattle.meaning.specs.declared.Refusal.TheVariants.{NotGrammar}
use Rattle.meaning.specs.Letters.{ch}
use Rattle.machine.specs.Strings.{Ctx, give, blame, body, hex, brace0, brace, in_braces, hexed, on_brace, scan, hex_of, short_of}
use Rattle.items.specs.Between.Places.{byte_at, Goes, digit_at}
use Rattle.items.specs.Between.StringPart.{Halved, Coded, Spoilt, Broken, Like, same, both, Grown}
use Rattle.items.proofs.PlacesLaws.{byte_in, go, moves, end}
use Rattle.items.proofs.StringPartStepLaws.{digit_in, dig, dig0, dig1, undig, undig0, undig1, esc_end, esc_short, esc_none, uni_end, to_hex, to_brace}

-- a character is at most four bytes long; two below U+0800
pub encode_four : (c : ℕ) → length (encode c) ≤ 4
encode_four c = by (dec_le c 0x7F) (dec_le c 0x7FF) (dec_le c 0xFFFF)
  where
    by : Dec (c ≤ 0x7F) → Dec (c ≤ 0x7FF) → Dec (c ≤ 0xFFFF) → length (encode c) ≤ 4
    by (yes x) y z = rw (row_1 c x) (omega arith)
    by (no x) (yes y) z = rw (row_2 c (omega arith) y) (omega arith)
    by (no x) (no y) (yes z) = rw (row_3 c (omega arith) z) (omega arith)
    by (no x) (no y) (no z) = rw (row_4 c (omega arith)) (omega arith)

encode_two : (c : ℕ) → c < 0x800 → length (encode c) ≤ 2
encode_two c h = by (dec_le c 0x7F)
  where
    by : Dec (c ≤ 0x7F) → length (encode c) ≤ 2
    by (yes x) = rw (row_1 c x) (omega arith)
    by (no x) = rw (row_2 c (omega arith) (omega arith)) (omega arith)

-- ---- short escapes

module _ (s : List ℕ) (at : ℕ) (h0 : at < length s) (e0 : get_or s at 0 ≡ ch "\\") where
  pub nothing_after : length s ≤ at + 1 → Broken s at (at + 1)
  nothing_after h = record { ends = λ base k. esc_end base s at h0 e0 k h; within = omega arith }

  module _ (h1 : at + 1 < length s) where
    module _ (ne : get_or s (at + 1) 0 ≡ ch "u" → ⊥) (c : ℕ) (e : c ≡ short_of (get_or s (at + 1) 0)) where
      pub short_says : c < 256 → Coded s at (at + 1 + 1) c
      short_says l = record {
        goes = λ base k. esc_short base s at h0 e0 k h1 ne c e l;
        room = omega (arith, encode_two c (omega arith));
        past = omega arith;
        within = omega arith;
        small = omega arith;
      }

      pub no_short_lem : 256 ≤ c → Broken s at (at + 1)
      no_short_lem l = record { ends = λ base k. esc_none base s at h0 e0 k h1 ne c e l; within = omega arith }

    pub nothing_unicode : get_or s (at + 1) 0 ≡ ch "u" → length s ≤ at + 2 → Broken s at (at + 2)
    nothing_unicode e1 h = record { ends = λ base k. uni_end base s at h0 e0 k h1 e1 h; within = omega arith }

-- ---- four digits

module _ (s : List ℕ) (at : ℕ) (pre : (at + 2 < length s) × (get_or s at 0 ≡ ch "\\") × (get_or s (at + 1) 0 ≡ ch "u") × (get_or s (at + 2) 0 ≡ ch "{" → ⊥))
  where
    to0 : (base : ℕ) (k : Ctx) → Goes scan base s (body k) at (hex k (base + at) 3 0) (at + 2)
    to0 base k = to_hex base s at (omega (arith, pre.0)) pre.1 k (omega (arith, pre.0)) pre.2 pre.0 pre.3

    module _ (a : ℕ) (ea : a ≡ digit_at s (at + 2)) where
      pub four0 : 16 ≤ a → Broken s at (at + 2)
      four0 g = record { ends = λ base k. to0 base k ∙ undig base s k (base + at) (at + 2) (omega arith) 3 0; within = omega (arith, pre.0) }

      module _ (la : a < 16) where
        to1 : (base : ℕ) (k : Ctx) → Goes scan base s (body k) at (hex k (base + at) 2 a) (at + 3)
        unfolding hexed
        to1 base k = to0 base k ∙ dig base s k (base + at) 3 0 (at + 2) (at + 3) a (omega arith) (omega arith) (omega arith)

        module _ (b : ℕ) (eb : b ≡ digit_at s (at + 3)) where
          pub four1 : 16 ≤ b → Broken s at (at + 3)
          four1 g = record { ends = λ base k. to1 base k ∙ undig base s k (base + at) (at + 3) (omega arith) 2 a; within = omega (arith, pre.0) }

          module _ (lb : b < 16) where
            to2 : (base : ℕ) (k : Ctx) → Goes scan base s (body k) at (hex k (base + at) 1 (16 * a + b)) (at + 4)
            unfolding hexed
            to2 base k = to1 base k ∙ dig base s k (base + at) 2 a (at + 3) (at + 4) (16 * a + b) (omega arith) (omega arith) (omega arith)

            module _ (c : ℕ) (ec : c ≡ digit_at s (at + 4)) where
              pub four2 : 16 ≤ c → Broken s at (at + 4)
              four2 g = record {
                ends = λ base k. to2 base k ∙ undig base s k (base + at) (at + 4) (omega arith) 1 (16 * a + b);
                within = omega (arith, digit_in s (at + 3) (omega arith));
              }

              module _ (lc : c < 16) where
                to3 : (base : ℕ) (k : Ctx) → Goes scan base s (body k) at (hex k (base + at) 0 (16 * (16 * a + b) + c)) (at + 5)
                unfolding hexed
                to3 base k = to2 base k ∙ dig base s k (base + at) 1 (16 * a + b) (at + 4) (at + 5) (16 * (16 * a + b) + c) (omega arith) (omega arith)
                    (omega arith)

                module _ (d : ℕ) (ed : d ≡ digit_at s (at + 5)) where
                  pub four3 : 16 ≤ d → Broken s at (at + 5)
                  four3 g = record {
                    ends = λ base k. to3 base k ∙ undig base s k (base + at) (at + 5) (omega arith) 0 (16 * (16 * a + b) + c);
                    within = omega (arith, digit_in s (at + 4) (omega arith));
                  }

                  pub four4 : d < 16 → Halved s at (at + 6) (16 * (16 * (16 * a + b) + c) + d)
                  unfolding hexed
                  four4 ld = record {
                    goes = λ base k. to3 base k ∙ dig base s k (base + at) 0 (16 * (16 * a + b) + c) (at + 5) (at + 6) (16 * (16 * (16 * a + b) + c) + d)
                        (omega arith) (omega arith) (omega arith);
                    six = refl;
                    within = omega (arith, digit_in s (at + 5) (omega arith));
                    small = omega arith;
                  }

-- ---- digits in braces

-- the digits so far come to w, and v is like it
pub record Braced (s : List ℕ) (at p v : ℕ) : Type 0 where
  pub w : ℕ
  pub like : Like v w
  pub goes : (base : ℕ) (k : Ctx) → Goes scan base s (body k) at (brace k (base + at) w) p
  pub far : at + 4 ≤ p
  pub within : p ≤ length s

like_small : (v w : ℕ) → Like v w → v ≤ 0x10FFFF → w ≡ v
like_small v w (same e) h = sym e
like_small v w (both a b) h = absurd (omega arith)

like_big : (v w : ℕ) → Like v w → 0x10FFFF < v → 0x10FFFF < w
like_big v w (same e) h = omega arith
like_big v w (both a b) h = b

pub grown_small : (v d : ℕ) → v < 0x110000 → Grown v d (16 * v + d)
grown_small v d h w (same e) = same (omega arith)
grown_small v d h w (both a b) = absurd (omega arith)

pub grown_big : (v d : ℕ) → 0x110000 ≤ v → Grown v d 0x110000
grown_big v d h w l = both (omega arith) (omega (arith, like_big v w l (omega arith)))

module _ (s : List ℕ) (at : ℕ) (pre : (at + 2 < length s) × (get_or s at 0 ≡ ch "\\") × (get_or s (at + 1) 0 ≡ ch "u") × (get_or s (at + 2) 0 ≡ ch "{")) where
  into : (base : ℕ) (k : Ctx) → Goes scan base s (body k) at (brace0 k (base + at)) (at + 3)
  into base k = to_brace base s at (omega (arith, pre.0)) pre.1 k (omega (arith, pre.0)) pre.2 pre.0 pre.3

  module _ (a : ℕ) (e : a ≡ digit_at s (at + 3)) where
    pub brace_none : 16 ≤ a → Broken s at (at + 3)
    brace_none g = record { ends = λ base k. into base k ∙ undig0 base s k (base + at) (at + 3) (omega arith); within = omega (arith, pre.0) }

    pub brace_start : a < 16 → Braced s at (at + 4) a
    brace_start g = record {
      w = a;
      like = same refl;
      goes = λ base k. into base k ∙ dig0 base s k (base + at) (at + 3) (at + 4) a (omega arith) (omega arith) (omega arith);
      far = omega arith;
      within = omega (arith, digit_in s (at + 3) (omega arith));
    }

module _ (s : List ℕ) (at p v : ℕ) (t : Braced s at p v) where
  pub brace_end : length s ≤ p → Broken s at p
  unfolding scan on_brace hex_of
  brace_end h = record { ends = λ base k. t.goes base k ∙ end scan base s (brace k (base + at) t.w) (NotGrammar (base + p)) p h refl; within = t.within }

  module _ (h : p < length s) where
    module _ (ne : get_or s p 0 ≡ ch "}" → ⊥) (d : ℕ) (e : d ≡ digit_at s p) where
      other : byte_at s p ≡ ch "}" → ⊥
      other x = ne (sym (byte_in s p h) ∙ x)

      pub brace_break : 16 ≤ d → Broken s at p
      brace_break g = record { ends = λ base k. t.goes base k ∙ undig1 base s k (base + at) p (omega arith) t.w other; within = t.within }

      pub brace_more : d < 16 → (r : ℕ) → Grown v d r → Braced s at (p + 1) r
      brace_more g r z = record {
        w = 16 * t.w + d;
        like = z t.w t.like;
        goes = λ base k. t.goes base k ∙ dig1 base s k (base + at) t.w p (p + 1) (16 * t.w + d) other (omega arith) refl (omega arith);
        far = omega (arith, t.far);
        within = omega arith;
      }

    module _ (e : get_or s p 0 ≡ ch "}") where
      shut : (base : ℕ) (k : Ctx) → Goes scan base s (body k) at (body (in_braces k (base + at) t.w)) (p + 1)
      unfolding scan
      shut base k = t.goes base k ∙ go scan base s (brace k (base + at) t.w) (body (in_braces k (base + at) t.w)) p (p + 1) h refl (rw e)

      coded : v ≤ 0x10FFFF → ((k : Ctx) (a : ℕ) → in_braces k a v ≡ give k (encode v)) → Coded s at (p + 1) v
      coded l f = record {
        goes = λ base k. moves scan base s (body k) (body (in_braces k (base + at) t.w)) (body (give k (encode v))) at (p + 1) (shut base k)
            (ap (λ (n : ℕ). body (in_braces k (base + at) n)) (like_small v t.w t.like l) ∙ ap body (f k (base + at)));
        room = omega (arith, encode_four v, t.far);
        past = omega (arith, t.far);
        within = omega arith;
        small = l;
      }

      spoils : ((k : Ctx) (a : ℕ) → in_braces k a t.w ≡ blame k a) → Spoilt s at (p + 1)
      spoils f = record {
        goes = λ base k. moves scan base s (body k) (body (in_braces k (base + at) t.w)) (body (blame k (base + at))) at (p + 1) (shut base k)
            (ap body (f k (base + at)));
        past = omega (arith, t.far);
        within = omega arith;
      }

      pub brace_low : v < 0xD800 → Coded s at (p + 1) v
      unfolding in_braces
      brace_low l = coded (omega arith) (λ k a. simp (lt-ltb _ _ l))

      pub brace_high : 0xD800 ≤ v → 0xE000 ≤ v → v < 0x110000 → Coded s at (p + 1) v
      unfolding in_braces
      brace_high g f l = let u : v ≤ 0x10FFFF = omega arith in coded u (λ k a. simp (le-ltb _ _ g, le-ltb _ _ f, le-leb _ _ u))

      pub brace_half : 0xD800 ≤ v → v < 0xE000 → Spoilt s at (p + 1)
      unfolding in_braces
      brace_half g l = spoils (λ k a. rw (like_small v t.w t.like (omega arith)) (simp (le-ltb _ _ g, lt-ltb _ _ l)))

      pub brace_past : 0x110000 ≤ v → Spoilt s at (p + 1)
      unfolding in_braces
      brace_past g =
          let b : 0x10FFFF < t.w = like_big v t.w t.like (omega arith) in
          let x : 0xD800 ≤ t.w = omega (arith, b) in
          let y : 0xE000 ≤ t.w = omega (arith, b) in
          spoils (λ k a. simp (le-ltb _ _ x, le-ltb _ _ y, lt-leb _ _ b))
