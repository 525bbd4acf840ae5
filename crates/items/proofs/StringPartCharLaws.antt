-- One escape, or two that make one character, where no high surrogate waits. Assumes nothing.
use mathlib.Core.Path.{◌≡◌, refl, sym, ap, ◌∙◌}
use Prim.Native.Nat.{ℕ, ◌+◌, ◌≤◌, ◌<◌}
use mathlib.Core.List.{List, ◌++◌}
use lib.ListN.{length, get_or}
use lib.Dec.{eqb}
use mathlib.Core.Bool.{Bool, true, false}
use native.Mathlib.Omega.{arith}
use borrow.Author.Tests.{lt-ltb, le-ltb, ne_eqb}
use Rattle.rules.specs.Rfc3629.{encode}
use Rattle.meaning.specs.declared.Refusal.TheVariants.{NotGrammar}
use Rattle.meaning.specs.Letters.{ch}
use Rattle.grammar.specs.Strings.{joined}
use Rattle.machine.specs.Scan.{over}
use Rattle.machine.specs.Strings as S
use Rattle.machine.specs.Strings.{Ctx, mk, first, whole, half, body, done, alone, unit, on_body, plain_byte, scan}
use Rattle.items.specs.Between.Places.{Goes}
use Rattle.items.specs.Between.StringPart.{Halved, EscapeIs, Read, Blamed, Stopped}
use Rattle.items.specs.declared.string_part.Escape.{Escape}
use Rattle.items.specs.declared.string_part.Escape.TheVariants.{Half, Code, Bad}
use Rattle.items.proofs.PlacesLaws.{go, moves, alike, like, end}
use Rattle.items.proofs.StringPartEscapeLaws.{encode_four}

-- a high surrogate whose next byte is no backslash: what comes is as after a bad escape
unpaired : (base : ℕ) (s : List ℕ) (i : ℕ) → i < length s → (get_or s i 0 ≡ ch "\\" → ⊥) → (q : ℕ) (bad : S.Bad) (a w : ℕ) (acc : List ℕ)
    → Goes scan base s (body (mk q bad (half a w) acc)) i (body (mk q (first bad a) whole acc)) i
unfolding scan on_body
unpaired base s i l ne q bad a w acc = by (eqb (get_or s i 0) q) refl
  where
    by : (x : Bool) → eqb (get_or s i 0) q ≡ x → Goes scan base s (body (mk q bad (half a w) acc)) i (body (mk q (first bad a) whole acc)) i
    by true e =
        go scan base s (body (mk q bad (half a w) acc)) (done (mk q bad (half a w) acc)) i (i + 1) l refl (simp (ne_eqb _ _ ne, e))
        ∙ alike scan base s (done (mk q bad (half a w) acc)) (done (mk q (first bad a) whole acc)) (i + 1) refl
        ∙ sym (go scan base s (body (mk q (first bad a) whole acc)) (done (mk q (first bad a) whole acc)) i (i + 1) l refl (simp (ne_eqb _ _ ne, e)))
    by false e = like scan base s (body (mk q bad (half a w) acc)) (body (mk q (first bad a) whole acc)) i l (simp (ne_eqb _ _ ne, e))

module _ (s : List ℕ) (at : ℕ) where
  module _ (next w : ℕ) (t : Halved s at next w) where
    alone_goes : (base q : ℕ) (bad : S.Bad) (acc : List ℕ) (d : Ctx) → alone (mk q bad whole acc) (base + at) w ≡ d
        → Goes scan base s (body (mk q bad whole acc)) at (body d) next
    unfolding unit
    alone_goes base q bad acc d e = moves scan base s (body (mk q bad whole acc)) (body (unit (mk q bad whole acc) (base + at) w whole)) (body d) at next
        (t.goes base (mk q bad whole acc)) (ap body e)

    read : ((a q : ℕ) (bad : S.Bad) (acc : List ℕ) → alone (mk q bad whole acc) a w ≡ mk q bad whole (acc ++ encode w)) → Read s at next w
    read f = record {
      goes = λ base q bad acc. alone_goes base q bad acc (mk q bad whole (acc ++ encode w)) (f (base + at) q bad acc);
      room = omega (arith, encode_four w, t.six);
      past = omega (arith, t.six);
      within = t.within;
      small = omega (arith, t.small);
    }

    pub char_low : w < 0xD800 → Read s at next w
    unfolding alone
    char_low h = read (λ a q bad acc. simp (lt-ltb _ _ h))

    pub char_up : 0xE000 ≤ w → Read s at next w
    unfolding alone
    char_up h = let f : 0xD800 ≤ w = omega arith in let g : 0xDC00 ≤ w = omega arith in read (λ a q bad acc. simp (le-ltb _ _ f, le-ltb _ _ g, le-ltb _ _ h))

    pub char_lone : 0xDC00 ≤ w → w < 0xE000 → Blamed s at next
    unfolding alone
    char_lone g h = let f : 0xD800 ≤ w = omega arith in record {
      goes = λ base q bad acc. alone_goes base q bad acc (mk q (first bad (base + at)) whole acc) (simp (le-ltb _ _ f, le-ltb _ _ g, lt-ltb _ _ h));
      past = omega (arith, t.six);
      within = t.within;
    }

    -- a high surrogate waits
    module _ (g : 0xD800 ≤ w) (h : w < 0xDC00) where
      waits : (base q : ℕ) (bad : S.Bad) (acc : List ℕ) → Goes scan base s (body (mk q bad whole acc)) at (body (mk q bad (half (base + at) w) acc)) next
      unfolding alone
      waits base q bad acc = alone_goes base q bad acc (mk q bad (half (base + at) w) acc) (simp (le-ltb _ _ g, lt-ltb _ _ h))

      pub wait_end : length s ≤ next → Stopped s at next
      unfolding scan on_body plain_byte
      wait_end l = record {
        ends = λ base q small bad acc. waits base q bad acc ∙ end scan base s (body (mk q bad (half (base + at) w) acc)) (NotGrammar (base + next)) next l
            (let n : over ≡ q → ⊥ = λ e. omega arith in simp (ne_eqb over q n));
        within = t.within;
      }

      blamed : ((base q : ℕ) (bad : S.Bad) (acc : List ℕ) → Goes scan base s (body (mk q bad (half (base + at) w) acc)) next
          (body (mk q (first bad (base + at)) whole acc)) next) → Blamed s at next
      blamed f = record { goes = λ base q bad acc. waits base q bad acc ∙ f base q bad acc; past = omega (arith, t.six); within = t.within }

      pub wait_other : next < length s → (get_or s next 0 ≡ ch "\\" → ⊥) → Blamed s at next
      wait_other l ne = blamed (λ base q bad acc. unpaired base s next l ne q bad (base + at) w acc)

      -- an escape that is no unit
      pub wait_whole : (v : Escape) (n : ℕ) → EscapeIs s next v n → ((l : ℕ) → v ≡ Half l → ⊥) → Blamed s at next
      wait_whole (Half l) n u m = absurd (m l refl)
      wait_whole (Code c) n u m = blamed (λ base q bad acc. u.goes base (mk q bad (half (base + at) w) acc)
          ∙ sym (u.goes base (mk q (first bad (base + at)) whole acc)))
      wait_whole Bad n u m = blamed (λ base q bad acc. u.goes base (mk q bad (half (base + at) w) acc)
          ∙ sym (u.goes base (mk q (first bad (base + at)) whole acc)))

      module _ (n l : ℕ) (u : Halved s next n l) where
        pub wait_below : l < 0xDC00 → Blamed s at next
        unfolding unit alone
        wait_below f = blamed (λ base q bad acc. (simp (lt-ltb _ _ f) at (u.goes base (mk q bad (half (base + at) w) acc)))
            ∙ sym (simp (lt-ltb _ _ f) at (u.goes base (mk q (first bad (base + at)) whole acc))))

        pub wait_above : 0xE000 ≤ l → Blamed s at next
        unfolding unit alone
        wait_above f = let e : 0xDC00 ≤ l = omega arith in blamed (λ base q bad acc.
            (simp (le-ltb _ _ e, le-ltb _ _ f) at (u.goes base (mk q bad (half (base + at) w) acc)))
            ∙ sym (simp (le-ltb _ _ e, le-ltb _ _ f) at (u.goes base (mk q (first bad (base + at)) whole acc))))

        pub wait_pair : 0xDC00 ≤ l → l < 0xE000 → Read s at n (joined w l)
        unfolding unit
        wait_pair e f = record {
          goes = λ base q bad acc. waits base q bad acc ∙ moves scan base s (body (mk q bad (half (base + at) w) acc))
              (body (unit (mk q bad (half (base + at) w) acc) (base + next) l (half (base + at) w))) (body (mk q bad whole (acc ++ encode (joined w l)))) next n
              (u.goes base (mk q bad (half (base + at) w) acc)) (simp (le-ltb _ _ e, lt-ltb _ _ f));
          room = omega (arith, encode_four (joined w l), t.six, u.six);
          past = omega (arith, t.six, u.six);
          within = u.within;
          small = omega arith;
        }
