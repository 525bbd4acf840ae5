-- A multiline part: where its bytes begin, and the next three quotes. Assumes nothing.
use mathlib.Core.Path.{◌≡◌, refl, sym, ap, ◌∙◌}
use Prim.Native.Nat.{ℕ, zero, suc, ◌+◌, ◌-◌, ◌≤◌, ◌<◌}
use mathlib.Core.List.{List, [], ◌∷◌, ◌++◌, append_assoc, append-nil}
use mathlib.Core.Bool.{true, false}
use Rattle.std.specs.Prelude.{Ok, Err}
use lib.ListN.{length, drop, take, get_or, replicate, length-append, length-take, length-drop, length-replicate}
use lib.Seq.{sets, take-suc, get_or-drop, take_at, take-take}
use native.Mathlib.Omega.{arith}
use native.Mathlib.Decide.{dec_lt, ℕ_discrete}
use native.Mathlib.Numerals.{add-one}
use borrow.Author.Tests.{eq-eqb, ne_eqb}
use Rattle.meaning.specs.declared.Refusal.TheVariants.{NotGrammar}
use Rattle.meaning.specs.Letters.{ch, letters}
use Rattle.machine.specs.Scan.{over}
use Rattle.machine.specs.Strings.{mk, fine, whole, lines0, lines_cr, lines, done, line_byte, on_lines, scan}
use Rattle.items.specs.declared.string_part.Broken.TheVariants as Why
use Rattle.items.specs.Between.Places.{Goes}
use Rattle.items.specs.Between.StringPart.{ThreeSays, Begun, Closes, Breaks}
use Rattle.items.proofs.PlacesLaws.{byte_out, go, halt, like, alike, end, stops_by}

-- ---- one LF, or one CR LF, after the opening

module _ (s : List ℕ) (l : 2 < length s) where
  begun3 : ((base q : ℕ) → 0x20 < q → Goes scan base s (lines0 q) 3 (lines q 0 []) 3) → Begun s 3
  begun3 e = record { goes = e; within = omega arith; past = omega arith }

  pub from_end : length s ≤ 3 → Begun s 3
  unfolding scan
  from_end h = begun3 (λ base q g. alike scan base s (lines0 q) (lines q 0 []) 3 (rw (byte_out s 3 h)))

  module _ (h : 3 < length s) where
    pub from_lf : get_or s 3 0 ≡ ch "\n" → Begun s 4
    unfolding scan
    from_lf e = record {
      goes = λ base q g. go scan base s (lines0 q) (lines q 0 []) 3 4 h refl (simp (eq-eqb _ _ e));
      within = omega arith;
      past = omega arith;
    }

    module _ (n : get_or s 3 0 ≡ ch "\n" → ⊥) where
      pub from_other : (get_or s 3 0 ≡ ch "\r" → ⊥) → Begun s 3
      unfolding scan
      from_other m = begun3 (λ base q g. like scan base s (lines0 q) (lines q 0 []) 3 h (simp (ne_eqb _ _ n, ne_eqb _ _ m)))

      module _ (e : get_or s 3 0 ≡ ch "\r") where
        to_cr : (base q : ℕ) → Goes scan base s (lines0 q) 3 (lines_cr q) 4
        unfolding scan
        to_cr base q = go scan base s (lines0 q) (lines_cr q) 3 4 h refl (simp (ne_eqb _ _ n, eq-eqb _ _ e))

        kept_cr : (base q : ℕ) → 0x20 < q → Goes scan base s (lines q 0 []) 3 (lines q 0 (letters "\r")) 4
        unfolding scan on_lines line_byte
        kept_cr base q g = go scan base s (lines q 0 []) (lines q 0 (letters "\r")) 3 4 h refl
            (rw e (let m : ch "\r" ≡ q → ⊥ = λ x. omega arith in simp (ne_eqb (ch "\r") q m)))

        pub from_crlf : 4 < length s → get_or s 4 0 ≡ ch "\n" → Begun s 5
        unfolding scan
        from_crlf z f = record {
          goes = λ base q g. to_cr base q ∙ go scan base s (lines_cr q) (lines q 0 []) 4 5 z refl (simp (eq-eqb _ _ f));
          within = omega arith;
          past = omega arith;
        }

        pub from_cr_end : length s ≤ 4 → Begun s 3
        unfolding scan
        from_cr_end z = begun3 (λ base q g. to_cr base q ∙ alike scan base s (lines_cr q) (lines q 0 (letters "\r")) 4 (rw (byte_out s 4 z))
            ∙ sym (kept_cr base q g))

        pub from_cr : 4 < length s → (get_or s 4 0 ≡ ch "\n" → ⊥) → Begun s 3
        unfolding scan
        from_cr z f = begun3 (λ base q g. to_cr base q ∙ like scan base s (lines_cr q) (lines q 0 (letters "\r")) 4 z (simp (ne_eqb _ _ f))
            ∙ sym (kept_cr base q g))

  -- what comes is no line end
  pub from_bytes : (3 < length s → get_or s 3 0 ≡ ch "\n" → ⊥) → (4 < length s → get_or s 3 0 ≡ ch "\r" → get_or s 4 0 ≡ ch "\n" → ⊥) → Begun s 3
  from_bytes n m = by (dec_lt 3 (length s)) (ℕ_discrete (get_or s 3 0) (ch "\r")) (dec_lt 4 (length s))
    where
      by : Dec (3 < length s) → Dec (get_or s 3 0 ≡ ch "\r") → Dec (4 < length s) → Begun s 3
      by (no h) x y = from_end (omega arith)
      by (yes h) (no x) y = from_other h (n h) x
      by (yes h) (yes x) (no y) = from_cr_end h (n h) x (omega arith)
      by (yes h) (yes x) (yes y) = from_cr h (n h) x y (m y x)

-- ---- the next three quotes

one_more : (n q : ℕ) → replicate (suc n) q ≡ replicate n q ++ (q ∷ [])
one_more zero q = refl
one_more (suc n) q = ap (λ (a : List ℕ). q ∷ a) (one_more n q)

-- on the way, after n quotes
pub record Lining (s : List ℕ) (q i j n : ℕ) : Type 0 where
  pub acc : List ℕ
  pub goes : (base : ℕ) → Goes scan base s (lines q 0 []) i (lines q n acc) j
  pub all : acc ++ replicate n q ≡ take (j - i) (drop i s)
  pub few : n ≤ 2
  pub behind : i ≤ j
  pub within : j ≤ length s

module _ (s : List ℕ) (q from : ℕ) where
  module _ (i n : ℕ) (t : Lining s q from i n) where
    pub lining_end : q < over → length s ≤ i → Breaks s q from (length s)
    unfolding scan on_lines line_byte
    lining_end small h = let e : i ≡ length s = omega (arith, t.within) in rw (← e) (record {
      ends = λ base. t.goes base ∙ end scan base s (lines q n t.acc) (NotGrammar (base + i)) i h
          (let m : over ≡ q → ⊥ = λ e. omega arith in simp (ne_eqb over q m));
      within = t.within;
    })

    counted : length t.acc + n ≡ i - from
    counted =
        let l : length (take (i - from) (drop from s)) ≡ i - from = simp (length-take, length-drop) (omega (arith, t.behind, t.within)) in
        omega (arith, l, simp (length-append, length-replicate) at (ap length t.all))

    module _ (h : i < length s) where
      further : take (i + 1 - from) (drop from s) ≡ take (i - from) (drop from s) ++ (get_or s i 0 ∷ [])
      further =
          let m : i + 1 - from ≡ suc (i - from) = omega (arith, t.behind) in
          let o : from + (i - from) ≡ i = omega (arith, t.behind) in
          let k : i - from < length (drop from s) = simp length-drop (omega (arith, t.behind)) in
          rw (m, take-suc (drop from s) (i - from) 0 k, get_or-drop, o)

      module _ (m : get_or s i 0 ≡ q → ⊥) where
        pub lining_cut : line_byte (get_or s i 0) ≡ false → Breaks s q from i
        unfolding scan on_lines
        lining_cut e = record {
          ends = λ base. t.goes base ∙ halt scan base s (lines q n t.acc) (NotGrammar (base + i)) i h (simp (ne_eqb _ _ m, e));
          within = t.within;
        }

        pub lining_other : line_byte (get_or s i 0) ≡ true → Lining s q from (i + 1) 0
        unfolding scan on_lines
        lining_other e = record {
          acc = t.acc ++ (replicate n q ++ (get_or s i 0 ∷ []));
          goes = λ base. t.goes base ∙ go scan base s (lines q n t.acc) (lines q 0 (t.acc ++ (replicate n q ++ (get_or s i 0 ∷ [])))) i (i + 1) h refl
              (simp (ne_eqb _ _ m, e));
          all = append-nil (t.acc ++ (replicate n q ++ (get_or s i 0 ∷ []))) ∙ sym (append_assoc t.acc (replicate n q) (get_or s i 0 ∷ []))
              ∙ ap (λ (a : List ℕ). a ++ (get_or s i 0 ∷ [])) t.all ∙ sym further;
          few = omega arith;
          behind = omega (arith, t.behind);
          within = omega arith;
        }

      module _ (e : get_or s i 0 ≡ q) where
        pub lining_quote : (n ≡ 2 → ⊥) → Lining s q from (i + 1) (n + 1)
        unfolding scan on_lines
        lining_quote m = record {
          acc = t.acc;
          goes = λ base. t.goes base ∙ go scan base s (lines q n t.acc) (lines q (n + 1) t.acc) i (i + 1) h refl
              (simp (eq-eqb _ _ e, ne_eqb _ _ m, add-one));
          all = rw (add-one n, one_more) (sym (append_assoc t.acc (replicate n q) (q ∷ [])) ∙ ap (λ (a : List ℕ). a ++ (q ∷ [])) t.all
              ∙ ap (λ (b : ℕ). take (i - from) (drop from s) ++ (b ∷ [])) (sym e) ∙ sym further);
          few = omega (arith, t.few, m);
          behind = omega (arith, t.behind);
          within = omega arith;
        }

        pub lining_close : n ≡ 2 → Closes s q from (i - 2)
        unfolding scan on_lines
        lining_close m =
            let k = counted in
            let a : length t.acc ≡ i - 2 - from = omega (arith, k) in
            let b : i - 2 + 3 ≡ i + 1 = omega (arith, k) in
            let le : i - 2 - from ≤ i - from = omega arith in
            let x : t.acc ≡ take (i - 2 - from) (drop from s) = sym (take_at t.acc (replicate n q) (i - 2 - from) a)
            ∙ ap (λ (y : List ℕ). take (i - 2 - from) y) t.all ∙ take-take (i - 2 - from) (i - from) (drop from s) le in
            record {
              ends = λ base. rw (b, ← x) (t.goes base ∙ go scan base s (lines q n t.acc) (done (mk q fine whole t.acc)) i (i + 1) h refl
                  (simp (eq-eqb _ _ e, eq-eqb _ _ m)) ∙ stops_by scan base s (done (mk q fine whole t.acc)) t.acc (i + 1) refl);
              behind = omega (arith, k);
              within = omega arith;
            }

-- ---- the whole

module _ (s : List ℕ) (q at : ℕ) (entry : List ℕ) (g : 0x20 < q) (i : ℕ) (f : Begun s i) where
  pub three_cut : (p : ℕ) → Breaks s q i p → ThreeSays s q at entry entry (Err (Why.NotGrammar p))
  three_cut p t = (λ base. f.goes base q g ∙ t.ends base, t.within)

  pub three_last : (e : ℕ) → Closes s q i e → (exit : List ℕ) → exit ≡ sets entry at (take (e - i) (drop i s))
      → ThreeSays s q at entry exit (Ok (record { value = e - i; end = e + 3 }))
  three_last e t exit w = record {
    value = take (e - i) (drop i s);
    runs = λ base. f.goes base q g ∙ t.ends base;
    counted = simp (length-take, length-drop) (omega (arith, t.within));
    stored = w;
    within = t.within;
    fewer = omega (arith, f.past, t.behind);
  }
