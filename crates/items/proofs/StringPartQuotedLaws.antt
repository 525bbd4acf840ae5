-- A part with one quote: plain bytes, the rounds of its loop, and how a part opens. Assumes nothing.
use mathlib.Core.Path.{◌≡◌, refl, sym, ap, ◌∙◌}
use Prim.Native.Nat.{ℕ, suc, ◌+◌, ◌-◌, ◌≤◌, ◌<◌}
use mathlib.Core.List.{List, [], ◌++◌, append_assoc, append-nil}
use mathlib.Core.Bool.{Bool, true, false, cond}
use mathlib.Core.Logic.{◌⊎◌, inl, inr}
use Rattle.std.specs.Prelude.{Option, Some, None, Result, Ok, Err}
use Rattle.std.specs.Option.{option_or}
use lib.ListN.{length, drop, take, get_or, length-append, length-take, length-drop}
use lib.Seq.{sets, take-suc, get_or-drop}
use lib.Dec.{eqb}
use native.Mathlib.Omega.{arith}
use native.Mathlib.Nat.{add-zero}
use borrow.Author.Tests.{lt-ltb, le-ltb, eq-eqb, ne_eqb}
use Rattle.rules.specs.Rfc3629.{encode}
use Rattle.meaning.specs.declared.Refusal.TheVariants.{NotGrammar, BadEscape}
use Rattle.meaning.specs.Letters.{ch}
use Rattle.machine.specs.Scan.{stops, Ran, over, ran}
use Rattle.machine.specs.Strings as S
use Rattle.machine.specs.Strings.{mk, first, fine, spoilt, whole, begin, start, one, two, lines0, body, done, on_body, plain_byte, scan}
use Rattle.items.specs.declared.Taken.{Taken}
use Rattle.items.specs.declared.string_part.Broken as part
use Rattle.items.specs.declared.string_part.Broken.TheVariants as Why
use Rattle.items.specs.Between.Places.{byte_at, ran_from, Goes}
use Rattle.items.specs.Between.StringPart.{plain, Passed, Read, Blamed, marked, Says, InnerSays, OneSays, ThreeSays, PartSays}
use Rattle.items.proofs.PlacesLaws.{byte_in, byte_out, go, halt, like, end, breaks_by, stops_by}
use Rattle.items.proofs.StoreLaws.{sets_app}

-- ---- plain bytes

-- plain bytes, on the way
pub record Passing (s : List ℕ) (q i j : ℕ) : Type 0 where
  pub goes : (base : ℕ) (bad : S.Bad) (acc : List ℕ) → Goes scan base s (body (mk q bad whole acc)) i (body (mk q bad whole (acc ++ take (j - i) (drop i s)))) j
  pub behind : i ≤ j
  pub within : j ≤ length s

pub plain_slash : (q b : ℕ) → b ≡ ch "\\" → plain q b ≡ false
unfolding plain
plain_slash q b e = simp (eq-eqb _ _ e)

pub plain_quote : (q b : ℕ) → (b ≡ ch "\\" → ⊥) → b ≡ q → plain q b ≡ false
unfolding plain
plain_quote q b n e = simp (ne_eqb _ _ n, eq-eqb _ _ e)

pub plain_low : (q b : ℕ) → (b ≡ ch "\\" → ⊥) → (b ≡ q → ⊥) → b < 0x20 → plain q b ≡ false
unfolding plain plain_byte
plain_low q b n m e = simp (ne_eqb _ _ n, ne_eqb _ _ m, lt-ltb _ _ e)

plain_over : (q : ℕ) → plain q over ≡ false
unfolding plain plain_byte
plain_over q = by (eqb over q)
  where
    by : (x : Bool) → cond x false false ≡ false
    by true = refl
    by false = refl

module _ (s : List ℕ) (q from : ℕ) where
  pub pass_none : from ≤ length s → Passing s q from from
  pass_none h = record {
    goes = λ base bad acc. let z : from - from ≡ 0 = omega arith in rw (z, append-nil);
    behind = omega arith;
    within = h;
  }

  module _ (at : ℕ) (t : Passing s q from at) where
    pub pass_more : at < length s → (get_or s at 0 ≡ ch "\\" → ⊥) → (get_or s at 0 ≡ q → ⊥) → 0x20 ≤ get_or s at 0 → get_or s at 0 < over
        → Passing s q from (at + 1)
    unfolding scan on_body plain_byte
    pass_more h a b c d =
        let n : at + 1 - from ≡ suc (at - from) = omega (arith, t.behind) in
        let m : from + (at - from) ≡ at = omega (arith, t.behind) in
        let k : at - from < length (drop from s) = simp length-drop (omega (arith, t.behind)) in
        record {
          goes = λ base bad acc. t.goes base bad acc ∙ go scan base s (body (mk q bad whole (acc ++ take (at - from) (drop from s))))
              (body (mk q bad whole (acc ++ take (at + 1 - from) (drop from s)))) at (at + 1) h refl
              (simp (ne_eqb _ _ a, ne_eqb _ _ b, le-ltb _ _ c, lt-ltb _ _ d) (rw (n, take-suc (drop from s) (at - from) 0 k, get_or-drop, m, append_assoc)));
          behind = omega (arith, t.behind);
          within = omega arith;
        }

    pub pass_stop : at < length s → plain q (get_or s at 0) ≡ false → Passed s q from at
    pass_stop h e = record { goes = t.goes; behind = t.behind; within = t.within; stopped = rw (byte_in s at h) e }

    pub pass_end : length s ≤ at → Passed s q from (length s)
    pass_end h =
        let e : at ≡ length s = omega (arith, t.within) in
        rw (← e) (record { goes = t.goes; behind = t.behind; within = t.within; stopped = rw (byte_out s at h) (plain_over q) })

-- ---- the first bad escape

marks_first : (base at : ℕ) (bad : Option ℕ) → marked base (option_or bad (Some at)) ≡ first (marked base bad) (base + at)
marks_first base at None = refl
marks_first base at (Some p) = refl

abbrev pub UpTo : ℕ → Option ℕ → Type 0
UpTo i None = Unit {0}
UpTo i (Some p) = p ≤ i

up_to_more : (i j : ℕ) (bad : Option ℕ) → i ≤ j → UpTo i bad → UpTo j bad
up_to_more i j None h u = tt
up_to_more i j (Some p) h u = omega arith

up_to_first : (i j : ℕ) (bad : Option ℕ) → i ≤ j → UpTo i bad → UpTo j (option_or bad (Some i))
up_to_first i j None h u = h
up_to_first i j (Some p) h u = omega arith

-- ---- the loop

-- before a plain run, or after it
pub record Round (s : List ℕ) (q at : ℕ) (entry store : List ℕ) (i out : ℕ) (bad : Option ℕ) : Type 0 where
  pub acc : List ℕ
  pub goes : (base : ℕ) → Goes scan base s (body (mk q fine whole [])) 1 (body (mk q (marked base bad) whole acc)) i
  pub stored : store ≡ sets entry at acc
  pub counted : out ≡ at + length acc
  pub room : out + 1 ≤ at + i
  pub past : 0 < i
  pub within : i ≤ length s
  pub low : UpTo i bad

module _ {s : List ℕ} {q at : ℕ} {entry store : List ℕ} {i out : ℕ} {bad : Option ℕ} (t : Round s q at entry store i out bad) where
  pub round_plain : {e : ℕ} → Passed s q i e → {new : List ℕ} → new ≡ sets store out (take (e - i) (drop i s)) → Round s q at entry new e (out + (e - i)) bad
  round_plain {e} p w =
      let n : length (take (e - i) (drop i s)) ≡ e - i = simp (length-take, length-drop) (omega (arith, p.within)) in
      record {
        acc = t.acc ++ take (e - i) (drop i s);
        goes = λ base. t.goes base ∙ p.goes base (marked base bad) t.acc;
        stored = w ∙ cc (t.stored, t.counted, sets_app entry at t.acc (take (e - i) (drop i s)));
        counted = simp length-append (omega (arith, n, t.counted));
        room = omega (arith, t.room, p.behind);
        past = omega (arith, t.past, p.behind);
        within = p.within;
        low = up_to_more i e bad p.behind t.low;
      }

  pub round_end : q < over → length s ≤ i → InnerSays s q at entry store (Err (Why.NotGrammar i))
  unfolding scan on_body plain_byte
  round_end small h = (
    λ base. t.goes base ∙ end scan base s (body (mk q (marked base bad) whole t.acc)) (NotGrammar (base + i)) i h
        (let n : over ≡ q → ⊥ = λ e. omega arith in simp (ne_eqb over q n)),
    t.within,
  )

  pub round_lone : {next : ℕ} → Blamed s i next → Round s q at entry store next out (option_or bad (Some i))
  round_lone {next} u = record {
    acc = t.acc;
    goes = λ base. t.goes base ∙ u.goes base q (marked base bad) t.acc ∙ ap (λ (x : S.Bad). ran_from scan base s (body (mk q x whole t.acc)) next)
        (sym (marks_first base i bad));
    stored = t.stored;
    counted = t.counted;
    room = omega (arith, t.room, u.past);
    past = omega (arith, u.past);
    within = u.within;
    low = up_to_first i next bad (omega (arith, u.past)) t.low;
  }

  pub round_char : {next c : ℕ} → Read s i next c → {o : ℕ} → o ≡ out + length (encode c) → {new : List ℕ} → new ≡ sets store out (encode c)
      → Round s q at entry new next o bad
  round_char {next = next} {c = c} u f w = record {
    acc = t.acc ++ encode c;
    goes = λ base. t.goes base ∙ u.goes base q (marked base bad) t.acc;
    stored = w ∙ cc (t.stored, t.counted, sets_app entry at t.acc (encode c));
    counted = simp length-append (omega (arith, t.counted));
    room = omega (arith, t.room, u.room);
    past = omega (arith, u.past);
    within = u.within;
    low = up_to_more i next bad (omega (arith, u.past)) t.low;
  }

  module _ (h : i < length s) (n : get_or s i 0 ≡ ch "\\" → ⊥) where
    pub round_wrong : plain q (byte_at s i) ≡ false → (get_or s i 0 ≡ q → ⊥) → InnerSays s q at entry store (Err (Why.NotGrammar i))
    unfolding scan on_body plain
    round_wrong e m =
        let f : plain_byte (get_or s i 0) ≡ false = simp (byte_in s i h, ne_eqb _ _ n, ne_eqb _ _ m) at e in (
          λ base. t.goes base ∙ halt scan base s (body (mk q (marked base bad) whole t.acc)) (NotGrammar (base + i)) i h
              (simp (ne_eqb _ _ n, ne_eqb _ _ m, f)),
          t.within,
        )

    module _ (e : get_or s i 0 ≡ q) where
      shut : (base : ℕ) → Goes scan base s (body (mk q fine whole [])) 1 (done (mk q (marked base bad) whole t.acc)) (i + 1)
      unfolding scan on_body
      shut base = t.goes base ∙ go scan base s (body (mk q (marked base bad) whole t.acc)) (done (mk q (marked base bad) whole t.acc)) i (i + 1) h refl
          (simp (ne_eqb _ _ n, eq-eqb _ _ e))

      pub round_bad : {p : ℕ} → bad ≡ Some p → InnerSays s q at entry store (Err (Why.BadEscape p))
      unfolding scan
      round_bad {p} z = (
        λ base. shut base ∙ breaks_by scan base s (done (mk q (marked base bad) whole t.acc)) (BadEscape (base + p)) (i + 1) (rw z),
        let l : UpTo i (Some p) = rw z at t.low in omega (arith, l, t.within),
      )

      pub round_close : bad ≡ None → InnerSays s q at entry store (Ok (record { value = out - at; end = i + 1 }))
      unfolding scan
      round_close z = record {
        value = t.acc;
        runs = λ base. shut base ∙ stops_by scan base s (done (mk q (marked base bad) whole t.acc)) t.acc (i + 1) (rw z);
        counted = omega (arith, t.counted);
        stored = t.stored;
        within = omega arith;
        fewer = omega (arith, t.room, t.counted);
      }

-- ---- how a part opens

-- what is said of one run is said of an equal one
pub says_as : (n at : ℕ) (entry exit : List ℕ) (R Q : ℕ → Ran (List ℕ)) → ((base : ℕ) → R base ≡ Q base) → (r : Result (Taken ℕ) part.Broken)
    → Says Q n at entry exit r
    → Says R n at entry exit r
says_as n at entry exit R Q e (Ok v) t = record {
  value = t.value;
  runs = λ base. e base ∙ t.runs base;
  counted = t.counted;
  stored = t.stored;
  within = t.within;
  fewer = t.fewer;
}
says_as n at entry exit R Q e (Err (Why.BadEscape p)) t = (λ base. e base ∙ t.0 base, t.1)
says_as n at entry exit R Q e (Err (Why.NotGrammar p)) t = (λ base. e base ∙ t.0 base, t.1)

module _ (s : List ℕ) (at : ℕ) (entry : List ℕ) where
  at_zero : (base : ℕ) → ran scan base begin s ≡ ran_from scan base s start 0
  at_zero base = ap (λ (p : ℕ). ran scan p start s) (sym (add-zero base))

  pub says_empty : length s ≡ 0 → PartSays s at entry entry (Err (Why.NotGrammar 0))
  unfolding scan
  says_empty h = (λ base. at_zero base ∙ end scan base s start (NotGrammar (base + 0)) 0 (omega arith) refl, omega arith)

  module _ (h0 : length s ≡ 0 → ⊥) where
    pub says_unopened : (get_or s 0 0 ≡ ch "\"" → ⊥) → (get_or s 0 0 ≡ ch "'" → ⊥) → PartSays s at entry entry (Err (Why.NotGrammar 0))
    unfolding scan
    says_unopened n m = (λ base. at_zero base ∙ halt scan base s start (NotGrammar (base + 0)) 0 (omega arith) (simp (ne_eqb _ _ n, ne_eqb _ _ m)), omega arith)

    opens : (q : ℕ) → get_or s 0 0 ≡ q → (q ≡ ch "\"") ⊎ (q ≡ ch "'") → (base : ℕ) → Goes scan base s start 0 (one q) 1
    unfolding scan
    opens q e (inl f) base = go scan base s start (one q) 0 1 (omega arith) refl (simp (eq-eqb _ _ (e ∙ f)) (cc))
    opens q e (inr f) base = go scan base s start (one q) 0 1 (omega arith) refl
        (let n : get_or s 0 0 ≡ ch "\"" → ⊥ = λ x. omega arith in simp (ne_eqb _ _ n, eq-eqb _ _ (e ∙ f)) (cc))

    pub says_opened : (q : ℕ) → get_or s 0 0 ≡ q → (q ≡ ch "\"") ⊎ (q ≡ ch "'") → (exit : List ℕ) (r : Result (Taken ℕ) part.Broken)
        → OneSays s q at entry exit r
        → PartSays s at entry exit r
    says_opened q e f exit r t = says_as (length s) at entry exit (λ base. ran scan base begin s) (λ base. ran_from scan base s (one q) 1)
        (λ base. at_zero base ∙ opens q e f base) r t

  module _ (q : ℕ) (small : q < over) (h0 : 0 < length s) where
    pub one_end : length s < 2 → OneSays s q at entry entry (Err (Why.NotGrammar 1))
    unfolding scan on_body plain_byte
    one_end h = (
      λ base. end scan base s (one q) (NotGrammar (base + 1)) 1 (omega arith) (let n : over ≡ q → ⊥ = λ e. omega arith in simp (ne_eqb over q n)),
      omega arith,
    )

    module _ (h1 : 2 ≤ length s) where
      pub one_body : (get_or s 1 0 ≡ q → ⊥) → (exit : List ℕ) (r : Result (Taken ℕ) part.Broken) → InnerSays s q at entry exit r → OneSays s q at entry exit r
      unfolding scan
      one_body n exit r t = says_as (length s) at entry exit (λ base. ran_from scan base s (one q) 1)
          (λ base. ran_from scan base s (body (mk q fine whole [])) 1)
          (λ base. like scan base s (one q) (body (mk q fine whole [])) 1 (omega arith) (simp (ne_eqb _ _ n))) r t

      module _ (e1 : get_or s 1 0 ≡ q) where
        to_two : (base : ℕ) → Goes scan base s (one q) 1 (two q) 2
        unfolding scan
        to_two base = go scan base s (one q) (two q) 1 2 (omega arith) refl (simp (eq-eqb _ _ e1))

        empty : ((base : ℕ) → scan (base + 2) (two q) (byte_at s 2) ≡ stops []) → OneSays s q at entry entry (Ok (record { value = 0; end = 2 }))
        empty f = record {
          value = [];
          runs = λ base. to_two base ∙ stops_by scan base s (two q) [] 2 (f base);
          counted = refl;
          stored = refl;
          within = omega arith;
          fewer = omega arith;
        }

        pub two_end : length s < 3 → OneSays s q at entry entry (Ok (record { value = 0; end = 2 }))
        unfolding scan
        two_end h = let n : over ≡ q → ⊥ = λ e. omega arith in empty (λ base. rw (byte_out s 2 (omega arith)) (simp (ne_eqb over q n)))

        module _ (h2 : 3 ≤ length s) where
          pub two_other : (get_or s 2 0 ≡ q → ⊥) → OneSays s q at entry entry (Ok (record { value = 0; end = 2 }))
          unfolding scan
          two_other n = empty (λ base. rw (byte_in s 2 (omega arith)) (simp (ne_eqb _ _ n)))

          pub two_three : get_or s 2 0 ≡ q → (exit : List ℕ) (r : Result (Taken ℕ) part.Broken) → ThreeSays s q at entry exit r → OneSays s q at entry exit r
          unfolding scan
          two_three e exit r t = says_as (length s) at entry exit (λ base. ran_from scan base s (one q) 1) (λ base. ran_from scan base s (lines0 q) 3)
              (λ base. to_two base ∙ go scan base s (two q) (lines0 q) 2 3 (omega arith) refl (simp (eq-eqb _ _ e))) r t
