-- Binary parts, a byte at a time. Assumes nothing.
use mathlib.Core.Path.{◌≡◌, refl, sym, ap, ◌∙◌}
use mathlib.Core.Bool.{false}
use mathlib.Core.Logic.{◌⊎◌, inl, inr}
use mathlib.Core.List.{List, [], ◌∷◌, ◌++◌}
use Prim.Native.Nat.{ℕ, ◌+◌, ◌*◌, ◌≤◌, ◌<◌}
use native.Mathlib.Omega.{arith}
use native.Mathlib.Decide.{dec_lt}
use Rattle.std.specs.Prelude.{Some, None, Result, Ok, Err}
use lib.Dec.{eqb}
use lib.ListN.{length, drop, get_or, set, length-append}
use lib.Seq.{sets}
use borrow.Author.Tests.{lt-ltb, le-ltb, le-leb, lt-leb, eq-eqb, ne_eqb}
use Rattle.meaning.specs.declared.Refusal.TheVariants.{NotGrammar}
use Rattle.meaning.specs.Letters.{ch}
use Rattle.machine.specs.Scan.{Out, takes, stops, breaks, over, ended, broke, ran}
use Rattle.machine.specs.Strings.{hex_of, no_digit, short_of, no_short}
use Rattle.machine.specs.Binaries.{St, dollar, text, esc, hex, hex_low, low, pairs, dot, done, begin, on_digit, on_short, on_text, scan}
use Rattle.items.specs.Between.Places.{digit_at, Runs}
use Rattle.items.specs.Between.BinaryPart.{PairSays, Escaped, EscapeSays, OneByteSays, Closing, StateSays, PieceSays}
use Rattle.items.specs.declared.Taken.{Taken}
use Rattle.items.specs.declared.NotGrammar as items
use Rattle.items.proofs.PlacesLaws.{byte_in, byte_out, late, run_take, run_stop, run_break, end_stop, end_break}
use Rattle.items.proofs.StoreLaws.{sets_app}

-- ---- digits

module _ (s : List ℕ) (p : ℕ) where
  pub digit_is : p < length s → digit_at s p ≡ hex_of (get_or s p 0)
  digit_is h = ap hex_of (byte_in s p h)

  pub digit_none : length s ≤ p → digit_at s p ≡ no_digit
  unfolding hex_of
  digit_none h = rw (byte_out s p h)

  pub digit_in : digit_at s p < no_digit → p < length s
  digit_in h = by (dec_lt p (length s))
    where
      by : Dec (p < length s) → p < length s
      by (Dec.yes g) = g
      by (Dec.no g) = absurd (omega (arith, digit_none (omega arith)))

  module _ (c : St) (next : ℕ → St) (instead : Out St (List ℕ)) where
    pub digit_goes : scan p c (get_or s p 0) ≡ on_digit (hex_of (get_or s p 0)) next instead → digit_at s p < no_digit
        → Runs scan s c p (next (digit_at s p)) (p + 1)
    unfolding on_digit
    digit_goes e h =
        let i = digit_in h in
        let d = digit_is i in
        let g : hex_of (get_or s p 0) < no_digit = omega arith in
        run_take scan s p c (next (digit_at s p)) i (e ∙ rw (lt-ltb _ _ g) (ap (λ (x : ℕ). takes (next x)) (sym d)))

    pub digit_not : p < length s → no_digit ≤ digit_at s p → on_digit (hex_of (get_or s p 0)) next instead ≡ instead
    unfolding on_digit
    digit_not i h = let d = digit_is i in let g : no_digit ≤ hex_of (get_or s p 0) = omega arith in rw (le-ltb _ _ g)

  pub digit_breaks : (c : St) (next : ℕ → St) → ((b : ℕ) → scan p c b ≡ on_digit (hex_of b) next (breaks (NotGrammar p))) → no_digit ≤ digit_at s p
      → ran scan p c (drop p s) ≡ broke (NotGrammar p)
  unfolding on_digit hex_of
  digit_breaks c next e h = by (dec_lt p (length s))
    where
      by : Dec (p < length s) → ran scan p c (drop p s) ≡ broke (NotGrammar p)
      by (Dec.yes g) = run_break scan s p c (NotGrammar p) g (e (get_or s p 0) ∙ digit_not c next (breaks (NotGrammar p)) g h)
      by (Dec.no g) = end_break scan s p c (NotGrammar p) (omega arith) (e over)

-- ---- after a pair

module _ (s : List ℕ) (p : ℕ) where
  module _ (h : p < length s) (e : get_or s p 0 ≡ ch ".") where
    dotted : (a : List ℕ) → Runs scan s (pairs a) p (dot a) (p + 1)
    unfolding scan
    dotted a = run_take scan s p (pairs a) (dot a) h (rw e)

    pub pair_dot : digit_at s (p + 1) < no_digit → PairSays s p (Ok (Some (p + 1)))
    unfolding scan
    pair_dot d = ((λ a. dotted a ∙ digit_goes s (p + 1) (dot a) (low a) (breaks (NotGrammar (p + 1))) refl d), digit_in s (p + 1) d, omega arith, d)

    pub pair_wrong : no_digit ≤ digit_at s (p + 1) → PairSays s p (Err (record { place = p + 1 }))
    unfolding scan
    pair_wrong d = λ a. dotted a ∙ digit_breaks s (p + 1) (dot a) (low a) (λ b. refl) d

  module _ (n : p < length s → get_or s p 0 ≡ ch "." → ⊥) where
    pub pair_digit : digit_at s p < no_digit → PairSays s p (Ok (Some p))
    unfolding scan
    pair_digit d = let h = digit_in s p d in ((λ a. digit_goes s p (pairs a) (low a) (stops a) (rw (ne_eqb _ _ (n h))) d), h, omega arith, d)

    pub pair_end : no_digit ≤ digit_at s p → PairSays s p (Ok None)
    unfolding scan on_digit hex_of
    pair_end d = λ a. by a (late s p)
      where
        by : (a : List ℕ) → (p < length s) ⊎ (length s ≤ p) → ran scan p (pairs a) (drop p s) ≡ ended a p
        by a (inl h) = run_stop scan s p (pairs a) a h (rw (ne_eqb _ _ (n h)) (digit_not s p (pairs a) (low a) (stops a) h d))
        by a (inr h) = end_stop scan s p (pairs a) a h refl

-- ---- an escape of the quoted form, after its backslash

module _ (s : List ℕ) (p : ℕ) where
  pub escape_over : length s ≤ p → EscapeSays s p (Err (record { place = p }))
  unfolding scan on_short short_of
  escape_over h = λ c a. end_break scan s p (esc c a) (NotGrammar p) h refl

  module _ (h : p < length s) where
    pub escape_wrong : (get_or s p 0 ≡ ch "x" → ⊥) → no_short ≤ short_of (get_or s p 0) → EscapeSays s p (Err (record { place = p }))
    unfolding scan on_short
    escape_wrong n g = λ c a. run_break scan s p (esc c a) (NotGrammar p) h (rw (ne_eqb _ _ n, le-ltb _ _ g))

    pub escape_short : (get_or s p 0 ≡ ch "x" → ⊥) → short_of (get_or s p 0) < no_short
        → EscapeSays s p (Ok (record { value = short_of (get_or s p 0); end = p + 1 }))
    unfolding scan on_short
    escape_short n g = record {
      runs = λ c a. run_take scan s p (esc c a) (text c (a ++ (short_of (get_or s p 0) ∷ []))) h (rw (ne_eqb _ _ n, lt-ltb _ _ g));
      past = omega arith;
      within = omega arith;
    }

    module _ (e : get_or s p 0 ≡ ch "x") where
      after_x : (c : ℕ) (a : List ℕ) → Runs scan s (esc c a) p (hex c a) (p + 1)
      unfolding scan
      after_x c a = run_take scan s p (esc c a) (hex c a) h (rw e)

      pub escape_high : no_digit ≤ digit_at s (p + 1) → EscapeSays s p (Err (record { place = p + 1 }))
      unfolding scan
      escape_high g = λ c a. after_x c a ∙ digit_breaks s (p + 1) (hex c a) (hex_low c a) (λ b. refl) g

      module _ (g : digit_at s (p + 1) < no_digit) where
        after_high : (c : ℕ) (a : List ℕ) → Runs scan s (esc c a) p (hex_low c a (digit_at s (p + 1))) (p + 2)
        unfolding scan
        after_high c a = after_x c a ∙ digit_goes s (p + 1) (hex c a) (hex_low c a) (breaks (NotGrammar (p + 1))) refl g
            ∙ (let n : p + 1 + 1 ≡ p + 2 = omega arith in ap (λ (j : ℕ). ran scan j (hex_low c a (digit_at s (p + 1))) (drop j s)) n)

        pub escape_low : no_digit ≤ digit_at s (p + 2) → EscapeSays s p (Err (record { place = p + 2 }))
        unfolding scan
        escape_low l = λ c a. after_high c a ∙ digit_breaks s (p + 2) (hex_low c a (digit_at s (p + 1)))
            (λ x. text c (a ++ ((16 * digit_at s (p + 1) + x) ∷ [])))
            (λ b. refl) l

        pub escape_hex : digit_at s (p + 2) < no_digit → EscapeSays s p (Ok (record { value = 16 * digit_at s (p + 1) + digit_at s (p + 2); end = p + 3 }))
        unfolding scan
        escape_hex l = record {
          runs = λ c a. after_high c a ∙ digit_goes s (p + 2) (hex_low c a (digit_at s (p + 1))) (λ x. text c (a ++ ((16 * digit_at s (p + 1) + x) ∷ [])))
              (breaks (NotGrammar (p + 2))) refl l
              ∙ (let n : p + 2 + 1 ≡ p + 3 = omega arith in ap (λ (j : ℕ). ran scan j (text c (a ++ ((16 * digit_at s (p + 1) + digit_at s (p + 2)) ∷ [])))
              (drop j s)) n);
          past = omega arith;
          within = omega (arith, digit_in s (p + 2) l);
        }

-- ---- the loops: the bytes so far, in the state of that many

-- one byte more
pub byte_more : (entry store u : List ℕ) (from out v : ℕ) → store ≡ sets entry from u → out ≡ from + length u → set store out v
    ≡ sets entry from (u ++ (v ∷ []))
byte_more entry store u from out v e h = rw (sets_app, ← e, ← h)

pub record Filling (s : List ℕ) (c : St) (p : ℕ) (state : List ℕ → ℕ → St) (place : ℕ → ℕ) (from first : ℕ) (entry store : List ℕ) (i out : ℕ) : Type 0 where
  pub u : List ℕ
  pub runs : Runs scan s c p (state u i) (place i)
  pub filled : store ≡ sets entry first u
  pub placed : out ≡ first + length u
  pub room : from + length u ≤ i
  pub within : i ≤ length s

module _ {s : List ℕ} {c : St} {p : ℕ} {state : List ℕ → ℕ → St} {place : ℕ → ℕ} {from first : ℕ} {entry store : List ℕ} {i out : ℕ}
    (v : Filling s c p state place from first entry store i out) where
  -- a byte b, over the text from i to j
  pub fill_more : (b j : ℕ) → i < j → j ≤ length s → Runs scan s (state v.u i) (place i) (state (v.u ++ (b ∷ [])) j) (place j)
      → Filling s c p state place from first entry (set store out b) j (out + 1)
  fill_more b j l h e = record {
    u = v.u ++ (b ∷ []);
    runs = v.runs ∙ e;
    filled = byte_more entry store v.u first out b v.filled v.placed;
    placed = simp length-append (omega (arith, v.placed));
    room = simp length-append (omega (arith, v.room));
    within = h;
  }

  pub fill_wrong : (q : ℕ) → ran scan (place i) (state v.u i) (drop (place i) s) ≡ broke (NotGrammar q) → ran scan p c (drop p s) ≡ broke (NotGrammar q)
  fill_wrong q e = v.runs ∙ e

  pub fill_closed : (q n : ℕ) → ran scan (place i) (state v.u i) (drop (place i) s) ≡ ended v.u q → i < q → q ≤ length s → n + first ≡ out
      → Closing s c from p first entry store q n
  fill_closed q n e l h o = record {
    u = v.u;
    runs = v.runs ∙ e;
    meant = record { counted = omega (arith, v.placed); filled = v.filled; room = omega (arith, v.room); past = omega (arith, v.room) };
    within = h;
  }

  -- the last byte b, and the part's end
  pub fill_last : (b q n : ℕ) → ran scan (place i) (state v.u i) (drop (place i) s) ≡ ended (v.u ++ (b ∷ [])) q → i < q → q ≤ length s → n + first ≡ out + 1
      → Closing s c from p first entry (set store out b) q n
  fill_last b q n e l h o = record {
    u = v.u ++ (b ∷ []);
    runs = v.runs ∙ e;
    meant = record {
      counted = simp length-append (omega (arith, v.placed));
      filled = byte_more entry store v.u first out b v.filled v.placed;
      room = simp length-append (omega (arith, v.room));
      past = omega (arith, v.room);
    };
    within = h;
  }

-- ---- the quoted form

abbrev pub texting : ℕ → List ℕ → ℕ → St
texting q u i = text q u

module _ (s : List ℕ) (q i : ℕ) (u : List ℕ) where
  pub text_over : q < 256 → length s ≤ i → ran scan i (text q u) (drop i s) ≡ broke (NotGrammar i)
  unfolding scan on_text
  text_over l h = end_break scan s i (text q u) (NotGrammar i) h (let n : eqb over q ≡ false = ne_eqb over q (omega arith) in rw n)

  module _ (h : i < length s) where
    text_escape : get_or s i 0 ≡ ch "\\" → Runs scan s (text q u) i (esc q u) (i + 1)
    unfolding scan on_text
    text_escape e = run_take scan s i (text q u) (esc q u) h (rw e)

    pub text_escaped : (j v : ℕ) → get_or s i 0 ≡ ch "\\" → Escaped s (i + 1) j v → Runs scan s (text q u) i (text q (u ++ (v ∷ []))) j
    text_escaped j v e w = text_escape e ∙ w.runs q u

    pub text_unescaped : (r : ℕ) → get_or s i 0 ≡ ch "\\" → EscapeSays s (i + 1) (Err (record { place = r })) → ran scan i (text q u) (drop i s)
        ≡ broke (NotGrammar r)
    text_unescaped r e w = text_escape e ∙ w q u

    module _ (n : get_or s i 0 ≡ ch "\\" → ⊥) where
      pub text_closes : get_or s i 0 ≡ q → ran scan i (text q u) (drop i s) ≡ ended u (i + 1)
      unfolding scan on_text
      text_closes e = run_take scan s i (text q u) (done u) h (rw (ne_eqb _ _ n, eq-eqb _ _ e)) ∙ closed (dec_lt (i + 1) (length s))
        where
          closed : Dec (i + 1 < length s) → ran scan (i + 1) (done u) (drop (i + 1) s) ≡ ended u (i + 1)
          closed (Dec.yes g) = run_stop scan s (i + 1) (done u) u g refl
          closed (Dec.no g) = end_stop scan s (i + 1) (done u) u (omega arith) refl

      module _ (m : get_or s i 0 ≡ q → ⊥) where
        pub text_low : get_or s i 0 < 0x20 → ran scan i (text q u) (drop i s) ≡ broke (NotGrammar i)
        unfolding scan on_text
        text_low l = run_break scan s i (text q u) (NotGrammar i) h (rw (ne_eqb _ _ n, ne_eqb _ _ m, lt-ltb _ _ l))

        pub text_high : 0x7E < get_or s i 0 → ran scan i (text q u) (drop i s) ≡ broke (NotGrammar i)
        unfolding scan on_text
        text_high l = run_break scan s i (text q u) (NotGrammar i) h (let k : 0x20 ≤ get_or s i 0 = omega arith in
            rw (ne_eqb _ _ n, ne_eqb _ _ m, le-ltb _ _ k, lt-leb _ _ l))

        pub text_plain : 0x20 ≤ get_or s i 0 → get_or s i 0 ≤ 0x7E → Runs scan s (text q u) i (text q (u ++ (get_or s i 0 ∷ []))) (i + 1)
        unfolding scan on_text
        text_plain k l = run_take scan s i (text q u) (text q (u ++ (get_or s i 0 ∷ []))) h (rw (ne_eqb _ _ n, ne_eqb _ _ m, le-ltb _ _ k, le-leb _ _ l))

-- one byte of it, where no quote closes it
module _ (s : List ℕ) (i : ℕ) (h : i < length s) where
  pub one_escaped : get_or s i 0 ≡ ch "\\" → (r : Result (Taken ℕ) items.NotGrammar) → EscapeSays s (i + 1) r → OneByteSays s i r
  one_escaped e (Ok t) w = record { runs = λ c a m. text_escaped s c i a h t.end t.value e w; past = omega (arith, w.past); within = w.within }
  one_escaped e (Err r) w = λ c a m. text_unescaped s c i a h r.place e w

  module _ (n : get_or s i 0 ≡ ch "\\" → ⊥) where
    pub one_low : get_or s i 0 < 0x20 → OneByteSays s i (Err (record { place = i }))
    one_low l = λ c a m. text_low s c i a h n m l

    pub one_high : 0x7E < get_or s i 0 → OneByteSays s i (Err (record { place = i }))
    one_high l = λ c a m. text_high s c i a h n m l

    pub one_plain : 0x20 ≤ get_or s i 0 → get_or s i 0 ≤ 0x7E → OneByteSays s i (Ok (record { value = get_or s i 0; end = i + 1 }))
    one_plain k l = record { runs = λ c a m. text_plain s c i a h n m k l; past = omega arith; within = omega arith }

-- ---- hex pairs

-- after the first digit of a pair, at its place
abbrev pub pairing : List ℕ → List ℕ → ℕ → St
pairing s u i = low u (digit_at s i)

abbrev pub next_place : ℕ → ℕ
next_place i = i + 1

module _ (s : List ℕ) (i : ℕ) (u : List ℕ) where
  pub pair_open : no_digit ≤ digit_at s (i + 1) → ran scan (i + 1) (pairing s u i) (drop (i + 1) s) ≡ broke (NotGrammar (i + 1))
  unfolding scan
  pair_open g = digit_breaks s (i + 1) (pairing s u i) (λ x. pairs (u ++ ((16 * digit_at s i + x) ∷ []))) (λ b. refl) g

  abbrev one_pair : List ℕ
  one_pair = u ++ ((16 * digit_at s i + digit_at s (i + 1)) ∷ [])

  module _ (g : digit_at s (i + 1) < no_digit) where
    whole_pair : Runs scan s (pairing s u i) (i + 1) (pairs one_pair) (i + 2)
    unfolding scan
    whole_pair = digit_goes s (i + 1) (pairing s u i) (λ x. pairs (u ++ ((16 * digit_at s i + x) ∷ []))) (breaks (NotGrammar (i + 1))) refl g
        ∙ (let n : i + 1 + 1 ≡ i + 2 = omega arith in ap (λ (j : ℕ). ran scan j (pairs one_pair) (drop j s)) n)

    pub pair_more : (j : ℕ) → PairSays s (i + 2) (Ok (Some j)) → Runs scan s (pairing s u i) (i + 1) (pairing s one_pair j) (j + 1)
    pair_more j w = whole_pair ∙ w.0 one_pair

    pub pair_wrongs : (j : ℕ) → PairSays s (i + 2) (Err (record { place = j })) → ran scan (i + 1) (pairing s u i) (drop (i + 1) s) ≡ broke (NotGrammar j)
    pair_wrongs j w = whole_pair ∙ w one_pair

    pub pair_ends : PairSays s (i + 2) (Ok None) → ran scan (i + 1) (pairing s u i) (drop (i + 1) s) ≡ ended one_pair (i + 2)
    pair_ends w = whole_pair ∙ w one_pair

-- ---- a whole part

module _ (s : List ℕ) (p first : ℕ) (entry : List ℕ) where
  pub part_over : length s ≤ p → PieceSays s p first entry entry (Err (record { place = p }))
  unfolding scan
  part_over h = end_break scan s p begin (NotGrammar p) h refl

  module _ (h : p < length s) where
    pub part_none : (get_or s p 0 ≡ ch "$" → ⊥) → PieceSays s p first entry entry (Err (record { place = p }))
    unfolding scan
    part_none n = run_break scan s p begin (NotGrammar p) h (rw (ne_eqb _ _ n))

    module _ (e : get_or s p 0 ≡ ch "$") where
      opened : Runs scan s begin p dollar (p + 1)
      unfolding scan
      opened = run_take scan s p begin dollar h (rw e)

      empty : ran scan (p + 1) dollar (drop (p + 1) s) ≡ ended [] (p + 1) → PieceSays s p first entry entry (Ok (record { value = 0; end = p + 1 }))
      empty r = record {
        u = [];
        runs = opened ∙ r;
        meant = record { counted = refl; filled = refl; room = omega arith; past = omega arith };
        within = omega arith;
      }

      pub part_end : length s ≤ p + 1 → PieceSays s p first entry entry (Ok (record { value = 0; end = p + 1 }))
      unfolding scan on_digit hex_of
      part_end g = empty (end_stop scan s (p + 1) dollar [] g refl)

      -- what a reader of the rest says, from the state c at i on
      pub part_rest : (c : St) (from i : ℕ) → p < from → Runs scan s dollar (p + 1) c i → (exit : List ℕ) (r : Result (Taken ℕ) items.NotGrammar)
          → StateSays s c from i first entry exit r
          → PieceSays s p first entry exit r
      part_rest c from i l t exit (Ok v) w = record {
        u = w.u;
        runs = opened ∙ t ∙ w.runs;
        meant = record { counted = w.meant.counted; filled = w.meant.filled; room = omega (arith, w.meant.room); past = omega (arith, w.meant.past) };
        within = w.within;
      }
      part_rest c from i l t exit (Err e) w = opened ∙ t ∙ w

      module _ (g : p + 1 < length s) where
        pub part_double : get_or s (p + 1) 0 ≡ ch "\"" → Runs scan s dollar (p + 1) (text (ch "\"") []) (p + 1 + 1)
        unfolding scan
        part_double x = run_take scan s (p + 1) dollar (text (ch "\"") []) g (rw x)

        pub part_single : get_or s (p + 1) 0 ≡ ch "'" → Runs scan s dollar (p + 1) (text (ch "'") []) (p + 1 + 1)
        unfolding scan
        part_single x = run_take scan s (p + 1) dollar (text (ch "'") []) g (rw x)

        module _ (n : get_or s (p + 1) 0 ≡ ch "\"" → ⊥) (m : get_or s (p + 1) 0 ≡ ch "'" → ⊥) where
          pub part_pairs : digit_at s (p + 1) < no_digit → Runs scan s dollar (p + 1) (low [] (digit_at s (p + 1))) (p + 1 + 1)
          unfolding scan
          part_pairs d = digit_goes s (p + 1) dollar (low []) (stops []) (rw (ne_eqb _ _ n, ne_eqb _ _ m)) d

          pub part_bare : no_digit ≤ digit_at s (p + 1) → PieceSays s p first entry entry (Ok (record { value = 0; end = p + 1 }))
          unfolding scan
          part_bare d = empty (run_stop scan s (p + 1) dollar [] g (rw (ne_eqb _ _ n, ne_eqb _ _ m) (digit_not s (p + 1) dollar (low []) (stops []) g d)))
