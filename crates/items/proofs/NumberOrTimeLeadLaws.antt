-- Digits with no sign: number and time, and what the byte after them makes of them. Assumes nothing.
use Rattle.std.specs.Prelude.{Result, Ok, Err}
use Prim.Native.Nat.{ℕ, zero, suc, ◌+◌, ◌*◌, ◌-◌, ◌≤◌, ◌<◌, ◌^◌}
use mathlib.Core.Path.{◌≡◌, refl, sym, ◌∙◌, ap, subst}
use mathlib.Core.Bool.{Bool, true, false}
use mathlib.Core.Logic.{◌⊎◌, inl, inr}
use mathlib.Core.List.{List}
use native.Mathlib.Omega.{arith}
use native.Mathlib.Nat.{zero-add, pow-le-pow_right, pow-suc}
use native.Mathlib.Numerals.{add-one}
use lib.Dec.{eqb, ltb}
use lib.ListN.{length, get_or}
use borrow.Author.Tests.{eq-eqb, ne_eqb, eqb-true, eqb-false, ltb-true, ltb-false}
use Rattle.meaning.specs.Letters.{ch}
use Rattle.meaning.specs.Limits.{text_limit}
use Rattle.meaning.specs.declared.Refusal.TheVariants.{NotGrammar}
use Rattle.grammar.specs.Numbers as G
use Rattle.machine.specs.Scan.{takes, breaks}
use Rattle.machine.specs.Numeric as S
use Rattle.machine.specs.Numeric.{St, scan, dig, begin, int, both, field, hex_mark, month, minute, alone, Len, d1, d2, d3, d4, num_of}
use Rattle.machine.proofs.Runs.{NoDigit}
use Rattle.machine.proofs.Numeric.Rows.{NumIs, num_class, num_digit, fst_digit}
use Rattle.items.specs.Between.Places.{byte_at}
use Rattle.items.specs.Between.NumberOrTime.{Scanned, Reads, IsDigit, Edge, Holds, Span, PlainSays, TimelySays, Ready, Onto, len_of, First, FewSays, LeadSays}
use Rattle.items.specs.Between.NumberOrTime.{Marks, Plainly, taken}
use Rattle.items.specs.declared.NotGrammar as NotGrammarOf
use Rattle.items.specs.declared.number.Acc.{Acc}
use Rattle.items.specs.declared.Taken.{Taken}
use Rattle.items.specs.declared.number_or_time.Few.{Few}
use Rattle.items.specs.declared.number_or_time.Lead as LeadOf
use Rattle.items.specs.declared.number_or_time.Lead.TheVariants as Lead
use Rattle.items.specs.declared.number_or_time.Mark as MarkOf
use Rattle.items.specs.declared.number_or_time.Mark.TheVariants as Mark
use Rattle.items.proofs.PlacesLaws.{byte_in, byte_out}
use Rattle.items.proofs.NumberOrTimeLaws.{edge_none, no_digit_lem, took, breaks_at, same}
use Rattle.items.proofs.NumberDecimalLaws.{span_low}
use Rattle.items.proofs.NumberPlainLaws.{span_small}

-- ---- the first digits

pub record Among (s : List ℕ) (q : ℕ) (x : Acc) (v n i : ℕ) : Type 0 where
  pub some : 1 ≤ n
  pub most : n ≤ 4
  pub place : i ≡ q + n
  pub within : i ≤ length s
  pub low : v < 10 ^ n
  pub none : n ≡ 1 → get_or s q 0 ≡ ch "0" → v ≡ 0
  pub zeros : x.z ≤ n
  pub first : First s q n v i
  pub holds : Holds v x

begin_digit : (q b : ℕ) → IsDigit b → scan q begin b ≡ takes (both q d1 (eqb b (ch "0")) (b - ch "0"))
begin_digit q b i = go (eqb b (ch "0")) refl
  where
    go : (z : Bool) → eqb b (ch "0") ≡ z → scan q begin b ≡ takes (both q d1 z (b - ch "0"))
    go true e = let f : b ≡ ch "0" = eqb-true b (ch "0") e in rw f
    go false e = let f = eqb-false b (ch "0") e in rw (fst_digit b (omega arith)) (ap (λ (x : ℕ). takes (both q d1 false x)) (zero-add (b - ch "0")))

pub among_start : (s : List ℕ) (q : ℕ) (a x : Acc) → q < length s → IsDigit (get_or s q 0) → a.z ≡ 0 → x.z ≤ a.z + 1 → Holds 0 a
    → ((m : ℕ) → Holds m a → Holds (dig m (get_or s q 0)) x) → Among s q x (get_or s q 0 - ch "0") 1 (q + 1)
among_start s q a x h i zero-z z o f = record {
  some = omega arith;
  most = omega arith;
  place = refl;
  within = omega arith;
  low = omega arith;
  none = λ e k. omega arith;
  zeros = omega arith;
  first = λ r k. took (both q d1 (eqb (get_or s q 0) (ch "0")) (get_or s q 0 - ch "0")) h (begin_digit q (get_or s q 0) i) k;
  holds = subst (λ (y : ℕ). Holds y x) (zero-add (get_or s q 0 - ch "0")) (f 0 o);
}

room : (n v : ℕ) → n < 4 → v < 10 ^ n → v < 1000
room n v h l = omega (arith, pow-le-pow_right {n = 10} (omega arith) {i = n} {j = 3} (omega arith))

pub among_room : {s : List ℕ} {q : ℕ} {x : Acc} {v n i : ℕ} → Among s q x v n i → n < 4 → v < 1000
among_room {v = v} {n = n} a h = room n v h a.low

step : (n : ℕ) → 1 ≤ n → n < 4 → (p q : ℕ) (z : Bool) (v b : ℕ) → IsDigit b → scan p (both q (len_of n) z v) b ≡ takes (both q (len_of (suc n)) z (dig v b))
step zero k h p q z v b i = absurd (omega arith)
step (suc zero) k h p q z v b i = rw (num_digit b i)
step (suc (suc zero)) k h p q z v b i = rw (num_digit b i)
step (suc (suc (suc zero))) k h p q z v b i = rw (num_digit b i)
step (suc (suc (suc (suc n)))) k h p q z v b i = absurd (omega arith)

pub among_next : (s : List ℕ) (q : ℕ) (x y : Acc) (v n i : ℕ) → Among s q x v n i → n < 4 → i < length s → ch "0" ≤ get_or s i 0 → get_or s i 0 ≤ ch "9"
    → y.z ≤ x.z + 1 → ((m : ℕ) → Holds m x → Holds (dig m (get_or s i 0)) y) → Among s q y (10 * v + (get_or s i 0 - ch "0")) (n + 1) (i + 1)
among_next s q x y v n i a h k l u z f = record {
  some = omega arith;
  most = omega arith;
  place = omega (arith, a.place);
  within = omega arith;
  low = omega (arith, a.low, ap (λ (j : ℕ). 10 ^ j) (add-one n), pow-suc 10 n);
  none = λ o. absurd (omega (arith, a.some));
  zeros = omega (arith, a.zeros);
  first = λ r t. a.first r (took (both q (len_of (n + 1)) (eqb (get_or s q 0) (ch "0")) (dig v (get_or s i 0))) k
      (subst (λ (j : ℕ). scan i (both q (len_of n) (eqb (get_or s q 0) (ch "0")) v) (get_or s i 0)
      ≡ takes (both q (len_of j) (eqb (get_or s q 0) (ch "0")) (dig v (get_or s i 0)))) (sym (add-one n))
      (step n a.some h i q (eqb (get_or s q 0) (ch "0")) v (get_or s i 0) (omega arith))) t);
  holds = f v a.holds;
}

pub among_says : (s : List ℕ) (q : ℕ) (x : Acc) (v n i : ℕ) → Among s q x v n i → (n ≡ 4) ⊎ Edge s i → FewSays s q (record { n = n; v = v; acc = x; at = i })
among_says s q x v n i a e = record {
  some = a.some;
  most = a.most;
  place = a.place;
  within = a.within;
  small = a.low;
  none = a.none;
  zeros = omega (arith, a.zeros, a.place);
  edge = e;
  first = a.first;
  holds = a.holds;
}

-- ---- the byte after them

-- the byte b does not go on as a time, after k digits
record Apart (k : Len) (b : ℕ) : Type 0 where
  digit : (k ≡ d4 → ⊥) → NoDigit b
  colon : k ≡ d2 → b ≡ ch ":" → ⊥
  dash : k ≡ d4 → b ≡ ch "-" → ⊥

d1_4 : d1 ≡ d4 → ⊥
d1_4 e = let z : ◌≡◌ {A = ℕ} 0 1 = cc in omega arith

d2_4 : d2 ≡ d4 → ⊥
d2_4 e = let z : ◌≡◌ {A = ℕ} 0 1 = cc in omega arith

d3_4 : d3 ≡ d4 → ⊥
d3_4 e = let z : ◌≡◌ {A = ℕ} 0 1 = cc in omega arith

as_number_lem : (k : Len) (z : Bool) (p q v : ℕ) {b : ℕ} {c : S.Num} → NumIs b c → Apart k b → S.on_both p q k z v b c ≡ S.as_number p q k z v b c
as_number_lem d1 z p q v (NumIs.digit i) a = absurd (no_digit_lem (a.digit d1_4) i)
as_number_lem d2 z p q v (NumIs.digit i) a = absurd (no_digit_lem (a.digit d2_4) i)
as_number_lem d3 z p q v (NumIs.digit i) a = absurd (no_digit_lem (a.digit d3_4) i)
as_number_lem d4 z p q v (NumIs.digit i) a = refl
as_number_lem k z p q v NumIs.point a = refl
as_number_lem k z p q v (NumIs.e_is e) a = refl
as_number_lem k z p q v (NumIs.x_is e) a = refl
as_number_lem d1 z p q v NumIs.colon a = refl
as_number_lem d2 z p q v NumIs.colon a = absurd (a.colon refl refl)
as_number_lem d3 z p q v NumIs.colon a = refl
as_number_lem d4 z p q v NumIs.colon a = refl
as_number_lem d1 z p q v NumIs.minus a = refl
as_number_lem d2 z p q v NumIs.minus a = refl
as_number_lem d3 z p q v NumIs.minus a = refl
as_number_lem d4 z p q v NumIs.minus a = absurd (a.dash refl refl)
as_number_lem k z p q v NumIs.other a = refl

as_nought : (q : ℕ) {b : ℕ} {c : S.Num} → NumIs b c → NoDigit b → (b ≡ ch "x" → ⊥) → (b ≡ ch "X" → ⊥) → S.on_nought q false c ≡ S.on_int q false 0 b c
as_nought q (NumIs.digit i) n x y = absurd (no_digit_lem n i)
as_nought q NumIs.point n x y = refl
as_nought q (NumIs.e_is e) n x y = refl
as_nought q (NumIs.x_is G.X.small) n x y = absurd (x refl)
as_nought q (NumIs.x_is G.X.capital) n x y = absurd (y refl)
as_nought q NumIs.colon n x y = refl
as_nought q NumIs.minus n x y = refl
as_nought q NumIs.other n x y = refl

ended_run : (n b : ℕ) → n < 4 → (n ≡ 4) ⊎ NoDigit b → NoDigit b
ended_run n b h (inl i) = absurd (omega arith)
ended_run n b h (inr i) = i

apart : (n b : ℕ) → 1 ≤ n → n ≤ 4 → (n ≡ 4) ⊎ NoDigit b → (n ≡ 2 → b ≡ ch ":" → ⊥) → (n ≡ 4 → b ≡ ch "-" → ⊥) → Apart (len_of n) b
apart zero b l u e x y = absurd (omega arith)
apart (suc zero) b l u e x y = record {
  digit = λ k. ended_run 1 b (omega arith) e;
  colon = λ k. let z : ◌≡◌ {A = ℕ} 0 1 = cc in absurd (omega arith);
  dash = λ k. absurd (d1_4 k);
}
apart (suc (suc zero)) b l u e x y = record { digit = λ k. ended_run 2 b (omega arith) e; colon = λ k. x refl; dash = λ k. absurd (d2_4 k) }
apart (suc (suc (suc zero))) b l u e x y = record {
  digit = λ k. ended_run 3 b (omega arith) e;
  colon = λ k. let z : ◌≡◌ {A = ℕ} 0 1 = cc in absurd (omega arith);
  dash = λ k. absurd (d3_4 k);
}
apart (suc (suc (suc (suc n)))) b l u e x y = record {
  digit = λ k. absurd (k refl);
  colon = λ k. let z : ◌≡◌ {A = ℕ} 0 1 = cc in absurd (omega arith);
  dash = λ k. y (omega arith);
}

not_number : (n : ℕ) → 1 < n → (p q v b : ℕ) (c : S.Num) → S.as_number p q (len_of n) true v b c ≡ breaks (NotGrammar p)
not_number zero h p q v b c = absurd (omega arith)
not_number (suc zero) h p q v b c = absurd (omega arith)
not_number (suc (suc zero)) h p q v b c = refl
not_number (suc (suc (suc zero))) h p q v b c = refl
not_number (suc (suc (suc (suc n)))) h p q v b c = refl

-- what is known of the byte after the digits, or of the text's end
pub record Follows (s : List ℕ) (q n i : ℕ) : Type 0 where
  pub colon : n ≡ 2 → byte_at s i ≡ ch ":" → ⊥
  pub dash : n ≡ 4 → byte_at s i ≡ ch "-" → ⊥
  pub small_x : n ≡ 1 → get_or s q 0 ≡ ch "0" → byte_at s i ≡ ch "x" → ⊥
  pub large_x : n ≡ 1 → get_or s q 0 ≡ ch "0" → byte_at s i ≡ ch "X" → ⊥

module _ (s : List ℕ) (q : ℕ) (w : Few) (f : FewSays s q w) (o : Follows s q w.n w.at) where
  edged : (w.n ≡ 4) ⊎ NoDigit (byte_at s w.at)
  edged = go f.edge
    where
      go : (w.n ≡ 4) ⊎ Edge s w.at → (w.n ≡ 4) ⊎ NoDigit (byte_at s w.at)
      go (inl e) = inl e
      go (inr e) = inr (edge_none e)

  off : Apart (len_of w.n) (byte_at s w.at)
  off = apart w.n (byte_at s w.at) f.some f.most edged o.colon o.dash

  whole : eqb (get_or s q 0) (ch "0") ≡ false → Onto s q begin w.at (int q false w.v)
  whole e = λ r k. f.first r (rw e (same (int q false w.v) (as_number_lem (len_of w.n) false w.at q w.v (num_class (byte_at s w.at)) off ∙ plain
      (len_of w.n)) k))
    where
      plain : (k : Len) → S.as_number w.at q k false w.v (byte_at s w.at) (num_of (byte_at s w.at))
          ≡ scan w.at (int q false w.v) (byte_at s w.at)
      plain d1 = refl
      plain d2 = refl
      plain d3 = refl
      plain d4 = refl

  bare : get_or s q 0 ≡ ch "0" → w.n ≡ 1 → Onto s q begin w.at (int q false w.v)
  bare d e = λ r k.
      let v : w.v ≡ 0 = f.none e d in
      let j : Apart d1 (byte_at s w.at) = subst (λ (n : ℕ). Apart (len_of n) (byte_at s w.at)) e off in
      f.first r (rw (eq-eqb (get_or s q 0) (ch "0") d, e)
      (same (int q false w.v) (as_number_lem d1 true w.at q w.v (num_class (byte_at s w.at)) j
      ∙ as_nought q (num_class (byte_at s w.at)) (j.digit d1_4) (o.small_x e d) (o.large_x e d)
      ∙ ap (λ (x : ℕ). S.on_int q false x (byte_at s w.at) (num_of (byte_at s w.at))) (sym v)) k))

  nothing : get_or s q 0 ≡ ch "0" → 1 < w.n → Reads s q begin (Err (NotGrammar w.at))
  nothing d h =
      f.first _ (rw (eq-eqb (get_or s q 0) (ch "0") d)
      (breaks_at (as_number_lem (len_of w.n) true w.at q w.v (num_class (byte_at s w.at)) off
      ∙ not_number w.n h w.at q w.v (byte_at s w.at) (num_of (byte_at s w.at)))))

  module _ (short : length s ≤ text_limit) where
    ready : Ready s w.acc 0 w.at
    ready = record { within = f.within; short = short; zeros = f.zeros; places = omega arith }

    number : (get_or s q 0 ≡ ch "0" → w.n ≤ 1) → Onto s q begin w.at (int q false w.v)
    number k = go (eqb (get_or s q 0) (ch "0")) refl
      where
        go : (x : Bool) → eqb (get_or s q 0) (ch "0") ≡ x → Onto s q begin w.at (int q false w.v)
        go true e = let d = eqb-true (get_or s q 0) (ch "0") e in bare d (let i = k d in omega (arith, f.some))
        go false e = whole e

    pub lead_plain : (r : Result LeadOf.Lead NotGrammarOf.NotGrammar) → Plainly (get_or s q 0) w.n w.acc w.at r → LeadSays s q r
    lead_plain r (Plainly.number k) = (ready, (w.v, f.holds, number k))
    lead_plain r (Plainly.nothing d h) = nothing d h

pub at_end : (s : List ℕ) (q n i : ℕ) → length s ≤ i → Follows s q n i
at_end s q n i h =
    let e = byte_out s i h in
    record { colon = λ a b. omega arith; dash = λ a b. omega arith; small_x = λ a b d. omega arith; large_x = λ a b d. omega arith }

pub at_other : (s : List ℕ) (q n i : ℕ) → i < length s → (r : MarkOf.Mark) → Marks n (get_or s q 0) (get_or s i 0) r → r ≡ Mark.Other → Follows s q n i
at_other s q n i h r (Marks.colon a b) e = let z : ◌≡◌ {A = ℕ} 0 1 = cc in absurd (omega arith)
at_other s q n i h r (Marks.dash a b) e = let z : ◌≡◌ {A = ℕ} 0 1 = cc in absurd (omega arith)
at_other s q n i h r (Marks.letter a b c) e = let z : ◌≡◌ {A = ℕ} 0 1 = cc in absurd (omega arith)
at_other s q n i h r (Marks.other a b c d) e =
    let p = byte_in s i h in
    record { colon = λ x y. a x (sym p ∙ y); dash = λ x y. b x (sym p ∙ y); small_x = λ x y z. c x y (sym p ∙ z); large_x = λ x y z. d x y (sym p ∙ z) }

module _ (s : List ℕ) (q : ℕ) (w : Few) (f : FewSays s q w) (h : w.at < length s) (r : MarkOf.Mark) (m : Marks w.n (get_or s q 0) (get_or s w.at 0) r) where
  from : (n : ℕ) → w.n ≡ n → Onto s q begin w.at (both q (len_of n) (eqb (get_or s q 0) (ch "0")) w.v)
  from n e = λ r k. f.first r (rw e k)

  pub colon_small : r ≡ Mark.Colon → w.v < 100
  colon_small e = go m e
    where
      go : {r : MarkOf.Mark} → Marks w.n (get_or s q 0) (get_or s w.at 0) r → r ≡ Mark.Colon → w.v < 100
      go (Marks.colon a b) e = let l : w.v < 10 ^ 2 = rw a at f.small in omega arith
      go (Marks.dash a b) e = let z : ◌≡◌ {A = ℕ} 0 1 = cc in absurd (omega arith)
      go (Marks.letter a b c) e = let z : ◌≡◌ {A = ℕ} 0 1 = cc in absurd (omega arith)
      go (Marks.other a b c d) e = let z : ◌≡◌ {A = ℕ} 0 1 = cc in absurd (omega arith)

  pub lead_colon : r ≡ Mark.Colon → LeadSays s q (Ok (Lead.Hour (taken w.v (w.at + 1))))
  lead_colon e = (omega arith, colon_small e, go m e)
    where
      go : {r : MarkOf.Mark} → Marks w.n (get_or s q 0) (get_or s w.at 0) r → r ≡ Mark.Colon → Onto s q begin (w.at + 1) (field q (minute alone w.v) 2 0)
      go (Marks.colon a b) e = λ r k. from 2 a r (took (field q (minute alone w.v) 2 0) h (rw b) k)
      go (Marks.dash a b) e = let z : ◌≡◌ {A = ℕ} 0 1 = cc in absurd (omega arith)
      go (Marks.letter a b c) e = let z : ◌≡◌ {A = ℕ} 0 1 = cc in absurd (omega arith)
      go (Marks.other a b c d) e = let z : ◌≡◌ {A = ℕ} 0 1 = cc in absurd (omega arith)

  pub lead_dash : r ≡ Mark.Dash → LeadSays s q (Ok (Lead.Year (taken w.v (w.at + 1))))
  lead_dash e = let g = go m e in (omega arith, g.0, g.1)
    where
      go : {r : MarkOf.Mark} → Marks w.n (get_or s q 0) (get_or s w.at 0) r → r ≡ Mark.Dash → (w.v < 10000) × Onto s q begin
          (w.at + 1) (field q (month w.v) 2 0)
      go (Marks.colon a b) e = let z : ◌≡◌ {A = ℕ} 0 1 = cc in absurd (omega arith)
      go (Marks.dash a b) e = let l : w.v < 10 ^ 4 = rw a at f.small in (omega arith, λ r k. from 4 a r (took (field q (month w.v) 2 0) h (rw b) k))
      go (Marks.letter a b c) e = let z : ◌≡◌ {A = ℕ} 0 1 = cc in absurd (omega arith)
      go (Marks.other a b c d) e = let z : ◌≡◌ {A = ℕ} 0 1 = cc in absurd (omega arith)

  x_took : (b : ℕ) → (b ≡ ch "X") ⊎ (b ≡ ch "x") → scan w.at (both q d1 true w.v) b ≡ takes (hex_mark q false)
  x_took b (inl e) = rw e
  x_took b (inr e) = rw e

  pub lead_x : r ≡ Mark.X → LeadSays s q (Ok (Lead.Hex (w.at + 1)))
  lead_x e = (omega arith, go m e)
    where
      go : {r : MarkOf.Mark} → Marks w.n (get_or s q 0) (get_or s w.at 0) r → r ≡ Mark.X → Onto s q begin (w.at + 1) (hex_mark q false)
      go (Marks.colon a b) e = let z : ◌≡◌ {A = ℕ} 0 1 = cc in absurd (omega arith)
      go (Marks.dash a b) e = let z : ◌≡◌ {A = ℕ} 0 1 = cc in absurd (omega arith)
      go (Marks.letter a b c) e = λ r k. from 1 a r (rw (eq-eqb (get_or s q 0) (ch "0") b) (took (hex_mark q false) h (x_took (get_or s w.at 0) c) k))
      go (Marks.other a b c d) e = let z : ◌≡◌ {A = ℕ} 0 1 = cc in absurd (omega arith)

-- a lead that is known
pub lead_is : (s : List ℕ) (q : ℕ) (r t : LeadOf.Lead) → LeadSays s q (Ok r) → r ≡ t → LeadSays s q (Ok t)
lead_is s q r t k e = subst (λ (x : LeadOf.Lead). LeadSays s q (Ok x)) e k

-- ---- plain digits, the first of which is not 0

-- the scanner after n digits with the value w
abbrev after : ℕ → ℕ → ℕ → St
after zero q w = begin
after (suc zero) q w = both q d1 false w
after (suc (suc zero)) q w = both q d2 false w
after (suc (suc (suc zero))) q w = both q d3 false w
after (suc (suc (suc (suc zero)))) q w = both q d4 false w
after (suc (suc (suc (suc (suc n))))) q w = int q false w

-- one digit more
grows : (n p q w b : ℕ) → IsDigit b → (n ≡ 0 → (b ≡ ch "0" → ⊥) × (p ≡ q) × (w ≡ 0)) → scan p (after n q w) b ≡ takes (after (suc n) q (dig w b))
grows zero p q w b i f =
    let g = f refl in
    let z : 10 * w + (b - ch "0") ≡ b - ch "0" = omega (arith, g.2) in
    rw (g.1, z) (begin_digit q b i ∙ ap (λ (x : Bool). takes (both q d1 x (b - ch "0"))) (ne_eqb b (ch "0") g.0))
grows (suc zero) p q w b i f = rw (num_digit b i)
grows (suc (suc zero)) p q w b i f = rw (num_digit b i)
grows (suc (suc (suc zero))) p q w b i f = rw (num_digit b i)
grows (suc (suc (suc (suc zero)))) p q w b i f = rw (num_digit b i)
grows (suc (suc (suc (suc (suc n))))) p q w b i f = rw (num_digit b i)

span_none : {s : List ℕ} {i m j w : ℕ} → Span s i m j w → j ≡ i → w ≡ m
span_none Span.here e = refl
span_none (Span.next h l d) e = absurd (omega (arith, span_low h, e))

module _ (s : List ℕ) (q : ℕ) (n0 : get_or s q 0 ≡ ch "0" → ⊥) where
  reaches : {j w : ℕ} → Span s q 0 j w → (n : ℕ) → j ≡ q + n → Onto s q begin j (after n q w)
  reaches Span.here zero e = λ r k. k
  reaches Span.here (suc n) e = absurd (omega arith)
  reaches (Span.next h l d) zero e = absurd (omega (arith, span_low h))
  reaches (Span.next {j = j} {w = w} h l d) (suc n) e = λ r k.
      let f : j ≡ q + n = omega arith in
      reaches h n f r (took (after (suc n) q (dig w (get_or s j 0))) l (grows n j q w (get_or s j 0) d
      (λ z. let g : j ≡ q = omega arith in ((λ x. n0 (ap (λ (y : ℕ). get_or s y 0) (sym g) ∙ x)), g, span_none h g)))
      (subst (λ (x : ℕ). Reads s x (after (suc n) q (dig w (get_or s j 0))) r) (sym (add-one j)) k))

  module _ (w : Taken ℕ) (p : PlainSays s q 0 w) (d : IsDigit (get_or s q 0)) (m : q < length s) (t : TimelySays s w.end false) where
    -- a digit stands at q, and so there is one at least
    some : q < w.end
    some = go p.stop (ltb q w.end) refl
      where
        none : w.end ≡ q → w.value ≡ 0
        none e = span_none p.span e

        go : Edge s w.end ⊎ (1844674407370955160 < w.value) → (x : Bool) → ltb q w.end ≡ x → q < w.end
        go x true e = ltb-true q w.end e
        go (inl x) false e =
            let f : w.end ≡ q = omega (arith, ltb-false q w.end e, p.low) in
            absurd (no_digit_lem (edge_none (subst (Edge s) f x)) (rw (byte_in s q m) d))
        go (inr x) false e = let f : w.end ≡ q = omega (arith, ltb-false q w.end e, p.low) in absurd (omega (arith, none f))

    small : (n : ℕ) → w.end ≡ q + n → n ≤ 4 → w.value < 10 ^ 4
    small n e h =
        let k = span_small 0 p.span (omega arith) in
        let f : 0 + (w.end - q) ≤ 4 = omega arith in
        omega (arith, k, pow-le-pow_right {n = 10} (omega arith) {i = 0 + (w.end - q)} {j = 4} f)

    ended : (n : ℕ) → w.end ≡ q + n → n ≤ 4 → NoDigit (byte_at s w.end)
    ended n e h = go p.stop
      where
        go : Edge s w.end ⊎ (1844674407370955160 < w.value) → NoDigit (byte_at s w.end)
        go (inl x) = edge_none x
        go (inr x) = absurd (omega (arith, small n e h))

    -- the byte after up to four digits makes a number of them
    turned : (n : ℕ) → w.end ≡ q + n → 1 ≤ n → n ≤ 4 → (r : Scanned) → Reads s w.end (int q false w.value) r
        → Reads s w.end (both q (len_of n) false w.value) r
    turned n e l h r k =
        same (int q false w.value) (as_number_lem (len_of n) false w.end q w.value (num_class (byte_at s w.end))
        (apart n (byte_at s w.end) l h (inr (ended n e h)) (λ x y. t.0 y) (λ x y. t.1 y)) ∙ plain (len_of n)) k
      where
        plain : (k : Len) → S.as_number w.end q k false w.value (byte_at s w.end) (num_of (byte_at s w.end))
            ≡ scan w.end (int q false w.value) (byte_at s w.end)
        plain d1 = refl
        plain d2 = refl
        plain d3 = refl
        plain d4 = refl

    pub plain_leads : Onto s q begin w.end (int q false w.value)
    plain_leads = λ r k. let e : w.end ≡ q + (w.end - q) = omega (arith, p.low) in
        reaches p.span (w.end - q) e r (go (w.end - q) e (omega (arith, some)) r k)
      where
        go : (n : ℕ) → w.end ≡ q + n → 1 ≤ n → (r : Scanned) → Reads s w.end (int q false w.value) r → Reads s w.end (after n q w.value) r
        go zero e h r k = absurd (omega arith)
        go (suc zero) e h r k = turned 1 e (omega arith) (omega arith) r k
        go (suc (suc zero)) e h r k = turned 2 e (omega arith) (omega arith) r k
        go (suc (suc (suc zero))) e h r k = turned 3 e (omega arith) (omega arith) r k
        go (suc (suc (suc (suc zero)))) e h r k = turned 4 e (omega arith) (omega arith) r k
        go (suc (suc (suc (suc (suc n))))) e h r k = k

    pub plain_small : w.value < 10 ^ w.end
    plain_small = omega (
      arith,
      span_small 0 p.span (omega arith),
      pow-le-pow_right {n = 10} (omega arith) {i = 0 + (w.end - q)} {j = w.end}
          (omega (arith, p.low)),
    )
