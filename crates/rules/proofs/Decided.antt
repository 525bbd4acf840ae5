-- The first fault of any bytes, computed, is the one that Rfc3629 allows. Assumes nothing.
use mathlib.Core.Path.{◌≡◌, refl, sym, ap, ◌∙◌, subst}
use mathlib.Core.Bool.{Bool, true, false, cond}
use mathlib.Core.List.{List, [], ◌∷◌}
use Prim.Native.Nat.{ℕ, zero, suc, ◌+◌, ◌-◌, ◌≤◌, ◌<◌}
use native.Mathlib.Decide.{dec_lt, ℕ_discrete}
use native.Mathlib.Omega.{arith}
use lib.Count.{count_leading_zeros}
use lib.Dec.{eqb, leb, ltb}
use lib.ListN.{length, get_or, take, drop, length-drop}
use borrow.Author.Tests.{eqb-true, eqb-false, leb-true, leb-false, le-leb, lt-ltb, le-ltb}
use Rattle.std.specs.Bool.{then_some}
use Rattle.std.proofs.lemmas.List.{get_or-take, get_or-drop, length-take-le}
use Rattle.std.specs.List.{AllWithin, HoldsAt}
use Rattle.std.specs.Bool.{MatchBool}
use Rattle.rules.specs.Rfc3629.{Tail, Octets, Judged, done, ill}
use Rattle.rules.specs.Between.Posts.{Lead, Passed, CharAt, Tails, low_of, high_of}
use Rattle.rules.specs.Between.Tests.{Decides, holds, fails}
use Rattle.rules.specs.Between.Decided.{ones, conj, bounds, is_wide, length_at, fault_from, judged}
use Rattle.std.specs.declared.option.Option.{Option}
use Rattle.std.specs.declared.option.Option.TheVariants.{Some, None}
use Rattle.std.specs.declared.result.Result.TheVariants.{Ok, Err}
use Rattle.rules.proofs.Places.{step1, down, down⁻, led, no_wide_lead, Wide, no_char, ascii_char, back2, back3, back4}
use Rattle.rules.proofs.Outcomes.{one_outcome_utf8, utf8_done}
use Rattle.rules.proofs.Runs.{passed_none, passed_char, char_room, fault_at_lem, all_passed}

-- ---- it is right

abbrev AllTrue : List Bool → Type 0
AllTrue [] = Unit {0}
AllTrue (b ∷ bs) = (b ≡ true) × AllTrue bs

all_true : (bs : List Bool) → conj bs ≡ true → AllTrue bs
all_true [] e = tt
all_true (true ∷ bs) e = (refl, all_true bs e)
all_true (false ∷ bs) e = absurd (subst (λ (x : Bool). cond x ⊥ Unit) e tt)

true_all : (bs : List Bool) → AllTrue bs → conj bs ≡ true
true_all [] h = refl
true_all (b ∷ bs) h = rw h.0 (true_all bs h.1)

-- a test that may be passed over
later : (n k : ℕ) (t : Bool) → cond (ltb n k) true t ≡ true → k ≤ n → t ≡ true
later n k t e h = rw (le-ltb n k h) at e

passed_over : (n k : ℕ) (t : Bool) → (k ≤ n → t ≡ true) → cond (ltb n k) true t ≡ true
passed_over n k t f = go (dec_lt n k)
  where
    go : Dec (n < k) → cond (ltb n k) true t ≡ true
    go (yes h) = rw (lt-ltb n k h)
    go (no h) = rw (le-ltb n k (omega arith)) (f (omega arith))

module _ (s : List ℕ) (i n : ℕ) where
  is_wide_lem : n ≡ ones (get_or s i 0) → is_wide s i n ≡ true → Wide s i n
  unfolding is_wide
  is_wide_lem c e =
      let w = all_true (bounds s i n) e in
      record {
        two = leb-true _ _ w.0;
        four = leb-true _ _ w.1.0;
        fits = leb-true _ _ w.1.1.0;
        count = c;
        from = leb-true _ _ w.1.1.1.0;
        to = leb-true _ _ w.1.1.1.1.0;
        low = leb-true _ _ w.1.1.1.1.1.0;
        high = leb-true _ _ w.1.1.1.1.1.1.0;
        third = λ h. (leb-true _ _ (later n 3 _ w.1.1.1.1.1.1.1.0 h), leb-true _ _ (later n 3 _ w.1.1.1.1.1.1.1.1.0 h));
        fourth = λ h. (leb-true _ _ (later n 4 _ w.1.1.1.1.1.1.1.1.1.0 h), leb-true _ _ (later n 4 _ w.1.1.1.1.1.1.1.1.1.1.0 h));
      }

  wide_is : Wide s i n → is_wide s i n ≡ true
  unfolding is_wide
  wide_is w =
      true_all (bounds s i n) (
        le-leb _ _ w.two,
        (
          le-leb _ _ w.four,
          (
            le-leb _ _ w.fits,
            (
              le-leb _ _ w.from,
              (
                le-leb _ _ w.to,
                (
                  le-leb _ _ w.low,
                  (
                    le-leb _ _ w.high,
                    (
                      passed_over n 3 _ (λ h. le-leb _ _ (w.third h).0),
                      (
                        passed_over n 3 _ (λ h. le-leb _ _ (w.third h).1),
                        (passed_over n 4 _ (λ h. le-leb _ _ (w.fourth h).0), (passed_over n 4 _ (λ h. le-leb _ _ (w.fourth h).1), tt)),
                      ),
                    ),
                  ),
                ),
              ),
            ),
          ),
        ),
      )

-- no leading one: ASCII
ascii : (a : ℕ) → ones a ≡ 0 → a < 0x80
unfolding count_leading_zeros
ascii a e = go (dec_lt a 256)
  where
    go : Dec (a < 256) → a < 0x80
    go (yes h) = down⁻ step1 a h (omega arith)
    go (no h) = let z : 255 - a ≡ 0 = omega arith in absurd (omega (arith, rw z at e))

-- a character of as many bytes as the first says
by_count : (s : List ℕ) (i n : ℕ) → Wide s i n → CharAt s i (Some n)
by_count s i n w = go (ℕ_discrete n 2) (ℕ_discrete n 3)
  where
    go : Dec (n ≡ 2) → Dec (n ≡ 3) → CharAt s i (Some n)
    go (yes e) q = rw e (back2 s i (subst (Wide s i) e w))
    go (no f) (yes e) = rw e (back3 s i (subst (Wide s i) e w))
    go (no f) (no g) = let e : n ≡ 4 = omega arith in rw e (back4 s i (subst (Wide s i) e w))

-- where all but the tails is known
-- where all but the tails is known: whether each byte from the third on is one
pub by_tails : (s : List ℕ) (i n : ℕ) (r : Bool) → Lead (get_or s i 0) n → (n ≡ 1 → ⊥) → i + n ≤ length s → low_of (get_or s i 0) ≤ get_or s (i + 1) 0
    → get_or s (i + 1) 0 ≤ high_of (get_or s i 0) → Decides (Tails s i n) r → CharAt s i (then_some r n)
by_tails s i n true x f h l u (holds t) =
    let z = led x f in
    by_count s i n record {
      two = z.0;
      four = z.1;
      fits = h;
      count = z.2;
      from = z.3;
      to = z.4;
      low = l;
      high = u;
      third = t.third;
      fourth = t.fourth;
    }
by_tails s i n false x f h l u (fails g) = no_wide_lead s i n x f (λ w. g (record { third = w.third; fourth = w.fourth }))

-- the bytes from the third on, as a slice
module _ (s : List ℕ) (i n : ℕ) (l : 2 ≤ n) (u : n ≤ 4) (f : i + n ≤ length s) where
  abbrev pub behind : List ℕ
  behind = take (i + n - (i + 2)) (drop (i + 2) s)

  so_many : length behind ≡ n - 2
  so_many = omega (arith, length-take-le (i + n - (i + 2)) (drop (i + 2) s) (omega (arith, length-drop (i + 2) s)))

  here : (k j : ℕ) → k < n - 2 → j ≡ i + 2 + k → get_or behind k 0 ≡ get_or s j 0
  here k j h e = rw e (get_or-take (i + n - (i + 2)) (drop (i + 2) s) k 0 (omega arith) ∙ get_or-drop (i + 2) s k 0)

  tail_at : (k j : ℕ) → k < n - 2 → j ≡ i + 2 + k → Tail (get_or behind k 0) → (0x80 ≤ get_or s j 0) × (get_or s j 0 ≤ 0xBF)
  tail_at k j h e t = let z = here k j h e in omega arith

  no_tail_at : (k : ℕ) → k < n - 2 → (Tail (get_or behind k 0) → ⊥) → Tails s i n → Dec (k ≡ 0) → ⊥
  no_tail_at k h f t (yes e) = let z = here k (i + 2) h (omega arith) in let p = t.third (omega arith) in f (omega arith)
  no_tail_at k h f t (no e) = let z = here k (i + 3) h (omega arith) in let p = t.fourth (omega arith) in f (omega arith)

  pub all_tails : (r : Bool) → MatchBool r (AllWithin Tail behind 0 (length behind)) ((k : ℕ) × (k < length behind) × HoldsAt (λ b. Tail b → ⊥) behind k)
      → Decides (Tails s i n) r
  all_tails true x = holds (record {
    third = λ h. tail_at 0 (i + 2) (omega arith) (omega arith) (x 0 0 (omega arith) (omega (arith, so_many)));
    fourth = λ h. tail_at 1 (i + 3) (omega arith) (omega arith) (x 1 0 (omega arith) (omega (arith, so_many)));
  })
  all_tails false (k, h, g) = fails (λ t. no_tail_at k (omega (arith, so_many)) (g 0) t (ℕ_discrete k 0))

no_ascii : (s : List ℕ) (i : ℕ) → (ones (get_or s i 0) ≡ 0 → ⊥) → 0x80 ≤ get_or s i 0
no_ascii s i z = go (dec_lt (get_or s i 0) 0x80)
  where
    go : Dec (get_or s i 0 < 0x80) → 0x80 ≤ get_or s i 0
    go (yes h) = absurd (z (omega (arith, down step1 (get_or s i 0) (omega arith) h)))
    go (no h) = omega arith

pub length_is : (s : List ℕ) (i : ℕ) → i < length s → CharAt s i (length_at s i)
unfolding length_at
length_is s i h = go (eqb (ones (get_or s i 0)) 0) refl (is_wide s i (ones (get_or s i 0))) refl
  where
    go : (x : Bool) → eqb (ones (get_or s i 0)) 0 ≡ x → (y : Bool) → is_wide s i (ones (get_or s i 0)) ≡ y
        → CharAt s i (cond x (Some 1) (cond y (Some (ones (get_or s i 0))) None))
    go true e y f = ascii_char s i h (ascii (get_or s i 0) (eqb-true _ _ e))
    go false e true f = by_count s i (ones (get_or s i 0)) (is_wide_lem s i _ refl f)
    go false e false f = no_char s i (no_ascii s i (eqb-false _ _ e)) (λ n w. differ (sym f ∙ ap (is_wide s i) (sym w.count) ∙ wide_is s i n w))
      where
        differ : false ≡ true → ⊥
        differ g = subst (λ (x : Bool). cond x ⊥ Unit) g tt

fault_is : (f : ℕ) (s : List ℕ) (i : ℕ) → Passed s i → length s ≤ i + f → Judged s (fault_from f s i)
unfolding fault_from
fault_is zero s i p h = all_passed s i p (omega arith)
fault_is (suc f) s i p h = go (λ n q l. fault_is f s (i + n) q l) (leb (length s) i) refl (length_at s i) (λ l. length_is s i l)
  where
    go : ((n : ℕ) → Passed s (i + n) → length s ≤ i + n + f → Judged s (fault_from f s (i + n))) → (x : Bool) → leb (length s) i ≡ x
        → (o : Option ℕ) → (i < length s → CharAt s i o)
        → Judged s (cond x (Ok tt) (elim o [ None ↦ Err (record { place = i }) | Some n ↦ fault_from f s (i + n) ]))
    go r true e o k = all_passed s i p (leb-true _ _ e)
    go r false e None k = let l = leb-false _ _ e in ill (fault_at_lem s i p l (k l)) refl
    go r false e (Some n) k =
        let c = k (leb-false _ _ e) in
        r n (passed_char s i n p c) (omega (arith, char_room c))

pub judged_is : (s : List ℕ) → Judged s (judged s)
unfolding judged
judged_is s = fault_is (length s) s 0 (passed_none s) (omega arith)

pub judged_done : {s : List ℕ} → judged s ≡ Ok tt → Octets s
judged_done {s} e = utf8_done (subst (Judged s) e (judged_is s))

pub done_judged : {s : List ℕ} → Octets s → judged s ≡ Ok tt
done_judged {s} o = one_outcome_utf8 (judged_is s) (done o refl)
