-- Decimal digits filled from the last one on, and counted. Assumes nothing.
use mathlib.Core.Path.{◌≡◌, refl, sym, ap, ap₂, ◌∙◌, subst}
use mathlib.Core.Bool.{true}
use mathlib.Core.List.{List, [], ◌∷◌, ◌++◌, append_assoc, append-nil}
use Prim.Native.Nat.{ℕ, zero, suc, ◌+◌, ◌-◌, ◌*◌, ◌/◌, ◌%◌, ◌^◌, ◌≤◌, ◌<◌}
use native.Mathlib.Decide.{dec_le}
use native.Mathlib.Nat.{lt_of_not-le, pow-suc, pow-le-pow_right}
use native.Mathlib.Numerals.{add-one}
use native.Mathlib.Omega.{arith}
use lib.Count.{count_leading_zeros, leading_length}
use lib.Dec.{leb}
use lib.ListN.{length, set, length-append}
use borrow.Author.Tests.{leb-true}
use Rattle.meaning.specs.Canonical.{digit, decimal, fixed}
use Rattle.meaning.proofs.Digits.{decimal_small, decimal_more, count_more, count_small, fixed_more, fixed_length}
use Rattle.writer.specs.Between.Laid.{laid_at, PutAt}
use Rattle.rules.proofs.Computed.{below, agree, agreed}
use Rattle.writer.specs.Between.Pieces.{Power, Reaches}
use Rattle.writer.proofs.LaidLaws.{laid_before, laid_under, put_at_as, put_none, put_byte, put_length}

-- the last digits of n stand from the place `at + k` on; the k digits of `rest` are to come before them
pub record Filling (w n at : ℕ) (o out : List ℕ) (i rest : ℕ) : Type 0 where
  pub k : ℕ
  pub here : i ≡ at + k
  pub some : k ≤ w
  pub done : List ℕ
  pub whole : fixed w n ≡ fixed k rest ++ done
  pub text : out ≡ laid_at done i o

module _ (w n at : ℕ) (o : List ℕ) where
  pub fill_begin : Filling w n at o o (at + w) n
  fill_begin =
      record { k = w; here = refl; some = omega arith; done = []; whole = sym (append-nil (fixed w n)); text = (put_none (at + w) o).text }

  -- one digit more
  pub fill : {out : List ℕ} {i rest : ℕ} → Filling w n at o out i rest → at < i → at + w ≤ length o
      → Filling w n at o (set out (i - 1) (digit (rest % 10))) (i - 1) (rest / 10)
  fill {out} {i} {rest} f h r = go f.k f.here f.some f.whole
    where
      go : (k : ℕ) → i ≡ at + k → k ≤ w → fixed w n ≡ fixed k rest ++ f.done → Filling w n at o (set out (i - 1) (digit (rest % 10))) (i - 1) (rest / 10)
      go zero e s x = absurd (omega arith)
      go (suc k) e s x =
          let j : i ≡ i - 1 + 1 = omega arith in
          record {
            k = k;
            here = omega arith;
            some = omega arith;
            done = digit (rest % 10) ∷ f.done;
            whole = x ∙ ap (λ (l : List ℕ). l ++ f.done) (fixed_more k rest) ∙ append_assoc (fixed k (rest / 10)) (digit (rest % 10) ∷ []) f.done;
            text =
                ap (λ (l : List ℕ). set l (i - 1) (digit (rest % 10))) (f.text ∙ ap (λ (p : ℕ). laid_at f.done p o) j)
                ∙ laid_before (digit (rest % 10)) (i - 1) f.done o (omega arith);
          }

  -- two digits more
  pub fill_two : {out : List ℕ} {i rest : ℕ} → Filling w n at o out i rest → at + 2 ≤ i → at + w ≤ length o
      → Filling w n at o (set (set out (i - 1) (digit (rest % 100 % 10))) (i - 2) (digit (rest % 100 / 10))) (i - 2) (rest / 100)
  fill_two {out} {i} {rest} f h r =
      let d : i - 1 - 1 ≡ i - 2 = omega arith in
      let p : digit (rest % 10) ≡ digit (rest % 100 % 10) = omega arith in
      let q : digit (rest / 10 % 10) ≡ digit (rest % 100 / 10) = omega arith in
      let x : rest / 10 / 10 ≡ rest / 100 = omega arith in
      subst (λ (m : List ℕ). Filling w n at o m (i - 2) (rest / 100)) (λ k. set (set out (i - 1) (p k)) (d k) (q k))
      (subst (λ (y : ℕ). Filling w n at o (set (set out (i - 1) (digit (rest % 10))) (i - 1 - 1) (digit (rest / 10 % 10))) y (rest / 100)) d
      (subst (λ (y : ℕ). Filling w n at o (set (set out (i - 1) (digit (rest % 10))) (i - 1 - 1) (digit (rest / 10 % 10))) (i - 1 - 1) y) x
      (fill (fill f (omega arith) r) (omega arith) r)))

  -- four digits more
  pub fill_four : {out : List ℕ} {i rest : ℕ} → Filling w n at o out i rest → at + 4 ≤ i → at + w ≤ length o
      → Filling w n at o
      (set
      (set (set (set out (i - 4 + 3) (digit (rest % 10000 % 10))) (i - 4 + 2) (digit (rest % 10000 / 10 % 10))) (i - 4 + 1)
      (digit (rest % 10000 / 100 % 10)))
      (i - 4)
      (digit (rest % 10000 / 1000)))
      (i - 4)
      (rest / 10000)
  fill_four {out} {i} {rest} f h r =
      let a : i - 1 ≡ i - 4 + 3 = omega arith in
      let b : i - 1 - 1 ≡ i - 4 + 2 = omega arith in
      let c : i - 1 - 1 - 1 ≡ i - 4 + 1 = omega arith in
      let d : i - 1 - 1 - 1 - 1 ≡ i - 4 = omega arith in
      let t = rest / 10 / 10 / 10 in
      let p : digit (rest % 10) ≡ digit (rest % 10000 % 10) = omega arith in
      let q : digit (rest / 10 % 10) ≡ digit (rest % 10000 / 10 % 10) = omega arith in
      let u : digit (rest / 10 / 10 % 10) ≡ digit (rest % 10000 / 100 % 10) = omega arith in
      let v : digit (t % 10) ≡ digit (rest % 10000 / 1000) = omega arith in
      let x : t / 10 ≡ rest / 10000 = omega arith in
      let g = fill (fill (fill (fill f (omega arith) r) (omega arith) r) (omega arith) r) (omega arith) r in
      subst (λ (m : List ℕ). Filling w n at o m (i - 4) (rest / 10000))
      (λ k. set (set (set (set out (a k) (p k)) (b k) (q k)) (c k) (u k)) (d k) (v k))
      (subst (λ (y : ℕ). Filling w n at o
      (set (set (set (set out (i - 1) (digit (rest % 10))) (i - 1 - 1) (digit (rest / 10 % 10))) (i - 1 - 1 - 1) (digit (rest / 10 / 10 % 10)))
      (i - 1 - 1 - 1 - 1) (digit (t % 10)))
      y (rest / 10000)) d
      (subst (λ (y : ℕ). Filling w n at o
      (set (set (set (set out (i - 1) (digit (rest % 10))) (i - 1 - 1) (digit (rest / 10 % 10))) (i - 1 - 1 - 1) (digit (rest / 10 / 10 % 10)))
      (i - 1 - 1 - 1 - 1) (digit (t % 10)))
      (i - 1 - 1 - 1 - 1) y) x g))

  -- the digits that are left, before those that stand
  pub filled_under : {out out' : List ℕ} {i rest r : ℕ} → Filling w n at o out i rest → PutAt (fixed (i - at) rest) at out out' r → at + w ≤ length o
      → PutAt (fixed w n) at o out' (at + w)
  filled_under {out} {out'} {i} {rest} {r} f p h =
      let z : i - at ≡ f.k = omega (arith, f.here) in
      let t = fixed f.k rest in
      let l : length t ≡ f.k = fixed_length f.k rest in
      let m : length (fixed w n) ≡ w = fixed_length w n in
      let q : i ≡ at + length t = omega (arith, f.here) in
      record {
        next = ap (λ (x : ℕ). at + x) (sym m);
        text =
            p.text
            ∙ ap₂ (λ (x : ℕ) (y : List ℕ). laid_at (fixed x rest) at y) z (f.text ∙ ap (λ (x : ℕ). laid_at f.done x o) q)
            ∙ laid_under t f.done o at (omega (arith, f.some))
            ∙ ap (λ (x : List ℕ). laid_at x at o) (sym f.whole);
      }

  pub fill_length : {out : List ℕ} {i rest : ℕ} → Filling w n at o out i rest → at + w ≤ length o → length out ≡ length o
  fill_length {out} {i} {rest} f h =
      let l = ap length f.whole ∙ length-append (fixed f.k rest) f.done in
      put_length {t = f.done} {o = o} {out = out} {at = i} {r = i + length f.done}
      (omega (arith, f.here, f.some, fixed_length w n, fixed_length f.k rest)) (record { next = refl; text = f.text })

-- in a part of its own
pub whole_begin : (w n : ℕ) (o : List ℕ) → Filling w n 0 o o w n
whole_begin w n o = let z : 0 + w ≡ w = omega arith in subst (λ (x : ℕ). Filling w n 0 o o x n) z (fill_begin w n 0 o)

pub whole_under : (w n : ℕ) (o : List ℕ) {out out' : List ℕ} {i rest r : ℕ} → Filling w n 0 o out i rest → PutAt (fixed i rest) 0 out out' r
    → w ≤ length o → PutAt (fixed w n) 0 o out' w
whole_under w n o {out' = out'} {i} {rest} f p h =
    let z : 0 + w ≡ w = omega arith in
    let y : i ≡ i - 0 = omega arith in
    subst (λ (x : ℕ). PutAt (fixed w n) 0 o out' x) z (filled_under w n 0 o f (put_at_as (ap (λ (k : ℕ). fixed k rest) y) p) (omega arith))

-- ---- one digit, or none

pub none_put : (w n : ℕ) (o : List ℕ) → w ≡ 0 → PutAt (fixed w n) 0 o o 0
unfolding fixed
none_put w n o e = put_at_as (ap (λ (k : ℕ). fixed k n) (sym e)) (put_none 0 o)

pub one_put : (w n : ℕ) (o : List ℕ) → w ≡ 1 → 0 < length o → PutAt (fixed w n) 0 o (set o 0 (digit (n % 10))) 1
unfolding fixed
one_put w n o e h = put_at_as (ap (λ (k : ℕ). fixed k n) (sym e)) (put_byte (digit (n % 10)) 0 o h)

-- ---- how many

-- by the powers of ten that it lies between
pub decimal_size : (w n : ℕ) → 10 ^ w ≤ n → n < 10 ^ suc w → length (decimal n) ≡ suc w
decimal_size zero n a b = ap length (decimal_small n b)
decimal_size (suc w) n a b =
    let p : 1 ≤ 10 ^ w = pow-le-pow_right {n = 10} (omega arith) {i = 0} (omega arith) in
    let e = pow-suc 10 w in
    let f = pow-suc 10 (suc w) in
    let i = decimal_size w (n / 10) (omega arith) (omega arith) in
    omega (arith, count_more n (omega arith))

-- ---- by the length in bits

pub power_some : {t r : ℕ} → Power t r → 0 < t → 0 < r
power_some {t} x h = omega (arith, x.some h, pow-le-pow_right {n = 10} (omega arith) {i = 0} {j = t} (omega arith))

-- 1233 / 4096 is just below the logarithm of 2
abbrev pub tens : ℕ → ℕ
tens m = m * 1233 / 4096

below_next : (m : ℕ) → m < 65 → leb (2 ^ m) (10 ^ suc (tens m)) ≡ true
below_next m h = agreed _ _ (below (λ (m : ℕ). agree (leb (2 ^ m) (10 ^ suc (tens m))) true) 65 tt m h)

above_last : (m : ℕ) → m < 65 → leb (2 * 10 ^ tens m) (10 * 2 ^ m) ≡ true
above_last m h = agreed _ _ (below (λ (m : ℕ). agree (leb (2 * 10 ^ tens m) (10 * 2 ^ m)) true) 65 tt m h)

size_at : (n t p r : ℕ) → n < 10 ^ suc t → 10 ^ t ≤ 10 * n + 5 → Power t p → Reaches n p r → t + r ≡ length (decimal n)
size_at n zero p r a b x y = omega (arith, count_small n a, y.above (omega (arith, x.none refl)))
size_at n (suc u) p r a b x y =
    let e = x.some (omega arith) in
    let f = pow-suc 10 u in
    elim (dec_le p n) [
      | yes h ↦ omega (arith, decimal_size (suc u) n (omega arith) a, y.above h)
      | no h ↦ omega (arith, decimal_size u n (omega arith) (omega (arith, lt_of_not-le h)), y.below (lt_of_not-le h))
    ]

pub size_by_bits : (n p r : ℕ) → n < 2 ^ 64 → Power (tens (64 - count_leading_zeros 64 n)) p → Reaches n p r
    → (tens (64 - count_leading_zeros 64 n) + r ≡ length (decimal n)) × (tens (64 - count_leading_zeros 64 n) + r ≤ 20)
size_by_bits n p r h x y =
    let l = leading_length 64 n h in
    let m = l.0 in
    let e : 64 - count_leading_zeros 64 n ≡ m = omega (arith, l.1) in
    let k : m < 65 = omega (arith, l.1) in
    let high = leb-true (2 ^ m) (10 ^ suc (tens m)) (below_next m k) in
    let low = leb-true (2 * 10 ^ tens m) (10 * 2 ^ m) (above_last m k) in
    let z : tens (64 - count_leading_zeros 64 n) ≡ tens m = ap tens e in
    let x' = subst (λ (t : ℕ). Power t p) z x in
    let s = size_at n (tens m) p r (omega (arith, l.2, high)) (omega (arith, l.3, low)) x' y in
    (ap (λ (t : ℕ). t + r) z ∙ s, omega (arith, z, k, y.small))

small : (n : ℕ) → n < 10 → decimal n ≡ fixed (length (decimal n)) n
unfolding fixed
small n h =
    let d : n % 10 ≡ n = omega arith in
    decimal_small n h ∙ ap (λ (x : ℕ). digit x ∷ []) (sym d) ∙ ap (λ (k : ℕ). fixed k n) (sym (ap length (decimal_small n h)))

-- a number's digits are its last ones, as many as it has
decimal_fixed_in : (f n : ℕ) → n ≤ f → decimal n ≡ fixed (length (decimal n)) n
unfolding fixed
decimal_fixed_in zero n h = small n (omega arith)
decimal_fixed_in (suc f) n h =
    elim (dec_le 10 n) [
      | yes g ↦
          let k = count_more n g ∙ add-one (length (decimal (n / 10))) in
          decimal_more n g
          ∙ ap (λ (l : List ℕ). l ++ (digit (n % 10) ∷ [])) (decimal_fixed_in f (n / 10) (omega arith))
          ∙ ap (λ (x : ℕ). fixed x n) (sym k)
      | no g ↦ small n (lt_of_not-le g)
    ]

pub decimal_fixed : (n : ℕ) → decimal n ≡ fixed (length (decimal n)) n
decimal_fixed n = decimal_fixed_in n n (omega arith)
