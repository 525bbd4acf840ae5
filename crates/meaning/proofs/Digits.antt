-- Decimal and hex digits: their steps, how many they are, and that they are ASCII. Assumes nothing.
use mathlib.Core.Path.{◌≡◌, refl, sym, ap, ◌∙◌}
use mathlib.Core.Bool.{Bool, true, false, cond}
use mathlib.Core.List.{List, [], ◌∷◌, ◌++◌}
use Prim.Native.Nat.{ℕ, zero, suc, ◌+◌, ◌-◌, ◌/◌, ◌%◌, ◌^◌, ◌≤◌, ◌<◌}
use native.Mathlib.Decide.{dec_le}
use native.Mathlib.Nat.{lt_of_not-le, div-lt_iff_lt-mul, div-div-eq-div-mul, div-one, zero-div, mul_comm, pow-suc}
use native.Mathlib.Omega.{arith}
use lib.Dec.{eqb, ltb}
use lib.ListN.{length, length-append}
use borrow.Author.Tests.{lt-ltb, le-ltb}
use Rattle.meaning.specs.Letters.{ch}
use Rattle.meaning.specs.Canonical.{digit, decimal_in, decimal, fixed, trimmed, hex_digit, hex_pair}

-- each is a character below U+0080
abbrev pub Ascii : List ℕ → Type 0
Ascii [] = Unit {0}
Ascii (b ∷ s) = (b < 128) × Ascii s

pub ascii_append : (a b : List ℕ) → Ascii a → Ascii b → Ascii (a ++ b)
ascii_append [] b f g = g
ascii_append (x ∷ a) b f g = (f.0, ascii_append a b f.1 g)

-- ---- decimal digits with no zero in front

pub in_small : (f n : ℕ) → n < 10 → decimal_in f n ≡ digit n ∷ []
unfolding decimal_in
in_small zero n h = refl
in_small (suc f) n h = simp (lt-ltb n 10 h)

pub in_more : (f n : ℕ) → 10 ≤ n → decimal_in (suc f) n ≡ decimal_in f (n / 10) ++ (digit (n % 10) ∷ [])
unfolding decimal_in
in_more f n h = simp (le-ltb n 10 h)

tenth_less : (n : ℕ) → 10 ≤ n → n / 10 < n
tenth_less n h = omega arith

-- any count that is large enough gives the same
in_same : (f g n : ℕ) → n ≤ f → n ≤ g → decimal_in f n ≡ decimal_in g n
in_same zero g n hf hg = in_small zero n (omega arith) ∙ sym (in_small g n (omega arith))
in_same (suc f) zero n hf hg = in_small (suc f) n (omega arith) ∙ sym (in_small zero n (omega arith))
in_same (suc f) (suc g) n hf hg =
    elim (dec_le 10 n) [
      | yes h ↦
          in_more f n h
          ∙ ap (λ (l : List ℕ). l ++ (digit (n % 10) ∷ [])) (in_same f g (n / 10) (omega (arith, tenth_less n h)) (omega (arith, tenth_less n h)))
          ∙ sym (in_more g n h)
      | no h ↦ in_small (suc f) n (lt_of_not-le h) ∙ sym (in_small (suc g) n (lt_of_not-le h))
    ]

pub decimal_small : (n : ℕ) → n < 10 → decimal n ≡ digit n ∷ []
unfolding decimal
decimal_small n h = in_small n n h

pub decimal_more : (n : ℕ) → 10 ≤ n → decimal n ≡ decimal (n / 10) ++ (digit (n % 10) ∷ [])
unfolding decimal
decimal_more n h =
    let l : n / 10 < n = tenth_less n h in
    in_same n (suc n) n (omega arith) (omega arith)
    ∙ in_more n n h
    ∙ ap (λ (l : List ℕ). l ++ (digit (n % 10) ∷ [])) (in_same n (n / 10) (n / 10) (omega arith) (omega arith))

pub count_more : (n : ℕ) → 10 ≤ n → length (decimal n) ≡ length (decimal (n / 10)) + 1
count_more n h = ap length (decimal_more n h) ∙ length-append (decimal (n / 10)) (digit (n % 10) ∷ [])

pub count_small : (n : ℕ) → n < 10 → length (decimal n) ≡ 1
count_small n h = ap length (decimal_small n h)

-- without the last digit, and then without w more
pub cut_more : (w n : ℕ) → n / 10 ^ suc w ≡ n / 10 / 10 ^ w
cut_more w n = ap (λ (x : ℕ). n / x) (pow-suc 10 w ∙ mul_comm (10 ^ w) 10) ∙ sym (div-div-eq-div-mul n 10 (10 ^ w))

-- without the last w of its digits
pub cut_count : (w n : ℕ) → w < length (decimal n) → length (decimal (n / 10 ^ w)) + w ≡ length (decimal n)
cut_count zero n h = omega (arith, ap (λ (x : ℕ). length (decimal x)) (div-one n))
cut_count (suc w) n h =
    elim (dec_le 10 n) [
      | yes g ↦
          let e = ap (λ (x : ℕ). length (decimal x)) (cut_more w n) in
          omega (arith, count_more n g, e, cut_count w (n / 10) (omega (arith, count_more n g)))
      | no g ↦ absurd (omega (arith, count_small n (lt_of_not-le g)))
    ]

-- where it has no more than w, nothing is left
pub cut_none : (w n : ℕ) → length (decimal n) ≤ w → n / 10 ^ w ≡ 0
cut_none zero n h =
    elim (dec_le 10 n) [
      | yes g ↦ absurd (omega (arith, count_more n g))
      | no g ↦ absurd (omega (arith, count_small n (lt_of_not-le g)))
    ]
cut_none (suc w) n h =
    elim (dec_le 10 n) [
      | yes g ↦ cut_more w n ∙ cut_none w (n / 10) (omega (arith, count_more n g))
      | no g ↦
          let l = lt_of_not-le g in
          let z : n / 10 ≡ 0 = omega arith in
          cut_more w n ∙ ap (λ (x : ℕ). x / 10 ^ w) z ∙ zero-div (10 ^ w)
    ]

-- a number below 10 ^ (w + 1) has at most w + 1 digits
pub decimal_length : (w n : ℕ) → n < 10 ^ suc w → length (decimal n) ≤ suc w
decimal_length zero n h = rw (decimal_small n h) (omega arith)
decimal_length (suc w) n h =
    elim (dec_le 10 n) [
      | yes g ↦
          let k : n / 10 < 10 ^ suc w = (div-lt_iff_lt-mul {k = 10} (omega arith)).1 (rw (pow-suc 10 (suc w)) at h) in
          let i = decimal_length w (n / 10) k in
          rw decimal_more (simp length-append (omega arith))
      | no g ↦ rw (decimal_small n (lt_of_not-le g)) (omega arith)
    ]

digit_ascii : (n : ℕ) → n < 10 → Ascii (digit n ∷ [])
digit_ascii n h = omega arith

in_ascii : (f n : ℕ) → n ≤ f → Ascii (decimal_in f n)
in_ascii zero n h = rw (in_small zero n (omega arith)) (omega arith)
in_ascii (suc f) n h =
    elim (dec_le 10 n) [
      | yes g ↦ rw (in_more f n g) (ascii_append (decimal_in f (n / 10)) (digit (n % 10) ∷ []) (in_ascii f (n / 10) (omega arith)) (omega arith))
      | no g ↦ rw (in_small (suc f) n (lt_of_not-le g)) (digit_ascii n (lt_of_not-le g))
    ]

pub decimal_ascii : (n : ℕ) → Ascii (decimal n)
unfolding decimal
decimal_ascii n = in_ascii n n (omega arith)

-- ---- so many digits

pub fixed_more : (w n : ℕ) → fixed (suc w) n ≡ fixed w (n / 10) ++ (digit (n % 10) ∷ [])
unfolding fixed
fixed_more w n = refl

pub fixed_length : (w n : ℕ) → length (fixed w n) ≡ w
unfolding fixed
fixed_length zero n = refl
fixed_length (suc w) n = length-append (fixed w (n / 10)) (digit (n % 10) ∷ []) ∙ omega (arith, fixed_length w (n / 10))

pub fixed_ascii : (w n : ℕ) → Ascii (fixed w n)
unfolding fixed
fixed_ascii zero n = tt
fixed_ascii (suc w) n = ascii_append (fixed w (n / 10)) (digit (n % 10) ∷ []) (fixed_ascii w (n / 10)) (omega arith)

-- ---- without closing zeros

pub trimmed_less : (w n : ℕ) → n % 10 ≡ 0 → trimmed (suc w) n ≡ trimmed w (n / 10)
unfolding trimmed
trimmed_less w n h = ap (λ (x : ℕ). cond (eqb x 0) (trimmed w (n / 10)) (fixed (suc w) n)) h

pub trimmed_length : (w n : ℕ) → length (trimmed w n) ≤ w
unfolding trimmed
trimmed_length zero n = omega arith
trimmed_length (suc w) n = go (eqb (n % 10) 0) (trimmed_length w (n / 10))
  where
    go : (t : Bool) → length (trimmed w (n / 10)) ≤ w → length (cond t (trimmed w (n / 10)) (fixed (suc w) n)) ≤ suc w
    go true h = omega arith
    go false h = omega (arith, fixed_length (suc w) n)

pub trimmed_ascii : (w n : ℕ) → Ascii (trimmed w n)
unfolding trimmed
trimmed_ascii zero n = tt
trimmed_ascii (suc w) n = go (eqb (n % 10) 0) (trimmed_ascii w (n / 10))
  where
    go : (t : Bool) → Ascii (trimmed w (n / 10)) → Ascii (cond t (trimmed w (n / 10)) (fixed (suc w) n))
    go true h = h
    go false h = fixed_ascii (suc w) n

-- ---- hex digits

pub hex_ascii : (d : ℕ) → d < 16 → hex_digit d < 128
hex_ascii d h = go (ltb d 10) refl
  where
    go : (t : Bool) → ltb d 10 ≡ t → cond t (ch "0" + d) (ch "a" + (d - 10)) < 128
    go true e = omega arith
    go false e = omega arith

pub pair_ascii : (b : ℕ) → b < 256 → Ascii (hex_pair b)
pair_ascii b h = (hex_ascii (b / 16) (omega arith), (hex_ascii (b % 16) (omega arith), tt))
