-- A character's number and its bytes: RFC 3629's sections 3 and 4 agree. Assumes nothing.
use mathlib.Core.Path.{◌≡◌, sym, ◌∙◌}
use mathlib.Core.Logic.{◌⊎◌, inl, inr, ⊎_elim}
use mathlib.Core.List.{List, [], ◌∷◌}
use Prim.Native.Nat.{ℕ, ◌+◌, ◌*◌, ◌-◌, ◌/◌, ◌%◌, ◌≤◌, ◌<◌}
use native.Mathlib.Omega.{arith}
use native.Mathlib.Decide.{dec_lt}
use borrow.Author.Tests.{le-leb, lt-leb}
use Rattle.rules.specs.Rfc3629.{In, Tail, Char, utf8_1, utf8_2, utf8_3a, utf8_3b, utf8_3c, utf8_3d, utf8_4a, utf8_4b, utf8_4c, Scalar, encode}

-- the four rows of section 3's table
pub row_1 : (n : ℕ) → n ≤ 0x7F → encode n ≡ n ∷ []
unfolding encode
row_1 n h = simp (le-leb n 0x7F h)

pub row_2 : (n : ℕ) → 0x7F < n → n ≤ 0x7FF → encode n ≡ (0xC0 + n / 64) ∷ (0x80 + n % 64) ∷ []
unfolding encode
row_2 n l h = simp (lt-leb n 0x7F l, le-leb n 0x7FF h)

pub row_3 : (n : ℕ) → 0x7FF < n → n ≤ 0xFFFF → encode n ≡ (0xE0 + n / 4096) ∷ (0x80 + n / 64 % 64) ∷ (0x80 + n % 64) ∷ []
unfolding encode
row_3 n l h = simp (lt-leb n 0x7F (omega arith), lt-leb n 0x7FF l, le-leb n 0xFFFF h)

pub row_4 : (n : ℕ) → 0xFFFF < n → encode n ≡ (0xF0 + n / 262144) ∷ (0x80 + n / 4096 % 64) ∷ (0x80 + n / 64 % 64) ∷ (0x80 + n % 64) ∷ []
unfolding encode
row_4 n l = simp (lt-leb n 0x7F (omega arith), lt-leb n 0x7FF (omega arith), lt-leb n 0xFFFF l)

-- ---- the encoding of a character number is one character

tail_of : (n : ℕ) → Tail (0x80 + n % 64)
tail_of n = omega arith

by_2 : (n : ℕ) → 0x7F < n → n ≤ 0x7FF → Char (encode n)
by_2 n l h = rw (row_2 n l h) (utf8_2 {a = 0xC0 + n / 64} (omega arith) (tail_of n))

-- three bytes, by the first one: E0, E1 to EC, ED, EE and EF
by_3 : (n : ℕ) → 0x7FF < n → n ≤ 0xFFFF → (n < 0xD800) ⊎ (0xDFFF < n) → Char (encode n)
by_3 n l h w = rw (row_3 n l h) (go (dec_lt n 0x1000) (dec_lt n 0xD000) (dec_lt n 0xE000))
  where
    go : Dec (n < 0x1000) → Dec (n < 0xD000) → Dec (n < 0xE000) → Char ((0xE0 + n / 4096) ∷ (0x80 + n / 64 % 64) ∷ (0x80 + n % 64) ∷ [])
    go (yes a) q r =
        let e : 0xE0 + n / 4096 ≡ 0xE0 = omega arith in
        rw e (utf8_3a {b = 0x80 + n / 64 % 64} (omega arith) (tail_of n))
    go (no a) (yes b) r = utf8_3b {a = 0xE0 + n / 4096} (omega arith) (tail_of (n / 64)) (tail_of n)
    go (no a) (no b) (yes d) =
        let e : 0xE0 + n / 4096 ≡ 0xED = omega arith in
        ⊎_elim (λ (u : n < 0xD800). rw e (utf8_3c {b = 0x80 + n / 64 % 64} (omega arith) (tail_of n))) (λ (u : 0xDFFF < n). absurd (omega arith)) w
    go (no a) (no b) (no d) = utf8_3d {a = 0xE0 + n / 4096} (omega arith) (tail_of (n / 64)) (tail_of n)

-- four bytes, by the first one: F0, F1 to F3, F4
by_4 : (n : ℕ) → 0xFFFF < n → n ≤ 0x10FFFF → Char (encode n)
by_4 n l h = rw (row_4 n l) (go (dec_lt n 0x40000) (dec_lt n 0x100000))
  where
    go : Dec (n < 0x40000) → Dec (n < 0x100000) → Char ((0xF0 + n / 262144) ∷ (0x80 + n / 4096 % 64) ∷ (0x80 + n / 64 % 64) ∷ (0x80 + n % 64) ∷ [])
    go (yes a) q =
        let e : 0xF0 + n / 262144 ≡ 0xF0 = omega arith in
        rw e (utf8_4a {b = 0x80 + n / 4096 % 64} (omega arith) (tail_of (n / 64)) (tail_of n))
    go (no a) (yes b) = utf8_4b {a = 0xF0 + n / 262144} (omega arith) (tail_of (n / 4096)) (tail_of (n / 64)) (tail_of n)
    go (no a) (no b) =
        let e : 0xF0 + n / 262144 ≡ 0xF4 = omega arith in
        rw e (utf8_4c {b = 0x80 + n / 4096 % 64} (omega arith) (tail_of (n / 64)) (tail_of n))

pub encoded : (n : ℕ) → Scalar n → Char (encode n)
encoded n s = go (dec_lt 0x7F n) (dec_lt 0x7FF n) (dec_lt 0xFFFF n)
  where
    go : Dec (0x7F < n) → Dec (0x7FF < n) → Dec (0xFFFF < n) → Char (encode n)
    go (no a) q r = rw (row_1 n (omega arith)) (utf8_1 {a = n} (omega arith))
    go (yes a) (no b) r = by_2 n a (omega arith)
    go (yes a) (yes b) (no d) = by_3 n b (omega arith) s.whole
    go (yes a) (yes b) (yes d) = by_4 n d s.top

-- ---- and every character is the encoding of its number

pub record Numbered (c : List ℕ) : Type 0 where
  pub number : ℕ
  pub scalar : Scalar number
  pub bytes : c ≡ encode number

-- below the surrogates, or above them
low_scalar : {n : ℕ} → n < 0xD800 → Scalar n
low_scalar h = record { top = omega arith; whole = inl h }

high_scalar : {n : ℕ} → 0xDFFF < n → n ≤ 0x10FFFF → Scalar n
high_scalar l h = record { top = h; whole = inr l }

two : {a b a' b' : ℕ} → a ≡ a' → b ≡ b' → ◌≡◌ {A = List ℕ} (a ∷ b ∷ []) (a' ∷ b' ∷ [])
two e f = cc

three : {a b c a' b' c' : ℕ} → a ≡ a' → b ≡ b' → c ≡ c' → ◌≡◌ {A = List ℕ} (a ∷ b ∷ c ∷ []) (a' ∷ b' ∷ c' ∷ [])
three e f g = cc

four : {a b c d a' b' c' d' : ℕ} → a ≡ a' → b ≡ b' → c ≡ c' → d ≡ d' → ◌≡◌ {A = List ℕ} (a ∷ b ∷ c ∷ d ∷ []) (a' ∷ b' ∷ c' ∷ d' ∷ [])
four e f g h = cc

number_2 : ℕ → ℕ → ℕ
number_2 a b = (a - 0xC0) * 64 + (b - 0x80)

number_3 : ℕ → ℕ → ℕ → ℕ
number_3 a b c = (a - 0xE0) * 4096 + (b - 0x80) * 64 + (c - 0x80)

number_4 : ℕ → ℕ → ℕ → ℕ → ℕ
number_4 a b c d = (a - 0xF0) * 262144 + (b - 0x80) * 4096 + (c - 0x80) * 64 + (d - 0x80)

bytes_3 : (a b c : ℕ) → In 0xE0 0xEF a → Tail b → Tail c → 0x7FF < number_3 a b c → a ∷ b ∷ c ∷ [] ≡ encode (number_3 a b c)
unfolding number_3
bytes_3 a b c x y z h = three (omega arith) (omega arith) (omega arith) ∙ sym (row_3 (number_3 a b c) h (omega arith))

bytes_4 : (a b c d : ℕ) → In 0xF0 0xF4 a → Tail b → Tail c → Tail d → 0xFFFF < number_4 a b c d → a ∷ b ∷ c ∷ d ∷ [] ≡ encode (number_4 a b c d)
unfolding number_4
bytes_4 a b c d x y z w h = four (omega arith) (omega arith) (omega arith) (omega arith) ∙ sym (row_4 (number_4 a b c d) h)

pub numbered : {c : List ℕ} → Char c → Numbered c
unfolding number_2 number_3 number_4
numbered (utf8_1 {a = a} x) = record { number = a; scalar = low_scalar (omega arith); bytes = sym (row_1 a (omega arith)) }
numbered (utf8_2 {a = a} {b = b} x y) =
    record {
      number = number_2 a b;
      scalar = low_scalar (omega arith);
      bytes = two (omega arith) (omega arith) ∙ sym (row_2 (number_2 a b) (omega arith) (omega arith));
    }
numbered (utf8_3a {b = b} {c = c} y z) = record {
  number = number_3 0xE0 b c;
  scalar = low_scalar (omega arith);
  bytes = bytes_3 0xE0 b c (omega arith) (omega arith) z (omega arith);
}
numbered (utf8_3b {a = a} {b = b} {c = c} x y z) = record {
  number = number_3 a b c;
  scalar = low_scalar (omega arith);
  bytes = bytes_3 a b c (omega arith) y z (omega arith);
}
numbered (utf8_3c {b = b} {c = c} y z) = record {
  number = number_3 0xED b c;
  scalar = low_scalar (omega arith);
  bytes = bytes_3 0xED b c (omega arith) (omega arith) z (omega arith);
}
numbered (utf8_3d {a = a} {b = b} {c = c} x y z) = record {
  number = number_3 a b c;
  scalar = high_scalar (omega arith) (omega arith);
  bytes = bytes_3 a b c (omega arith) y z (omega arith);
}
numbered (utf8_4a {b = b} {c = c} {d = d} y z w) = record {
  number = number_4 0xF0 b c d;
  scalar = high_scalar (omega arith) (omega arith);
  bytes = bytes_4 0xF0 b c d (omega arith) (omega arith) z w (omega arith);
}
numbered (utf8_4b {a = a} {b = b} {c = c} {d = d} x y z w) = record {
  number = number_4 a b c d;
  scalar = high_scalar (omega arith) (omega arith);
  bytes = bytes_4 a b c d (omega arith) y z w (omega arith);
}
numbered (utf8_4c {b = b} {c = c} {d = d} y z w) = record {
  number = number_4 0xF4 b c d;
  scalar = high_scalar (omega arith) (omega arith);
  bytes = bytes_4 0xF4 b c d (omega arith) (omega arith) z w (omega arith);
}
