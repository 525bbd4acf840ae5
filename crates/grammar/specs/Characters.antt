-- Characters as UTF-8 sequences (docs/FORMAT.md, 1.1), digits with their value, and repetition (RFC 5234 and its
-- appendix B.1, RFC 3629). Assumes nothing.
use Rattle.std.specs.Prelude.{ℕ, zero, suc, ◌+◌, ◌*◌, ◌-◌, ◌⊎◌, List, [], ◌∷◌, ◌++◌}
use Rattle.rules.specs.Rfc3629.{In, Scalar, encode}
use Rattle.meaning.specs.Letters.{ch}

infix 70 ◌to◌
-- `0x20 to 0x21` is %x20-21
pub data Range : Type 0 where
  ◌to◌ : ℕ → ℕ → Range

-- n lies in one of the ranges
abbrev pub Of : List Range → ℕ → Type 0
Of [] n = ⊥
Of ((lo to hi) ∷ r) n = In lo hi n ⊎ Of r n

-- these bytes are one character, and its number lies in one of the ranges
pub data Among (r : List Range) : List ℕ → Type 0 where
  character : {n : ℕ} → Scalar n → Of r n → Among r (encode n)

-- the same for ranges below U+0080, where a character is its byte
pub data Ascii (r : List Range) : List ℕ → Type 0 where
  byte : {b : ℕ} → Of r b → Ascii r (b ∷ [])

-- *( X )
pub data Many (X : List ℕ → Type 0) : List ℕ → Type 0 where
  none : Many X []
  more : {c a : List ℕ} → X c → Many X a → Many X (c ++ a)

-- DIGIT = %x30-39 ; 0-9
pub data Digit : ℕ → ℕ → Type 0 where
  digit : {b : ℕ} → In (ch "0") (ch "9") b → Digit b (b - ch "0")

-- HEXDIG = DIGIT / "A" / "B" / "C" / "D" / "E" / "F" ; in either case
pub data Hexdig : ℕ → ℕ → Type 0 where
  decimal : {b : ℕ} → In (ch "0") (ch "9") b → Hexdig b (b - ch "0")
  upper : {b : ℕ} → In (ch "A") (ch "F") b → Hexdig b (b - ch "A" + 10)
  lower : {b : ℕ} → In (ch "a") (ch "f") b → Hexdig b (b - ch "a" + 10)

-- `Digits D base n v a w`: a is n digits of the class D, which after the value v have the value w
pub data Digits (D : ℕ → ℕ → Type 0) (base : ℕ) : ℕ → ℕ → List ℕ → ℕ → Type 0 where
  over : {v : ℕ} → Digits D base zero v [] v
  next : {n v b x w : ℕ} {a : List ℕ} → D b x → Digits D base n (base * v + x) a w → Digits D base (suc n) v (b ∷ a) w

-- nDIGIT, after the value v
abbrev pub Decimal : ℕ → ℕ → List ℕ → ℕ → Type 0
Decimal n v a w = Digits Digit 10 n v a w

-- nHEXDIG
abbrev pub Hexadecimal : ℕ → List ℕ → ℕ → Type 0
Hexadecimal n a w = Digits Hexdig 16 n 0 a w
