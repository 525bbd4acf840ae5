-- Numbers, and the sign, coefficient and power that each means (docs/FORMAT.md, 5). Assumes nothing.
use Rattle.std.specs.Prelude.{ℕ, suc, ◌+◌, ◌*◌, ◌-◌, ◌≤◌, ◌<◌, ◌%◌, ◌^◌, ◌≡◌, Bool, true, false, List, [], ◌∷◌, ◌++◌}
use Rattle.std.specs.Prelude.{pos, negsuc}
use Rattle.rules.specs.Rfc3629.{In}
use Rattle.meaning.specs.declared.Number as M
use Rattle.meaning.specs.declared.Number.TheVariants.{NotANumber, Infinite, Finite as FiniteNumber}
use Rattle.meaning.specs.Limits.{coefficient_limit, power_limit}
use Rattle.meaning.specs.Letters.{letters, ch}
use Rattle.grammar.specs.Checks.{Checked}
use Rattle.grammar.specs.Characters.{Decimal, Hexadecimal}

-- m × 10 ^ up / 10 ^ dn as a sign, a coefficient that does not end in the digit 0 and a power of ten, nothing
-- rounded; zero has coefficient 0 and power 0. The coefficient is below 2^64; the power lies from -9,999 to 9,999.
pub data Finite (k minus : Bool) (m up dn : ℕ) : M.Number → Type 0 where
  nought : m ≡ 0 → Finite k minus m up dn (FiniteNumber minus 0 (pos 0))
  whole : {c n : ℕ} → m * 10 ^ up ≡ c * 10 ^ n * 10 ^ dn → (c % 10 ≡ 0 → ⊥) → Checked k (c < coefficient_limit)
      → Checked k (n ≤ power_limit) → Finite k minus m up dn (FiniteNumber minus c (pos n))
  part : {c n : ℕ} → m * 10 ^ up * 10 ^ suc n ≡ c * 10 ^ dn → (c % 10 ≡ 0 → ⊥) → Checked k (c < coefficient_limit)
      → Checked k (suc n ≤ power_limit) → Finite k minus m up dn (FiniteNumber minus c (negsuc n))

-- [ plus / minus ]
pub data Sign : List ℕ → Bool → Type 0 where
  unsigned : Sign [] false
  plus : Sign (letters "+") false
  minus : Sign (letters "-") true

-- int = zero / ( digit1-9 *DIGIT )
pub data Int : List ℕ → ℕ → Type 0 where
  zero_digit : Int (letters "0") 0
  positive : {n b w : ℕ} {a : List ℕ} → In (ch "1") (ch "9") b → Decimal n (b - ch "0") a w → Int (b ∷ a) w

-- [ frac0 ], after the value v: the value with its n digits
-- frac0 = decimal-point *DIGIT
pub data Frac0 : ℕ → List ℕ → ℕ → ℕ → Type 0 where
  absent : {v : ℕ} → Frac0 v [] v 0
  given : {v n w : ℕ} {a : List ℕ} → Decimal n v a w → Frac0 v (ch "." ∷ a) w n

-- frac1 = decimal-point 1*DIGIT
pub data Frac1 : List ℕ → ℕ → ℕ → Type 0 where
  given : {n w : ℕ} {a : List ℕ} → Decimal (suc n) 0 a w → Frac1 (ch "." ∷ a) w (suc n)

-- e = %x65 / %x45 ; e E
pub data E : ℕ → Type 0 where
  small : E (ch "e")
  capital : E (ch "E")

-- an exponent of this sign multiplies by a power of ten, or divides by one
abbrev pub raised : Bool → ℕ → ℕ
raised false e = e
raised true e = 0

abbrev pub lowered : Bool → ℕ → ℕ
lowered false e = 0
lowered true e = e

-- [ exp ]
-- exp = e [ plus / minus ] 1*DIGIT
pub data Exp : List ℕ → ℕ → ℕ → Type 0 where
  absent : Exp [] 0 0
  given : {b n e : ℕ} {s a : List ℕ} {minus : Bool} → E b → Sign s minus → Decimal (suc n) 0 a e
      → Exp (b ∷ (s ++ a)) (raised minus e) (lowered minus e)

-- dec = ( int [ frac0 ] / frac1 ) [ exp ]
pub data Dec : List ℕ → ℕ → ℕ → ℕ → Type 0 where
  whole : {a b c : List ℕ} {v m n up dn : ℕ} → Int a v → Frac0 v b m n → Exp c up dn → Dec (a ++ (b ++ c)) m up (n + dn)
  part : {a c : List ℕ} {m n up dn : ℕ} → Frac1 a m n → Exp c up dn → Dec (a ++ c) m up (n + dn)

-- x = %x78 / %x58 ; x X
pub data X : ℕ → Type 0 where
  small : X (ch "x")
  capital : X (ch "X")

-- ( nan / inf / hex / dec ), under its sign. The sign of NaN is dropped; a hex number must itself be below 2^64.
-- nan = %x4E.61.4E ; NaN
-- inf = %x49.6E.66.69.6E.69.74.79 ; Infinity
-- hex = zero x 1*HEXDIG ; 0xXXX...
pub data Unsigned (k minus : Bool) : List ℕ → M.Number → Type 0 where
  nan : Unsigned k minus (letters "NaN") NotANumber
  inf : Unsigned k minus (letters "Infinity") (Infinite minus)
  hex : {x n v : ℕ} {a : List ℕ} {m : M.Number} → X x → Hexadecimal (suc n) a v → Checked k (v < coefficient_limit)
      → Finite k minus v 0 0 m → Unsigned k minus (ch "0" ∷ x ∷ a) m
  dec : {a : List ℕ} {v up dn : ℕ} {m : M.Number} → Dec a v up dn → Finite k minus v up dn m → Unsigned k minus a m

-- number = [ plus / minus ] ( nan / inf / hex / dec )
pub data Number (k : Bool) : List ℕ → M.Number → Type 0 where
  number : {s a : List ℕ} {minus : Bool} {m : M.Number} → Sign s minus → Unsigned k minus a m → Number k (s ++ a) m
