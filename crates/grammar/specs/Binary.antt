-- Binary: a dollar with nothing, a quoted form or hex pairs (docs/FORMAT.md, 4). Assumes nothing.
use Rattle.std.specs.Prelude.{ℕ, List, [], ◌∷◌, ◌++◌}
use Rattle.meaning.specs.Letters.{letters, ch}
use Rattle.grammar.specs.Characters.{Range, ◌to◌, Ascii, Hexadecimal}
use Rattle.grammar.specs.Strings.{Short, Quoted, Concat}

-- what follows escape in a b-char, and the byte that it means
-- %x78 2HEXDIG ; xXX                  0xXX
pub data BEscape : List ℕ → List ℕ → Type 0 where
  short : {b c : ℕ} → Short b c → BEscape (b ∷ []) (c ∷ [])
  byte : {a : List ℕ} {n : ℕ} → Hexadecimal 2 a n → BEscape (ch "x" ∷ a) (n ∷ [])

-- b-unescaped = %x20-21 / %x23-26 / %x28-5B / %x5D-7E
abbrev pub b_unescaped : List Range
b_unescaped = 0x20 to 0x21 ∷ 0x23 to 0x26 ∷ 0x28 to 0x5B ∷ 0x5D to 0x7E ∷ []

-- b-part = 1*b-byte
-- b-byte = 2HEXDIG
pub data BPart : List ℕ → List ℕ → Type 0 where
  last : {a : List ℕ} {n : ℕ} → Hexadecimal 2 a n → BPart a (n ∷ [])
  more : {a b u : List ℕ} {n : ℕ} → Hexadecimal 2 a n → BPart b u → BPart (a ++ b) (n ∷ u)

-- b-direct = b-part *( dot b-part )
pub data BDirect : List ℕ → List ℕ → Type 0 where
  part : {a u : List ℕ} → BPart a u → BDirect a u
  dotted : {a b u t : List ℕ} → BPart a u → BDirect b t → BDirect (a ++ (ch "." ∷ b)) (u ++ t)

-- b-value = dollar [ b-string / b-direct ]
-- b-string = b-s-string / b-d-string
-- b-d-string = d-quote *( b-char / s-quote ) d-quote
-- b-s-string = s-quote *( b-char / d-quote ) s-quote
pub data BValue : List ℕ → List ℕ → Type 0 where
  empty : BValue (letters "$") []
  string : {a u : List ℕ} → Quoted (Ascii b_unescaped) BEscape a u → BValue (ch "$" ∷ a) u
  direct : {a u : List ℕ} → BDirect a u → BValue (ch "$" ∷ a) u

-- binary = b-value *( value-concat b-value )
abbrev pub Binary : List ℕ → List ℕ → Type 0
Binary a u = Concat BValue a u
