-- Strings: their parts, their escapes, and how parts are joined (docs/FORMAT.md, 3). Assumes nothing.
use Rattle.std.specs.Prelude.{ℕ, suc, ◌+◌, ◌*◌, ◌-◌, ◌≡◌, Bool, List, [], ◌∷◌, ◌++◌}
use Rattle.rules.specs.Rfc3629.{In, Scalar, encode}
use Rattle.meaning.specs.Letters.{letters, ch}
use Rattle.grammar.specs.Checks.{Checked}
use Rattle.grammar.specs.Characters.{Range, ◌to◌, Among, Many, Hexadecimal}
use Rattle.grammar.specs.Comments.{Ws}

-- d-quote = %x22 ; s-quote = %x27
pub data Quote : Type 0 where
  double single : Quote

abbrev pub mark : Quote → ℕ
mark double = ch "\""
mark single = ch "'"

abbrev pub other : Quote → Quote
other double = single
other single = double

-- three of a quote
abbrev pub three : Quote → List ℕ
three q = mark q ∷ mark q ∷ mark q ∷ []

-- *( P / escape E / other quote ) between two quotes of the kind q: P and E are what the two kinds of string differ in
-- d-string = d-quote *( s-char / s-quote ) d-quote
-- s-string = s-quote *( s-char / d-quote ) s-quote
-- escape = %x5C ; \
pub data Chars (P : List ℕ → Type 0) (E : List ℕ → List ℕ → Type 0) (q : Quote) : List ℕ → List ℕ → Type 0 where
  none : Chars P E q [] []
  plain : {c a u : List ℕ} → P c → Chars P E q a u → Chars P E q (c ++ a) (c ++ u)
  escaped : {e v a u : List ℕ} → E e v → Chars P E q a u → Chars P E q (ch "\\" ∷ (e ++ a)) (v ++ u)
  other_quote : {a u : List ℕ} → Chars P E q a u → Chars P E q (mark (other q) ∷ a) (mark (other q) ∷ u)

pub data Quoted (P : List ℕ → Type 0) (E : List ℕ → List ℕ → Type 0) : List ℕ → List ℕ → Type 0 where
  quoted : {a u : List ℕ} (q : Quote) → Chars P E q a u → Quoted P E (mark q ∷ (a ++ (mark q ∷ []))) u

-- the escapes of one byte that strings and binary share
pub data Short : ℕ → ℕ → Type 0 where
  double_quote : Short (ch "\"") 0x22
  single_quote : Short (ch "'") 0x27
  reverse_solidus : Short (ch "\\") 0x5C
  solidus : Short (ch "/") 0x2F
  nul : Short (ch "0") 0x00
  backspace : Short (ch "b") 0x08
  form_feed : Short (ch "f") 0x0C
  line_feed : Short (ch "n") 0x0A
  carriage_return : Short (ch "r") 0x0D
  tab : Short (ch "t") 0x09
  vtab : Short (ch "v") 0x0B

-- the character of a high and a low surrogate (RFC 8259, section 7)
abbrev pub joined : ℕ → ℕ → ℕ
joined high low = 0x10000 + (high - 0xD800) * 0x400 + (low - 0xDC00)

-- what follows escape in an s-char, and the bytes that it means
-- %x75 4HEXDIG ; uXXXX                U+XXXX
-- %x75 %x7B 1*HEXDIG %x7D ; u{X...}   U+X...
-- `\uXXXX` high then low surrogate, adjacent in one part, make one character.
pub data Escape (k : Bool) : List ℕ → List ℕ → Type 0 where
  short : {b c : ℕ} → Short b c → Escape k (b ∷ []) (c ∷ [])
  unit : {a : List ℕ} {n : ℕ} → Hexadecimal 4 a n → Checked k (Scalar n) → Escape k (ch "u" ∷ a) (encode n)
  pair : {a b : List ℕ} {high low : ℕ} → Hexadecimal 4 a high → In 0xD800 0xDBFF high → Hexadecimal 4 b low
      → In 0xDC00 0xDFFF low → Escape k (ch "u" ∷ (a ++ (letters "\\u" ++ b))) (encode (joined high low))
  braced : {a : List ℕ} {d n : ℕ} → Hexadecimal (suc d) a n → Checked k (Scalar n)
      → Escape k (letters "u{" ++ (a ++ letters "}")) (encode n)

-- unescaped = %x20-21 / %x23-26 / %x28-5B / %x5D-10FFFF
abbrev pub unescaped : List Range
unescaped = 0x20 to 0x21 ∷ 0x23 to 0x26 ∷ 0x28 to 0x5B ∷ 0x5D to 0x10FFFF ∷ []

-- *2d-quote, *2s-quote
pub data UpToTwo (q : Quote) : List ℕ → Type 0 where
  no_quote : UpToTwo q []
  one_quote : UpToTwo q (mark q ∷ [])
  two_quotes : UpToTwo q (mark q ∷ mark q ∷ [])

-- %x09 / %x0A / %x0D / %x20-21 / %x23-10FFFF and %x09 / %x0A / %x0D / %x20-26 / %x28-10FFFF
abbrev pub source : Quote → List Range
source double = 0x09 to 0x09 ∷ 0x0A to 0x0A ∷ 0x0D to 0x0D ∷ 0x20 to 0x21 ∷ 0x23 to 0x10FFFF ∷ []
source single = 0x09 to 0x09 ∷ 0x0A to 0x0A ∷ 0x0D to 0x0D ∷ 0x20 to 0x26 ∷ 0x28 to 0x10FFFF ∷ []

-- m-d-char = *2d-quote ( %x09 / %x0A / %x0D / %x20-21 / %x23-10FFFF )
-- m-s-char = *2s-quote ( %x09 / %x0A / %x0D / %x20-26 / %x28-10FFFF )
pub data MChar (q : Quote) : List ℕ → Type 0 where
  m_char : {s c : List ℕ} → UpToTwo q s → Among (source q) c → MChar q (s ++ c)

-- the newline that a multiline part loses right after its opening: one LF, or one CR LF
pub data Newline : List ℕ → Type 0 where
  line_feed : Newline (letters "\n")
  return_line_feed : Newline (letters "\r\n")

-- no such newline begins these bytes
pub data NoNewline : List ℕ → Type 0 where
  empty : NoNewline []
  other_byte : {b : ℕ} {a : List ℕ} → (b ≡ ch "\n" → ⊥) → (b ≡ ch "\r" → ⊥) → NoNewline (b ∷ a)
  lone_return : NoNewline (letters "\r")
  return_before : {b : ℕ} {a : List ℕ} → (b ≡ ch "\n" → ⊥) → NoNewline (ch "\r" ∷ b ∷ a)

-- string-part = m-d-string / m-s-string / d-string / s-string
-- m-d-string = 3d-quote *( m-d-char ) 3d-quote
-- m-s-string = 3s-quote *( m-s-char ) 3s-quote
pub data StringPart (k : Bool) : List ℕ → List ℕ → Type 0 where
  one_line : {a u : List ℕ} → Quoted (Among unescaped) (Escape k) a u → StringPart k a u
  multiline : {a : List ℕ} (q : Quote) → Many (MChar q) a → NoNewline a → StringPart k (three q ++ (a ++ three q)) a
  trimmed : {n a : List ℕ} (q : Quote) → Newline n → Many (MChar q) a
      → StringPart k (three q ++ (n ++ (a ++ three q))) a

-- P *( value-concat P ); value-concat is `+` with layout allowed on both sides
pub data Concat (P : List ℕ → List ℕ → Type 0) : List ℕ → List ℕ → Type 0 where
  part : {a u : List ℕ} → P a u → Concat P a u
  plus : {a u v w b t : List ℕ} → P a u → Ws v → Ws w → Concat P b t
      → Concat P (a ++ (v ++ (ch "+" ∷ (w ++ b)))) (u ++ t)

-- string = string-part *( value-concat string-part )
abbrev pub String : Bool → List ℕ → List ℕ → Type 0
String k a u = Concat (StringPart k) a u
