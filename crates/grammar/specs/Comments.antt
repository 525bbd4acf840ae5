-- Layout: comments and blanks (docs/FORMAT.md, 2). Assumes nothing.
use Rattle.std.specs.Prelude.{ℕ, List, [], ◌∷◌, ◌++◌}
use Rattle.meaning.specs.Letters.{letters, ch}
use Rattle.grammar.specs.Characters.{Range, ◌to◌, Among, Many}

-- c-begin-line = %x23 / %x2F.2F ; # or //
pub data CBeginLine : List ℕ → Type 0 where
  hash : CBeginLine (letters "#")
  slashes : CBeginLine (letters "//")

-- c-char = %x09 / %x20-10FFFF ; Any HTAB or printable character
abbrev pub c_char : List Range
c_char = 0x09 to 0x09 ∷ 0x20 to 0x10FFFF ∷ []

-- c-line = c-begin-line *( c-char )
pub data CLine : List ℕ → Type 0 where
  c_line : {b c : List ℕ} → CBeginLine b → Many (Among c_char) c → CLine (b ++ c)

-- c-no-star = %x09 / %x0A / %x0D / %x20-29 / %x2B-10FFFF
abbrev pub c_no_star : List Range
c_no_star = 0x09 to 0x09 ∷ 0x0A to 0x0A ∷ 0x0D to 0x0D ∷ 0x20 to 0x29 ∷ 0x2B to 0x10FFFF ∷ []

-- c-no-star-or-slash = %x09 / %x0A / %x0D / %x20-29 / %x2B-2E / %x30-10FFFF
abbrev pub c_no_star_or_slash : List Range
c_no_star_or_slash = 0x09 to 0x09 ∷ 0x0A to 0x0A ∷ 0x0D to 0x0D ∷ 0x20 to 0x29 ∷ 0x2B to 0x2E ∷ 0x30 to 0x10FFFF ∷ []

-- 1*c-star ; c-star = %x2A
pub data Stars : List ℕ → Type 0 where
  one : Stars (letters "*")
  more : {s : List ℕ} → Stars s → Stars (ch "*" ∷ s)

-- c-no-star / ( 1*c-star c-no-star-or-slash )
pub data CInner : List ℕ → Type 0 where
  no_star : {c : List ℕ} → Among c_no_star c → CInner c
  stars : {s c : List ℕ} → Stars s → Among c_no_star_or_slash c → CInner (s ++ c)

-- c-block = c-begin-block *( c-no-star / ( 1*c-star c-no-star-or-slash ) ) c-end-block
-- c-begin-block = c-slash c-star ; c-end-block = 1*c-star c-slash
pub data CBlock : List ℕ → Type 0 where
  c_block : {a s : List ℕ} → Many CInner a → Stars s → CBlock (letters "/*" ++ (a ++ (s ++ letters "/")))

-- %x20 / %x09 / %x0A / %x0D
pub data Blank : ℕ → Type 0 where
  space : Blank (ch " ")
  tab : Blank (ch "\t")
  line_feed : Blank (ch "\n")
  carriage_return : Blank (ch "\r")

-- where a line ends
pub data LineEnd : ℕ → Type 0 where
  line_feed : LineEnd (ch "\n")
  carriage_return : LineEnd (ch "\r")

-- ws = *( %x20 / %x09 / %x0A / %x0D / comment ) ; comment = c-line / c-block
-- A line comment takes all it can: here an LF or CR follows it.
pub data Ws : List ℕ → Type 0 where
  none : Ws []
  blank : {b : ℕ} {a : List ℕ} → Blank b → Ws a → Ws (b ∷ a)
  line : {b : ℕ} {c a : List ℕ} → CLine c → LineEnd b → Ws a → Ws (c ++ (b ∷ a))
  block : {c a : List ℕ} → CBlock c → Ws a → Ws (c ++ a)

-- ws at the text's end, which may end a line comment too
pub data Last : List ℕ → Type 0 where
  ended : {a : List ℕ} → Ws a → Last a
  unended : {a c : List ℕ} → Ws a → CLine c → Last (a ++ c)
