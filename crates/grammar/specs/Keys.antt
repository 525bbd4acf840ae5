-- Keys: strings and identifiers (docs/FORMAT.md, 7.2). Assumes nothing.
use Rattle.std.specs.Prelude.{ℕ, Bool, List, [], ◌∷◌, ◌++◌}
use Rattle.grammar.specs.Characters.{Range, ◌to◌, Ascii, Many}
use Rattle.grammar.specs.Strings.{String}

-- i-begin = ALPHA / %x24 / %x5F
abbrev pub i_begin : List Range
i_begin = 0x41 to 0x5A ∷ 0x61 to 0x7A ∷ 0x24 to 0x24 ∷ 0x5F to 0x5F ∷ []

-- i-continue = i-begin / DIGIT
abbrev pub i_continue : List Range
i_continue = i_begin ++ (0x30 to 0x39 ∷ [])

-- identifier = i-begin *i-continue
pub data Identifier : List ℕ → Type 0 where
  identifier : {c a : List ℕ} → Ascii i_begin c → Many (Ascii i_continue) a → Identifier (c ++ a)

-- key = string / identifier
pub data Key (k : Bool) : List ℕ → List ℕ → Type 0 where
  string : {a u : List ℕ} → String k a u → Key k a u
  identifier : {a : List ℕ} → Identifier a → Key k a a
