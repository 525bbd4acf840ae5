-- UTF-8 as RFC 3629 has it (docs/FORMAT.md, 1.1): section 4's ABNF, rule for rule, and section 3's table of character
-- numbers. Assumes nothing.
use Rattle.std.specs.Prelude.{◌≡◌, ◌⊎◌, cond, List, [], ◌∷◌, ◌++◌, ℕ, ◌+◌, ◌/◌, ◌%◌, ◌≤◌, ◌<◌, leb, length, Result}
use Rattle.rules.specs.declared.IllFormed.{IllFormed}
use Rattle.rules.specs.Paper as paper
use Rattle.rules.specs.Paper.{utf8_said, refused}

-- the byte b lies in %x lo-hi
pub record In (lo hi b : ℕ) : Type 0 where
  pub low : lo ≤ b
  pub high : b ≤ hi

-- UTF8-tail = %x80-BF
abbrev pub Tail : ℕ → Type 0
Tail b = In 0x80 0xBF b

-- UTF8-char = UTF8-1 / UTF8-2 / UTF8-3 / UTF8-4: these bytes are one character
pub data Char : List ℕ → Type 0 where
  utf8_1 : {a : ℕ} → In 0x00 0x7F a → Char (a ∷ [])
  utf8_2 : {a b : ℕ} → In 0xC2 0xDF a → Tail b → Char (a ∷ b ∷ [])
  utf8_3a : {b c : ℕ} → In 0xA0 0xBF b → Tail c → Char (0xE0 ∷ b ∷ c ∷ [])
  utf8_3b : {a b c : ℕ} → In 0xE1 0xEC a → Tail b → Tail c → Char (a ∷ b ∷ c ∷ [])
  utf8_3c : {b c : ℕ} → In 0x80 0x9F b → Tail c → Char (0xED ∷ b ∷ c ∷ [])
  utf8_3d : {a b c : ℕ} → In 0xEE 0xEF a → Tail b → Tail c → Char (a ∷ b ∷ c ∷ [])
  utf8_4a : {b c d : ℕ} → In 0x90 0xBF b → Tail c → Tail d → Char (0xF0 ∷ b ∷ c ∷ d ∷ [])
  utf8_4b : {a b c d : ℕ} → In 0xF1 0xF3 a → Tail b → Tail c → Tail d → Char (a ∷ b ∷ c ∷ d ∷ [])
  utf8_4c : {b c d : ℕ} → In 0x80 0x8F b → Tail c → Tail d → Char (0xF4 ∷ b ∷ c ∷ d ∷ [])

-- UTF8-octets = *( UTF8-char ): these bytes are UTF-8
pub data Octets : List ℕ → Type 0 where
  none : Octets []
  more : {c t : List ℕ} → Char c → Octets t → Octets (c ++ t)

-- no character stands at the start of s
abbrev pub NoChar : List ℕ → Type 0
NoChar s = (c t : List ℕ) → Char c → s ≡ c ++ t → ⊥

-- the bytes before the place k are UTF-8, k is no end, and no character stands at k: the first ill-formed sequence
-- begins there
pub record Fault (s : List ℕ) (k : ℕ) : Type 0 where
  pub before : List ℕ
  pub rest : List ℕ
  pub split : s ≡ before ++ rest
  pub place : k ≡ length before
  pub good : Octets before
  pub left : 0 < length rest
  pub bad : NoChar rest

-- what `utf8` may answer
pub data Judged (s : List ℕ) (a : Result (Unit {0}) IllFormed) : Type 0 where
  done : Octets s → utf8_said a ≡ paper.done tt → Judged s a
  ill : {k : ℕ} → Fault s k → utf8_said a ≡ refused 2 k → Judged s a

-- a character number: at most 10FFFF, and no surrogate (section 3)
pub record Scalar (n : ℕ) : Type 0 where
  pub top : n ≤ 0x10FFFF
  pub whole : (n < 0xD800) ⊎ (0xDFFF < n)

-- section 3's table:
--   0000-007F       0xxxxxxx
--   0080-07FF       110xxxxx 10xxxxxx
--   0800-FFFF       1110xxxx 10xxxxxx 10xxxxxx
--   10000-10FFFF    11110xxx 10xxxxxx 10xxxxxx 10xxxxxx
unfoldable pub encode : ℕ → List ℕ
encode n =
    cond (leb n 0x7F) (n ∷ [])
    (cond (leb n 0x7FF) ((0xC0 + n / 64) ∷ (0x80 + n % 64) ∷ [])
    (cond (leb n 0xFFFF) ((0xE0 + n / 4096) ∷ (0x80 + n / 64 % 64) ∷ (0x80 + n % 64) ∷ [])
    ((0xF0 + n / 262144) ∷ (0x80 + n / 4096 % 64) ∷ (0x80 + n / 64 % 64) ∷ (0x80 + n % 64) ∷ [])))
