-- Raw string parts: the rules over single bytes, where every byte from U+0020 up is plain. Assumes nothing.
use Prim.Native.Nat.{ℕ}
use mathlib.Core.Path.{◌≡◌}
use mathlib.Core.Bool.{Bool, true}
use mathlib.Core.List.{List, [], ◌∷◌, ◌++◌}
use Rattle.meaning.specs.Letters.{ch}
use Rattle.grammar.specs.Strings.{Quote, mark, three, Escape, UpToTwo, Newline, NoNewline}
use Rattle.machine.specs.Strings.{line_byte}
use Rattle.machine.proofs.Strings.Quotes.{Between}

-- b is plain between two quotes q
abbrev pub Plain : ℕ → ℕ → Type 0
Plain q b = Between 0xFF q b

-- after the opening quote, with the closing one
pub data Body (k : Bool) (q : Quote) : List ℕ → List ℕ → Type 0 where
  closed : Body k q (mark q ∷ []) []
  plain : {b : ℕ} {a u : List ℕ} → Plain (mark q) b → Body k q a u → Body k q (b ∷ a) (b ∷ u)
  escaped : {e v a u : List ℕ} → Escape k e v → Body k q a u → Body k q (ch "\\" ∷ (e ++ a)) (v ++ u)

-- b may stand in a multiline part, and is no quote q
pub record Inner (q b : ℕ) : Type 0 where
  pub no_end : b ≡ q → ⊥
  pub may : line_byte b ≡ true

-- after the opening of a multiline part, with the closing quotes
pub data Lines (q : Quote) : List ℕ → List ℕ → Type 0 where
  shut : Lines q (three q) []
  byte : {s a u : List ℕ} {b : ℕ} → UpToTwo q s → Inner (mark q) b → Lines q a u → Lines q (s ++ (b ∷ a)) (s ++ (b ∷ u))

pub data RawPart (k : Bool) : List ℕ → List ℕ → Type 0 where
  one_line : {a u : List ℕ} (q : Quote) → Body k q a u → RawPart k (mark q ∷ a) u
  multiline : {a u : List ℕ} (q : Quote) → Lines q a u → NoNewline a → RawPart k (three q ++ a) u
  trimmed : {n a u : List ℕ} (q : Quote) → Newline n → Lines q a u → RawPart k (three q ++ (n ++ a)) u
