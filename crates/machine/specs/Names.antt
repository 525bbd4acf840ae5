-- A key identifier (docs/FORMAT.md, 7.2), and a word, a byte at a time. Assumes nothing.
use Rattle.std.specs.Prelude.{ℕ, ◌-◌, cond, List, [], ◌∷◌, ◌++◌, eqb}
use Rattle.meaning.specs.declared.Refusal.TheVariants.{NotGrammar}
use Rattle.meaning.specs.Letters.{ch}
use Rattle.machine.specs.Scan.{Out, takes, stops, breaks}
use Rattle.machine.specs.Table.{cut}

-- i-begin, the digits, and what is neither
pub data Class : Type 0 where
  letter : Class
  figure : Class
  neither : Class

-- in order, by the last byte of each row
abbrev pub rows : List (ℕ × Class)
rows =
    (ch "$" - 1, neither) ∷ (ch "$", letter)
    ∷ (ch "0" - 1, neither) ∷ (ch "9", figure)
    ∷ (ch "A" - 1, neither) ∷ (ch "Z", letter)
    ∷ (ch "_" - 1, neither) ∷ (ch "_", letter)
    ∷ (ch "a" - 1, neither) ∷ (ch "z", letter)
    ∷ []

unfoldable pub class_of : ℕ → Class
class_of b = cut rows neither b

-- name acc: after the bytes acc
pub data St : Type 0 where
  start : St
  name : List ℕ → St

-- before the first letter
abbrev pub begin : St
begin = start

unfoldable pub on_start : ℕ → ℕ → Class → Out St (List ℕ)
on_start p b letter = takes (name (b ∷ []))
on_start p b figure = breaks (NotGrammar p)
on_start p b neither = breaks (NotGrammar p)

unfoldable pub on_name : List ℕ → ℕ → Class → Out St (List ℕ)
on_name acc b letter = takes (name (acc ++ (b ∷ [])))
on_name acc b figure = takes (name (acc ++ (b ∷ [])))
on_name acc b neither = stops acc

unfoldable pub scan : ℕ → St → ℕ → Out St (List ℕ)
scan p start b = on_start p b (class_of b)
scan p (name acc) b = on_name acc b (class_of b)

-- A word, by the letters that are left of it: each comes, and where none is left the word stops.
unfoldable pub word_scan : ℕ → List ℕ → ℕ → Out (List ℕ) (Unit {0})
word_scan p [] b = stops tt
word_scan p (c ∷ left) b = cond (eqb b c) (takes left) (breaks (NotGrammar p))
