-- Words, identifiers and binary parts (docs/FORMAT.md, 1.2, 4 and 7.2), a byte at a time, as the check in parts keeps
-- them. Assumes nothing.
use Rattle.std.specs.Prelude.{ℕ, ◌+◌, ◌<◌, ◌≡◌, Option, Some, None, cond, List, [], ◌∷◌, ◌++◌, eqb, ltb, leb, get_or}
use Rattle.meaning.specs.Letters.{letters, ch}
use Rattle.meaning.specs.declared.Refusal.TheVariants.{NotGrammar}
use Rattle.machine.specs.Strings.{hex_of, no_digit, short_of, no_short}
use Rattle.machine.specs.Names as Names
use Rattle.arriving.specs.declared.states.Octets as OctetsOf
use Rattle.arriving.specs.declared.states.Octets.TheVariants as Octets
use Rattle.arriving.specs.declared.states.Mode.TheVariants.{Spelling, Packing, Naming}
use Rattle.arriving.specs.declared.states.Out.{Out}
use Rattle.arriving.specs.declared.states.Out.TheVariants.{Takes, Stops, Breaks}

-- ---- words

-- where the letters after the first one begin, in the list of words
abbrev pub null_at : ℕ
null_at = 1

abbrev pub true_at : ℕ
true_at = 6

abbrev pub false_at : ℕ
false_at = 11

abbrev pub not_a_number_at : ℕ
not_a_number_at = 17

abbrev pub infinity_at : ℕ
infinity_at = 21

abbrev pub closed : List ℕ → List ℕ → List ℕ
closed word rest = word ++ (0 ∷ rest)

-- the list of words, each with a zero after it
abbrev pub words : List ℕ
words =
    closed (letters "null") (closed (letters "true") (closed (letters "false")
    (closed (letters "NaN") (closed (letters "Infinity") []))))

-- 0 where the word is whole
unfoldable pub letter_at : ℕ → ℕ
letter_at n = get_or words n 0

-- what the code says of it
abbrev pub LetterIs : ℕ → Option ℕ → Type 0
LetterIs n None = letter_at n ≡ 0
LetterIs n (Some b) = (b ≡ letter_at n) × (0 < b)

-- in a word before the letter at the place n of the list of words
unfoldable pub next_word : ℕ → ℕ → ℕ → Out
next_word n p b =
    cond (eqb (letter_at n) 0) Stops
    (cond (eqb b (letter_at n)) (Takes (Spelling (n + 1)) 0) (Breaks (NotGrammar p)))

-- ---- identifiers

abbrev pub on_name : Names.Class → Out
on_name Names.letter = Takes Naming 1
on_name Names.figure = Takes Naming 1
on_name Names.neither = Stops

unfoldable pub next_name : ℕ → Out
next_name b = on_name (Names.class_of b)

-- ---- binary parts

abbrev pub packs : OctetsOf.Octets → ℕ → Out
packs o n = Takes (Packing o) n

-- a hexadecimal digit takes the part on; without one it is this instead
unfoldable pub on_digit : ℕ → Out → Out → Out
on_digit x next instead = cond (ltb x no_digit) next instead

unfoldable pub on_short : ℕ → ℕ → ℕ → Out
on_short p q c = cond (ltb c no_short) (packs (Octets.Text q) 1) (Breaks (NotGrammar p))

unfoldable pub on_text : ℕ → ℕ → ℕ → Out
on_text p q b =
    cond (eqb b (ch "\\")) (packs (Octets.Escape q) 0)
    (cond (eqb b q) (packs Octets.Done 0)
    (cond (ltb b 0x20) (Breaks (NotGrammar p))
    (cond (leb b 0x7E) (packs (Octets.Text q) 1) (Breaks (NotGrammar p)))))

unfoldable pub on_dollar : ℕ → Out
on_dollar b =
    cond (eqb b (ch "\"")) (packs (Octets.Text b) 0)
    (cond (eqb b (ch "'")) (packs (Octets.Text b) 0) (on_digit (hex_of b) (packs Octets.Low 0) Stops))

unfoldable pub on_escape : ℕ → ℕ → ℕ → Out
on_escape p q b = cond (eqb b (ch "x")) (packs (Octets.Hex q) 0) (on_short p q (short_of b))

unfoldable pub on_pair : ℕ → Out
on_pair b = cond (eqb b (ch ".")) (packs Octets.Dot 0) (on_digit (hex_of b) (packs Octets.Low 0) Stops)

unfoldable pub next_octets : OctetsOf.Octets → ℕ → ℕ → Out
next_octets Octets.Dollar p b = on_dollar b
next_octets (Octets.Text q) p b = on_text p q b
next_octets (Octets.Escape q) p b = on_escape p q b
next_octets (Octets.Hex q) p b = on_digit (hex_of b) (packs (Octets.HexLow q) 0) (Breaks (NotGrammar p))
next_octets (Octets.HexLow q) p b = on_digit (hex_of b) (packs (Octets.Text q) 1) (Breaks (NotGrammar p))
next_octets Octets.Low p b = on_digit (hex_of b) (packs Octets.Pair 1) (Breaks (NotGrammar p))
next_octets Octets.Pair p b = on_pair b
next_octets Octets.Dot p b = on_digit (hex_of b) (packs Octets.Low 0) (Breaks (NotGrammar p))
next_octets Octets.Done p b = Stops
