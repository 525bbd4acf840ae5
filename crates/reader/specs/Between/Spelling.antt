-- What the functions that spell a key (docs/FORMAT.md, 7.2) promise: the bytes that it means, one at a time. All is
-- said of every key that the machine hears from there on; where it hears none, nothing is. Assumes nothing.
use Rattle.std.specs.Prelude.{◌≡◌, Bool, true, false, List, [], ◌∷◌, ◌++◌, ℕ, ◌+◌, ◌*◌, ◌-◌, ◌≤◌, ◌<◌, length, drop}
use Rattle.std.specs.Prelude.{get_or, Option, Some, None}
use Rattle.std.proofs.Math.Option.{some}
use Rattle.rules.specs.Rfc3629.{encode}
use Rattle.machine.specs.Scan.{ended, ran}
use Rattle.machine.specs.Names
use Rattle.machine.specs.Strings
use Rattle.machine.specs.Strings.{Bad, mk, whole, body, lines, begin}
use Rattle.machine.specs.Machine.{as_key, string, key, got, base, Conf, at}
use Rattle.machine.specs.Heard.{tell, key_heard}
use Rattle.reader.specs.declared.spelling.Spelling.{Spelling}
use Rattle.reader.specs.declared.spelling.Spelt.{Spelt}

-- ---- a character

-- the last bytes of a character's UTF-8 form, so many
abbrev pub due_of : ℕ → ℕ → List ℕ
due_of c left = drop (length (encode c) - left) (encode c)

-- the first of them
abbrev pub OctetSays : ℕ → ℕ → ℕ → Type 0
OctetSays c left r = 0 < left → left ≤ length (encode c) → due_of c left ≡ r ∷ due_of c (left - 1)

-- ---- what is still to be heard

-- from the state c at p on, the first colon names u
abbrev pub NamesNext : List ℕ → Conf → ℕ → List ℕ → Type 0
NamesNext text c p u = key_heard (tell p c (drop p text)).heard ≡ some u

-- behind string parts of these bytes, or behind an identifier
abbrev pub got_parts : List ℕ → Conf
got_parts e = at (base (got (string as_key e))) 0 []

abbrev pub got_name : List ℕ → Conf
got_name e = at (base (got (key e))) 0 []

-- a string part at p, the scanner in the state s: where it has closed, behind the bytes before it, u is named
pub record Part (text : List ℕ) (s : Strings.St) (p : ℕ) (before u : List ℕ) : Type 0 where
  pub value : List ℕ
  pub close : ℕ
  pub runs : ran Strings.scan p s (drop p text) ≡ ended value close
  pub names : NamesNext text (got_parts (before ++ value)) close u

-- the bytes e are those of the parts before and those of this part so far, which the scanner's state has
pub record Inside (text : List ℕ) (state : List ℕ → Strings.St) (p : ℕ) (e u : List ℕ) : Type 0 where
  pub before : List ℕ
  pub so_far : List ℕ
  pub part : Part text (state so_far) p before u
  pub given : e ≡ before ++ so_far

-- between two characters of a part; a bad escape may have come
abbrev pub between : ℕ → Bad → List ℕ → Strings.St
between quote bad acc = body (mk quote bad whole acc)

abbrev pub Quoting : List ℕ → ℕ → ℕ → List ℕ → List ℕ → Type 0
Quoting text p quote e u = (bad : Bad) × Inside text (between quote bad) p e u

-- an identifier at p, after the letters e
pub record Naming (text : List ℕ) (p : ℕ) (e u : List ℕ) : Type 0 where
  pub value : List ℕ
  pub close : ℕ
  pub runs : ran Names.scan p (Names.name e) (drop p text) ≡ ended value close
  pub names : NamesNext text (got_name value) close u

-- the bytes e have been given: the key is going to be u
abbrev pub Spells : List ℕ → Spelling → List ℕ → List ℕ → Type 0
Spells text (Spelling.Name p) e u = Naming text p e u
Spells text (Spelling.Opening p) e u = Part text begin p e u
Spells text (Spelling.Quoted p quote) e u = Quoting text p quote e u
Spells text (Spelling.Lines p quote) e u = Inside text (lines quote 0) p e u
Spells text (Spelling.Due c left p quote) e u =
    (left ≤ length (encode c)) × Quoting text p quote (e ++ due_of c left) u

-- ---- steps

abbrev pub InText : List ℕ → Spelling → Type 0
InText text (Spelling.Name p) = p ≤ length text
InText text (Spelling.Opening p) = p ≤ length text
InText text (Spelling.Quoted p quote) = p ≤ length text
InText text (Spelling.Lines p quote) = p ≤ length text
InText text (Spelling.Due c left p quote) = (p ≤ length text) × (c ≤ 0x10FFFF) × (0 < left) × (left ≤ 4)

-- a number that falls with each step
abbrev pub to_come : List ℕ → Spelling → ℕ
to_come text (Spelling.Name p) = 8 * (length text - p)
to_come text (Spelling.Opening p) = 8 * (length text - p)
to_come text (Spelling.Quoted p quote) = 8 * (length text - p)
to_come text (Spelling.Lines p quote) = 8 * (length text - p)
to_come text (Spelling.Due c left p quote) = 8 * (length text - p) + left

pub record Further (text : List ℕ) (most : ℕ) (s : Spelling) : Type 0 where
  pub within : InText text s
  pub falls : to_come text s < most

-- a step from where the bytes e lead to the key u as From says
abbrev pub StepFromSays : List ℕ → ℕ → (List ℕ → List ℕ → Type 0) → Spelt → Type 0
StepFromSays text most From (Spelt.Byte b s) =
    Further text most s × ((e u : List ℕ) → From e u → Spells text s (e ++ (b ∷ [])) u)
StepFromSays text most From (Spelt.On s) = Further text most s × ((e u : List ℕ) → From e u → Spells text s e u)
StepFromSays text most From Spelt.Over = (e u : List ℕ) → From e u → e ≡ u

abbrev pub StepSays : List ℕ → Spelling → Spelt → Type 0
StepSays text s = StepFromSays text (to_come text s) (Spells text s)

abbrev pub LetterSays : List ℕ → Spelling → Option (ℕ × Spelling) → Type 0
LetterSays text s (Some (b, t)) =
    Further text (to_come text s) t × ((e u : List ℕ) → Spells text s e u → Spells text t (e ++ (b ∷ [])) u)
LetterSays text s None = (e u : List ℕ) → Spells text s e u → e ≡ u

-- three quotes stand at p, or not
abbrev pub ThreeSays : List ℕ → ℕ → ℕ → Bool → Type 0
ThreeSays text p q true = (p + 3 ≤ length text) × (get_or text p 0 ≡ q) × (get_or text (p + 1) 0 ≡ q)
    × (get_or text (p + 2) 0 ≡ q)
ThreeSays text p q false = p + 3 ≤ length text → get_or text p 0 ≡ q → get_or text (p + 1) 0 ≡ q → get_or text (p + 2) 0
    ≡ q
    → ⊥
