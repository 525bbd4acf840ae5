-- What the functions that look for a repeated key (docs/FORMAT.md, 7.2) promise: the key at a place, the table of the
-- keys before it, and what a value's keys do to that table. Assumes nothing.
use Rattle.std.specs.Prelude.{◌≡◌, ◌⊎◌, Bool, true, List, [], ◌∷◌, ℕ, ◌+◌, ◌≤◌, ◌<◌, length, get_or}
use Rattle.std.proofs.Math.Option.{some}
use Rattle.meaning.specs.Letters.{ch}
use Rattle.meaning.specs.Limits.{text_limit}
use Rattle.meaning.specs.Once.{same}
use Rattle.meaning.specs.Between.Events.{Event, named}
use Rattle.machine.specs.Heard.{key_at}
use Rattle.once.specs.Hash.{hash_of}
use Rattle.once.specs.Windows.{Kept, hits, all, present}
use Rattle.once.specs.Keeping.{Keeps, Goes}
use Rattle.reader.specs.Between.Scanning.{Bare}
use Rattle.reader.specs.Between.Spelling.{Spells}
use Rattle.reader.specs.declared.spelling.Spelling.{Spelling}

-- the key that begins at this place of the text, with no layout before it, means u
abbrev pub KeyIs : List ℕ → ℕ → List ℕ → Type 0
KeyIs text q u = (key_at text q ≡ some u) × Bare text q

-- a key begins there
pub record AtKey (text : List ℕ) (q : ℕ) : Type 0 where
  pub u : List ℕ
  pub is : KeyIs text q u
  pub inside : q < length text
  pub short : length text ≤ text_limit

-- the table holds the keys before a place, in the window from f on
abbrev pub Keeping : List ℕ → List ℕ → ℕ → ℕ → Kept → Type 0
Keeping text seen at f s = Keeps (KeyIs text) (hash_of f) seen at f s

-- a table, or none
abbrev pub Tabled : List ℕ → List ℕ → ℕ → Type 0
Tabled text seen at = (length seen < 12) ⊎ ((f : ℕ) × ((s : Kept) × Keeping text seen at f s))

-- the table stands where these events lead
abbrev pub Led : List ℕ → List ℕ → ℕ → ℕ → Kept → List Event → Type 0
Led text seen at f s es = Goes (KeyIs text) (hash_of f) seen at f s es

-- ---- one key

abbrev pub SameSays : List ℕ → ℕ → ℕ → Bool → Type 0
SameSays text a b r = (u v : List ℕ) → KeyIs text a u → KeyIs text b v → r ≡ same u v

-- no byte is left of a key of which the bytes e were given
abbrev pub OverSays : List ℕ → Spelling → Bool → Type 0
OverSays text s r = (e u : List ℕ) → Spells text s e u → r ≡ same e u

abbrev pub TagSays : List ℕ → ℕ → ℕ → ℕ → Type 0
TagSays text q salt r = (u : List ℕ) → KeyIs text q u → r ≡ hash_of salt u

-- a colon stands at q
abbrev pub ColonAtSays : List ℕ → ℕ → Bool → Type 0
ColonAtSays text q r = r ≡ true → (q < length text) × (get_or text q 0 ≡ ch ":")

-- ---- one key among others

-- the key at q, with its tag, is looked for
abbrev pub Seeks : List ℕ → List ℕ → ℕ → ℕ → Type 0
Seeks text seen q tag = AtKey text q × ((f : ℕ) × ((s : Kept) × (Keeping text seen q f s × TagSays text q f tag)))

abbrev pub RepeatSays : List ℕ → List ℕ → ℕ → Bool → Type 0
RepeatSays text seen q r = (f : ℕ) (s : Kept) → Keeping text seen q f s → (u : List ℕ) → KeyIs text q u
    → r ≡ hits all u (present s.keys)

-- the key at q has come
pub record NoteSays (text seen seen' : List ℕ) (q : ℕ) : Type 0 where
  pub long : length seen' ≡ length seen
  pub leads : (f : ℕ) (s : Kept) → Keeping text seen q f s → 0 < length s.keys → (u : List ℕ) → KeyIs text q u
      → Led text seen' (q + 1) f s (named q u ∷ [])
