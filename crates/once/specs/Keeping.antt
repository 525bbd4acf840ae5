-- A table that stands where a pass does (docs/FORMAT.md, 7.2): what it holds, by the keys taken in, for any meaning of
-- "the key at this place is u" and any tag that the bytes of a key determine. Assumes nothing.
use Rattle.std.specs.Prelude.{List, [], ◌∷◌, ℕ, ◌<◌, ◌≤◌, length}
use Rattle.meaning.specs.Between.Events.{Event}
use Rattle.once.specs.Table.{Slot}
use Rattle.once.specs.Groups.{State, Holds}
use Rattle.once.specs.Objects.{state_of}
use Rattle.once.specs.Windows.{Key, Kept, Every, Passes}

-- the slots of keys, by place and tag
abbrev pub slots_of : (List ℕ → ℕ) → List Key → List Slot
slots_of tag [] = []
slots_of tag (k ∷ o) = (k.0, tag k.1) ∷ slots_of tag o

abbrev pub all_slots : (List ℕ → ℕ) → List (List Key) → List (List Slot)
all_slots tag [] = []
all_slots tag (o ∷ os) = slots_of tag o ∷ all_slots tag os

abbrev pub held_of : (List ℕ → ℕ) → ℕ → Kept → State
held_of tag f s = state_of (all_slots tag s.keys) f s.twice s.stop

-- a key that is there, before a place
abbrev pub Before : (ℕ → List ℕ → Type 0) → ℕ → Key → Type 0
Before Is at k = Is k.0 k.1 × (k.0 < at)

-- the table at a place, in the window from f on
pub record Keeps (Is : ℕ → List ℕ → Type 0) (tag : List ℕ → ℕ) (seen : List ℕ) (at f : ℕ) (s : Kept) : Type 0 where
  pub holds : Holds seen (held_of tag f s)
  pub roomy : 16 ≤ length seen
  pub are : Every (Before Is at) s.keys
  pub few : length s.keys ≤ at
  pub within : at < 4294967295

-- the table stands where the pass over these events leads
pub record Goes (Is : ℕ → List ℕ → Type 0) (tag : List ℕ → ℕ) (seen : List ℕ) (at f : ℕ) (s : Kept) (es : List Event)
    : Type 0 where
  pub next : Kept
  pub passes : Passes f s es next
  pub keeps : Keeps Is tag seen at f next
