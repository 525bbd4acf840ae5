-- What happens to keys (docs/FORMAT.md, 7.2), in the order of a text or of a tape, and the first key that repeats an
-- earlier one of its object. Assumes nothing.
use Rattle.std.specs.Prelude.{Bool, true, false, cond, List, [], ◌∷◌, ◌++◌, ℕ, suc, ◌≤◌}
use Rattle.std.proofs.Math.Option.{Option, none, some}
use Rattle.meaning.specs.Meaning.{Meaning, Meanings, Members}
use Rattle.meaning.specs.Once.{same}

-- an object begins, or ends; a key, with its place and its bytes
pub data Event : Type 0 where
  begins ends : Event
  named : ℕ → List ℕ → Event

-- ---- the first repeated key

unfoldable pub among : List ℕ → List (List ℕ) → Bool
among u [] = false
among u (v ∷ vs) = cond (same u v) true (among u vs)

-- its place; of each open object, innermost first, the keys so far
unfoldable pub first_repeat : List (List (List ℕ)) → List Event → Option ℕ
first_repeat os [] = none
first_repeat os (begins ∷ es) = first_repeat ([] ∷ os) es
first_repeat [] (ends ∷ es) = first_repeat [] es
first_repeat (o ∷ os) (ends ∷ es) = first_repeat os es
first_repeat [] (named q u ∷ es) = first_repeat [] es
first_repeat (o ∷ os) (named q u ∷ es) = cond (among u o) (some q) (first_repeat ((u ∷ o) ∷ os) es)

-- the places rise, from a on and below b
abbrev pub Spans : ℕ → ℕ → List Event → Type 0
Spans a b [] = a ≤ b
Spans a b (begins ∷ es) = Spans a b es
Spans a b (ends ∷ es) = Spans a b es
Spans a b (named q u ∷ es) = (a ≤ q) × Spans (suc q) b es

-- ---- without their places

abbrev pub erased : Event → Event
erased begins = begins
erased ends = ends
erased (named q u) = named 0 u

abbrev pub erase : List Event → List Event
erase [] = []
erase (e ∷ es) = erased e ∷ erase es

-- ---- those of a meaning

unfoldable mutual
  pub events : Meaning → List Event
  events Meaning.null = []
  events (Meaning.bool b) = []
  events (Meaning.number n) = []
  events (Meaning.string s) = []
  events (Meaning.binary s) = []
  events (Meaning.time t) = []
  events (Meaning.array x) = element_events x
  events (Meaning.object x) = begins ∷ (member_events x ++ (ends ∷ []))

  pub element_events : Meanings → List Event
  element_events Meanings.none = []
  element_events (Meanings.more x m) = element_events x ++ events m

  pub member_events : Members → List Event
  member_events Members.bare = []
  member_events (Members.member x u m) = member_events x ++ (named 0 u ∷ events m)
