-- How many objects are open: as many after a value as before it. Assumes nothing.
use mathlib.Core.Path.{◌≡◌, refl, sym, ap, ◌∙◌}
use mathlib.Core.List.{List, [], ◌∷◌, ◌++◌}
use Prim.Native.Nat.{ℕ, zero, suc, ◌<◌}
use native.Mathlib.Omega.{arith}
use lib.ListN.{length}
use Rattle.meaning.specs.Meaning.{Meaning, Meanings, Members, null, bool, number, string, binary, time, array, object, none, more, bare, member}
use Rattle.meaning.specs.Between.Events.{Event, begins, ends, named, erase, events, element_events, member_events}
use Rattle.once.specs.Windows.{Kept, Passes, level}

pub level_join : (n : ℕ) (a b : List Event) → level n (a ++ b) ≡ level (level n a) b
unfolding level
level_join n [] b = refl
level_join n (begins ∷ a) b = level_join (suc n) a b
level_join zero (ends ∷ a) b = level_join zero a b
level_join (suc n) (ends ∷ a) b = level_join n a b
level_join n (named q u ∷ a) b = level_join n a b

level_erase : (n : ℕ) (es : List Event) → level n (erase es) ≡ level n es
unfolding level
level_erase n [] = refl
level_erase n (begins ∷ es) = level_erase (suc n) es
level_erase zero (ends ∷ es) = level_erase zero es
level_erase (suc n) (ends ∷ es) = level_erase n es
level_erase n (named q u ∷ es) = level_erase n es

mutual
  unfolding level events element_events member_events

  value_level : (n : ℕ) (m : Meaning) → level n (events m) ≡ n
  value_level n null = refl
  value_level n (bool b) = refl
  value_level n (number x) = refl
  value_level n (string x) = refl
  value_level n (binary x) = refl
  value_level n (time x) = refl
  value_level n (array x) = elements_level n x
  value_level n (object x) = level_join (suc n) (member_events x) (ends ∷ []) ∙ ap (λ (k : ℕ). level k (ends ∷ [])) (members_level (suc n) x)

  elements_level : (n : ℕ) (x : Meanings) → level n (element_events x) ≡ n
  elements_level n none = refl
  elements_level n (more x m) = level_join n (element_events x) (events m) ∙ ap (λ (k : ℕ). level k (events m)) (elements_level n x) ∙ value_level n m

  members_level : (n : ℕ) (x : Members) → level n (member_events x) ≡ n
  members_level n bare = refl
  members_level n (member x u m) =
      level_join n (member_events x) (named 0 u ∷ events m) ∙ ap (λ (k : ℕ). level k (named 0 u ∷ events m)) (members_level n x) ∙ value_level n m

-- the events of a value, and those of members so far
pub level_value : (n : ℕ) (es : List Event) (m : Meaning) → erase es ≡ events m → level n es ≡ n
level_value n es m e = sym (level_erase n es) ∙ ap (level n) e ∙ value_level n m

pub level_elements : (n : ℕ) (es : List Event) (x : Meanings) → erase es ≡ element_events x → level n es ≡ n
level_elements n es x e = sym (level_erase n es) ∙ ap (level n) e ∙ elements_level n x

pub level_members : (n : ℕ) (es : List Event) (x : Members) → erase es ≡ member_events x → level n es ≡ n
level_members n es x e = sym (level_erase n es) ∙ ap (level n) e ∙ members_level n x

pub passes_level : {f : ℕ} {s s' : Kept} {es : List Event} → Passes f s es s' → length s'.keys ≡ level (length s.keys) es
unfolding level
passes_level Passes.done = refl
passes_level (Passes.opens x) = passes_level x
passes_level (Passes.closes x) = passes_level x
passes_level (Passes.before l x) = passes_level x
passes_level (Passes.after l m x) = passes_level x
passes_level (Passes.takes l x) = passes_level x
passes_level (Passes.stops l m x) = passes_level x

-- the pass of events that leave as many open
pub as_many : {f : ℕ} {s s' : Kept} {es : List Event} → Passes f s es s' → ((n : ℕ) → level n es ≡ n) → length s'.keys ≡ length s.keys
as_many {s = s} x h = passes_level x ∙ h (length s.keys)

-- inside an object
pub inside_open : {f : ℕ} {s s' : Kept} {es : List Event} → Passes f s (begins ∷ es) s' → ((n : ℕ) → level n es ≡ n) → 0 < length s'.keys
unfolding level
inside_open {s = s} x h = omega (arith, passes_level x, h (suc (length s.keys)))
