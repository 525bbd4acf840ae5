-- No object holds two equal keys (docs/FORMAT.md, 7.2): keys are compared as the bytes that they mean, and each object
-- has keys of its own. Assumes nothing.
use Rattle.std.specs.Prelude.{Bool, true, false, cond, ◌&&◌, not, List, [], ◌∷◌, ℕ, eqb}
use Rattle.meaning.specs.Meaning.{Meaning, Meanings, Members, null, bool, number, string, binary, time}
use Rattle.meaning.specs.Meaning.{array, object, none, more, bare, member}

unfoldable pub same : List ℕ → List ℕ → Bool
same [] [] = true
same [] (b ∷ t) = false
same (a ∷ s) [] = false
same (a ∷ s) (b ∷ t) = cond (eqb a b) (same s t) false

-- the members so far have this key
unfoldable pub held : List ℕ → Members → Bool
held u bare = false
held u (member x v m) = cond (same u v) true (held u x)

unfoldable mutual
  pub once : Meaning → Bool
  once null = true
  once (bool b) = true
  once (number n) = true
  once (string s) = true
  once (binary s) = true
  once (time t) = true
  once (array x) = once_elements x
  once (object x) = once_members x

  pub once_elements : Meanings → Bool
  once_elements none = true
  once_elements (more x m) = once_elements x && once m

  pub once_members : Members → Bool
  once_members bare = true
  once_members (member x u m) = (once_members x && not (held u x)) && once m
