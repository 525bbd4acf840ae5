-- A byte's class by thresholds, for the scanners of docs/FORMAT.md, 2 to 7: the first row whose bound the byte does not
-- pass decides. Assumes nothing.
use Rattle.std.specs.Prelude.{cond, List, [], ◌∷◌, ℕ, leb}

module _ {A : Type 0} where
  abbrev pub cut : List (ℕ × A) → A → ℕ → A
  cut [] d b = d
  cut (r ∷ rs) d b = cond (leb b r.0) r.1 (cut rs d b)
