-- What the reader of a second's fraction (docs/FORMAT.md, 6) promises. Assumes nothing.
use Rattle.std.specs.Prelude.{ℕ, ◌≤◌, ◌<◌, List, length, Result, Ok, Err}
use Rattle.meaning.specs.declared.Refusal.TheVariants.{NotGrammar}
use Rattle.meaning.specs.Limits as Limits
use Rattle.machine.specs.Numeric as S
use Rattle.machine.specs.Numeric.{field}
use Rattle.items.specs.declared.Taken.{Taken}
use Rattle.items.specs.declared.NotGrammar as NotGrammarOf
use Rattle.items.specs.Between.NumberOrTime.{Reads, Scanned, Zoned}

-- from a second's digits at `at` the clock has n nanoseconds, and the scanner goes on from the place `next`
pub record Fractioned (s : List ℕ) (at n next : ℕ) : Type 0 where
  pub within : next ≤ length s
  pub small : n < Limits.second
  pub reads : (q : ℕ) (w : S.When) (h m c : ℕ) (r : Scanned)
      → Zoned s q w (record { hour = h; minute = m; second = c; nanos = n; parted = small }) next r
      → Reads s at (field q (S.second w h m) 0 c) r

abbrev pub FractionSays : List ℕ → ℕ → Result (Taken ℕ) NotGrammarOf.NotGrammar → Type 0
FractionSays s at (Ok t) = Fractioned s at t.value t.end
FractionSays s at (Err e) =
    (q : ℕ) (w : S.When) (h m c : ℕ) → Reads s at (field q (S.second w h m) 0 c) (Err (NotGrammar e.place))
