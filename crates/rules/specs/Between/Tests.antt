-- What a test promises: of a leap year (docs/FORMAT.md, 6) here, of layout, letters and fields in the crates above.
-- Assumes nothing.
use Rattle.std.specs.Prelude.{Bool, true, false}

-- true exactly where P holds
pub data Decides (P : Type 0) : Bool → Type 0 where
  holds : P → Decides P true
  fails : (P → ⊥) → Decides P false
