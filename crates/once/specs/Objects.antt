-- The keys that are taken in, for each open object (docs/FORMAT.md, 7.2), innermost first, as groups: an object without
-- one has no group. Assumes nothing.
use Rattle.std.specs.Prelude.{List, [], ◌∷◌, ℕ, suc, length}
use Rattle.once.specs.Table.{Slot}
use Rattle.once.specs.Groups.{Group, State}

unfoldable pub grouped : List (List Slot) → List Group
grouped [] = []
grouped ([] ∷ ts) = grouped ts
grouped ((x ∷ t) ∷ ts) = record { level = suc (length ts); keys = x ∷ t } ∷ grouped ts

-- a table's state, by the open objects
unfoldable pub state_of : List (List Slot) → ℕ → ℕ → ℕ → State
state_of ts from twice stop = record { groups = grouped ts; depth = length ts; from = from; twice = twice; stop = stop }
