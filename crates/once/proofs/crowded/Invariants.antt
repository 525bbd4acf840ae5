-- `crowded`: down the chain, as far as it may go. Assumes nothing.
use mathlib.Core.Path.{◌≡◌}
use Prim.Native.Nat.{ℕ, ◌<◌}
use Rattle.std.specs.Prelude.{Some}
use Rattle.once.specs.Groups.{Stands}
use Rattle.once.proofs.crowded.Given as goal

abbrev pub invariant-loop-at : goal.invariant-loop-at
invariant-loop-at l = (0 < l.left) × ((i : ℕ) → l.at ≡ Some i → Stands l.seen i)

abbrev pub decreases-loop-at : goal.decreases-loop-at
decreases-loop-at l = l.left
