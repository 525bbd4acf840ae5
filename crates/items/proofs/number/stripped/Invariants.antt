-- A zero less at each round, and the value stays. Assumes nothing.
use mathlib.Core.Path.{◌≡◌}
use Prim.Native.Nat.{◌+◌, ◌*◌, ◌^◌, ◌≤◌, ◌<◌}
use Rattle.items.proofs.number.stripped.Given as goal

abbrev pub invariant-loop-c : goal.invariant-loop-c
invariant-loop-c l = (0 < l.c) × (l.v ≡ l.c * 10 ^ l.z) × (l.z + l.c ≤ l.v)

abbrev pub decreases-loop-c : goal.decreases-loop-c
decreases-loop-c l = l.c
