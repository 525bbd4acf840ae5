-- The product so far is c times a power of ten, and fits. Assumes nothing.
use mathlib.Core.Path.{◌≡◌}
use Prim.Native.Nat.{◌*◌, ◌^◌, ◌<◌}
use Rattle.items.proofs.number.shift.Given as goal

abbrev pub invariant-loop : goal.invariant-loop
invariant-loop l = (l.v ≡ l.c * 10 ^ l.counter) × (l.v < 2 ^ 64)
