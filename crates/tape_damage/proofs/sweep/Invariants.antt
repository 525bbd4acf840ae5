-- `sweep`: the counts are at most the values tried. Assumes nothing.
use Prim.Native.Nat.{◌≤◌}
use Rattle.tape_damage.proofs.sweep.Given as goal

abbrev pub invariant-loop-v : goal.invariant-loop-v
invariant-loop-v l = (l.sum.faults ≤ l.v) × (l.sum.well ≤ l.v) × (l.sum.good ≤ l.v)
