-- `main`: the counts are at most the values tried. Assumes nothing.
use Prim.Native.Nat.{◌*◌, ◌≤◌}
use Rattle.tape_damage.proofs.main.Given as goal

abbrev pub invariant-loop-k : goal.invariant-loop-k
invariant-loop-k l = (l.sum.faults ≤ l.k * 256) × (l.sum.well ≤ l.k * 256) × (l.sum.good ≤ l.k * 256)
