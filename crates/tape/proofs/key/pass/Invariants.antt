-- `key::pass`: record by record, each after what ends before it is closed. Assumes nothing.
use mathlib.Core.Path.{◌≡◌}
use Prim.Native.Nat.{◌-◌}
use lib.ListN.{length}
use Rattle.tape.specs.Between.Key.{Walks}
use Rattle.tape.proofs.key.pass.Given as goal

abbrev pub invariant-loop-i : goal.invariant-loop-i
invariant-loop-i l = Walks l.tape l.store l.bound l.from l.seen l.ends l.depth l.i × (length l.seen ≡ length l.initial.seen)

abbrev pub decreases-loop-i : goal.decreases-loop-i
decreases-loop-i l = l.bound - l.i
