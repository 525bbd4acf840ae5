-- The bytes so far have been walked. Assumes nothing.
use Prim.Native.Nat.{◌-◌}
use lib.ListN.{length}
use Rattle.arriving.proofs.LeapsWalkLaws.{Walks}
use Rattle.arriving.proofs.walked.Given as goal

abbrev pub invariant-loop-i : goal.invariant-loop-i
invariant-loop-i l = Walks l.part l.base l.initial.kinds l.initial.here l.kinds l.here l.i

abbrev pub decreases-loop-i : goal.decreases-loop-i
decreases-loop-i l = length l.part - l.i
