-- The spots so far are leaps from the first. Assumes nothing.
use Prim.Native.Nat.{◌-◌}
use lib.ListN.{length}
use Rattle.arriving.specs.Between.Leaps.{Skips}
use Rattle.arriving.proofs.leaps.skim.Given as goal

abbrev pub invariant-loop-x : goal.invariant-loop-x
invariant-loop-x l = Skips l.part l.initial.x l.initial.kinds l.x l.kinds

abbrev pub decreases-loop-x : goal.decreases-loop-x
decreases-loop-x l = length l.part - l.x.at
