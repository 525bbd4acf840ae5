-- What has been passed is UTF-8, and its last character has ended. Assumes nothing.
use Prim.Native.Nat.{◌-◌}
use lib.ListN.{length}
use Rattle.rules.specs.Between.Posts.{Passed}
use Rattle.rules.proofs.Opens.{Settled}
use Rattle.rules.proofs.blocks.begun.Given as goal

abbrev pub invariant-loop-i : goal.invariant-loop-i
invariant-loop-i l = Passed l.s l.i × Settled l.s l.i

abbrev pub decreases-loop-i : goal.decreases-loop-i
decreases-loop-i l = length l.s - l.i
