-- The digits so far, and a number like theirs. Assumes nothing.
use Prim.Native.Nat.{◌-◌}
use lib.ListN.{length}
use Rattle.items.proofs.StringPartEscapeLaws.{Braced}
use Rattle.items.proofs.string_part.braces.Given as goal

abbrev pub invariant-loop-p : goal.invariant-loop-p
invariant-loop-p l = Braced l.s l.at l.p l.v

abbrev pub decreases-loop-p : goal.decreases-loop-p
decreases-loop-p l = length l.s - l.p
