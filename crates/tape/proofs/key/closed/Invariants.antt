-- `key::closed`: one container after the other. Assumes nothing.
use Rattle.tape.proofs.KeyWalkLaws.{Closing}
use Rattle.tape.proofs.key.closed.Given as goal

abbrev pub invariant-loop-depth : goal.invariant-loop-depth
invariant-loop-depth l = Closing l.initial.seen l.ends l.count l.index l.seen l.depth

abbrev pub decreases-loop-depth : goal.decreases-loop-depth
decreases-loop-depth l = l.depth
