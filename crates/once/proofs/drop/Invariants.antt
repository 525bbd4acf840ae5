-- `drop`: one slot at a time. Assumes nothing.
use lib.ListN.{get_or}
use Rattle.once.proofs.GroupsLaws.{Dropping}
use Rattle.once.proofs.drop.Given as goal

abbrev pub invariant-loop-seen : goal.invariant-loop-seen
invariant-loop-seen l = Dropping l.initial.seen l.seen l.to

abbrev pub decreases-loop-seen : goal.decreases-loop-seen
decreases-loop-seen l = get_or l.seen 0 0
