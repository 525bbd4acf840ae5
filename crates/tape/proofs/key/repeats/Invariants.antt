-- `key::repeats`: from slot to slot of the bucket. Assumes nothing.
use Rattle.std.proofs.Common.{unwrap_or}
use Rattle.tape.proofs.KeyLaws.{Seeking}
use Rattle.tape.proofs.key.repeats.Given as goal

abbrev pub invariant-loop-at : goal.invariant-loop-at
invariant-loop-at l = Seeking l.tape l.store l.key l.tag l.seen l.at

abbrev pub decreases-loop-at : goal.decreases-loop-at
decreases-loop-at l = unwrap_or l.at 0
