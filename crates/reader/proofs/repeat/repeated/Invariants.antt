use Rattle.std.specs.Prelude.{unwrap_or}
use Rattle.reader.proofs.RepeatLaws.{Seeking}
use Rattle.reader.proofs.repeat.repeated.Given as goal

abbrev pub invariant-loop-slot : goal.invariant-loop-slot
invariant-loop-slot l = Seeking l.text l.seen l.at l.tag l.slot

abbrev pub decreases-loop-slot : goal.decreases-loop-slot
decreases-loop-slot l = unwrap_or l.slot 0
