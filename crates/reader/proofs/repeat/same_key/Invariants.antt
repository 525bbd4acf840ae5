use Rattle.reader.specs.Between.Spelling.{to_come}
use Rattle.reader.proofs.RepeatLaws.{Comparing}
use Rattle.reader.proofs.repeat.same_key.Given as goal

abbrev pub invariant-loop-x : goal.invariant-loop-x
invariant-loop-x l = Comparing l.text l.a l.b l.s l.t

abbrev pub decreases-loop-x : goal.decreases-loop-x
decreases-loop-x l = to_come l.text l.s
