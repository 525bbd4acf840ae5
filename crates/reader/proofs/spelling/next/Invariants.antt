use Rattle.reader.specs.Between.Spelling.{to_come}
use Rattle.reader.proofs.SpellingLaws.{Stepping}
use Rattle.reader.proofs.spelling.next.Given as goal

abbrev pub invariant-loop-b : goal.invariant-loop-b
invariant-loop-b l = Stepping l.text l.initial.s l.s

abbrev pub decreases-loop-b : goal.decreases-loop-b
decreases-loop-b l = to_come l.text l.s
