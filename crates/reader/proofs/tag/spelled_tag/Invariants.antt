use Rattle.reader.specs.Between.Spelling.{InText, to_come}
use Rattle.reader.proofs.TagLaws.{Tagging}
use Rattle.reader.proofs.tag.spelled_tag.Given as goal

abbrev pub invariant-loop-b : goal.invariant-loop-b
invariant-loop-b l = InText l.text l.s × Tagging l.text l.at l.salt l.s l.h

abbrev pub decreases-loop-b : goal.decreases-loop-b
decreases-loop-b l = to_come l.text l.s
