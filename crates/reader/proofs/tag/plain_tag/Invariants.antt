use Rattle.reader.specs.declared.spelling.Spelling.{Spelling}
use Rattle.reader.proofs.TagLaws.{Tagging}
use Rattle.reader.proofs.tag.plain_tag.Given as goal

abbrev pub invariant-loop-i : goal.invariant-loop-i
invariant-loop-i l = Tagging l.text l.at l.salt (Spelling.Quoted l.i l.quote) l.h
