-- The bytes so far, and the quotes that may close. Assumes nothing.
use Rattle.items.proofs.StringPartLinesLaws.{Lining}
use Rattle.items.proofs.string_part.lines_end.Given as goal

abbrev pub invariant-loop-i : goal.invariant-loop-i
invariant-loop-i l = Lining l.s l.q l.initial.i l.i l.n
