-- `layout::blanks`: the bytes passed so far are blanks. Assumes nothing.
use Rattle.reader.proofs.LayoutLaws.{Passing}
use Rattle.reader.proofs.layout.blanks.Given as goal

abbrev pub invariant-loop-at : goal.invariant-loop-at
invariant-loop-at l = Passing l.text l.from l.at
