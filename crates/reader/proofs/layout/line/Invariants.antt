use Rattle.machine.specs.Machine.{line}
use Rattle.reader.proofs.LayoutLaws.{Noting}
use Rattle.reader.proofs.layout.line.Given as goal

abbrev pub invariant-loop-at : goal.invariant-loop-at
invariant-loop-at l = Noting l.text line line l.from l.at
