use lib.Dec.{eqb}
use Rattle.meaning.specs.Letters.{ch}
use Rattle.machine.specs.Machine.{block}
use Rattle.reader.proofs.LayoutLaws.{Noting}
use Rattle.reader.proofs.LayoutLaws.{blocked}
use Rattle.reader.proofs.layout.block.Given as goal

abbrev pub invariant-loop-at : goal.invariant-loop-at
invariant-loop-at l = Noting l.text block (blocked (eqb l.last (ch "*"))) l.from l.at
