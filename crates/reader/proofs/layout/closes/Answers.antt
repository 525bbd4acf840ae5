use lib.Dec.{eqb}
use borrow.Author.Tests.{ne_eqb}
use Rattle.meaning.specs.Letters.{ch}
use Rattle.machine.specs.Machine.{slash_n}
use Rattle.rules.specs.Between.Tests.{fails}
use Rattle.rules.proofs.TestsLaws.{true_test}
use Rattle.reader.proofs.ScanningClassLaws.{note_told}
use Rattle.reader.proofs.layout.closes.Goals as goal

pub returns-then-b-eq47 : goal.returns-then-b-eq47
returns-then-b-eq47 c = true_test (eqb c.args.last (ch "*")) (rw c.if-b-eq47.true)

pub returns-else-b-eq47 : goal.returns-else-b-eq47
returns-else-b-eq47 c = rw (ne_eqb _ _ c.if-b-eq47.false) (fails (λ x. c.if-b-eq47.false (note_told c.args.b slash_n x.1)))
