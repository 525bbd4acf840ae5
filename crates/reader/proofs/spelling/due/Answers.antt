use native.Mathlib.Omega.{arith}
use Rattle.reader.proofs.SpellingLaws.{due_last, due_more}
use Rattle.reader.proofs.spelling.due.Goals as goal

pub returns-then-left-le1 : goal.returns-then-left-le1
returns-then-left-le1 c = λ text l. due_last text c.args.at c.args.character c.args.left
    c.args.quote l c.octet-b.result c.octet-b.ensures c.requires.1 c.requires.2
    c.if-left-le1.true

pub returns : goal.returns
returns c = λ text l. due_more text c.args.at c.args.character c.args.left
    c.args.quote l c.octet-b.result c.octet-b.ensures c.requires.1 c.requires.2
    c.requires.0 (omega (arith, c.if-left-le1.false))
