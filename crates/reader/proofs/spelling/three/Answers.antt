use native.Mathlib.Omega.{arith}
use Rattle.reader.proofs.SpellingLaws.{three_by}
use Rattle.reader.proofs.spelling.three.Goals as goal

pub returns : goal.returns
returns c = three_by c.args.text.now c.args.at
    c.args.quote (omega arith) (omega (arith, c.if-text-at-lt3.false))
    c.if-text-at.false c.if-text-at-2.false
