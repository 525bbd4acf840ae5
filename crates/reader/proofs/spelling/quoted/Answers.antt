use native.Mathlib.Omega.{arith}
use Rattle.reader.proofs.SpellingLaws.{quoted_over, quoted_closes, quoted_byte}
use Rattle.reader.proofs.spelling.quoted.Goals as goal

pub returns-then-at-text : goal.returns-then-at-text
returns-then-at-text c = quoted_over c.args.text.now c.args.at c.args.quote (omega arith) c.if-at-text.true

pub returns-then-b-quote : goal.returns-then-b-quote
returns-then-b-quote c = quoted_closes c.args.text.now c.args.at
    c.args.quote (omega arith) c.if-at-text.false c.if-b-eq92.false
    c.if-b-quote.true c.after.result c.after.ensures

pub returns : goal.returns
returns c = quoted_byte c.args.text.now c.args.at
    c.args.quote (omega arith) c.if-at-text.false c.if-b-eq92.false c.if-b-quote.false
