use Rattle.reader.proofs.SpellingLaws.{opening_over, opening_cut, opening_plain, opening_short, opening_empty, opening_lines}
use Rattle.reader.proofs.spelling.opening.Goals as goal

pub returns-then-at-text : goal.returns-then-at-text
returns-then-at-text c = opening_over c.args.text.now c.args.at c.if-at-text.true

pub returns-then-at-text-2 : goal.returns-then-at-text-2
returns-then-at-text-2 c = opening_cut c.args.text.now c.args.at c.if-at-text.false
    c.if-at-text-2.true

pub returns-then-text-at : goal.returns-then-text-at
returns-then-text-at c = opening_plain c.args.text.now c.args.at
    c.if-at-text.false c.if-at-text-2.false c.if-text-at.true

pub returns-then-at-text-3 : goal.returns-then-at-text-3
returns-then-at-text-3 c = opening_short c.args.text.now
    c.args.at c.if-at-text.false
    c.if-at-text-2.false c.if-text-at.false c.if-at-text-3.true

pub returns-then-text-at-2 : goal.returns-then-text-at-2
returns-then-text-at-2 c = opening_empty c.args.text.now
    c.args.at
    c.if-at-text.false c.if-at-text-2.false
    c.if-text-at.false c.if-at-text-3.false c.if-text-at-2.true c.after.result c.after.ensures

pub returns : goal.returns
returns c = opening_lines c.args.text.now
    c.args.at
    c.if-at-text.false
    c.if-at-text-2.false c.if-text-at.false
    c.if-at-text-3.false c.if-text-at-2.false c.lines_start.result c.lines_start.ensures
