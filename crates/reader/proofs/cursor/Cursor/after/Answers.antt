use Rattle.std.proofs.lemmas.Result.{err_from_is_err_and}
use Rattle.reader.proofs.CursorBracketLaws.{after_broken, after_end, after_comma, after_close, after_wrong}
use Rattle.reader.proofs.cursor.Cursor.after.Goals as goal

pub returns-in_err-at : goal.returns-in_err-at
returns-in_err-at c = let p = err_from_is_err_and c.from_residual.result c.from_residual.ensures.1 in
    rw (p.1, p.2) (after_broken c.args.text.now c.args.self c.args.closing _ c.in_err-at.ensures)

pub returns-then-at-text : goal.returns-then-at-text
returns-then-at-text c = after_end c.args.text.now c.args.self c.args.closing c.in_ok-at.at c.in_ok-at.ensures c.if-at-text.true

pub returns-then-b-eq44 : goal.returns-then-b-eq44
returns-then-b-eq44 c = after_comma c.args.text.now c.args.self c.args.closing c.in_ok-at.at c.in_ok-at.ensures c.if-at-text.false c.if-b-eq44.true

pub returns-then-b-closing : goal.returns-then-b-closing
returns-then-b-closing c = after_close c.args.text.now c.args.self c.args.closing c.in_ok-at.at c.in_ok-at.ensures c.if-at-text.false c.if-b-closing.true

pub returns : goal.returns
returns c = after_wrong c.args.text.now c.args.self c.args.closing c.in_ok-at.at c.in_ok-at.ensures c.if-at-text.false c.if-b-eq44.false c.if-b-closing.false
