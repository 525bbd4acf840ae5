use Rattle.std.proofs.lemmas.Result.{err_from_is_err_and}
use Rattle.reader.proofs.CursorBracketLaws.{ahead_broken, ahead_end, ahead_close, ahead_more}
use Rattle.reader.proofs.cursor.Cursor.ahead.Goals as goal

pub returns-in_err-at : goal.returns-in_err-at
returns-in_err-at c = let p = err_from_is_err_and c.from_residual.result c.from_residual.ensures.1 in
    rw (p.1, p.2) (ahead_broken c.args.text.now c.args.self c.args.closing _ c.in_err-at.ensures)

pub returns-then-at-text : goal.returns-then-at-text
returns-then-at-text c = ahead_end c.args.text.now c.args.self c.args.closing c.in_ok-at.at c.in_ok-at.ensures c.if-at-text.true

pub returns-then-text-at : goal.returns-then-text-at
returns-then-text-at c = ahead_close c.args.text.now c.args.self c.args.closing c.in_ok-at.at c.in_ok-at.ensures c.if-at-text.false c.if-text-at.true

pub returns : goal.returns
returns c = ahead_more c.args.text.now c.args.self c.args.closing c.in_ok-at.at c.in_ok-at.ensures c.if-at-text.false c.if-text-at.false
