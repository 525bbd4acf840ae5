use Rattle.std.proofs.lemmas.Result.{err_from_is_err_and}
use Rattle.reader.proofs.CursorBracketLaws.{colon_broken, colon_end, colon_wrong, colon_breaks, colon_key}
use Rattle.reader.proofs.cursor.Cursor.colon.Goals as goal

pub returns-in_err-at : goal.returns-in_err-at
returns-in_err-at c = let p = err_from_is_err_and c.from_residual.result c.from_residual.ensures.1 in
    rw (p.1, p.2) (colon_broken c.args.text.now c.args.self _ c.in_err-at.ensures)

pub returns-then-at-text : goal.returns-then-at-text
returns-then-at-text c = colon_end c.args.text.now c.args.self c.in_ok-at.at c.in_ok-at.ensures c.if-at-text.true

pub returns-then-text-at-ne58 : goal.returns-then-text-at-ne58
returns-then-text-at-ne58 c = colon_wrong c.args.text.now c.args.self c.in_ok-at.at c.in_ok-at.ensures c.if-at-text.false c.if-text-at-ne58.true

pub returns-in_err-next : goal.returns-in_err-next
returns-in_err-next c = let p = err_from_is_err_and c.from_residual-in_err-next.result c.from_residual-in_err-next.ensures.1 in
    rw (p.1, p.2) (colon_breaks c.args.text.now c.args.self c.in_ok-at.at c.in_ok-at.ensures c.if-at-text.false c.if-text-at-ne58.false _ c.in_err-next.ensures)

pub returns : goal.returns
returns c = colon_key c.args.text.now c.args.self c.in_ok-at.at c.in_ok-at.ensures c.if-at-text.false c.if-text-at-ne58.false c.in_ok-next.next
    c.in_ok-next.ensures
