use Rattle.std.proofs.lemmas.Result.{err_from_is_err_and}
use Rattle.reader.proofs.JoinedLaws.{alone_end, alone, plus_breaks, plus_next, join_breaks}
use Rattle.reader.proofs.joined.after_part.Goals as goal

pub returns-in_err-at : goal.returns-in_err-at
returns-in_err-at c = let p = err_from_is_err_and c.from_residual.result c.from_residual.ensures.1 in
    rw (p.1, p.2) (join_breaks c.args.text.now c.args.from _ c.in_err-at.ensures)

pub returns-then-at-text : goal.returns-then-at-text
returns-then-at-text c = alone_end c.args.text.now c.args.from c.in_ok-at.at c.in_ok-at.ensures c.if-at-text.true

pub returns-then-text-at-ne43 : goal.returns-then-text-at-ne43
returns-then-text-at-ne43 c = alone c.args.text.now c.args.from c.in_ok-at.at c.in_ok-at.ensures c.if-text-at-ne43.true

pub returns-in_err-next : goal.returns-in_err-next
returns-in_err-next c = let p = err_from_is_err_and c.from_residual-in_err-next.result c.from_residual-in_err-next.ensures.1 in
    rw (p.1, p.2) (plus_breaks c.args.text.now c.args.from c.in_ok-at.at c.in_ok-at.ensures c.if-at-text.false
    c.if-text-at-ne43.false _ c.in_err-next.ensures)

pub returns : goal.returns
returns c = plus_next c.args.text.now c.args.from c.in_ok-at.at c.in_ok-at.ensures c.if-at-text.false c.if-text-at-ne43.false
    c.in_ok-next.next c.in_ok-next.ensures
