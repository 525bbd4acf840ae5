use Rattle.std.proofs.lemmas.Result.{err_from_is_err_and}
use Rattle.reader.proofs.WalkLaws.{ended_breaks, ended_more, ended_done}
use Rattle.reader.proofs.ended.Goals as goal

pub returns-in_err-end : goal.returns-in_err-end
returns-in_err-end c = let p = err_from_is_err_and c.from_residual.result c.from_residual.ensures.1 in
    rw (p.1, p.2) (ended_breaks c.args.text.now c.args.next _ c.in_err-end.ensures)

pub returns-then-end-text : goal.returns-then-end-text
returns-then-end-text c = ended_more c.args.text.now c.args.next c.in_ok-end.end c.in_ok-end.ensures c.if-end-text.true

pub returns : goal.returns
returns c = ended_done c.args.text.now c.args.next c.in_ok-end.end c.in_ok-end.ensures c.if-end-text.false
