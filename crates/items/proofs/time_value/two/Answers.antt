-- Two digits must come. Assumes nothing.
use Rattle.std.proofs.lemmas.Result.{err_from_is_err_and}
use Rattle.items.proofs.TimeValueLaws.{bad_first, bad_second, got_two}
use Rattle.items.proofs.time_value.two.Goals as goal

pub returns-in_err-tens : goal.returns-in_err-tens
returns-in_err-tens c = let p = err_from_is_err_and c.from_residual.result c.from_residual.ensures.1 in
    rw (p.1, p.2) (bad_first c.args.s.now c.args.i _ c.in_err-tens.ensures)

pub returns-in_err-ones : goal.returns-in_err-ones
returns-in_err-ones c = let p = err_from_is_err_and c.from_residual-in_err-ones.result c.from_residual-in_err-ones.ensures.1 in
    rw (p.1, p.2) (bad_second c.args.s.now c.args.i c.in_ok-tens.ensures _ c.in_err-ones.ensures)

pub returns : goal.returns
returns c = got_two c.args.s.now c.args.i c.in_ok-tens.ensures c.in_ok-ones.ensures
