use Rattle.std.proofs.lemmas.Result.{err_from_is_err_and}
use Rattle.reader.proofs.WalkLaws.{walk_at, walk_seen, walk_breaks, walk_refused, walk_ended}
use Rattle.reader.proofs.walk.Goals as goal

pub returns-in_err-pass : goal.returns-in_err-pass
returns-in_err-pass c = let p = err_from_is_err_and c.from_residual.result c.from_residual.ensures.1 in
    rw (p.1, p.2) (walk_breaks _ _ c.in_err-pass.ensures)

pub value-requires : goal.value-requires
value-requires c = (walk_at _ _ c.in_ok-pass.ensures c.requires.0, walk_seen _ _ c.in_ok-pass.ensures _ c.requires.0 c.requires.1)

pub returns-in_err-next : goal.returns-in_err-next
returns-in_err-next c = let p = err_from_is_err_and c.from_residual-in_err-next.result c.from_residual-in_err-next.ensures.1 in
    rw (p.1, p.2) (walk_refused _ _ c.in_ok-pass.ensures _ c.in_err-next.ensures)

pub returns : goal.returns
returns c = walk_ended _ _ c.in_ok-pass.ensures _ _ _ _ _ _ _ c.requires.0 c.in_ok-next.ensures c.ended.result c.ended.ensures
