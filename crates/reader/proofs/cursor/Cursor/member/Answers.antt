use Rattle.std.proofs.lemmas.Result.{err_from_is_err_and}
use Rattle.reader.proofs.CursorBracketLaws.{member_refused, member_says, member_unsaid}
use Rattle.reader.proofs.cursor.Cursor.member.Goals as goal

pub returns-in_err-key : goal.returns-in_err-key
returns-in_err-key c = let p = err_from_is_err_and c.from_residual.result c.from_residual.ensures.1 in
    rw (p.1, p.2) (member_refused c.args.text.now c.args.self c.args.store.now c.requires _ c.in_err-key.ensures)

pub returns-in_err-held : goal.returns-in_err-held
returns-in_err-held c = let p = err_from_is_err_and c.from_residual-in_err-held.result c.from_residual-in_err-held.ensures.1 in
    rw (p.1, p.2) (member_unsaid c.args.text.now c.args.self c.args.store.now _ _ _ c.in_ok-key.ensures _ c.in_err-held.ensures)

pub returns : goal.returns
returns c = member_says c.args.text.now c.args.self c.args.store.now _ _ _ c.in_ok-key.ensures _ c.in_ok-held.ensures
