use mathlib.Core.List.{[]}
use Rattle.std.proofs.lemmas.Result.{err_from_is_err_and}
use Rattle.reader.proofs.CursorHeadLaws.{joined_whole, joined_refused}
use Rattle.reader.proofs.cursor.joined_item.Goals as goal

pub returns-in_err-bytes : goal.returns-in_err-bytes
returns-in_err-bytes g c = let p = err_from_is_err_and c.from_residual.result c.from_residual.ensures.1 in
    rw (p.1, p.2) (joined_refused c.args.text.now c.args.at c.args.start c.args.store.now g.P.Part.kind c.requires.0 [] _ c.in_err-bytes.ensures)

pub returns : goal.returns
returns g c = rw c.item.ensures (joined_whole c.args.text.now c.args.at c.args.start c.args.store.now g.P.Part.kind c.requires.0 _ _ _ c.in_ok-bytes.ensures)
