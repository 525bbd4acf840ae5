use mathlib.Core.Path.{refl}
use Rattle.std.proofs.lemmas.Result.{err_from_is_err_and}
use Rattle.reader.proofs.CursorBracketLaws.{member_at, member_none, member_key, member_tabled, member_begins}
use Rattle.reader.proofs.cursor.Cursor.member_ahead.Goals as goal

pub returns-in-Close : goal.returns-in-Close
returns-in-Close c = (rw c.in-Close.is at c.in_ok-next.ensures, refl, refl, refl)

pub member-requires : goal.member-requires
member-requires c = member_at _ _ _ (rw c.in-More.is at c.in_ok-next.ensures) c.requires.0

pub returns-in_err-length : goal.returns-in_err-length
returns-in_err-length c = let p = err_from_is_err_and c.from_residual-in_err-length.result c.from_residual-in_err-length.ensures.1 in
    rw (p.1, p.2) (member_none _ _ _ (rw c.in-More.is at c.in_ok-next.ensures) _ c.in_err-length.ensures)

pub note-requires : goal.note-requires
note-requires c = let h = rw c.in-More.is at c.in_ok-next.ensures in
    (member_key _ _ _ h _ _ _ _ c.requires.0 c.in_ok-length.ensures, member_tabled _ _ _ h _ c.requires.0 c.requires.1)

pub returns : goal.returns
returns c = let h = rw c.in-More.is at c.in_ok-next.ensures in
    member_begins _ _ _ h _ _ _ _ _ _ _ _ c.requires.0 c.in_ok-length.ensures c.put_record.ensures c.note.ensures
