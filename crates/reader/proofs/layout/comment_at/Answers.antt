use native.Mathlib.Omega.{arith}
use lib.ListN.{get_or, get_or-eq_default}
use Rattle.std.proofs.lemmas.Result.{err_from_is_err_and}
use Rattle.reader.proofs.LayoutLaws.{hash_opens, slash_opens, maybe_then, note_then_breaks}
use Rattle.reader.proofs.ScanningClassLaws.{not_hash, not_slash}
use Rattle.reader.proofs.layout.comment_at.Goals as goal

pub returns-then-at-text : goal.returns-then-at-text
returns-then-at-text c = let e = get_or-eq_default c.args.text.now 0 c.if-at-text.true in
    (not_hash (get_or c.args.text.now c.args.at 0) (omega arith), not_slash (get_or c.args.text.now c.args.at 0) (omega arith))

pub returns-in_err-line-in-35 : goal.returns-in_err-line-in-35
returns-in_err-line-in-35 c = let p = err_from_is_err_and c.from_residual.result c.from_residual.ensures.1 in
    rw (p.1, p.2) (note_then_breaks (hash_opens (omega arith) c.in-35.is) c.in_err-line-in-35.ensures)

pub returns-in_ok-line-in-35 : goal.returns-in_ok-line-in-35
returns-in_ok-line-in-35 c = maybe_then (hash_opens (omega arith) c.in-35.is) c.in_ok-line-in-35.ensures

pub returns-in_err-slash-in-47 : goal.returns-in_err-slash-in-47
returns-in_err-slash-in-47 c = let p = err_from_is_err_and c.from_residual-in_err-slash-in-47.result c.from_residual-in_err-slash-in-47.ensures.1 in
    rw (p.1, p.2) (note_then_breaks (slash_opens (omega arith) c.in-47.is) c.in_err-slash-in-47.ensures)

pub returns-in_ok-slash-in-47 : goal.returns-in_ok-slash-in-47
returns-in_ok-slash-in-47 c = maybe_then (slash_opens (omega arith) c.in-47.is) c.in_ok-slash-in-47.ensures

pub returns-in_default : goal.returns-in_default
returns-in_default c = (
  not_hash (get_or c.args.text.now c.args.at 0) (grind arith),
  not_slash (get_or c.args.text.now c.args.at 0) (grind arith),
)
