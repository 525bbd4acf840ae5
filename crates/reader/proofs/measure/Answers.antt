use native.Mathlib.Omega.{arith}
use mathlib.Core.Logic.{inr}
use mathlib.Core.Path.{sym, subst}
use Rattle.std.proofs.lemmas.Result.{err_from_is_err_and}
use Rattle.once.specs.Windows.{nothing}
use Rattle.reader.specs.Between.Walk.{Searching}
use Rattle.reader.proofs.WalkWindowLaws.{zeroes_there}
use Rattle.reader.proofs.AnswersLaws.{measure_long, measure_ill, measure_refused, measure_counted, search_refused, all_searched, measure_answered}
use Rattle.reader.proofs.measure.Goals as goal

pub returns-then-text-gt-TEXT_LIMIT : goal.returns-then-text-gt-TEXT_LIMIT
returns-then-text-gt-TEXT_LIMIT c = measure_long c.args.text.now (omega (arith, c.if-text-gt-TEXT_LIMIT.true))

pub returns-in-Err : goal.returns-in-Err
returns-in-Err c = measure_ill c.args.text.now (omega (arith, c.if-text-gt-TEXT_LIMIT.false)) c.in-Err.e c.in-Err.ensures

pub walk-requires : goal.walk-requires
walk-requires c = (
  omega (arith, c.if-text-gt-TEXT_LIMIT.false),
  inr (0, (nothing, zeroes_there _ 520 (omega arith) (omega arith))),
)

pub returns-in_err-counts : goal.returns-in_err-counts
returns-in_err-counts c = let p = err_from_is_err_and c.from_residual.result c.from_residual.ensures.1 in
    rw (p.1, p.2) (measure_refused c.args.text.now (omega (arith, c.if-text-gt-TEXT_LIMIT.false)) c.in_default.ensures _ c.in_err-counts.ensures)

pub returns-then-is_none : goal.returns-then-is_none
returns-then-is_none c = let t = (measure_counted c.args.text.now (omega (arith, c.if-text-gt-TEXT_LIMIT.false)) c.in_default.ensures c.in_ok-counts.ensures) in
    measure_answered t _ (all_searched t _ _ _ c.first_twice-twice.ensures c.stopped.ensures c.further-from.ensures c.if-is_none.ensures) _ c.answered.ensures

pub searched-requires : goal.searched-requires
searched-requires c = subst (Searching _ _) (sym c.further-from.ensures)
    ((measure_counted c.args.text.now (omega (arith, c.if-text-gt-TEXT_LIMIT.false)) c.in_default.ensures c.in_ok-counts.ensures).searching _ _
    c.first_twice-twice.ensures c.stopped.ensures)

pub returns-in_err-best : goal.returns-in_err-best
returns-in_err-best c = absurd (search_refused (measure_counted c.args.text.now (omega (arith, c.if-text-gt-TEXT_LIMIT.false)) c.in_default.ensures
    c.in_ok-counts.ensures) _ c.in_err-best.ensures)

pub returns : goal.returns
returns c = measure_answered (measure_counted c.args.text.now (omega (arith, c.if-text-gt-TEXT_LIMIT.false)) c.in_default.ensures c.in_ok-counts.ensures) _
    c.in_ok-best.ensures _ c.answered-2.ensures
