-- The check, and its two answers. Assumes nothing.
use Rattle.items.proofs.TimeValueLaws.{date_good, date_bad}
use Rattle.items.proofs.time_value.date_done.Goals as goal

pub returns-then-is_date : goal.returns-then-is_date
returns-then-is_date c = date_good c.args.q c.args.d c.args.at _
    c.is_date.ensures c.if-is_date.true _ c.time.ensures

pub returns : goal.returns
returns c = date_bad c.args.q c.args.d c.args.at _ c.is_date.ensures c.if-is_date.false
