-- The check, and its two answers. Assumes nothing.
use Rattle.items.proofs.TimeValueLaws.{stamp_good, stamp_clock, stamp_date}
use Rattle.items.proofs.time_value.local_date_time.Goals as goal
use Rattle.items.proofs.time_value.local_date_time.Goals.{else-is_date-via-then-is_date+else-is_clock, else-is_date-via-else-is_date}

pub returns-then-is_clock : goal.returns-then-is_clock
returns-then-is_clock c = stamp_good c.args.m.first c.args.m.clock c.args.at _ c.is_clock.ensures c.args.m.date _ c.is_date.ensures
    c.if-is_date.true c.if-is_clock.true _ c.time_of_day.ensures _ c.time.ensures

pub returns : goal.returns
returns c = elim c.else-is_date.branch [
  | else-is_date-via-then-is_date+else-is_clock w ↦ stamp_clock c.args.m.first c.args.m.clock c.args.at _ w.is_clock.ensures c.args.m.date _ c.is_date.ensures
      w.if-is_clock.false
  | else-is_date-via-else-is_date w ↦ stamp_date c.args.m.first c.args.m.clock c.args.at c.args.m.date _ c.is_date.ensures w.if-is_date.false
]
