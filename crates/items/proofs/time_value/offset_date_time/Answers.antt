-- The check, and its two answers. Assumes nothing.
use Rattle.items.proofs.TimeValueLaws.{offset_good, offset_clock, offset_date}
use mir.Syntax.{w16}
use mir.ValLaws.{to_z-of_z}
use Rattle.items.proofs.time_value.offset_date_time.Goals as goal
use Rattle.items.proofs.time_value.offset_date_time.Goals.{else-is_date-via-then-is_date+else-is_clock, else-is_date-via-else-is_date}

pub returns-then-is_clock : goal.returns-then-is_clock
returns-then-is_clock c = offset_good c.args.m.first c.args.m.clock c.args.at _ c.is_clock.ensures c.args.m.date _ c.is_date.ensures
    c.args.offset c.if-is_date.true c.if-is_clock.true _ c.time_of_day.ensures _ (to_z-of_z w16 c.args.offset c.ranges.offset) _ c.time.ensures

pub returns : goal.returns
returns c = elim c.else-is_date.branch [
  | else-is_date-via-then-is_date+else-is_clock w ↦ offset_clock c.args.m.first c.args.m.clock c.args.at _ w.is_clock.ensures c.args.m.date _ c.is_date.ensures
      c.args.offset
      w.if-is_clock.false
  | else-is_date-via-else-is_date w ↦ offset_date c.args.m.first c.args.m.clock c.args.at c.args.m.date _ c.is_date.ensures w.if-is_date.false c.args.offset
]
