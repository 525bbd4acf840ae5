-- The check, and its two answers. Assumes nothing.
use Rattle.items.proofs.TimeValueLaws.{time_good, time_bad}
use Rattle.items.proofs.time_value.local_time.Goals as goal

pub returns-then-is_clock : goal.returns-then-is_clock
returns-then-is_clock c = time_good c.args.q c.args.c c.args.at _
    c.is_clock.ensures c.if-is_clock.true _ c.time_of_day.ensures _ c.time.ensures

pub returns : goal.returns
returns c = time_bad c.args.q c.args.c c.args.at _ c.is_clock.ensures c.if-is_clock.false
