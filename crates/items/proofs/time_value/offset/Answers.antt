-- The hour and its colon must come. Assumes nothing.
use Rattle.items.proofs.NumberOrTimeLaws.{handed_on}
use Rattle.items.proofs.TimeValueLaws.{offset_bad, offset_got}
use Rattle.items.proofs.time_value.offset.Goals as goal

pub returns-in_err-hour : goal.returns-in_err-hour
returns-in_err-hour c = handed_on _ c.from_residual.ensures.1 (offset_bad _ _ _ c.args.m.clock _ _ _ c.in_err-hour.ensures)

pub returns : goal.returns
returns c = offset_got _ _ _ c.args.m.clock _ _ _ c.in_ok-hour.ensures _ c.offset_minute.ensures
