-- An hour must come. Assumes nothing.
use Rattle.items.proofs.NumberOrTimeLaws.{handed_on}
use Rattle.items.proofs.TimeValueLaws.{hour_bad, hour_got}
use Rattle.items.proofs.time_value.clock_at.Goals as goal

pub returns-in_err-hour : goal.returns-in_err-hour
returns-in_err-hour c = handed_on _ c.from_residual.ensures.1 (hour_bad _ _ _ _ _ c.in_err-hour.ensures)

pub returns : goal.returns
returns c = hour_got _ _ _ _ _ c.in_ok-hour.ensures _ c.after_hour.ensures
