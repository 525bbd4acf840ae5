-- Minute and second must come. Assumes nothing.
use Rattle.items.proofs.NumberOrTimeLaws.{handed_on}
use Rattle.items.proofs.TimeValueLaws.{minute_bad, second_bad, second_got}
use Rattle.items.proofs.time_value.after_hour.Goals as goal

pub returns-in_err-minute : goal.returns-in_err-minute
returns-in_err-minute c = handed_on _ c.from_residual.ensures.1 (minute_bad _ _ _ _ _ _ c.in_err-minute.ensures)

pub returns-in_err-second : goal.returns-in_err-second
returns-in_err-second c = handed_on _ c.from_residual-in_err-second.ensures.1 (second_bad _ _ _ _ _ _ c.in_ok-minute.ensures _ c.in_err-second.ensures)

pub returns : goal.returns
returns c = second_got _ _ _ _ _ _ c.in_ok-minute.ensures _ c.in_ok-second.ensures _ c.after_second.ensures
