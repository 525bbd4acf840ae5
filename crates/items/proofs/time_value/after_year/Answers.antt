-- Month and day must come. Assumes nothing.
use Rattle.items.proofs.NumberOrTimeLaws.{handed_on}
use Rattle.items.proofs.TimeValueLaws.{month_bad, day_bad, day_got}
use Rattle.items.proofs.time_value.after_year.Goals as goal

pub returns-in_err-month : goal.returns-in_err-month
returns-in_err-month c = handed_on _ c.from_residual.ensures.1 (month_bad _ _ _ _ _ c.in_err-month.ensures)

pub returns-in_err-day : goal.returns-in_err-day
returns-in_err-day c = handed_on _ c.from_residual-in_err-day.ensures.1 (day_bad _ _ _ _ _ c.in_ok-month.ensures _ c.in_err-day.ensures)

pub returns : goal.returns
returns c = day_got _ _ _ _ _ c.in_ok-month.ensures _ c.in_ok-day.ensures _ c.dated.ensures
