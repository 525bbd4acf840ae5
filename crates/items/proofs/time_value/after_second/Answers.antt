-- A clock with the fraction that stands there, or the fraction is broken off. Assumes nothing.
use Rattle.items.proofs.NumberOrTimeLaws.{handed_on}
use Rattle.items.proofs.time_value.after_second.Goals as goal

pub returns-in_err-nanos : goal.returns-in_err-nanos
returns-in_err-nanos c = handed_on _ c.from_residual.ensures.1 (c.in_err-nanos.ensures _ _ _ _ _)

pub returns : goal.returns
returns c = c.in_ok-nanos.ensures.reads _ _ _ _ _ _ c.clocked.ensures
