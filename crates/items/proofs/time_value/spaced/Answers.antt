-- A digit goes on with a time; without one the date is done. Assumes nothing.
use Rattle.items.proofs.TimeValueLaws.{spaced_done, spaced_clock}
use Rattle.items.proofs.time_value.spaced.Goals as goal

pub returns-in-Ok : goal.returns-in-Ok
returns-in-Ok c = spaced_clock _ _ _ _ _ c.in-Ok.ensures c.clock_at.ensures

pub returns-in-Err : goal.returns-in-Err
returns-in-Err c = spaced_done _ _ _ _ _ c.in-Err.ensures.1 c.date_done.ensures
