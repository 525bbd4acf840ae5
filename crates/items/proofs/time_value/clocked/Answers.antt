-- A local time has no offset. Assumes nothing.
use Rattle.items.proofs.TimeValueLaws.{clocked_alone}
use Rattle.items.proofs.time_value.clocked.Goals as goal

pub returns-in-None : goal.returns-in-None
returns-in-None c = clocked_alone _ _ _ c.args.clock _ _ c.in-None.is c.local_time.ensures
