-- The counts, or a refusal. Assumes nothing.
use Rattle.lanternrung.specs.Told.{sizes_of}
use Rattle.lanternrung.proofs.exports.SizesFromResultCountsRefusal.from.Goals as goal

pub returns-in-Ok : goal.returns-in-Ok
unfolding sizes_of
returns-in-Ok c = rw c.in-Ok.is

pub returns-in-Err : goal.returns-in-Err
unfolding sizes_of
returns-in-Err c = rw (c.number.ensures, c.place.ensures, c.in-Err.is)
