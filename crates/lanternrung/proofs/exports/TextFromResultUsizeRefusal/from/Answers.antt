-- The length, or a refusal. Assumes nothing.
use Rattle.lanternrung.specs.Told.{text_of}
use Rattle.lanternrung.proofs.exports.TextFromResultUsizeRefusal.from.Goals as goal

pub returns-in-Ok : goal.returns-in-Ok
unfolding text_of
returns-in-Ok c = rw c.in-Ok.is

pub returns-in-Err : goal.returns-in-Err
unfolding text_of
returns-in-Err c = rw (c.number.ensures, c.place.ensures, c.in-Err.is)
