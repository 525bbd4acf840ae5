-- The fields of the record that `look` answers, or its refusal. Assumes nothing.
use Rattle.std.specs.Prelude.{Ok, Err}
use Rattle.lanternrung.specs.Told.{looked_fields}
use Rattle.lanternrung.proofs.exports.lanternrung_look.Goals as goal

pub returns-in-Ok : goal.returns-in-Ok
unfolding looked_fields
returns-in-Ok c = record { answer = Ok c.in-Ok.r; allowed = c.in-Ok.ensures; told = c.from.ensures }

pub returns-in-Err : goal.returns-in-Err
unfolding looked_fields
returns-in-Err c = record { answer = Err c.in-Err.why; allowed = c.in-Err.ensures; told = c.from-in-Err.ensures }
