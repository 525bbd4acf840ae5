-- `judging::key_due`: by its test. Assumes nothing.
use mathlib.Core.Path.{refl}
use Rattle.tape.specs.Between.Turns.{key_due}
use Rattle.tape.proofs.judging.key_due.Goals as goal

pub returns : goal.returns
unfolding key_due
returns c = refl
