-- `judging::any_leaf`: what `look` finds. Assumes nothing.
use Rattle.tape.specs.Between.Turns.{leaf, none_there}
use Rattle.tape.proofs.LookingLaws.{looked_record, refused}
use Rattle.tape.proofs.judging.any_leaf.Goals as goal

pub returns-in-Ok : goal.returns-in-Ok
returns-in-Ok c = leaf _ (looked_record c.in-Ok.ensures) c.leaf.ensures

pub returns-in-Err : goal.returns-in-Err
returns-in-Err c = none_there (refused c.in-Err.ensures)
