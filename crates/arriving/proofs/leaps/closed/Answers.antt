-- Past a closing bracket. Assumes nothing.
use Rattle.std.proofs.Common.{arith}
use Rattle.arriving.specs.declared.states.Due.TheVariants as Due
use Rattle.arriving.proofs.LeapsLaws.{spot_is}
use Rattle.arriving.proofs.LeapsStepLaws.{closed_steps}
use Rattle.arriving.proofs.leaps.closed.Goals as goal

pub returns-in-Some : goal.returns-in-Some
returns-in-Some c = λ b e. closed_steps _ _ _ _ _ b (omega arith) c.in-Some.ensures.0 c.if-last-kind.true e
    (spot_is _ _ Due.AfterValue _ _ _ c.due_number.ensures)
