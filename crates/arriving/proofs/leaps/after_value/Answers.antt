-- Past what may follow a value. Assumes nothing.
use mathlib.Core.Path.{refl}
use Rattle.machine.specs.Machine.{square, curly}
use Rattle.arriving.proofs.LeapsStepLaws.{after_close}
use Rattle.arriving.proofs.leaps.after_value.Goals as goal

pub returns-in-93 : goal.returns-in-93
returns-in-93 c = after_close _ _ _ _ c.requires.1 square c.in-93.is (c.closed.ensures square refl)

pub returns-in-125 : goal.returns-in-125
returns-in-125 c = after_close _ _ _ _ c.requires.1 curly c.in-125.is (c.closed-in-125.ensures curly refl)
