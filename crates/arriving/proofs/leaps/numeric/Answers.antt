-- Past a number or a time value. Assumes nothing.
use Rattle.arriving.proofs.LeapsReadLaws.{numeric_skips}
use Rattle.arriving.proofs.leaps.numeric.Goals as goal

pub returns-in-Ok : goal.returns-in-Ok
returns-in-Ok c = λ ks. numeric_skips _ _ ks _ _ _ c.requires.0 c.requires.1 c.requires.2 c.requires.3
    c.in-Ok.ensures c.if-read-part.true c.moved.ensures
