-- Past a binary part. Assumes nothing.
use Rattle.arriving.proofs.LeapsReadLaws.{binary_skips}
use Rattle.arriving.proofs.leaps.binary.Goals as goal

pub returns-in-Ok : goal.returns-in-Ok
returns-in-Ok c = λ ks. binary_skips _ _ ks _ _ 0 _ _ _ c.requires.0 c.requires.1 c.requires.2 c.requires.3
    c.in-Ok.ensures c.if-read-part.true c.moved.ensures
