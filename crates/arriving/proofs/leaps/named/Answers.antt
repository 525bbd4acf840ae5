-- Past an identifier. Assumes nothing.
use Rattle.arriving.proofs.LeapsReadLaws.{name_skips}
use Rattle.arriving.proofs.leaps.named.Goals as goal

pub returns : goal.returns
returns c = λ ks. name_skips _ _ ks _ _ c.requires.0 c.requires.1
    c.requires.2 c.requires.3 c.name_end-end.ensures
    c.if-end-part.false c.moved.ensures
