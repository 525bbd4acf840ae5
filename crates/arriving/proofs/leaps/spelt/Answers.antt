-- Past a word. Assumes nothing.
use Rattle.arriving.specs.Between.Leaps.{passed}
use Rattle.arriving.proofs.leaps.spelt.Goals as goal

pub returns-in-Ok : goal.returns-in-Ok
returns-in-Ok c = passed c.moved.ensures c.in-Ok.ensures.0 c.if-end-part.true
