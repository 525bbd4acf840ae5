-- Where the greatest is 0, so are all, and the four bytes may follow each other. Assumes nothing.
use native.Mathlib.Omega.{arith}
use Rattle.rules.proofs.Opens.{beside}
use Rattle.rules.proofs.blocks.fault.Goals as goal

pub returns : goal.returns
returns c = λ e.
    beside c.wanted.ensures c.tail.ensures (c.differ-number.ensures (omega arith)) c.barred.ensures c.barred-2.ensures
    (c.equal.ensures (omega arith)) (c.equal-2.ensures (omega arith)) (c.equal-3.ensures (omega arith)) (c.equal-4.ensures (omega arith))
