use Rattle.once.proofs.WindowsLaws.{search_ends}
use Rattle.tape.proofs.key.widest.Goals as goal

pub returns : goal.returns
returns c = search_ends (rw c.in_default.is at c.loop-w.invariant.0)
