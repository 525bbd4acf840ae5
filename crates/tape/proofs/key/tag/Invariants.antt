-- `key::tag`: byte by byte. Assumes nothing.
use Rattle.tape.proofs.KeyLaws.{Mixed}
use Rattle.tape.proofs.key.tag.Given as goal

abbrev pub invariant-loop-b : goal.invariant-loop-b
invariant-loop-b l = Mixed l.key l.salt l.h l.b-index
