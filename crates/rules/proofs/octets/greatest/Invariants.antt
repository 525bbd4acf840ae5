-- `most` is at least each of the bytes that have been passed. Assumes nothing.
use Rattle.rules.specs.Between.Posts.{AtMost}
use Rattle.rules.proofs.octets.greatest.Given as goal

abbrev pub invariant-loop-b : goal.invariant-loop-b
invariant-loop-b l = AtMost l.s l.at l.b-index l.most
