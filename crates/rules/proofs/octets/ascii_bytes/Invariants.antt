-- The bytes passed so far are ASCII. Assumes nothing.
use Rattle.rules.specs.Between.Posts.{Ascii}
use Rattle.rules.proofs.octets.ascii_bytes.Given as goal

abbrev pub invariant-loop-i : goal.invariant-loop-i
invariant-loop-i l = Ascii l.s l.from l.i
