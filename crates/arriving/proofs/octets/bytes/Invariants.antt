-- What is left of the part does to the state what all of it does to the first one. Assumes nothing.
use Rattle.std.proofs.Common.{◌≡◌, ◌+◌, drop}
use Rattle.arriving.specs.Between.Octets.{fed_utf}
use Rattle.arriving.proofs.octets.bytes.Given as goal

abbrev pub invariant-loop-i : goal.invariant-loop-i
invariant-loop-i l = fed_utf l.u (l.base + l.i) (drop l.i l.part) ≡ fed_utf l.fn.had l.base l.part
