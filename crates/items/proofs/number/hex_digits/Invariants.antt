-- The digits so far have a value that is kept, or is too large. Assumes nothing.
use Rattle.items.proofs.NumberHexLaws.{HexLoop}
use Rattle.items.proofs.number.hex_digits.Given as goal

abbrev pub invariant-loop-i : goal.invariant-loop-i
invariant-loop-i l = HexLoop l.s l.from l.v l.i
