-- The digits so far have a value that the exponent is, or both are too large. Assumes nothing.
use Prim.Native.Nat.{◌<◌}
use Rattle.items.proofs.NumberDigitLaws.{Rises}
use Rattle.items.proofs.number.exp_digits.Given as goal

abbrev pub invariant-loop-i : goal.invariant-loop-i
invariant-loop-i l = (l.e < 10000000000) × Rises l.s l.from l.e l.i
