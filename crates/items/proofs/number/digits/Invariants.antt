-- The digits so far take every value that the first accumulator holds to one that this one holds. Assumes nothing.
use Prim.Native.Nat.{◌≤◌}
use Rattle.items.proofs.NumberDigitLaws.{Loop}
use Rattle.items.proofs.number.digits.Given as goal

abbrev pub invariant-loop-i : goal.invariant-loop-i
invariant-loop-i l = (l.x.z ≤ l.i) × Loop l.s l.from l.initial.x l.x l.i
