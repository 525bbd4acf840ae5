-- `byte_or_digit::write_digits`: four at a time, then those that are left. Assumes nothing.
use Rattle.writer.proofs.ByteOrDigitLaws.{Filling}
use Rattle.writer.proofs.byte_or_digit.write_digits.Given as goal

abbrev pub invariant-loop-i : goal.invariant-loop-i
invariant-loop-i l = Filling l.w l.n 0 l.initial.out l.out l.i l.rest

abbrev pub decreases-loop-i : goal.decreases-loop-i
decreases-loop-i l = l.i
