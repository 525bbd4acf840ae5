-- The digits so far, of which at most nine count. Assumes nothing.
use Rattle.items.proofs.TimeValueLaws.{NanoLoop}
use Rattle.items.proofs.time_value.nano_digits.Given as goal

abbrev pub invariant-loop-i : goal.invariant-loop-i
invariant-loop-i l = NanoLoop l.s l.from l.nanos l.weight l.i
