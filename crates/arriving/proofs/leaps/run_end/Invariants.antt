-- Each byte so far leaves the check where it stands. Assumes nothing.
use Rattle.arriving.specs.Between.Leaps.{RanTo}
use Rattle.arriving.proofs.leaps.run_end.Given as goal

abbrev pub invariant-loop-i : goal.invariant-loop-i
invariant-loop-i l = RanTo l.part l.from l.run l.i
