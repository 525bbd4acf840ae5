-- What the scanner has taken so far, and what it means. Assumes nothing.
use Prim.Native.Nat.{◌-◌}
use lib.ListN.{length}
use Rattle.items.proofs.StringPartQuotedLaws.{Round}
use Rattle.items.proofs.string_part.inner.Given as goal

abbrev pub invariant-loop-bad : goal.invariant-loop-bad
invariant-loop-bad l = Round l.s l.q l.at l.initial.store l.store l.i l.out l.bad

abbrev pub decreases-loop-bad : goal.decreases-loop-bad
decreases-loop-bad l = length l.s - l.i
