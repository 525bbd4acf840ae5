-- The bytes so far. Assumes nothing.
use mathlib.Core.List.{[]}
use Prim.Native.Nat.{◌-◌}
use lib.ListN.{length}
use Rattle.machine.specs.Binaries.{text as textB}
use Rattle.items.proofs.BinaryPartLaws.{Filling, texting}
use Rattle.items.proofs.binary_part.quoted.Given as goal

abbrev pub invariant-loop-i : goal.invariant-loop-i
invariant-loop-i l = Filling l.text (textB l.q []) l.from (texting l.q) (λ j. j) l.from l.start l.initial.store l.store l.i l.out

abbrev pub decreases-loop-i : goal.decreases-loop-i
decreases-loop-i l = length l.text - l.i
