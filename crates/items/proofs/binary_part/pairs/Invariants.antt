-- The bytes so far, and a digit that begins the next one. Assumes nothing.
use mathlib.Core.List.{[]}
use Prim.Native.Nat.{◌-◌, ◌+◌, ◌<◌}
use lib.ListN.{length}
use Rattle.machine.specs.Strings.{no_digit}
use Rattle.machine.specs.Binaries.{low}
use Rattle.items.specs.Between.Places.{digit_at}
use Rattle.items.proofs.BinaryPartLaws.{Filling, pairing, next_place}
use Rattle.items.proofs.binary_part.pairs.Given as goal

abbrev pub invariant-loop-h : goal.invariant-loop-h
invariant-loop-h l =
    Filling l.text (low [] (digit_at l.text l.from)) (l.from + 1) (pairing l.text) next_place l.from l.start l.initial.store l.store l.i l.out
    × (digit_at l.text l.i < no_digit)

abbrev pub decreases-loop-h : goal.decreases-loop-h
decreases-loop-h l = length l.text - l.i
