use mathlib.Core.Path.{◌≡◌}
use Prim.Native.Nat.{◌-◌}
use lib.ListN.{length}
use Rattle.reader.specs.Between.Joined.{Uses, part_of}
use Rattle.reader.proofs.JoinedLaws.{Parts}
use Rattle.reader.proofs.joined.parts.Given as goal

abbrev pub invariant-loop-part : goal.invariant-loop-part
invariant-loop-part g l =
    Parts (Uses g.P.Part.kind) (part_of g.P.Part.kind) l.text l.from l.start l.initial.store l.store l.at l.out × (length l.store ≡ length l.initial.store)

abbrev pub decreases-loop-part : goal.decreases-loop-part
decreases-loop-part g l = length l.text - l.at
