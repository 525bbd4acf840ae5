use mathlib.Core.Path.{◌≡◌}
use Prim.Native.Nat.{◌+◌, ◌-◌}
use lib.ListN.{length}
use Rattle.machine.specs.Machine.{square, curly}
use Rattle.reader.proofs.CursorLoopLaws.{Round, cursor}
use Rattle.reader.proofs.cursor.Cursor.+array_object_value.Given as goal

abbrev pub invariant-array-loop-next : goal.invariant-array-loop-next
invariant-array-loop-next l = Round l.text l.initial.tape l.tape l.initial.store l.store l.initial.seen l.seen square
    (cursor l.initial.here.at l.own l.initial.here.stored) l.depth l.count l.here
    × (length l.tape ≡ length l.initial.tape) × (length l.store ≡ length l.initial.store) × (length l.seen ≡ length l.initial.seen)

abbrev pub decreases-array-loop-next : goal.decreases-array-loop-next
decreases-array-loop-next l = length l.text - l.here.at

abbrev pub invariant-object-loop-next : goal.invariant-object-loop-next
invariant-object-loop-next l = Round l.text l.initial.tape l.tape l.initial.store l.store l.initial.seen l.seen curly
    (cursor l.initial.here.at l.own l.initial.here.stored) l.depth l.count l.here
    × (length l.tape ≡ length l.initial.tape) × (length l.store ≡ length l.initial.store) × (length l.seen ≡ length l.initial.seen)

abbrev pub decreases-object-loop-next : goal.decreases-object-loop-next
decreases-object-loop-next l = length l.text - l.here.at

abbrev pub decreases-array : goal.decreases-array
decreases-array l = l.depth + l.depth + 1

abbrev pub decreases-object : goal.decreases-object
decreases-object l = l.depth + l.depth + 1

abbrev pub decreases-value : goal.decreases-value
decreases-value l = l.depth + l.depth
