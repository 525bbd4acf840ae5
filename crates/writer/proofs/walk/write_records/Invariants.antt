-- `walk::write_records`: what is written, and what comes. Assumes nothing.
use Prim.Native.Nat.{◌+◌, ◌-◌, ◌*◌, ◌/◌}
use lib.ListN.{length}
use Rattle.writer.proofs.WalkLaws.{Walking}
use Rattle.writer.proofs.walk.write_records.Given as goal

abbrev pub invariant-loop-i : goal.invariant-loop-i
invariant-loop-i l = Walking l.tape l.store l.initial.out l.out l.ends l.closers l.depth l.until l.bracket l.comma l.at l.i

abbrev pub decreases-loop-i : goal.decreases-loop-i
decreases-loop-i l = (length l.tape / 16 - l.i) * 2 + l.depth
