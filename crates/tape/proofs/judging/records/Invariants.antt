-- `judging::records`: the locals say the state of the machine that reads the records. Assumes nothing.
use Prim.Native.Nat.{◌+◌, ◌-◌, ◌*◌}
use Rattle.meaning.specs.Look.{whole_records}
use Rattle.tape.proofs.JudgingStateLaws.{State}
use Rattle.tape.proofs.judging.records.Given as goal

abbrev pub invariant-loop-i : goal.invariant-loop-i
invariant-loop-i l = State l.tape l.store l.ends l.rests l.depth l.end l.rest l.at l.i

abbrev pub decreases-loop-i : goal.decreases-loop-i
decreases-loop-i l = (whole_records l.tape - l.i) * 2 + l.depth
