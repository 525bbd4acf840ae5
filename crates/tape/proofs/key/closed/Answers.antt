use native.Mathlib.Omega.{arith}
use Rattle.tape.proofs.KeyWalkLaws.{closing_sane, closing_room, closing_object, closing_array, closing_all}
use Rattle.tape.proofs.key.closed.Goals as goal
use Rattle.tape.proofs.key.closed.Goals.{then-end-eq1, else-end-eq1}

pub offset_bounds-ends-depth : goal.offset_bounds-ends-depth
offset_bounds-ends-depth c = omega (arith, closing_room c.loop-depth.invariant c.requires)

pub bounds-ends-depth : goal.bounds-ends-depth
bounds-ends-depth c = omega (arith, closing_room c.loop-depth.invariant c.requires)

pub closed-requires : goal.closed-requires
closed-requires c = closing_sane c.loop-depth.invariant
    c.requires

pub loop-depth-preserved : goal.loop-depth-preserved
loop-depth-preserved c = elim c.if-end-eq1.branch [
  | then-end-eq1 w ↦ rw w.seen-is (closing_object c.loop-depth.invariant c.loop-depth-test.true c.if-end-index.false w.if-end-eq1.true _ w.closed.ensures)
  | else-end-eq1 w ↦ rw w.seen-is (closing_array c.loop-depth.invariant c.loop-depth-test.true c.if-end-index.false w.if-end-eq1.false)
]

pub returns : goal.returns
returns c = (λ n. absurd (omega arith), closing_all c.loop-depth.invariant c.loop-depth-test.false)
