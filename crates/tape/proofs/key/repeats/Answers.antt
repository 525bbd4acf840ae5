use Rattle.tape.proofs.KeyLaws.{seek_start, slot_stands, slot_holds, slot_falls, slot_found, slot_other, slots_over}
use Rattle.tape.proofs.key.repeats.Goals as goal

pub loop-at-init : goal.loop-at-init
loop-at-init c = seek_start _ _ _ _ _ _ c.newest-at.ensures

pub slot_is-requires : goal.slot_is-requires
slot_is-requires c = slot_holds (rw c.in-Some.is at c.loop-at.invariant) c.requires

pub returns-then-slot_is : goal.returns-then-slot_is
returns-then-slot_is c = slot_found (rw c.in-Some.is at c.loop-at.invariant) c.slot_is.ensures c.if-slot_is.true

pub earlier-at-requires : goal.earlier-at-requires
earlier-at-requires c = slot_stands (rw c.in-Some.is at c.loop-at.invariant) c.requires

pub loop-at-smaller : goal.loop-at-smaller
loop-at-smaller c = rw c.in-Some.is (slot_falls (rw c.in-Some.is at c.loop-at.invariant) c.requires _ c.earlier-at.ensures)

pub loop-at-preserved : goal.loop-at-preserved
loop-at-preserved c = slot_other (rw c.in-Some.is at c.loop-at.invariant) c.slot_is.ensures
    c.if-slot_is.false _ c.earlier-at.ensures

pub returns : goal.returns
returns c = slots_over (rw c.in_default.is at c.loop-at.invariant)
