use Rattle.reader.proofs.SpellingLaws.{not_stepped, stepped_over, stepped_byte, stepped_on}
use Rattle.reader.proofs.spelling.next.Goals as goal

pub loop-b-init : goal.loop-b-init
loop-b-init c = not_stepped c.args.text.now c.args.from c.requires

pub returns-in-Over : goal.returns-in-Over
returns-in-Over c = stepped_over c.args.text.now c.args.from
    c.loop-b.s c.loop-b.invariant (rw c.in-Over.is at c.step.ensures)

pub returns-in-Byte : goal.returns-in-Byte
returns-in-Byte c = stepped_byte c.args.text.now c.args.from
    c.loop-b.s c.loop-b.invariant _ _
    (rw c.in-Byte.is at c.step.ensures)

pub loop-b-smaller : goal.loop-b-smaller
loop-b-smaller c = let w = rw c.in-On.is at c.step.ensures in w.0.falls

pub loop-b-preserved : goal.loop-b-preserved
loop-b-preserved c = stepped_on c.args.text.now c.args.from
    c.loop-b.s c.loop-b.invariant _
    (rw c.in-On.is at c.step.ensures)
