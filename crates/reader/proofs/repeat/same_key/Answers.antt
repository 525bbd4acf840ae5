use Rattle.reader.proofs.RepeatLaws.{compare_begins, compare_over, compare_longer, compare_apart, compare_more}
use Rattle.reader.proofs.repeat.same_key.Goals as goal

pub loop-x-init : goal.loop-x-init
loop-x-init c = compare_begins c.args.text.now c.args.a c.args.b _ _ c.begun-s.ensures c.begun-t.ensures

pub loop-x-preserved : goal.loop-x-preserved
loop-x-preserved c = compare_more c.args.text.now c.args.a c.args.b c.loop-x.s c.loop-x.t c.loop-x.invariant _ _
    (rw c.in-Some.is at c.next.ensures) _ _ (rw c.in-Some-next.is at c.next-in-Some.ensures) c.if-x-y.false

pub returns-in_default-next : goal.returns-in_default-next
returns-in_default-next c = compare_longer c.args.text.now c.args.a c.args.b c.loop-x.s c.loop-x.t c.loop-x.invariant _ _
    (rw c.in-Some.is at c.next.ensures) (rw c.in_default-next.is at c.next-in-Some.ensures)

pub returns-then-x-y : goal.returns-then-x-y
returns-then-x-y c = compare_apart c.args.text.now c.args.a c.args.b c.loop-x.s c.loop-x.t c.loop-x.invariant _ _
    (rw c.in-Some.is at c.next.ensures) _ _ (rw c.in-Some-next.is at c.next-in-Some.ensures) c.if-x-y.true

pub returns : goal.returns
returns c = compare_over c.args.text.now c.args.a c.args.b c.loop-x.s c.loop-x.t c.loop-x.invariant (rw c.in_default.is at c.next.ensures)
    _ c.over.ensures
