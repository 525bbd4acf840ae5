-- `take_in`: a slot, two with a mark, or none. Assumes nothing.
use lib.ListN.{get_or}
use Rattle.once.proofs.GroupsTakingLaws.{take_stopped, take_own, take_new, full_own, full_new, roomy_more}
use Rattle.once.proofs.take_in.Goals as goal

pub returns-then-seen-ne0 : goal.returns-then-seen-ne0
returns-then-seen-ne0 c = take_stopped c.args.seen.now (
  c.args.place,
  c.args.tag,
) c.if-seen-ne0.true

pub returns-then-top-n : goal.returns-then-top-n
returns-then-top-n c = take_own c.args.seen.now
    c.args.place
    c.args.tag
    c.slots-n.result
    c.slots-n.ensures.0
    c.if-seen-ne0.false c.push.new.seen
    c.if-owned.ensures c.if-top-n.true c.push.ensures

pub returns-then-owned : goal.returns-then-owned
returns-then-owned c = full_own c.args.seen.now
    c.args.place
    c.args.tag c.slots-n.result
    c.slots-n.ensures.0 c.if-seen-ne0.false
    c.if-owned.ensures c.if-top-n.false

pub push-requires-then-top-n-2-2 : goal.push-requires-then-top-n-2-2
push-requires-then-top-n-2-2 c = roomy_more c.args.seen.now c.push-then-top-n-2.new.seen
    (get_or c.args.seen.now 1 0) (get_or c.args.seen.now 2 0) c.slots-n.result
    c.if-len-lt12.false
    c.requires
    c.slots-n.ensures.0
    c.if-top-n-2.true c.push-then-top-n-2.ensures

pub returns-then-top-n-2 : goal.returns-then-top-n-2
returns-then-top-n-2 c = take_new c.args.seen.now c.args.place c.args.tag
    c.slots-n.result
    c.slots-n.ensures.0
    c.if-seen-ne0.false
    c.push-then-top-n-2.new.seen c.push-then-top-n-2-2.new.seen
    c.if-owned.ensures
    c.if-top-n-2.true
    c.push-then-top-n-2.ensures c.push-then-top-n-2-2.ensures

pub returns : goal.returns
returns c = full_new c.args.seen.now
    c.args.place
    c.args.tag c.slots-n.result
    c.slots-n.ensures.0 c.if-seen-ne0.false
    c.if-owned.ensures c.if-top-n-2.false
