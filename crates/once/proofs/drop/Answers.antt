use Rattle.once.proofs.GroupsLaws.{left, fills, falls, drop_on}
use Rattle.once.proofs.drop.Goals as goal

pub pop-requires : goal.pop-requires
pop-requires c = fills (left c.args.seen.now c.loop-seen.seen
    c.args.to c.requires c.loop-seen.invariant
    c.loop-seen-test.true)

pub loop-seen-smaller : goal.loop-seen-smaller
loop-seen-smaller c = falls (left c.args.seen.now
    c.loop-seen.seen c.args.to
    c.requires c.loop-seen.invariant
    c.loop-seen-test.true) c.pop.ensures

pub loop-seen-preserved : goal.loop-seen-preserved
loop-seen-preserved c = drop_on c.args.seen.now
    c.loop-seen.seen c.pop.new.seen
    c.args.to c.loop-seen.invariant
    c.loop-seen-test.true c.pop.ensures
