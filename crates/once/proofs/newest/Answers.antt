-- `newest`: by the bucket's head, where it is past the mark. Assumes nothing.
use Rattle.once.proofs.GroupsChainLaws.{newest_it, newest_other}
use Rattle.once.proofs.newest.Goals as goal

pub returns-then-not-owned : goal.returns-then-not-owned
returns-then-not-owned c = newest_other c.args.seen.now c.args.tag c.if-not-owned.ensures

pub returns : goal.returns
returns c = newest_it c.args.seen.now c.args.tag c.bucket-head.result c.slots.result c.if-len-lt12.false
    c.slots.ensures.0 c.bucket-head.ensures.0 c.if-not-owned.ensures c.above_mark.ensures
