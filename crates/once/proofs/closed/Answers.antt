-- `closed`: its group goes, then its depth. Assumes nothing.
use Rattle.once.specs.Groups.{without, upper}
use Rattle.once.proofs.GroupsLaws.{upper_does, then_does}
use Rattle.once.proofs.closed.Goals as goal

pub returns : goal.returns
returns c =
    rw c.saturating_sub.ensures
    (then_does without upper c.args.seen.now c.leave.new.seen _ c.leave.ensures (upper_does c.leave.new.seen))
