-- `opened`: one deeper. Assumes nothing.
use Rattle.once.proofs.GroupsLaws.{open_does}
use Rattle.once.proofs.opened.Goals as goal

pub returns : goal.returns
returns c = open_does c.args.seen.now
