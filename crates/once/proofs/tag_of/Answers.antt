-- `tag_of`: its second number. Assumes nothing.
use native.Mathlib.Omega.{arith}
use Rattle.once.proofs.GroupsChainLaws.{tag_is}
use Rattle.once.proofs.GroupsChainLaws.{stands_fits}
use Rattle.once.proofs.tag_of.Goals as goal

pub bounds-seen-here : goal.bounds-seen-here
bounds-seen-here c = omega (
  arith,
  c.slot-here.ensures,
  stands_fits c.args.seen.now
      c.args.at c.requires,
)

pub returns : goal.returns
returns c = tag_is c.args.seen.now c.args.at c.slot-here.result c.slot-here.ensures
