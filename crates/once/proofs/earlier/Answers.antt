-- `earlier`: by the link, where it is past the mark. Assumes nothing.
use native.Mathlib.Omega.{arith}
use Rattle.once.proofs.GroupsChainLaws.{earlier_it, stands_fits}
use Rattle.once.proofs.earlier.Goals as goal

pub bounds-seen-here : goal.bounds-seen-here
bounds-seen-here c = omega (arith, c.slot-here.ensures, stands_fits c.args.seen.now c.args.at c.requires)

pub returns : goal.returns
returns c = earlier_it c.args.seen.now c.args.at c.slot-here.result c.slot-here.ensures c.above_mark.ensures
