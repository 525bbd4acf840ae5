-- `place_of`: its first number. Assumes nothing.
use native.Mathlib.Omega.{arith}
use Rattle.once.proofs.GroupsChainLaws.{place_is}
use Rattle.once.proofs.GroupsChainLaws.{stands_fits}
use Rattle.once.proofs.place_of.Goals as goal

pub bounds-seen-here : goal.bounds-seen-here
bounds-seen-here c = omega (
  arith,
  c.slot-here.ensures,
  stands_fits c.args.seen.now
      c.args.at c.requires,
)

pub returns : goal.returns
returns c = place_is c.args.seen.now c.args.at c.slot-here.result c.slot-here.ensures
