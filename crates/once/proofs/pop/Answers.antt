-- `pop`: its bucket's head is its link. Assumes nothing.
use Rattle.once.proofs.TableLaws.{pop_does}
use Prim.Native.Nat.{◌-◌}
use native.Mathlib.Omega.{arith}
use lib.ListN.{get_or}
use Rattle.once.proofs.pop.Goals as goal

pub returns : goal.returns
returns c = pop_does c.args.seen.now c.bucket-head.result c.slot-at.result
    (get_or c.args.seen.now 0 0 - 1) c.slots-n.result
    c.slot-at.ensures c.bucket-head.ensures.0 (omega (
      arith,
      c.requires.1.1.top,
    )) c.slots-n.ensures.0
