-- `push`: it is its bucket's head. Assumes nothing.
use Rattle.once.proofs.TableLaws.{push_does}
use mathlib.Core.Path.{refl}
use lib.ListN.{get_or}
use Rattle.once.proofs.push.Goals as goal

pub returns : goal.returns
returns c = push_does c.args.seen.now c.args.place
    c.args.tag c.slot-at.result c.bucket-head.result
    (get_or c.args.seen.now 0 0) c.slots-n.result c.slot-at.ensures
    c.bucket-head.ensures.0 refl c.slots-n.ensures.0
