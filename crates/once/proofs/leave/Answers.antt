-- `leave`: its slots go down to the mark. Assumes nothing.
use native.Mathlib.Omega.{arith}
use Rattle.once.proofs.GroupsLaws.{own_fits, own_above, leave_some, leave_none}
use Rattle.once.proofs.leave.Goals as goal

pub returns-then-not-owned : goal.returns-then-not-owned
returns-then-not-owned c = leave_none c.args.seen.now c.if-not-owned.ensures

pub overflow_sub-to : goal.overflow_sub-to
overflow_sub-to c = (own_fits c.args.seen.now c.requires
    c.if-not-owned.ensures).0

pub bounds-seen-mark : goal.bounds-seen-mark
bounds-seen-mark c = omega (
  arith,
  c.slot-mark.ensures,
  own_fits c.args.seen.now
      c.requires c.if-not-owned.ensures,
)

pub drop-requires : goal.drop-requires
drop-requires c = own_above c.args.seen.now
    c.requires c.if-not-owned.ensures

pub returns : goal.returns
returns c = leave_some c.args.seen.now
    c.requires
    c.if-not-owned.ensures
    c.slot-mark.result c.drop.new.seen c.slot-mark.ensures
    c.drop.ensures
