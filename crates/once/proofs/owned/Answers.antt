-- `owned`: by the mark's depth. Assumes nothing.
use native.Mathlib.Omega.{arith}
use Rattle.once.proofs.GroupsLaws.{own_none, own_some, base_fits}
use Rattle.once.proofs.owned.Goals as goal

pub returns-then-base-eq0 : goal.returns-then-base-eq0
returns-then-base-eq0 c = λ s h. own_none c.args.seen.now s c.if-base-eq0.true h

pub bounds-seen-mark : goal.bounds-seen-mark
bounds-seen-mark c = omega (
  arith,
  c.slot-mark.ensures,
  base_fits c.args.seen.now
      c.requires.0 c.requires.1 c.if-base-eq0.false,
)

pub returns : goal.returns
returns c = λ s h. own_some c.args.seen.now s c.slot-mark.result
    c.if-base-eq0.false c.slot-mark.ensures h
