-- Two digits and the mark must come. Assumes nothing.
use native.Mathlib.Omega.{arith}
use Rattle.items.proofs.TimeValueLaws.{then_end, then_wrong, then_got}
use Rattle.items.proofs.time_value.two_then.Goals as goal
use Rattle.items.proofs.time_value.two_then.Goals.{then-k-s-via-then-k-s, then-k-s-via-else-k-s+then-s-k}

pub returns-then-k-s : goal.returns-then-k-s
returns-then-k-s c = elim c.then-k-s.branch [
  | then-k-s-via-then-k-s w ↦ then_end c.args.s.now c.args.i c.args.mark _ c.in_ok-field.ensures (omega arith) w.if-k-s.true
  | then-k-s-via-else-k-s+then-s-k w ↦ then_wrong c.args.s.now c.args.i c.args.mark _ c.in_ok-field.ensures w.if-k-s.false w.if-s-k.true
]

pub returns : goal.returns
returns c = then_got c.args.s.now c.args.i c.args.mark _ c.in_ok-field.ensures (omega arith) c.if-s-k.false
