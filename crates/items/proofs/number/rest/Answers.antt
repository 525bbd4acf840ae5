-- Where the number ends at once, or after a short fraction; else the digits are read on as those of any number. Assumes nothing.
use Prim.Native.Nat.{◌+◌, ◌-◌, ◌<◌}
use mathlib.Core.Path.{subst}
use mathlib.Core.Bool.{Bool}
use native.Mathlib.Omega.{arith}
use lib.ListN.{length}
use Rattle.items.specs.Between.NumberOrTime.{EndsSays}
use Rattle.items.proofs.NumberPlainLaws.{span_small, int_ends, point_ends}
use Rattle.items.proofs.number.rest.Goals as goal

pub returns-then-ends : goal.returns-then-ends
returns-then-ends c = int_ends c.args.s.now c.args.num.first
    c.args.num.minus c.held.result c.args.v
    c.held.ensures.holds c.settle.result c.args.at
    (subst (λ (b : Bool). EndsSays c.args.s.now c.args.at b)
    c.if-ends.true c.ends.ensures) c.settle.ensures

pub settle-requires-then-ends-2 : goal.settle-requires-then-ends-2
settle-requires-then-ends-2 c = let z =
    c.held-then-ends-2.ensures.small (c.args.at +
    (c.plain_digits-w.result.end - (c.args.at + 1)))
    (span_small c.args.at c.plain_digits-w.ensures.span
    c.requires.1) in (
      omega (arith, z, c.plain_digits-w.ensures.low, c.plain_digits-w.ensures.high, c.requires.0.short),
      omega arith,
      omega (arith, c.plain_digits-w.ensures.high, c.requires.0.short),
    )

pub returns-then-ends-2 : goal.returns-then-ends-2
returns-then-ends-2 c = let h : c.args.at < length
    c.args.s.now =
    subst (λ (b : Bool). EndsSays c.args.s.now
    c.args.at b)
    c.if-ends.false c.ends.ensures in
    point_ends c.args.s.now
    c.args.num.first
    c.args.num.minus c.held-then-ends-2.result
    c.args.v
    c.args.at c.plain_digits-w.result
    c.settle-then-ends-2.result h c.if-s-at-ne46.false c.plain_digits-w.ensures
    c.held-then-ends-2.ensures.holds (subst (λ (b : Bool). EndsSays c.args.s.now c.plain_digits-w.result.end b) c.if-ends-2.true c.ends-2.ensures)
    c.settle-then-ends-2.ensures
