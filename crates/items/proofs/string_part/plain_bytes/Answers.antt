-- Assumes nothing.
use mathlib.Core.Path.{◌≡◌}
use mathlib.Core.Bool.{false}
use native.Mathlib.Omega.{arith}
use lib.ListN.{get_or}
use Rattle.items.specs.Between.StringPart.{plain}
use Rattle.items.proofs.StringPartQuotedLaws.{pass_more, pass_stop, pass_end, plain_slash, plain_quote, plain_low}
use Rattle.items.proofs.string_part.plain_bytes.Goals as goal
use Rattle.items.proofs.string_part.plain_bytes.Goals.{then-b-eq92-via-then-b-eq92, then-b-eq92-via-else-b-eq92+then-b-q}
use Rattle.items.proofs.string_part.plain_bytes.Goals.{then-b-eq92-via-else-b-eq92+else-b-q+then-b-lt32}

pub returns-then-b-eq92 : goal.returns-then-b-eq92
returns-then-b-eq92 c = let e : plain c.args.q (get_or c.args.s.now c.loop-at.at 0) ≡ false = elim c.then-b-eq92.branch [
  | then-b-eq92-via-then-b-eq92 w ↦ plain_slash c.args.q _ w.if-b-eq92.true
  | then-b-eq92-via-else-b-eq92+then-b-q w ↦ plain_quote c.args.q _ w.if-b-eq92.false w.if-b-q.true
  | then-b-eq92-via-else-b-eq92+else-b-q+then-b-lt32 w ↦ plain_low c.args.q _ w.if-b-eq92.false w.if-b-q.false w.if-b-lt32.true
] in
    pass_stop _ _ _ _ c.loop-at.invariant c.loop-at-test.true e

pub loop-at-preserved : goal.loop-at-preserved
loop-at-preserved c = pass_more _ _ _ _ c.loop-at.invariant c.loop-at-test.true c.if-b-eq92.false
    c.if-b-q.false c.if-b-lt32.false (omega (arith, c.type_inv.s c.loop-at.at))

pub returns : goal.returns
returns c = pass_end _ _ _ _ c.loop-at.invariant c.loop-at-test.false
