use mathlib.Core.Path.{subst}
use mathlib.Core.Bool.{Bool}
use native.Mathlib.Omega.{arith}
use Rattle.items.specs.Between.StringPart.{BlockSays}
use Rattle.items.proofs.StringPartBlockLaws.{pass_plains, pass_then}
use Rattle.items.proofs.string_part.plain_end.Goals as goal

pub loop-at-preserved : goal.loop-at-preserved
loop-at-preserved c = pass_plains c.args.s.now c.args.q
    c.args.from c.loop-at.at 16 c.loop-at.invariant
    (subst (λ (r : Bool). BlockSays c.args.s.now c.args.q
    c.loop-at.at r) c.if-plain_block.true c.plain_block.ensures) (omega arith)

pub returns-else-plain_block : goal.returns-else-plain_block
returns-else-plain_block c = pass_then c.args.s.now c.args.q
    c.args.from c.loop-at.at c.plain_bytes.result
    c.loop-at.invariant c.plain_bytes.ensures

pub returns : goal.returns
returns c = pass_then c.args.s.now c.args.q
    c.args.from c.loop-at.at c.plain_bytes-2.result c.loop-at.invariant
    c.plain_bytes-2.ensures
