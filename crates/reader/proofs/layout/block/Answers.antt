use native.Mathlib.Omega.{arith}
use mathlib.Core.Path.{subst}
use lib.Dec.{eqb}
use lib.ListN.{get_or}
use Rattle.meaning.specs.Letters.{ch}
use Rattle.machine.specs.Machine.{block}
use Rattle.reader.specs.Between.Layout.{Breaks}
use Rattle.rules.proofs.TestsLaws.{held, failed}
use Rattle.reader.proofs.LayoutLaws.{noting, note_more, note_ends, note_breaks, note_unended}
use Rattle.reader.proofs.LayoutLaws.{blocked, block_leads, slash_closes, control_breaks, block_open}
use Rattle.reader.proofs.layout.block.Goals as goal

pub loop-at-init : goal.loop-at-init
loop-at-init c = noting block c.args.from (omega arith)

pub returns-then-closes : goal.returns-then-closes
returns-then-closes c = let e = held c.closes.ensures c.if-closes.true in
    note_ends c.loop-at.invariant (omega arith) (slash_closes c.args.text.now _ (eqb c.loop-at.last (ch "*")) e.0 e.1)

pub returns-then-is_control : goal.returns-then-is_control
returns-then-is_control c = note_breaks c.loop-at.invariant (omega arith) (control_breaks c.args.text.now _ (eqb c.loop-at.last (ch "*"))
    (held c.is_control.ensures c.if-is_control.true))

pub loop-at-preserved : goal.loop-at-preserved
loop-at-preserved c = let unclosed = failed c.closes.ensures c.if-closes.false in
    let leads = block_leads c.args.text.now c.loop-at.at (eqb c.loop-at.last (ch "*")) unclosed (failed c.is_control.ensures c.if-is_control.false) in
    note_more c.loop-at.invariant (blocked (eqb (get_or c.args.text.now c.loop-at.at 0) (ch "*"))) (omega arith) leads

pub returns : goal.returns
returns c = subst (Breaks c.args.text.now block c.args.from) (omega (arith, c.loop-at.auto))
    (note_unended c.loop-at.invariant (omega arith) (block_open (eqb c.loop-at.last (ch "*")) c.loop-at.at))
