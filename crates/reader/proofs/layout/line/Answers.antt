use native.Mathlib.Omega.{arith}
use mathlib.Core.Path.{refl, subst}
use Rattle.reader.specs.Between.Layout.{Commented}
use Rattle.machine.specs.Machine.{line}
use Rattle.rules.proofs.TestsLaws.{held, failed}
use Rattle.reader.proofs.LayoutLaws.{noting, note_more, note_ends, note_over, note_breaks, line_leads}
use Rattle.reader.proofs.layout.line.Goals as goal

pub loop-at-init : goal.loop-at-init
loop-at-init c = noting line c.args.from (omega arith)

pub returns-then-is_line_end : goal.returns-then-is_line_end
returns-then-is_line_end c = let e = held c.is_line_end.ensures c.if-is_line_end.true in
    note_ends c.loop-at.invariant (omega arith) (λ s d k. rw e)

pub returns-then-is_control : goal.returns-then-is_control
returns-then-is_control c = let e = held c.is_control.ensures c.if-is_control.true in
    note_breaks c.loop-at.invariant (omega arith) (λ s d k. rw e)

pub loop-at-preserved : goal.loop-at-preserved
loop-at-preserved c = let other = failed c.is_line_end.ensures c.if-is_line_end.false in
    note_more c.loop-at.invariant line (omega arith) (line_leads c.args.text.now _ other (failed c.is_control.ensures c.if-is_control.false))

pub returns : goal.returns
returns c = subst (Commented c.args.text.now line c.args.from) (omega (arith, c.loop-at.auto)) (note_over c.loop-at.invariant (omega arith) (λ s d k. refl))
