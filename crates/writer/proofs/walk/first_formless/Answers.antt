use mathlib.Core.Path.{sym, ◌∙◌}
use Rattle.writer.proofs.WalkLaws.{search_begin, search_on, search_stop, search_end}
use Rattle.writer.proofs.walk.first_formless.Goals as goal

pub loop-i-init : goal.loop-i-init
loop-i-init c = search_begin _ _

pub returns-then-not-json_form : goal.returns-then-not-json_form
returns-then-not-json_form c =
    search_stop _ _ c.loop-i.invariant _ c.loop-i-test.true c.record_at.ensures (sym c.json_form.ensures ∙ c.if-not-json_form.true)

pub loop-i-preserved : goal.loop-i-preserved
loop-i-preserved c =
    search_on _ _ c.loop-i.invariant _ c.loop-i-test.true c.record_at.ensures (sym c.json_form.ensures ∙ c.if-not-json_form.false)

pub returns : goal.returns
returns c = search_end _ _ c.loop-i.invariant c.loop-i-test.false
