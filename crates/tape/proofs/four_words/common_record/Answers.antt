-- `four_words::common_record`: by its tests. Assumes nothing.
use mathlib.Core.Path.{sym, ap, ◌∙◌}
use Rattle.meaning.specs.declared.Record.{Record}
use Rattle.tape.proofs.ShapesLaws.{only_key, only_text, only_finite, only_array, only_object}
use Rattle.tape.proofs.four_words.common_record.Goals as goal

pub returns-in-31083 : goal.returns-in-31083
returns-in-31083 c = sym (only_key _ _ _ _ c.in-31083.is)

pub returns-in-29811 : goal.returns-in-29811
returns-in-29811 c = sym (only_text _ _ _ _ c.in-29811.is)

pub returns-in-25198 : goal.returns-in-25198
returns-in-25198 c = ap Record.Number c.finite.ensures ∙ sym (only_finite _ _ _ _ c.in-25198.is)

pub returns-in-29281 : goal.returns-in-29281
returns-in-29281 c = sym (only_array _ _ _ _ c.in-29281.is)

pub returns-in-25199 : goal.returns-in-25199
returns-in-25199 c = sym (only_object _ _ _ _ c.in-25199.is)
