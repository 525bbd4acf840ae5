-- The calendar's answer is that of the test that computes. Assumes nothing.
use mathlib.Core.Path.{◌∙◌}
use Rattle.items.proofs.TimeValueLaws.{date_tested}
use Rattle.items.proofs.time_value.is_date.Goals as goal

pub returns : goal.returns
returns c = c.is_ok.ensures.value ∙ date_tested _ c.date.ensures
