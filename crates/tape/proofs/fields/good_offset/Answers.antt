-- `fields::good_offset`: both bounds. Assumes nothing.
use mir.Syntax.{w16}
use Rattle.tape.proofs.FieldsRangeLaws.{size_test}
use Rattle.tape.proofs.fields.good_offset.Goals as goal

pub returns : goal.returns
returns c = size_test w16 _ 1439 c.ranges.offset c.unsigned_abs.ensures.value
