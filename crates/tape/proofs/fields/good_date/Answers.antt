-- `fields::good_date`: what the calendar says. Assumes nothing.
use Rattle.tape.proofs.FieldsRangeLaws.{is_date_lem}
use Rattle.tape.proofs.fields.good_date.Goals as goal

pub returns : goal.returns
returns c = rw (c.is_ok.ensures.value, ← c.from.ensures, ← c.from-2.ensures, ← c.from-3.ensures) (is_date_lem c.date.ensures)
