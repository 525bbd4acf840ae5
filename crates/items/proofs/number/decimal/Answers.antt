-- The digits, and then what follows them. Assumes nothing.
use Rattle.items.proofs.NumberDecimalLaws.{whole_on}
use Rattle.items.proofs.number.decimal.Goals as goal

pub returns : goal.returns
returns c = whole_on _ _ _ _ _ _ c.digits-w.ensures _ c.pointed.ensures
