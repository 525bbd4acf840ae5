-- The digits, and then what follows them. Assumes nothing.
use Rattle.items.proofs.NumberDecimalLaws.{fraction_on}
use Rattle.items.proofs.number.fraction.Goals as goal

pub returns : goal.returns
returns c = fraction_on _ _ _ _ _ _ c.digits-w.ensures _ c.exponent.ensures
