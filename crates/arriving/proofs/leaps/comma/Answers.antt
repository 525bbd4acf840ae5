-- Past a comma. Assumes nothing.
use Rattle.std.proofs.Common.{arith}
use Rattle.arriving.proofs.LeapsStepLaws.{comma_square, comma_curly}
use Rattle.arriving.proofs.leaps.comma.Goals as goal

pub returns-in-Some-eq1 : goal.returns-in-Some-eq1
returns-in-Some-eq1 c = comma_square _ _ _ _ (omega arith) c.in-Some-eq1.ensures.0 (cc) c.moved.ensures

pub returns-in-Some-eq2 : goal.returns-in-Some-eq2
returns-in-Some-eq2 c = comma_curly _ _ _ _ (omega arith) c.in-Some-eq2.ensures.0 (cc) c.moved-in-Some-eq2.ensures
