-- `fields::good_clock`: one bound. Assumes nothing.
use Rattle.rules.proofs.TestsLaws.{less_test}
use Rattle.tape.proofs.fields.good_clock.Goals as goal

pub returns : goal.returns
returns c = less_test _ _
