-- `four_words::any_shape`: the numbers of the record that may stand there are these, or none stands there. Assumes nothing.
use Rattle.tape.proofs.ShapesLaws.{other_words, same_words}
use Rattle.tape.proofs.four_words.any_shape.Goals as goal

pub returns-then-eq : goal.returns-then-eq
returns-then-eq c = same_words c.args.w _ _ c.requires c.record_of-r.ensures c.from.ensures.worded c.if-eq.ensures

pub returns-else-eq : goal.returns-else-eq
returns-else-eq c = other_words c.args.w _ _ c.record_of-r.ensures c.from.ensures.worded c.if-eq.ensures
