-- `four_words::shape_of`: the common ones first. Assumes nothing.
use Rattle.tape.proofs.ShapesLaws.{common_shape}
use Rattle.tape.proofs.four_words.shape_of.Goals as goal

pub returns-then-common : goal.returns-then-common
returns-then-common c = common_shape _ _ c.requires c.common.ensures c.if-common.true c.common_record.ensures
