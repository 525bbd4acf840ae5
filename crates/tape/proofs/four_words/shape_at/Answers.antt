-- `four_words::shape_at`: by the four numbers that stand there. Assumes nothing.
use Rattle.tape.proofs.LookingLaws.{loaded_as, shaped_as}
use Rattle.tape.proofs.four_words.shape_at.Goals as goal

pub shape_of-requires : goal.shape_of-requires
shape_of-requires c = loaded_as c.args.tape.now c.args.at c.words_at.ensures
    (λ j. (c.type_inv.tape j).fits)

pub returns : goal.returns
returns c = shaped_as c.words_at.ensures c.shape_of.ensures
