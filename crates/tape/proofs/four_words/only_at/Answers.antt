-- `four_words::only_at`: by the four numbers that stand there. Assumes nothing.
use mathlib.Core.Path.{ap, ◌∙◌}
use Rattle.tape.specs.Between.Shapes.{only_record}
use Rattle.tape.proofs.LookingLaws.{loaded_as}
use Rattle.tape.proofs.four_words.only_at.Goals as goal

pub common_record-requires : goal.common_record-requires
common_record-requires c = loaded_as c.args.tape.now c.args.at c.words_at.ensures
    (λ j. (c.type_inv.tape j).fits)

pub returns : goal.returns
returns c = c.common_record.ensures ∙ ap only_record c.words_at.ensures
