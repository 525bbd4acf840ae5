-- Assumes nothing.
use Rattle.items.specs.Between.StringPart.{ThreeSays}
use Rattle.items.proofs.PlacesLaws.{passed_on}
use Rattle.items.proofs.StringPartLinesLaws.{three_cut, three_last}
use Rattle.items.proofs.string_part.multiline.Goals as goal

pub returns-in_err-end : goal.returns-in_err-end
returns-in_err-end c = passed_on (ThreeSays c.args.s.now c.args.q c.args.at c.args.store.now c.args.store.now) _ c.from_residual.ensures.1
    (three_cut _ c.args.q c.args.at c.args.store.now c.requires.1 _ c.lines_start-from.ensures _ c.in_err-end.ensures)

pub returns : goal.returns
returns c = three_last _ c.args.q c.args.at c.args.store.now c.requires.1 _ c.lines_start-from.ensures _ c.in_ok-end.ensures _ c.copy.ensures
