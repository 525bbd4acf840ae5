-- The letters come, or one does not. Assumes nothing.
use Rattle.machine.specs.Numeric.{word}
use Rattle.items.specs.Between.NumberOrTime.{Reads}
use Rattle.items.proofs.PlacesLaws.{passed_on}
use Rattle.items.proofs.NumberOrTimeFirstLaws.{named_cut, named_whole}
use Rattle.items.proofs.number_or_time.named.Goals as goal

pub returns-in_err-at : goal.returns-in_err-at
returns-in_err-at c = passed_on (Reads c.args.s.now c.args.from (word c.args.spelt.now c.args.n)) _ c.from_residual.ensures.1
    (named_cut _ _ _ _ _ c.in_err-at.ensures)

pub returns : goal.returns
returns c = named_whole _ _ _ _ _ c.in_ok-at.ensures
