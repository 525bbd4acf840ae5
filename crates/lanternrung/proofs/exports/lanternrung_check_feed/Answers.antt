-- The check is put into the bytes lent. Assumes nothing.
use mathlib.Core.Path.{ap, ◌∙◌}
use Rattle.arriving.specs.declared.Check.{Check}
use Rattle.arriving.specs.Between.Arriving.{fed}
use Rattle.lanternrung.proofs.ToldLaws.{keeps}
use Rattle.lanternrung.proofs.exports.lanternrung_check_feed.Goals as goal

pub returns : goal.returns
returns c = keeps _ _ c.args.state.now _
    (c.check_feed.ensures ∙ ap (λ (x : Check).
    fed x c.args.part.now)
    c.kept.ensures)
    c.keep.ensures
