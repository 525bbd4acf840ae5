-- The check is put into the bytes lent. Assumes nothing.
use Rattle.lanternrung.proofs.ToldLaws.{keeps}
use Rattle.lanternrung.proofs.exports.lanternrung_check_start.Goals as goal

pub returns : goal.returns
returns c = keeps _ _ c.args.state.now _ c.check_start.ensures
    c.keep.ensures
