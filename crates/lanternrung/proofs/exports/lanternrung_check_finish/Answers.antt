-- What the check in the bytes lent comes to. Assumes nothing.
use mathlib.Core.Path.{ap, ◌∙◌}
use Rattle.arriving.specs.declared.Check.{Check}
use Rattle.arriving.specs.Between.Arriving.{ended}
use Rattle.lanternrung.specs.Told.{sizes_of}
use Rattle.lanternrung.proofs.exports.lanternrung_check_finish.Goals as goal

pub returns : goal.returns
returns c = c.from.ensures ∙ ap sizes_of (c.check_finish.ensures ∙ ap (λ (x : Check). ended x) c.kept.ensures)
