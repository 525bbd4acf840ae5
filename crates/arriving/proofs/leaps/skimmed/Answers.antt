-- From a state between items. Assumes nothing.
use Rattle.arriving.proofs.LeapsLaws.{leaps_at}
use Rattle.arriving.proofs.leaps.skimmed.Goals as goal

pub returns : goal.returns
returns c = leaps_at _ _ _ _ _ c.skim-x.result _ _ c.requires.1
    c.due_number.ensures c.from-last.ensures c.skim-x.ensures
