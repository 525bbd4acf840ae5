-- `key::searched`: window after window, in so many rounds. Assumes nothing.
use Rattle.once.proofs.WindowsLaws.{search_ends}
use Rattle.tape.proofs.key.+searched.Goals as goal

pub returns-in_default : goal.returns-in_default
returns-in_default t c = search_ends (rw c.in_default.is at c.requires.1)
