-- By the mode. Assumes nothing.
use Rattle.arriving.proofs.LeapsRunLaws.{line_run, block_run, failed_leaps}
use Rattle.arriving.proofs.leaps.leap.Goals as goal

pub returns-in-Line : goal.returns-in-Line
returns-in-Line c = line_run _ _ _ _ _ c.in-Line.is c.ran.ensures

pub returns-in-Block : goal.returns-in-Block
returns-in-Block c = block_run _ _ _ _ _ c.in-Block.is c.ran-in-Block.ensures

pub returns-in-Quoting : goal.returns-in-Quoting
returns-in-Quoting c = c.quoting.ensures _

pub returns-in-Failed : goal.returns-in-Failed
returns-in-Failed c = failed_leaps _ _ _ _ _ c.in-Failed.is c.requires.within
