-- The first characters, then blocks; a text with no room for a block is left whole to the caller. Assumes nothing.
use Rattle.rules.proofs.Runs.{passed_none}
use Rattle.rules.proofs.blocks.passed.Goals as goal

pub returns-then-s-lt35 : goal.returns-then-s-lt35
returns-then-s-lt35 c = passed_none _
