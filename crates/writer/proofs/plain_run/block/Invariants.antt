-- `plain_run::block`: the least so far. Assumes nothing.
use Rattle.writer.specs.Between.Pieces.{EaseAll}
use Rattle.writer.proofs.plain_run.block.Given as goal

abbrev pub invariant-loop-k : goal.invariant-loop-k
invariant-loop-k l = EaseAll l.s l.at l.k l.least
