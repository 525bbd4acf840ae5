-- Where the greatest is 0, each byte that has been passed may follow the three before it. Assumes nothing.
use mathlib.Core.Path.{◌≡◌}
use Rattle.rules.specs.Between.Beside.{Clean}
use Rattle.rules.proofs.blocks.faults.Given as goal

abbrev pub invariant-loop-k : goal.invariant-loop-k
invariant-loop-k l = l.most ≡ 0 → Clean l.s l.at l.k
