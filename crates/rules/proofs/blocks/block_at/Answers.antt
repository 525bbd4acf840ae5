-- A block of ASCII after a character that has ended has no fault; another is tested byte by byte. Assumes nothing.
use native.Mathlib.Omega.{arith}
use Rattle.rules.specs.Between.Beside.{plain, wide}
use Rattle.rules.proofs.Opens.{topped, ascii_32, clean_ascii}
use Rattle.rules.proofs.blocks.block_at.Goals as goal

pub returns-in-0-to-127 : goal.returns-in-0-to-127
returns-in-0-to-127 c = let a = ascii_32 _ _ _ c.requires c.greatest.ensures (omega arith) in
    plain (clean_ascii _ _ _ c.wanted.ensures c.if-wanted-eq0.true a) (topped _ _ _ c.greatest.ensures (omega arith)) a

pub returns-in-128-to-244 : goal.returns-in-128-to-244
returns-in-128-to-244 c = wide (c.faults.ensures c.if-faults-eq0.true) (topped _ _ _ c.greatest.ensures (omega arith))
