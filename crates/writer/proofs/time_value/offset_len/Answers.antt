-- `time_value::offset_len`: as it is written. Assumes nothing.
use mathlib.Core.Path.{sym, ap}
use native.Mathlib.Omega.{arith}
use lib.ListN.{length}
use Rattle.writer.proofs.PiecesLaws.{offset_none, offset_length}
use Rattle.writer.proofs.time_value.offset_len.Goals as goal

pub returns-then-offset-eq0 : goal.returns-then-offset-eq0
returns-then-offset-eq0 c = (sym (ap length (offset_none _ c.ranges.offset c.if-offset-eq0.true)), omega arith)

pub returns-else-offset-eq0 : goal.returns-else-offset-eq0
returns-else-offset-eq0 c = (sym (offset_length _ c.ranges.offset c.if-offset-eq0.false), omega arith)
