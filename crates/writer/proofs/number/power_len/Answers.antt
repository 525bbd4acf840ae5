-- `number::power_len`: as it is written. Assumes nothing.
use mathlib.Core.Path.{sym, ap}
use native.Mathlib.Omega.{arith}
use lib.ListN.{length}
use Rattle.writer.proofs.PiecesLaws.{power_none, power_length}
use Rattle.writer.proofs.number.power_len.Goals as goal

pub returns-then-power-eq0 : goal.returns-then-power-eq0
returns-then-power-eq0 c = (sym (ap length (power_none _ c.ranges.power c.if-power-eq0.true)), omega arith)

pub returns : goal.returns
returns c = (omega (arith, power_length _ c.ranges.power c.if-power-eq0.false c.unsigned_abs.ensures.value), omega arith)
