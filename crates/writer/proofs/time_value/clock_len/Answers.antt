-- `time_value::clock_len`: as it is written. Assumes nothing.
use native.Mathlib.Omega.{arith}
use Rattle.meaning.proofs.Text.{clock_length}
use Rattle.writer.proofs.time_value.clock_len.Goals as goal

pub returns : goal.returns
returns c = (omega (arith, clock_length c.args.t), omega arith)
