-- `byte_or_digit::decimal_len`: by the length in bits. Assumes nothing.
use native.Mathlib.Omega.{arith}
use Rattle.writer.proofs.ByteOrDigitLaws.{size_by_bits}
use Rattle.writer.proofs.byte_or_digit.decimal_len.Goals as goal

pub returns : goal.returns
returns c = size_by_bits c.args.n _ _ (omega (arith, c.ranges)) c.power.ensures c.reaches.ensures
