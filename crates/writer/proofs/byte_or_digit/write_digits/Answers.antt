use native.Mathlib.Omega.{arith}
use Rattle.writer.proofs.LaidLaws.{put_whole}
use Rattle.writer.proofs.ByteOrDigitLaws.{fill_four, whole_under}
use Rattle.writer.proofs.byte_or_digit.write_digits.Goals as goal

pub loop-i-preserved : goal.loop-i-preserved
loop-i-preserved c = fill_four _ _ _ _ c.loop-i.invariant (omega (arith, c.loop-i-test.true)) (omega (arith, c.requires))

pub returns : goal.returns
returns c = put_whole (whole_under _ _ _ c.loop-i.invariant c.few_digits.ensures
    c.requires)
