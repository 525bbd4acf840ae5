-- `byte_or_digit::one_digit`: one, or none. Assumes nothing.
use native.Mathlib.Omega.{arith}
use Rattle.writer.proofs.ByteOrDigitLaws.{none_put, one_put}
use Rattle.writer.proofs.byte_or_digit.one_digit.Goals as goal

pub returns-then-w-eq0 : goal.returns-then-w-eq0
returns-then-w-eq0 c = none_put _ _ _ c.if-w-eq0.true

pub returns : goal.returns
returns c = one_put _ _ _ (omega (arith, c.requires.0, c.if-w-eq0.false)) (omega (arith, c.requires.1, c.if-w-eq0.false))
