-- `byte_or_digit::few_digits`: two at once, then the one that is left. Assumes nothing.
use native.Mathlib.Omega.{arith}
use Rattle.writer.proofs.ByteOrDigitLaws.{whole_begin, fill_two, whole_under}
use Rattle.writer.proofs.byte_or_digit.few_digits.Goals as goal

pub returns : goal.returns
returns c = whole_under _ _ _ (fill_two _ _ _ _ (whole_begin _ _ _) c.if-w-lt2.false
    (omega (arith, c.requires.1))) c.one_digit-2.ensures
    c.requires.1
