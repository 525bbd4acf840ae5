-- `byte_or_digit::decimal_at`: as many digits as the number has. Assumes nothing.
use mathlib.Core.Path.{sym, ap, ◌∙◌}
use Prim.Native.Nat.{ℕ}
use Rattle.meaning.specs.Canonical.{fixed}
use Rattle.writer.proofs.LaidLaws.{put_at_as}
use Rattle.writer.proofs.ByteOrDigitLaws.{decimal_fixed}
use Rattle.writer.proofs.byte_or_digit.decimal_at.Goals as goal

pub returns : goal.returns
returns c = put_at_as (ap (λ (k : ℕ). fixed k c.args.n) c.decimal_len.ensures.0 ∙ sym (decimal_fixed c.args.n)) c.digits_at.ensures
