-- `time_value::clock_at`: one piece after the other. Assumes nothing.
use mathlib.Core.Path.{sym}
use native.Mathlib.Omega.{arith}
use Rattle.meaning.proofs.Digits.{fixed_length}
use Rattle.meaning.proofs.Text.{clock_length}
use Rattle.writer.proofs.LaidLaws.{put_at_as, put_next}
use Rattle.writer.proofs.PiecesLaws.{clock_parts}
use Rattle.writer.proofs.time_value.clock_at.Goals as goal

pub digits_at-minute-requires : goal.digits_at-minute-requires
digits_at-minute-requires c = omega (arith, clock_length c.args.t)

pub two_after-second-requires : goal.two_after-second-requires
two_after-second-requires c = omega (arith, clock_length c.args.t, fixed_length)

pub two_after-fraction-requires : goal.two_after-fraction-requires
two_after-fraction-requires c = omega (arith, clock_length c.args.t, fixed_length)

pub fraction_at-requires : goal.fraction_at-requires
fraction_at-requires c = omega (arith, clock_length c.args.t, fixed_length)

pub returns : goal.returns
returns c =
    put_at_as (sym (clock_parts c.args.t))
    (put_next (omega arith) (put_next (omega arith) (put_next (omega arith) c.digits_at-minute.ensures c.two_after-second.ensures) c.two_after-fraction.ensures)
    c.fraction_at.ensures)
