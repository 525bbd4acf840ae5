-- `time_value::date_at`: one piece after the other. Assumes nothing.
use mathlib.Core.Path.{sym}
use native.Mathlib.Omega.{arith}
use Rattle.meaning.proofs.Digits.{fixed_length}
use Rattle.meaning.proofs.Text.{date_length}
use Rattle.writer.proofs.LaidLaws.{put_at_as, put_next}
use Rattle.writer.proofs.PiecesLaws.{date_parts}
use Rattle.writer.proofs.time_value.date_at.Goals as goal

pub digits_at-month-requires : goal.digits_at-month-requires
digits_at-month-requires c = omega (arith, date_length c.args.d)

pub two_after-day-requires : goal.two_after-day-requires
two_after-day-requires c = omega (arith, date_length c.args.d, fixed_length)

pub two_after-requires : goal.two_after-requires
two_after-requires c = omega (arith, date_length c.args.d, fixed_length)

pub returns : goal.returns
returns c =
    let h = date_length c.args.d in
    put_at_as (sym (date_parts c.args.d)) (put_next (omega arith) (put_next (omega arith) c.digits_at-month.ensures c.two_after-day.ensures)
    c.two_after.ensures)
