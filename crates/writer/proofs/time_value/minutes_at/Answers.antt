-- `time_value::minutes_at`: one piece after the other. Assumes nothing.
use mathlib.Core.Path.{sym}
use native.Mathlib.Omega.{arith}
use Rattle.meaning.proofs.Digits.{fixed_length}
use Rattle.writer.proofs.LaidLaws.{put_at_as, put_next}
use Rattle.writer.proofs.PiecesLaws.{minutes_length, minutes_parts}
use Rattle.writer.proofs.time_value.minutes_at.Goals as goal

pub digits_at-minute-requires : goal.digits_at-minute-requires
digits_at-minute-requires c = omega (arith, minutes_length c.args.n)

pub two_after-requires : goal.two_after-requires
two_after-requires c = omega (arith, minutes_length c.args.n, fixed_length)

pub returns : goal.returns
returns c = put_at_as (sym (minutes_parts c.args.n)) (put_next (omega arith) c.digits_at-minute.ensures c.two_after.ensures)
