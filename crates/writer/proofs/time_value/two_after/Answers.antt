-- `time_value::two_after`: one piece after the other. Assumes nothing.
use native.Mathlib.Omega.{arith}
use Rattle.writer.proofs.LaidLaws.{put_next}
use Rattle.writer.proofs.time_value.two_after.Goals as goal

pub returns : goal.returns
returns c = put_next (omega (arith, c.requires)) c.byte_at-first.ensures c.digits_at.ensures
