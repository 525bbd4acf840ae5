-- The minute must come, and both are judged. Assumes nothing.
use Prim.Native.Nat.{◌+◌, ◌*◌}
use native.Mathlib.Omega.{arith}
use mir.Syntax.{w16}
use Rattle.items.proofs.NumberOrTimeLaws.{handed_on}
use Rattle.items.proofs.NumberSettleLaws.{back}
use Rattle.items.proofs.TimeValueLaws.{offset_hour_lem, offset_minute_lem, offset_ends}
use Rattle.items.proofs.time_value.offset_minute.Goals as goal
use Rattle.items.proofs.time_value.offset_minute.Goals.{then-hour-gt23-via-then-hour-gt23, then-hour-gt23-via-else-hour-gt23+then-minute-gt59}

pub returns-in_err-minute : goal.returns-in_err-minute
returns-in_err-minute c = handed_on _ c.from_residual.ensures.1 (c.in_err-minute.ensures _ _)

pub returns-then-hour-gt23 : goal.returns-then-hour-gt23
returns-then-hour-gt23 c = elim c.then-hour-gt23.branch [
  | then-hour-gt23-via-then-hour-gt23 w ↦ offset_hour_lem _ _ _ c.args.m.clock _ _ _ _ c.in_ok-minute.ensures w.if-hour-gt23.true
  | then-hour-gt23-via-else-hour-gt23+then-minute-gt59 w ↦ offset_minute_lem _ _ _ c.args.m.clock _ _ _ _ c.in_ok-minute.ensures w.if-minute-gt59.true
]

pub returns : goal.returns
returns c = offset_ends _ _ _ c.args.m.clock _ _ _ _ c.in_ok-minute.ensures (omega arith) (omega arith) _
    (back w16 _ c.args.minus (c.args.hour * 60 + c.in_ok-minute.minute.value) (omega arith) c.minutes.ensures) _ c.offset_date_time.ensures
