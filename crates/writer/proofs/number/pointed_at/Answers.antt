-- `number::pointed_at`: by how many digits stand before the point. Assumes nothing.
use mathlib.Core.Path.{sym}
use Prim.Native.Nat.{◌-◌, ◌/◌}
use native.Mathlib.Omega.{arith}
use Rattle.meaning.proofs.Digits.{fixed_length}
use Rattle.writer.proofs.LaidLaws.{put_at_as, put_next}
use Rattle.writer.proofs.ByteOrDigitLaws.{power_some}
use Rattle.writer.proofs.NumberFormLaws.{pointed_few, pointed_more, few_length, more_length}
use Rattle.writer.proofs.number.pointed_at.Goals as goal

pub bytes_at-first-requires : goal.bytes_at-first-requires
bytes_at-first-requires c = omega (
  arith,
  c.requires.3,
  few_length _ _ c.requires.0 c.if-d-n.true,
  c.requires.1,
)

pub digits_at-requires : goal.digits_at-requires
digits_at-requires c = omega (
  arith,
  c.requires.3,
  few_length _ _ c.requires.0 c.if-d-n.true,
  c.bytes_at-first.ensures.next,
  c.bytes_at-first.auto.out,
)

pub returns-then-d-n : goal.returns-then-d-n
returns-then-d-n c = put_at_as (sym (pointed_few _ _ c.requires.0
    c.if-d-n.true))
    (put_next (omega (arith, c.requires.3))
    c.bytes_at-first.ensures c.digits_at.ensures)

pub nonzero_div-c : goal.nonzero_div-c
nonzero_div-c c = power_some c.power.ensures c.requires.1

pub digits_at-point-requires : goal.digits_at-point-requires
digits_at-point-requires c = omega (
  arith,
  c.requires.3,
  more_length _ _ c.requires.0 c.if-d-n.false,
)

pub byte_at-first-requires : goal.byte_at-first-requires
byte_at-first-requires c = omega (
  arith,
  c.requires.3,
  more_length _ _ c.requires.0 c.if-d-n.false,
  c.digits_at-point.ensures.next,
  c.digits_at-point.auto.out,
  fixed_length (c.args.d -
      c.args.n) (c.args.c /
      c.power.result),
  c.requires.1,
)

pub digits_at-requires-2 : goal.digits_at-requires-2
digits_at-requires-2 c = omega (
  arith,
  c.requires.3,
  more_length _ _ c.requires.0
      c.if-d-n.false,
  c.digits_at-point.ensures.next,
  c.digits_at-point.auto.out,
  fixed_length (c.args.d -
      c.args.n)
      (c.args.c /
      c.power.result),
  c.byte_at-first.ensures.next,
  c.byte_at-first.auto.out,
)

pub returns : goal.returns
returns c = put_at_as (sym (pointed_more _ _ c.requires.0 c.power.ensures
    c.requires.1
    c.if-d-n.false))
    (put_next (omega (arith, c.requires.3))
    (put_next (omega (arith, c.requires.3))
    c.digits_at-point.ensures
    c.byte_at-first.ensures) c.digits_at-2.ensures)
