use mathlib.Core.Path.{◌≡◌}
use native.Mathlib.Omega.{arith}
use lib.ListN.{length}
use Rattle.items.specs.Between.NumberOrTime.{Edge}
use Rattle.items.proofs.NumberOrTimeLaws.{no_digit_there}
use Rattle.items.proofs.TimeValueLaws.{nano_start, nano_room, nano_next, nano_kept, nano_says}
use Rattle.items.proofs.time_value.nano_digits.Goals as goal
use Rattle.items.proofs.time_value.nano_digits.Goals.{then-weight-gt0, else-weight-gt0}

pub loop-i-init : goal.loop-i-init
loop-i-init c = nano_start _ _ (omega arith)

pub returns-then-not-is_ascii_digit : goal.returns-then-not-is_ascii_digit
returns-then-not-is_ascii_digit c = nano_says _ _ _ _ _ c.loop-i.invariant (no_digit_there c.if-not-is_ascii_digit.ensures.cases)

pub overflow_mul-nanos : goal.overflow_mul-nanos
overflow_mul-nanos c = omega (arith, (nano_room _ _ _ _ _ c.loop-i.invariant c.if-not-is_ascii_digit.ensures.cases.1).1)

pub overflow_add-nanos : goal.overflow_add-nanos
overflow_add-nanos c = let r = nano_room _ _ _ _ _ c.loop-i.invariant c.if-not-is_ascii_digit.ensures.cases.1 in omega (arith, r.0, r.1)

pub loop-i-preserved : goal.loop-i-preserved
loop-i-preserved c =
    let d = c.if-not-is_ascii_digit.ensures.cases in
    elim c.if-weight-gt0.branch [
      | then-weight-gt0 w ↦ rw (w.nanos-is, w.weight-is) (nano_next _ _ _ _ _ c.loop-i.invariant c.loop-i-test.true d.0 d.1)
      | else-weight-gt0 w ↦ rw (w.nanos-is, w.weight-is) (nano_kept _ _ _ _ _ c.loop-i.invariant c.loop-i-test.true d.0 d.1 (omega arith))
    ]

pub returns : goal.returns
returns c = let e : length c.args.s.now ≡ c.loop-i.i = omega arith in
    rw e (nano_says _ _ _ _ _ c.loop-i.invariant (Edge.ends (omega arith)))
