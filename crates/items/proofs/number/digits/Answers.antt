use mathlib.Core.Path.{refl}
use native.Mathlib.Omega.{arith}
use Rattle.items.specs.Between.NumberOrTime.{Span, Edge}
use Rattle.items.proofs.NumberOrTimeLaws.{no_digit_there}
use Rattle.items.proofs.NumberDigitLaws.{loop_next}
use mathlib.Core.Path.{◌≡◌}
use lib.ListN.{length}
use Rattle.items.proofs.number.digits.Goals as goal

pub loop-i-init : goal.loop-i-init
loop-i-init c = (c.requires.zeros, λ m h. (m, Span.here, h))

pub returns-then-not-is_ascii_digit : goal.returns-then-not-is_ascii_digit
returns-then-not-is_ascii_digit c = record {
  low = omega arith;
  high = omega arith;
  edge = no_digit_there c.if-not-is_ascii_digit.ensures.cases;
  zeros = c.loop-i.invariant.0;
  holds = c.loop-i.invariant.1;
}

pub push-x-requires : goal.push-x-requires
push-x-requires c = let d = c.if-not-is_ascii_digit.ensures.cases in (omega arith, omega (arith, c.requires))

pub loop-i-preserved : goal.loop-i-preserved
loop-i-preserved c = (
  omega (arith, c.push-x.ensures.within),
  loop_next
      c.args.s.now c.args.from
      c.args.a c.loop-i.x c.push-x.result
      c.loop-i.i _ refl c.loop-i.invariant.1
      c.loop-i-test.true c.if-not-is_ascii_digit.ensures.cases.0 c.if-not-is_ascii_digit.ensures.cases.1 c.push-x.ensures.holds,
)

pub returns : goal.returns
returns c = record {
  low = omega arith;
  high = omega arith;
  edge = Edge.ends (omega arith);
  zeros = let e : length c.args.s.now ≡ c.loop-i.i = omega arith in rw e c.loop-i.invariant.0;
  holds = let e : length c.args.s.now ≡ c.loop-i.i = omega arith in rw e c.loop-i.invariant.1;
}
