use mathlib.Core.Path.{refl}
use mathlib.Core.Logic.{inl}
use native.Mathlib.Omega.{arith}
use Rattle.items.specs.Between.NumberOrTime.{Span, Edge}
use Rattle.items.proofs.NumberOrTimeLaws.{no_digit_there}
use Rattle.items.proofs.NumberDigitLaws.{rises_next}
use mathlib.Core.Path.{◌≡◌}
use lib.ListN.{length}
use Rattle.items.proofs.number.exp_digits.Goals as goal

pub loop-i-init : goal.loop-i-init
loop-i-init c = (omega arith, (0, Span.here, inl refl))

pub returns-then-not-is_ascii_digit : goal.returns-then-not-is_ascii_digit
returns-then-not-is_ascii_digit c = record {
  low = omega arith;
  high = omega arith;
  edge = no_digit_there c.if-not-is_ascii_digit.ensures.cases;
  small = c.loop-i.invariant.0;
  says = c.loop-i.invariant.1;
}

pub raise-e-requires : goal.raise-e-requires
raise-e-requires c = let d = c.if-not-is_ascii_digit.ensures.cases in (omega arith, omega arith)

pub loop-i-preserved : goal.loop-i-preserved
loop-i-preserved c = (
  c.raise-e.ensures.small,
  rises_next c.args.s.now
      c.args.from c.loop-i.e c.raise-e.result
      c.loop-i.i _ refl c.loop-i.invariant.1
      c.loop-i-test.true c.if-not-is_ascii_digit.ensures.cases.0 c.if-not-is_ascii_digit.ensures.cases.1 c.raise-e.ensures.capped,
)

pub returns : goal.returns
returns c = record {
  low = omega arith;
  high = omega arith;
  edge = Edge.ends (omega arith);
  small = c.loop-i.invariant.0;
  says = let e : length c.args.s.now ≡ c.loop-i.i = omega arith in rw e c.loop-i.invariant.1;
}
