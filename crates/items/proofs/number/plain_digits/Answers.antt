use mathlib.Core.Path.{refl}
use mathlib.Core.Logic.{inl, inr}
use native.Mathlib.Omega.{arith}
use Rattle.items.specs.Between.NumberOrTime.{Edge, Span}
use Rattle.items.proofs.NumberOrTimeLaws.{no_digit_there}
use Rattle.items.proofs.NumberPlainLaws.{span_more}
use mathlib.Core.Path.{◌≡◌}
use lib.ListN.{length}
use Rattle.items.proofs.number.plain_digits.Goals as goal
use Rattle.items.proofs.number.plain_digits.Goals.{then-not-is_ascii_digit-via-then-not-is_ascii_digit}
use Rattle.items.proofs.number.plain_digits.Goals.{then-not-is_ascii_digit-via-else-not-is_ascii_digit+then-v-gt-SURE}

pub loop-i-init : goal.loop-i-init
loop-i-init c = Span.here

pub returns-then-not-is_ascii_digit : goal.returns-then-not-is_ascii_digit
returns-then-not-is_ascii_digit c = record {
  low = omega arith;
  high = omega arith;
  span = c.loop-i.invariant;
  stop = elim c.then-not-is_ascii_digit.branch [
    | then-not-is_ascii_digit-via-then-not-is_ascii_digit w ↦ inl (no_digit_there w.if-not-is_ascii_digit.ensures.cases)
    | then-not-is_ascii_digit-via-else-not-is_ascii_digit+then-v-gt-SURE w ↦ inr w.if-v-gt-SURE.true
  ];
}

pub loop-i-preserved : goal.loop-i-preserved
loop-i-preserved c = span_more _ _ _ _ _ _ _ refl c.loop-i.invariant c.loop-i-test.true
    c.if-not-is_ascii_digit.ensures.cases.0 c.if-not-is_ascii_digit.ensures.cases.1 (omega arith)

pub returns : goal.returns
returns c = record {
  low = omega arith;
  high = omega arith;
  span = let e : length c.args.s.now ≡ c.loop-i.i = omega arith in rw e c.loop-i.invariant;
  stop = inl (Edge.ends (omega arith));
}
