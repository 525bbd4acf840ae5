use mathlib.Core.Path.{◌≡◌, refl}
use mathlib.Core.Bool.{false}
use mathlib.Core.Logic.{inl, inr}
use native.Mathlib.Omega.{arith}
use lib.ListN.{length}
use Rattle.items.specs.Between.NumberOrTime.{Edge}
use Rattle.items.proofs.NumberOrTimeLaws.{no_digit_there}
use Rattle.items.proofs.NumberOrTimeLeadLaws.{among_start, among_next, among_room, among_says}
use Rattle.items.proofs.number_or_time.first_digits.Goals as goal
use Rattle.items.proofs.number_or_time.first_digits.Goals.{then-n-ge4-via-then-n-ge4, then-n-ge4-via-else-n-ge4+then-not-is_ascii_digit}

pub loop-at-init : goal.loop-at-init
loop-at-init c = among_start c.args.s.now c.args.q (record { c = 0; over = false; z = 0 })
    c.push-acc.result c.requires.within c.requires.digit refl c.push-acc.ensures.within (refl, inl refl)
    c.push-acc.ensures.holds

pub returns-then-n-ge4 : goal.returns-then-n-ge4
returns-then-n-ge4 c = among_says _ _ _ _ _ _ c.loop-at.invariant (elim c.then-n-ge4.branch [
  | then-n-ge4-via-then-n-ge4 w ↦ inl (omega (arith, c.loop-at.invariant.most))
  | then-n-ge4-via-else-n-ge4+then-not-is_ascii_digit w ↦ inr (no_digit_there w.if-not-is_ascii_digit.ensures.cases)
])

pub push-acc-requires-in-loop-at : goal.push-acc-requires-in-loop-at
push-acc-requires-in-loop-at c = let d = c.if-not-is_ascii_digit.ensures.cases in
    (omega arith, omega (arith, c.loop-at.invariant.zeros, c.loop-at.invariant.most))

pub overflow_mul-v : goal.overflow_mul-v
overflow_mul-v c = omega (arith, among_room c.loop-at.invariant (omega arith))

pub overflow_add-v : goal.overflow_add-v
overflow_add-v c = omega (arith, among_room c.loop-at.invariant (omega arith))

pub loop-at-preserved : goal.loop-at-preserved
loop-at-preserved c = let d = c.if-not-is_ascii_digit.ensures.cases in
    among_next c.args.s.now c.args.q c.loop-at.acc c.push-acc-in-loop-at.result c.loop-at.v c.loop-at.n
    c.loop-at.at c.loop-at.invariant (omega arith) c.loop-at-test.true d.0 d.1
    c.push-acc-in-loop-at.ensures.within c.push-acc-in-loop-at.ensures.holds

pub returns : goal.returns
returns c = let e : length c.args.s.now ≡ c.loop-at.at = omega arith in
    rw e (among_says _ _ _ _ _ _ c.loop-at.invariant (inr (Edge.ends (omega arith))))
