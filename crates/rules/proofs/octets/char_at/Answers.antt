-- No character stands where none begins with the byte, or none of as many bytes stands. Assumes nothing.
use native.Mathlib.Omega.{arith}
use Rattle.std.proofs.Common.{rules, tests}
use Rattle.std.proofs.lemmas.Grind.{common_steps}
use Rattle.std.proofs.lemmas.Bool.Decides.{nat_tests}
use Rattle.std.proofs.lemmas.Iterator.{cases_from_all, YieldsList-from_slice}
use Rattle.rules.specs.Rfc3629.{Tail}
use Rattle.rules.proofs.Places.{led, led_one, no_lead, no_wide_lead, ascii_char}
use Rattle.rules.proofs.Decided.{by_tails, all_tails}
use Rattle.rules.proofs.octets.char_at.Goals as goal
use Rattle.rules.proofs.octets.char_at.Goals.{then-s-at-via-then-s-at, then-s-at-via-else-s-at+then-not-contains}

pub returns-in_err-n : goal.returns-in_err-n
returns-in_err-n c = rw c.from_residual.ensures (no_lead _ _ c.in_err-n.ensures)

pub returns-then-n-eq1 : goal.returns-then-n-eq1
returns-then-n-eq1 c = rw c.if-n-eq1.true (ascii_char _ _ (omega arith) (led_one c.in_ok-n.ensures c.if-n-eq1.true))

pub returns-then-s-at : goal.returns-then-s-at
returns-then-s-at c = no_wide_lead _ _ _ c.in_ok-n.ensures c.if-n-eq1.false (λ x. elim c.then-s-at.branch [
  | then-s-at-via-then-s-at w ↦ omega arith
  | then-s-at-via-else-s-at+then-not-contains w ↦ grind (arith, common_steps, nat_tests, w.contains.ensures.value)
])

pub returns : goal.returns
returns c = let z = led c.in_ok-n.ensures c.if-n-eq1.false in
    rw c.then_some.ensures (by_tails _ _ _ _ c.in_ok-n.ensures c.if-n-eq1.false (omega arith)
    (grind (arith, common_steps, nat_tests, c.if-not-contains.ensures.value))
    (grind (arith, common_steps, nat_tests, c.if-not-contains.ensures.value))
    (all_tails _ _ _ z.0 z.1 (omega arith) _
    (cases_from_all _ _ _ Tail (λ b. Tail b → ⊥) c.all-tails.ensures.ran (YieldsList-from_slice _ cc)
    (λ x q k. search (rules, tests)) (λ x q k. search (rules, tests)))))
