-- Assumes nothing.
use native.Mathlib.Omega.{arith}
use Rattle.items.specs.Between.BinaryPart.{PairSays}
use Rattle.items.proofs.PlacesLaws.{passed_at}
use Rattle.items.proofs.BinaryPartLaws.{pair_dot, pair_wrong, pair_digit, pair_end}
use Rattle.items.proofs.binary_part.after_pair.Goals as goal
use Rattle.items.proofs.binary_part.after_pair.Goals.{else-at-text-via-then-at-text+else-text-at-eq46, else-at-text-via-else-at-text}

pub returns-in_err-hex_at : goal.returns-in_err-hex_at
returns-in_err-hex_at c = let e = c.in_err-hex_at.ensures in
    passed_at (PairSays c.args.text.now c.args.at) c.from_residual.result c.from_residual.ensures.1 e.1
    (pair_wrong _ _ c.if-at-text.true c.if-text-at-eq46.true e.0)

pub returns-then-text-at-eq46 : goal.returns-then-text-at-eq46
returns-then-text-at-eq46 c = let e = c.in_ok-hex_at.ensures in pair_dot _ _ c.if-at-text.true c.if-text-at-eq46.true (omega arith)

pub returns-in-Some : goal.returns-in-Some
returns-in-Some c = pair_digit _ _ (λ h. elim c.else-at-text.branch [
  | else-at-text-via-then-at-text+else-text-at-eq46 w ↦ w.if-text-at-eq46.false
  | else-at-text-via-else-at-text w ↦ absurd (omega arith)
]) (omega (arith, c.in-Some.ensures))

pub returns-in-None : goal.returns-in-None
returns-in-None c = pair_end _ _ (λ h. elim c.else-at-text.branch [
  | else-at-text-via-then-at-text+else-text-at-eq46 w ↦ w.if-text-at-eq46.false
  | else-at-text-via-else-at-text w ↦ absurd (omega arith)
]) c.in-None.ensures
