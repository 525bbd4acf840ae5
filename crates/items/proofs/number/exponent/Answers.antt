-- The number ends, or an e goes on with a sign or with digits. Assumes nothing.
use native.Mathlib.Omega.{arith}
use Rattle.items.proofs.NumberDecimalLaws.{none_over, none_other, after_e}
use Rattle.items.proofs.number.exponent.Goals as goal
use Rattle.items.proofs.number.exponent.Goals.{then-at-s-via-then-at-s, then-at-s-via-else-at-s+then-not-matches, in-101, in_default}

pub returns-then-at-s : goal.returns-then-at-s
returns-then-at-s c = elim c.then-at-s.branch [
  | then-at-s-via-then-at-s w ↦ none_over _ _ _ _ _ _ _ w.if-at-s.true c.settle.ensures
  | then-at-s-via-else-at-s+then-not-matches w ↦ elim w.match-matches.branch [
    | in-101 x ↦ cc (w.if-not-matches.true, x.matches-is)
    | in_default x ↦ none_other _ _ _ _ _ _ _ (omega arith) c.requires.1 (λ e. grind arith) (λ e. grind arith) c.settle.ensures
  ]
]

pub returns : goal.returns
returns c = after_e _ _ _ _ _ _ _ (omega arith) (elim c.match-matches.branch [
  | in-101 w ↦ w.in-101.is
  | in_default w ↦ cc (c.if-not-matches.false, w.matches-is)
]) c.power.ensures
