-- `judging::counted`: by its tests. Assumes nothing.
use mathlib.Core.Path.{◌≡◌}
use native.Mathlib.Omega.{arith}
use Rattle.tape.specs.Between.Turns.{none, counted}
use borrow.Author.Tests.{eq-eqb, ne_eqb}
use Rattle.tape.proofs.judging.counted.Goals as goal

pub returns-then-rest-eq-NONE : goal.returns-then-rest-eq-NONE
unfolding counted
returns-then-rest-eq-NONE c = let e : c.args.rest ≡ none = omega arith in simp (eq-eqb _ _ e)

pub returns-else-rest-eq-NONE : goal.returns-else-rest-eq-NONE
unfolding counted
returns-else-rest-eq-NONE c = let n : c.args.rest ≡ none → ⊥ = λ e. omega arith in simp (ne_eqb _ _ n)
