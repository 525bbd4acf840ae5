-- `four_words::not_finite`: by cases. Assumes nothing.
use mathlib.Core.Path.{refl}
use native.Mathlib.Omega.{arith}
use borrow.Author.Tests.{ne_eqb}
use Rattle.tape.specs.Between.Shapes.{not_finite}
use Rattle.tape.proofs.four_words.not_finite.Goals as goal

pub returns-in-0 : goal.returns-in-0
unfolding not_finite
returns-in-0 c = rw c.in-0.is refl

pub returns-in-2 : goal.returns-in-2
unfolding not_finite
returns-in-2 c = rw c.in-2.is refl

pub returns-in_default : goal.returns-in_default
unfolding not_finite
returns-in_default c = simp (ne_eqb c.args.mid 0 (λ q. omega arith), ne_eqb c.args.mid 2 (λ q. omega arith))
