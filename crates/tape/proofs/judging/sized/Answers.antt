-- `judging::sized`: by its tests. Assumes nothing.
use mathlib.Core.Logic.{inl, inr}
use native.Mathlib.Omega.{arith}
use Rattle.std.proofs.Common.{rules}
use Rattle.rules.proofs.TestsLaws.{decides_as, at_most_test}
use Rattle.tape.proofs.TurnsLaws.{false_test}
use Rattle.tape.proofs.judging.sized.Goals as goal

pub returns-then-n-le-RECORD_LIMIT : goal.returns-then-n-le-RECORD_LIMIT
returns-then-n-le-RECORD_LIMIT c = decides_as (λ h. record { whole = c.if-n-le-RECORD_LIMIT.true.0; few = c.if-n-le-RECORD_LIMIT.true.1; short = h })
    (λ z. z.short)
    (at_most_test _ _)

pub returns-else-n-le-RECORD_LIMIT : goal.returns-else-n-le-RECORD_LIMIT
returns-else-n-le-RECORD_LIMIT c = false_test (search rules) (λ z. elim c.if-n-le-RECORD_LIMIT.either [ inl e ↦ omega (arith, e.1, z.few) | inr e ↦ e z.whole ])
