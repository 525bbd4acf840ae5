-- Each answer by the tests that led to it. Assumes nothing.
use mathlib.Core.Logic.{inl, inr}
use Rattle.items.specs.Between.NumberOrTime.{Plainly}
use Rattle.items.proofs.number_or_time.plain.Goals as goal

pub returns-then-n-gt1 : goal.returns-then-n-gt1
returns-then-n-gt1 c = Plainly.nothing c.if-d-eq48.true c.if-n-gt1.true

pub returns : goal.returns
returns c = Plainly.number (λ e. elim c.else-d-eq48.either [ inl h ↦ h.1 | inr h ↦ absurd (h e) ])
