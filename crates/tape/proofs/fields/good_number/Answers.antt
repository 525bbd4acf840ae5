-- `fields::good_number`: by cases. Assumes nothing.
use mathlib.Core.Logic.{inl, inr}
use Rattle.rules.specs.Between.Tests.{holds}
use Rattle.tape.proofs.fields.good_number.Goals as goal

pub returns-in-NotANumber : goal.returns-in-NotANumber
returns-in-NotANumber c = elim c.in-NotANumber.is [ inl e ↦ rw e (holds tt) | inr e ↦ rw e.1 (holds tt) ]
