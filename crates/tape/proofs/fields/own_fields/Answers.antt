-- `fields::own_fields`: by cases. Assumes nothing.
use mathlib.Core.Logic.{inl, inr}
use Rattle.rules.specs.Between.Tests.{holds}
use Rattle.tape.proofs.fields.own_fields.Goals as goal

pub returns-in-Null : goal.returns-in-Null
returns-in-Null c = elim c.in-Null.is [ inl e ↦ rw e (holds tt) | inr e ↦ rw e.1 (holds tt) ]

pub returns-in-Str : goal.returns-in-Str
returns-in-Str c = elim c.in-Str.is [ inl e ↦ rw e c.utf8_inside.ensures | inr e ↦ rw e c.utf8_inside.ensures ]

pub returns-in-Array : goal.returns-in-Array
returns-in-Array c = elim c.in-Array.is [ inl e ↦ rw e.1 c.ends.ensures | inr e ↦ rw e.1 c.ends.ensures ]
