-- `judging::leaf`: by cases. Assumes nothing.
use mathlib.Core.Path.{refl}
use mathlib.Core.Logic.{inl, inr}
use Rattle.tape.specs.Between.Turns.{leaf_of}
use Rattle.tape.proofs.judging.leaf.Goals as goal

pub returns-in-Null : goal.returns-in-Null
unfolding leaf_of
returns-in-Null c = elim c.in-Null.is [
  | inl e ↦ rw e refl
  | inr q ↦ elim q [ inl e ↦ rw e.1 refl | inr r ↦ elim r [ inl e ↦ rw e.1 refl | inr e ↦ rw e.1 refl ] ]
]

pub returns-in-Str : goal.returns-in-Str
unfolding leaf_of
returns-in-Str c = elim c.in-Str.is [ inl e ↦ rw e c.pass.ensures | inr e ↦ rw e c.pass.ensures ]

pub returns-in-Key : goal.returns-in-Key
unfolding leaf_of
returns-in-Key c = elim c.in-Key.is [ inl e ↦ rw e.2 refl | inr q ↦ elim q [ inl e ↦ rw e.2 refl | inr e ↦ rw e.2 refl ] ]
