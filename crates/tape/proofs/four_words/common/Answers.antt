-- `four_words::common`: by its tests. Assumes nothing.
use mathlib.Core.Logic.{inl, inr}
use Rattle.tape.proofs.ShapesLaws.{only_key, only_text, only_array, only_object, key_words, text_words, array_words, object_words}
use Rattle.tape.proofs.ShapesLaws.{common_finite, common_zero}
use Rattle.tape.proofs.four_words.common.Goals as goal

pub returns-in-25198 : goal.returns-in-25198
returns-in-25198 c = common_finite _ c.in-25198.is c.requires.mid_small

pub returns-in-31083 : goal.returns-in-31083
returns-in-31083 c = elim c.in-31083.is [
  | inl m ↦ common_zero _ (only_object _ _ _ _ m) (object_words _ m)
  | inr p ↦ elim p [
    | inl m ↦ common_zero _ (only_array _ _ _ _ m) (array_words _ m)
    | inr q ↦ elim q [
      | inl m ↦ common_zero _ (only_text _ _ _ _ m) (text_words _ m)
      | inr m ↦ common_zero _ (only_key _ _ _ _ m) (key_words _ m)
    ]
  ]
]
