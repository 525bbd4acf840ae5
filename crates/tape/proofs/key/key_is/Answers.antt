-- `key::key_is`: its bytes, by its four numbers. Assumes nothing.
use mathlib.Core.Path.{◌∙◌, sym, ap}
use native.Mathlib.Omega.{arith}
use Rattle.meaning.specs.Once.{same}
use Rattle.tape.proofs.KeyLaws.{key_inside, key_cut, same_bytes}
use Rattle.tape.proofs.key.key_is.Goals as goal

pub overflow_add-end : goal.overflow_add-end
overflow_add-end c = omega (arith, key_inside c.requires.1 c.words_at-w.ensures)

pub slice_bounds-eq-end : goal.slice_bounds-eq-end
slice_bounds-eq-end c = omega (arith, key_inside c.requires.1 c.words_at-w.ensures)

pub returns : goal.returns
returns c = λ v k. c.eq.ensures ∙ same_bytes _ _ ∙ ap (same _) (sym (key_cut k c.words_at-w.ensures))
