-- `judging::turn_at`: by the mark. Assumes nothing.
use mathlib.Core.Path.{◌∙◌, sym}
use native.Mathlib.Omega.{arith}
use Rattle.tape.proofs.LookingLaws.{loaded_as}
use Rattle.tape.proofs.TurnsLaws.{past_all, key_turn, no_key, not_due, text_turn, number_turn, array_turn, object_turn, leaf_turn}
use Rattle.tape.proofs.judging.turn_at.Goals as goal

pub returns-then-index-whole : goal.returns-then-index-whole
returns-then-index-whole c = past_all c.args.tape.now c.args.store.now c.args.index
    c.args.rest c.args.at c.args.depth c.if-index-whole.true

pub text-requires : goal.text-requires
text-requires c = (
  loaded_as c.args.tape.now _ c.words_at-w.ensures
      (λ j. (c.type_inv.tape j).fits),
  c.requires,
)

pub returns-then-key_due : goal.returns-then-key_due
returns-then-key_due c = key_turn c.args.tape.now
    c.args.store.now
    c.args.index
    c.args.rest
    c.args.at
    c.args.depth
    (λ j. (c.type_inv.tape j).fits)
    (omega (arith, c.if-index-whole.false)) _ c.words_at-w.ensures
    (sym c.key_due.ensures ∙ c.if-key_due.true) c.if-w-eq-KY.true c.text.ensures

pub returns-else-key_due : goal.returns-else-key_due
returns-else-key_due c = no_key c.args.tape.now
    c.args.store.now c.args.index
    c.args.rest c.args.at
    c.args.depth (λ j.
    (c.type_inv.tape j).fits) (omega (arith, c.if-index-whole.false)) _
    c.words_at-w.ensures (sym c.key_due.ensures ∙ c.if-key_due.false) c.if-w-eq-KY.true

pub text-requires-in-29811 : goal.text-requires-in-29811
text-requires-in-29811 c = (
  loaded_as c.args.tape.now _
      c.words_at-w.ensures (λ j. (c.type_inv.tape
      j).fits),
  c.requires,
)

pub returns-in-29811 : goal.returns-in-29811
returns-in-29811 c = text_turn c.args.tape.now
    c.args.store.now
    c.args.index
    c.args.rest
    c.args.at
    c.args.depth
    (λ j. (c.type_inv.tape j).fits)
    (omega (arith, c.if-index-whole.false)) _ c.words_at-w.ensures
    (sym c.value_due.ensures ∙ c.if-not-value_due.false) c.in-29811.is c.text-in-29811.ensures

pub number-requires : goal.number-requires
number-requires c = loaded_as c.args.tape.now _
    c.words_at-w.ensures (λ j. (c.type_inv.tape j).fits)

pub returns-in-25198 : goal.returns-in-25198
returns-in-25198 c = number_turn c.args.tape.now
    c.args.store.now
    c.args.index
    c.args.rest
    c.args.at
    c.args.depth
    (λ j. (c.type_inv.tape j).fits)
    (omega (arith, c.if-index-whole.false)) _
    c.words_at-w.ensures (sym c.value_due.ensures
    ∙ c.if-not-value_due.false) c.in-25198.is c.number.ensures

pub overflow_mul-w : goal.overflow_mul-w
overflow_mul-w c = omega (
  arith,
  (loaded_as c.args.tape.now _
      c.words_at-w.ensures (λ j.
      (c.type_inv.tape j).fits)).mid_small,
)

pub overflow_add-w : goal.overflow_add-w
overflow_add-w c = omega (
  arith,
  (loaded_as c.args.tape.now _
      c.words_at-w.ensures (λ j.
      (c.type_inv.tape j).fits)).mid_small,
)

pub returns-in-29281 : goal.returns-in-29281
returns-in-29281 c = array_turn c.args.tape.now
    c.args.store.now
    c.args.index
    c.args.rest
    c.args.at
    c.args.depth
    (λ j. (c.type_inv.tape j).fits)
    (omega (arith, c.if-index-whole.false)) _
    c.words_at-w.ensures
    (sym c.value_due.ensures ∙ c.if-not-value_due.false) c.in-29281.is
    c.container.ensures

pub overflow_mul-w-in-25199 : goal.overflow_mul-w-in-25199
overflow_mul-w-in-25199 c = omega (
  arith,
  (loaded_as c.args.tape.now _
      c.words_at-w.ensures
      (λ j. (c.type_inv.tape j).fits)).mid_small,
)

pub overflow_add-w-in-25199 : goal.overflow_add-w-in-25199
overflow_add-w-in-25199 c = omega (
  arith,
  (loaded_as c.args.tape.now _
      c.words_at-w.ensures
      (λ j. (c.type_inv.tape j).fits)).mid_small,
)

pub overflow_add-w-in-25199-2 : goal.overflow_add-w-in-25199-2
overflow_add-w-in-25199-2 c = omega (
  arith,
  (loaded_as c.args.tape.now _
      c.words_at-w.ensures
      (λ j. (c.type_inv.tape j).fits)).mid_small,
)

pub returns-in-25199 : goal.returns-in-25199
returns-in-25199 c = object_turn c.args.tape.now
    c.args.store.now
    c.args.index
    c.args.rest
    c.args.at
    c.args.depth
    (λ j. (c.type_inv.tape j).fits)
    (omega (arith, c.if-index-whole.false)) _
    c.words_at-w.ensures
    (sym c.value_due.ensures ∙ c.if-not-value_due.false)
    c.in-25199.is c.container-in-25199.ensures

pub returns-in_default : goal.returns-in_default
returns-in_default c = leaf_turn c.args.tape.now
    c.args.store.now
    c.args.index
    c.args.rest
    c.args.at
    c.args.depth
    (λ j. (c.type_inv.tape j).fits)
    (omega (arith, c.if-index-whole.false)) _
    c.words_at-w.ensures
    (sym c.value_due.ensures ∙ c.if-not-value_due.false)
    c.if-w-eq-KY.false (λ q. omega arith) (λ q. omega arith) c.any_leaf-t.ensures

pub returns-then-not-value_due : goal.returns-then-not-value_due
returns-then-not-value_due c = not_due c.args.tape.now
    c.args.store.now c.args.index
    c.args.rest c.args.at
    c.args.depth (λ j.
    (c.type_inv.tape j).fits) (omega (arith, c.if-index-whole.false)) _
    c.words_at-w.ensures (sym c.value_due.ensures ∙ c.if-not-value_due.true) c.if-w-eq-KY.false
