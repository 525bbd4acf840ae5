use mathlib.Core.Path.{refl, sym, ◌∙◌}
use native.Mathlib.Omega.{arith}
use Rattle.meaning.specs.Limits.{depth_limit}
use Rattle.meaning.proofs.Sizes.{depth_limit_small}
use Rattle.tape.proofs.TurnsLaws.{passed, opened}
use Rattle.tape.proofs.JudgingStateLaws.{state_start, state_pop, state_wrong, state_two, state_pass, state_opened, open_room, pass_is, open_is}
use Rattle.tape.proofs.JudgingStateLaws.{answer_ill, answer_no}
use Rattle.tape.proofs.JudgingStateLaws.{answer_ended}
use Rattle.tape.proofs.judging.records.Goals as goal

pub loop-i-init : goal.loop-i-init
unfolding depth_limit
loop-i-init c = rw c.requires.1 (state_start _ _ c.requires.0.few refl refl)

pub returns-in-None : goal.returns-in-None
returns-in-None c = answer_no c.loop-i.invariant c.requires.0
    c.if-i-end.true c.turn_at.ensures c.in-None.is

pub overflow_sub-rest : goal.overflow_sub-rest
overflow_sub-rest c = omega (
  arith,
  (let p = passed c.turn_at.ensures c.in-Some-Pass.is c.in-Some-Pass.field-0-is in
      state_two c.loop-i.invariant c.if-i-end.true p.r p.there pass_is p.turned),
)

pub loop-i-preserved-in-Some-Pass : goal.loop-i-preserved-in-Some-Pass
loop-i-preserved-in-Some-Pass c = let p = passed c.turn_at.ensures c.in-Some-Pass.is c.in-Some-Pass.field-0-is in
    state_pass c.loop-i.invariant c.if-i-end.true p.r p.there _ p.turned

pub offset_bounds-ends-depth : goal.offset_bounds-ends-depth
offset_bounds-ends-depth c = omega (
  arith,
  (let p = opened c.turn_at.ensures c.in-Some-Open.is c.in-Some-Open.field-0-is in
      open_room c.loop-i.invariant c.if-i-end.true p.r p.there _ _ p.turned),
  depth_limit_small,
)

pub bounds-ends-depth : goal.bounds-ends-depth
unfolding depth_limit
bounds-ends-depth c = omega (
  arith,
  (let p = opened c.turn_at.ensures c.in-Some-Open.is c.in-Some-Open.field-0-is in
      open_room c.loop-i.invariant c.if-i-end.true p.r p.there _ _ p.turned),
)

pub overflow_sub-rests : goal.overflow_sub-rests
overflow_sub-rests c = omega (
  arith,
  (let p = opened c.turn_at.ensures c.in-Some-Open.is c.in-Some-Open.field-0-is in
      state_two c.loop-i.invariant c.if-i-end.true p.r p.there open_is p.turned),
)

pub offset_bounds-rests-depth : goal.offset_bounds-rests-depth
offset_bounds-rests-depth c = omega (
  arith,
  (let p = opened c.turn_at.ensures c.in-Some-Open.is c.in-Some-Open.field-0-is in
      open_room c.loop-i.invariant c.if-i-end.true p.r p.there _ _ p.turned),
  depth_limit_small,
)

pub bounds-rests-depth : goal.bounds-rests-depth
unfolding depth_limit
bounds-rests-depth c = omega (
  arith,
  (let p = opened c.turn_at.ensures c.in-Some-Open.is c.in-Some-Open.field-0-is in
      open_room c.loop-i.invariant c.if-i-end.true p.r p.there _ _ p.turned),
)

pub overflow_add-depth : goal.overflow_add-depth
overflow_add-depth c = omega (
  arith,
  (let p = opened c.turn_at.ensures c.in-Some-Open.is c.in-Some-Open.field-0-is in
      open_room c.loop-i.invariant c.if-i-end.true p.r p.there _ _ p.turned),
  depth_limit_small,
)

pub loop-i-preserved-in-Some-Open : goal.loop-i-preserved-in-Some-Open
loop-i-preserved-in-Some-Open c = let p = opened c.turn_at.ensures c.in-Some-Open.is c.in-Some-Open.field-0-is in
    state_opened c.loop-i.invariant c.if-i-end.true p.r p.there _ _ p.turned

pub returns-then-depth-eq0 : goal.returns-then-depth-eq0
returns-then-depth-eq0 c = rw c.ended.ensures (answer_ended c.loop-i.invariant c.requires.0
    (λ j. (c.type_inv.tape j).fits)
    (λ j. (c.type_inv.store j).fits) c.if-i-end.false c.if-depth-eq0.true)

pub offset_bounds-ends-depth-then-counted : goal.offset_bounds-ends-depth-then-counted
offset_bounds-ends-depth-then-counted c = omega (arith, depth_limit_small, c.loop-i.invariant.deepest)

pub bounds-ends-depth-then-counted : goal.bounds-ends-depth-then-counted
unfolding depth_limit
bounds-ends-depth-then-counted c = omega (arith, c.if-depth-eq0.false, c.loop-i.invariant.deepest)

pub offset_bounds-rests-depth-then-counted : goal.offset_bounds-rests-depth-then-counted
offset_bounds-rests-depth-then-counted c = omega (arith, depth_limit_small, c.loop-i.invariant.deepest)

pub bounds-rests-depth-then-counted : goal.bounds-rests-depth-then-counted
unfolding depth_limit
bounds-rests-depth-then-counted c = omega (arith, c.if-depth-eq0.false, c.loop-i.invariant.deepest)

pub loop-i-preserved : goal.loop-i-preserved
loop-i-preserved c = state_pop c.loop-i.invariant c.if-i-end.false c.if-depth-eq0.false
    (sym c.counted.ensures ∙ c.if-counted.true)

pub returns-else-counted : goal.returns-else-counted
returns-else-counted c = answer_ill c.loop-i.invariant c.requires.0
    (state_wrong c.loop-i.invariant c.if-i-end.false c.if-depth-eq0.false
    (sym c.counted.ensures ∙ c.if-counted.false))
