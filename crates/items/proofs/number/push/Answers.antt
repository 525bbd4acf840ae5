-- A 0 is one more zero; another digit makes a new coefficient, or is too much. Assumes nothing.
use native.Mathlib.Omega.{arith}
use Rattle.items.proofs.NumberDigitLaws.{held_zero, held_big, held_over, held_past, held_fits}
use Rattle.items.proofs.NumberDigitLaws.{pushed_zero, pushed_large, pushed_over, pushed_past, pushed_fits}
use Rattle.items.proofs.number.push.Goals as goal

pub returns-then-b-eq48-clause-holds : goal.returns-then-b-eq48-clause-holds
returns-then-b-eq48-clause-holds c = λ m. held_zero m c.args.a.c c.args.a.over c.args.a.z c.args.b c.if-b-eq48.true

pub returns-then-b-eq48-clause-told : goal.returns-then-b-eq48-clause-told
returns-then-b-eq48-clause-told c = pushed_zero _ _ c.if-b-eq48.true

pub returns-then-a-clause-holds : goal.returns-then-a-clause-holds
returns-then-a-clause-holds c = λ m. held_big m c.args.a.c c.args.a.z c.args.b (omega arith)
    (omega arith) c.if-b-eq48.false c.args.a.over c.if-a.true

pub returns-then-a-clause-told : goal.returns-then-a-clause-told
returns-then-a-clause-told c = pushed_large _ _ c.if-b-eq48.false c.if-a.true

pub returns-in-Some-clause-holds : goal.returns-in-Some-clause-holds
returns-in-Some-clause-holds c = λ m h. held_fits m c.args.a.c c.args.a.z c.args.b c.requires.0.low c.requires.0.high c.if-b-eq48.false c.args.a.over
    c.if-a.false h _ c.in-Some.ensures

pub returns-in-Some-clause-told : goal.returns-in-Some-clause-told
returns-in-Some-clause-told c = pushed_fits _ _ c.if-b-eq48.false c.if-a.false _ c.in-Some.ensures c.requires.0.low c.requires.0.high (omega arith)

pub returns-in_default-clause-holds : goal.returns-in_default-clause-holds
returns-in_default-clause-holds c = λ m h. held_past m c.args.a.c c.args.a.z c.args.b c.requires.0.low c.requires.0.high c.if-b-eq48.false c.args.a.over
    c.if-a.false h _ c.in-Some.ensures c.if-v-d.false

pub returns-in_default-clause-told : goal.returns-in_default-clause-told
returns-in_default-clause-told c = pushed_past _ _ c.if-b-eq48.false c.if-a.false _ c.in-Some.ensures c.requires.0.low c.requires.0.high c.if-v-d.false

pub returns-in_default-2-clause-holds : goal.returns-in_default-2-clause-holds
returns-in_default-2-clause-holds c = λ m h. held_over m c.args.a.c c.args.a.z c.args.b c.requires.0.low c.requires.0.high c.if-b-eq48.false c.args.a.over
    c.if-a.false h c.in_default.ensures

pub returns-in_default-2-clause-told : goal.returns-in_default-2-clause-told
returns-in_default-2-clause-told c = pushed_over _ _ c.if-b-eq48.false c.if-a.false c.in_default.ensures
