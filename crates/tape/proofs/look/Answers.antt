-- `look`: 14, then the shape, then the fields. Assumes nothing.
use native.Mathlib.Omega.{arith}
use Rattle.tape.proofs.LookingLaws.{look_found, look_none, look_fault}
use Rattle.tape.proofs.look.Goals as goal

pub returns-in-Some : goal.returns-in-Some
returns-in-Some c = look_found c.args.tape.now
    c.args.store.now
    c.args.index
    (λ j. (c.type_inv.tape j).fits)
    (omega (arith, c.if-index-whole.false)) c.in-Some.ensures c.if-own_fields.ensures

pub returns-in_default : goal.returns-in_default
returns-in_default c = look_fault c.args.tape.now
    c.args.store.now
    c.args.index
    (λ j. (c.type_inv.tape j).fits)
    (omega (arith, c.if-index-whole.false)) c.in-Some.ensures c.if-own_fields.ensures

pub returns-in_default-2 : goal.returns-in_default-2
returns-in_default-2 c = look_none c.args.tape.now
    c.args.store.now
    c.args.index
    (λ j. (c.type_inv.tape j).fits) (omega (arith, c.if-index-whole.false)) c.in_default.ensures
