use mathlib.Core.Logic.{inl}
use mathlib.Core.Path.{refl}
use native.Mathlib.Omega.{arith}
use Rattle.std.proofs.lemmas.Result.{err_from_is_err_and}
use Rattle.reader.proofs.AnswersLaws.{read_few, read_short, read_tape_short, read_store_short, read_refused, read_walked}
use Rattle.reader.proofs.read.Goals as goal

pub returns-in_err-need : goal.returns-in_err-need
returns-in_err-need c = let p = err_from_is_err_and c.from_residual.result c.from_residual.ensures.1 in
    rw (p.1, p.2) (read_refused c.args.text.now c.args.tape.now c.args.store.now _ c.in_err-need.ensures)

pub overflow_mul-need : goal.overflow_mul-need
overflow_mul-need c = let m = c.in_ok-need.ensures in
    omega (arith, read_few c.args.text.now c.args.tape.now c.args.store.now _ _ m, read_short c.args.text.now c.args.tape.now c.args.store.now _ _ m)

pub overflow_mul-result : goal.overflow_mul-result
overflow_mul-result c = let m = c.in_ok-need.ensures in
    omega (arith, read_few c.args.text.now c.args.tape.now c.args.store.now _ _ m, read_short c.args.text.now c.args.tape.now c.args.store.now _ _ m)

pub returns-then-tape-need : goal.returns-then-tape-need
returns-then-tape-need c = read_tape_short c.args.text.now c.args.tape.now c.args.store.now _ _ c.in_ok-need.ensures
    (omega (arith, c.if-tape-need.true))

pub returns-then-store-need : goal.returns-then-store-need
returns-then-store-need c = read_store_short c.args.text.now c.args.tape.now c.args.store.now _ _ c.in_ok-need.ensures
    (omega (arith, c.if-tape-need.false)) (omega (arith, c.if-store-need.true))

pub walk-requires : goal.walk-requires
walk-requires c = (read_short c.args.text.now c.args.tape.now c.args.store.now _ _ c.in_ok-need.ensures, inl refl)

pub returns : goal.returns
returns c = read_walked c.args.text.now c.args.tape.now c.args.store.now _ _ c.in_ok-need.ensures c.walk.new.tape
    c.walk.new.store c.walk.result (omega (arith, c.if-tape-need.false))
    (omega (arith, c.if-store-need.false)) _ _ c.walk.ensures
