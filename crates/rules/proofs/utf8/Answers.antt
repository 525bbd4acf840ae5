use mathlib.Core.Path.{refl}
use native.Mathlib.Omega.{arith}
use Rattle.std.proofs.lemmas.Result.{err_from_is_err_and}
use Rattle.rules.specs.Rfc3629.{ill}
use Rattle.rules.proofs.Runs.{passed_run, passed_char, char_room, char_ok, char_err}
use Rattle.rules.proofs.utf8.Goals as goal

pub returns-in_err-i : goal.returns-in_err-i
returns-in_err-i c = let p = err_from_is_err_and c.from_residual.result c.from_residual.ensures.1 in
    rw (p.1, p.2) (ill c.in_err-i.ensures refl)

pub loop-i-preserved-then-s-i-lt128 : goal.loop-i-preserved-then-s-i-lt128
loop-i-preserved-then-s-i-lt128 c = passed_run _ _ _ c.loop-i.invariant (omega arith) c.if-s-i-lt128.true c.ascii_bytes-i.ensures

pub returns-in_err-i-2 : goal.returns-in_err-i-2
returns-in_err-i-2 c = let p = err_from_is_err_and c.from_residual-in_err-i-2.result c.from_residual-in_err-i-2.ensures.1 in
    rw (p.1, p.2) (ill (char_err _ c.char_at.result c.loop-i.invariant (omega arith) c.char_at.ensures c.ok_or.ensures.value c.in_err-i-2.was) refl)

pub overflow_add-i-else-s-i-lt128 : goal.overflow_add-i-else-s-i-lt128
overflow_add-i-else-s-i-lt128 c = omega (arith, char_room (char_ok _ c.char_at.result c.char_at.ensures c.ok_or.ensures.value c.in_ok-i-2.was))

pub loop-i-preserved : goal.loop-i-preserved
loop-i-preserved c = passed_char _ _ _ c.loop-i.invariant (char_ok _ c.char_at.result c.char_at.ensures c.ok_or.ensures.value c.in_ok-i-2.was)
