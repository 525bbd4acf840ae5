use native.Mathlib.Omega.{arith}
use Rattle.std.proofs.lemmas.Result.{err_from_is_err_and}
use Rattle.rules.proofs.Runs.{passed_none, passed_char, char_ok, char_err}
use Rattle.rules.proofs.Opens.{settled_none, settled_char}
use Rattle.rules.proofs.blocks.begun.Goals as goal

pub loop-i-init : goal.loop-i-init
loop-i-init c = (passed_none _, settled_none _)

pub returns-in_err-i : goal.returns-in_err-i
returns-in_err-i c = let p = err_from_is_err_and c.from_residual.result c.from_residual.ensures.1 in
    rw (p.1, p.2) (char_err _ c.char_at.result c.loop-i.invariant.0 (omega arith) c.char_at.ensures c.ok_or.ensures.value c.in_err-i.was)

pub loop-i-preserved : goal.loop-i-preserved
loop-i-preserved c = let x = char_ok _ c.char_at.result c.char_at.ensures c.ok_or.ensures.value c.in_ok-i.was in
    (passed_char _ _ _ c.loop-i.invariant.0 x, settled_char _ _ _ c.loop-i.invariant.1 x)
