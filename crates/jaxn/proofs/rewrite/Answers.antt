-- `rewrite`: what `read` refuses is handed on; what it fills is written. Assumes nothing.
use native.Mathlib.Omega.{arith}
use Rattle.std.proofs.lemmas.Result.{err_from_is_err_and}
use Rattle.jaxn.proofs.StepsLaws.{not_read, rewritten}
use Rattle.jaxn.proofs.rewrite.Goals as goal

pub returns-in_err-records : goal.returns-in_err-records
returns-in_err-records c = let p = err_from_is_err_and c.from_residual.result c.from_residual.ensures.1 in
    rw (p.1, p.2) (not_read c.read.ensures c.in_err-records.was (omega arith) (omega arith) (omega arith))

pub returns : goal.returns
returns c = rewritten c.read.ensures c.in_ok-records.was c.write_jaxn.ensures (omega arith) (omega arith) (omega arith)
