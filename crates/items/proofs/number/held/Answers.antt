-- 0 has no zeros at its end; any other number has those that are stripped. Assumes nothing.
use native.Mathlib.Omega.{arith}
use Rattle.items.proofs.NumberPlainLaws.{zeros_of}
use Rattle.items.proofs.number.held.Goals as goal

pub returns-clause-small : goal.returns-clause-small
returns-clause-small c = λ k h. zeros_of c.args.v c.stripped.result k (omega arith) c.stripped.ensures.holds h
