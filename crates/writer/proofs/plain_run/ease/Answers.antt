-- `plain_run::ease`: far from each of them. Assumes nothing.
use native.Mathlib.Omega.{arith}
use Rattle.writer.proofs.PlainRunLaws.{ease_of}
use Rattle.writer.proofs.plain_run.ease.Goals as goal

pub returns : goal.returns
returns c = ease_of _ _ (λ n. (omega arith, λ e. omega arith, λ e. omega arith))
