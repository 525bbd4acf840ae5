-- `plain_run::is_plain`: by its test. Assumes nothing.
use native.Mathlib.Omega.{arith}
use Rattle.writer.proofs.PiecesLaws.{plain_by}
use Rattle.writer.proofs.plain_run.is_plain.Goals as goal

pub returns-in-34 : goal.returns-in-34
returns-in-34 c = λ h. c.in-34.is

pub returns-in_default : goal.returns-in_default
returns-in_default c = plain_by _ (λ e. grind arith) (λ e. grind arith)
