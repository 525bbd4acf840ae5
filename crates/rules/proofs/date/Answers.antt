-- A day outside the month's days is no date; the other answers are found. Assumes nothing.
use native.Mathlib.Omega.{arith}
use Rattle.rules.proofs.Months.{no_day}
use Rattle.rules.proofs.date.Goals as goal

pub returns-in_default : goal.returns-in_default
returns-in_default c = no_day _ _ _ _ c.in-Some.ensures (λ d. omega arith)
