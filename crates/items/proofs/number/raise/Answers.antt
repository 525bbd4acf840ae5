-- Exact below a thousand million, and above it no matter. Assumes nothing.
use native.Mathlib.Omega.{arith}
use Rattle.items.proofs.NumberDigitLaws.{raised_low, raised_high}
use Rattle.items.proofs.number.raise.Goals as goal

pub returns-then-e-lt-EXACT-clause-told : goal.returns-then-e-lt-EXACT-clause-told
returns-then-e-lt-EXACT-clause-told c = raised_low c.args.e c.args.b c.if-e-lt-EXACT.true

pub returns-clause-told : goal.returns-clause-told
returns-clause-told c = raised_high c.args.e c.args.b (omega arith)
