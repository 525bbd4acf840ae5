use native.Mathlib.Omega.{arith}
use Rattle.rules.specs.Between.Tests.{holds, fails}
use Rattle.reader.proofs.ScanningClassLaws.{ends_line, not_line_end}
use Rattle.reader.proofs.layout.is_line_end.Goals as goal

pub returns-in-10 : goal.returns-in-10
returns-in-10 c = holds (ends_line c.args.b (λ i. omega (arith, c.in-10.is)))

pub returns-in_default : goal.returns-in_default
returns-in_default c = fails (not_line_end c.args.b (grind arith) (grind arith))
