-- `layout::is_blank`: by its tests. Assumes nothing.
use native.Mathlib.Omega.{arith}
use Rattle.rules.specs.Between.Tests.{holds, fails}
use Rattle.reader.proofs.ScanningClassLaws.{blank, not_blank}
use Rattle.reader.proofs.layout.is_blank.Goals as goal

pub returns-in-32 : goal.returns-in-32
returns-in-32 c = holds (blank c.args.b (λ i j k. omega (arith, c.in-32.is)))

pub returns-in-32-2 : goal.returns-in-32-2
returns-in-32-2 c = holds (blank c.args.b (λ i j k. omega arith))

pub returns-in_default : goal.returns-in_default
returns-in_default c = fails (not_blank c.args.b (omega arith) (omega arith) (omega arith) (omega arith))

pub returns-in_default-2 : goal.returns-in_default-2
returns-in_default-2 c = fails (not_blank c.args.b (omega arith) (omega arith) (grind arith) (grind arith))
