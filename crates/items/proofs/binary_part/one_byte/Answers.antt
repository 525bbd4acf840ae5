-- Assumes nothing.
use native.Mathlib.Omega.{arith}
use Rattle.items.proofs.BinaryPartLaws.{one_escaped, one_low, one_high, one_plain}
use Rattle.items.proofs.binary_part.one_byte.Goals as goal

pub returns-in-92 : goal.returns-in-92
returns-in-92 c = one_escaped _ _ c.requires c.in-92.is c.escaped.result c.escaped.ensures

pub returns-in-32-to-126 : goal.returns-in-32-to-126
returns-in-32-to-126 c = one_plain _ _ c.requires (λ e. omega arith) (omega arith) (omega arith)

pub returns-in_default : goal.returns-in_default
returns-in_default c = one_low _ _ c.requires (λ e. omega arith) (omega arith)

pub returns-in_default-2 : goal.returns-in_default-2
returns-in_default-2 c = one_high _ _ c.requires (λ e. omega arith) (omega arith)
