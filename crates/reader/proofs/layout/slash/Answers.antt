use native.Mathlib.Omega.{arith}
use mathlib.Core.Path.{refl}
use Rattle.machine.specs.Machine.{slash}
use Rattle.reader.proofs.LayoutLaws.{noting, note_unended, slash_line, slash_block, slash_breaks, says_then}
use Rattle.reader.proofs.layout.slash.Goals as goal

pub returns-then-at-text : goal.returns-then-at-text
returns-then-at-text c = note_unended (noting slash c.args.at (omega arith)) (omega arith) (λ s d k. refl)

pub returns-in-47 : goal.returns-in-47
returns-in-47 c = says_then (slash_line (omega arith) c.in-47.is) c.line.result c.line.ensures

pub returns-in-42 : goal.returns-in-42
returns-in-42 c = says_then (slash_block (omega arith) c.in-42.is) c.block.result c.block.ensures

pub returns-in_default : goal.returns-in_default
returns-in_default c = slash_breaks c.args.text.now c.args.at (omega arith) (grind arith) (grind arith)
