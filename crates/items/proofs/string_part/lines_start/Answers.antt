-- Assumes nothing.
use native.Mathlib.Omega.{arith}
use Rattle.items.proofs.StringPartLinesLaws.{from_lf, from_crlf, from_bytes}
use Rattle.items.proofs.string_part.lines_start.Goals as goal

pub returns-in-13 : goal.returns-in-13
returns-in-13 c = from_crlf _ c.requires (omega arith) (λ e. omega arith) (omega arith) (omega arith) (omega arith)

pub returns-in-10 : goal.returns-in-10
returns-in-10 c = from_lf _ c.requires (omega arith) (omega arith)

pub returns-in-10-2 : goal.returns-in-10-2
returns-in-10-2 c = from_lf _ c.requires (omega arith) (omega arith)

pub returns-in_default : goal.returns-in_default
returns-in_default c = from_bytes _ c.requires (λ h e. omega arith) (λ h e f. omega arith)

pub returns-in_default-2 : goal.returns-in_default-2
returns-in_default-2 c = from_bytes _ c.requires (λ h e. omega arith) (λ h e f. omega arith)

pub returns-in_default-3 : goal.returns-in_default-3
returns-in_default-3 c = from_bytes _ c.requires (λ h e. omega arith) (λ h e f. omega arith)

pub returns-in_default-4 : goal.returns-in_default-4
returns-in_default-4 c = from_bytes _ c.requires (λ h e. omega arith) (λ h e f. omega arith)
