-- `number::number_len`: by cases. Assumes nothing.
use mathlib.Core.Path.{sym, ap}
use native.Mathlib.Omega.{arith}
use Rattle.std.proofs.Common.{rules}
use lib.ListN.{length, length-append}
use mir.Syntax.{w32}
use mir.Val.{SFits}
use mir.ValLaws.{to_z-of_z}
use Rattle.writer.proofs.PiecesLaws.{finite_parts, nan_text, infinite_parts}
use Rattle.writer.proofs.number.number_len.Goals as goal

pub returns-in-Finite : goal.returns-in-Finite
returns-in-Finite c =
    let f : SFits w32 c.in-Finite.power = search rules in
    (omega (arith, simp to_z-of_z at c.finite_len.ensures.0, simp length-append at (ap length (finite_parts c.in-Finite.is))), omega arith)

pub returns-in-NotANumber : goal.returns-in-NotANumber
returns-in-NotANumber c = (sym (ap length (nan_text c.in-NotANumber.is)), omega arith)

pub returns-in-Infinite : goal.returns-in-Infinite
returns-in-Infinite c = (omega (arith, simp length-append at (ap length (infinite_parts c.in-Infinite.is))), omega arith)
