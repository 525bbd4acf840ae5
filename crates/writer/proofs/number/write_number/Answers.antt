-- `number::write_number`: by cases, one piece after the other. Assumes nothing.
use mathlib.Core.Path.{sym, ap}
use native.Mathlib.Omega.{arith}
use Rattle.std.proofs.Common.{rules}
use lib.ListN.{length, length-append}
use mir.Syntax.{w32}
use mir.Val.{SFits}
use mir.ValLaws.{to_z-of_z}
use Rattle.writer.proofs.LaidLaws.{put_as, put_next, put_whole}
use Rattle.writer.proofs.PiecesLaws.{finite_parts, nan_text, infinite_parts}
use Rattle.writer.proofs.number.write_number.Goals as goal

pub minus_at-first-requires : goal.minus_at-first-requires
minus_at-first-requires c = omega (arith, simp length-append at (ap length (finite_parts c.in-Finite.is)))

pub finite_at-requires : goal.finite_at-requires
finite_at-requires c =
    let f : SFits w32 c.in-Finite.power = search rules in
    simp to_z-of_z (omega (arith, simp length-append at (ap length (finite_parts c.in-Finite.is))))

pub bytes_at-requires : goal.bytes_at-requires
bytes_at-requires c = omega (arith, ap length (nan_text c.in-NotANumber.is))

pub minus_at-first-requires-in-Infinite : goal.minus_at-first-requires-in-Infinite
minus_at-first-requires-in-Infinite c = omega (arith, simp length-append at (ap length (infinite_parts c.in-Infinite.is)))

pub bytes_at-requires-in-Infinite : goal.bytes_at-requires-in-Infinite
bytes_at-requires-in-Infinite c = omega (arith, simp length-append at (ap length (infinite_parts c.in-Infinite.is)))

pub returns-in-Finite : goal.returns-in-Finite
returns-in-Finite c =
    let f : SFits w32 c.in-Finite.power = search rules in
    put_as (sym (finite_parts c.in-Finite.is))
    (put_whole (put_next (omega arith) c.minus_at-first.ensures (simp to_z-of_z at c.finite_at.ensures)))

pub returns-in-NotANumber : goal.returns-in-NotANumber
returns-in-NotANumber c = put_as (sym (nan_text c.in-NotANumber.is)) (put_whole c.bytes_at.ensures)

pub returns-in-Infinite : goal.returns-in-Infinite
returns-in-Infinite c =
    put_as (sym (infinite_parts c.in-Infinite.is))
    (put_whole (put_next (omega arith) c.minus_at-first-in-Infinite.ensures c.bytes_at-in-Infinite.ensures))
