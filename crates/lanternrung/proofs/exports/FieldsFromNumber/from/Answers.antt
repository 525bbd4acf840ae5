-- A finite number, NaN or an infinity. Assumes nothing.
use mathlib.Core.Path.{sym, ap, ◌∙◌}
use Prim.Native.Nat.{ℕ, ◌+◌}
use native.Mathlib.Omega.{arith}
use mir.Syntax.{w32}
use mir.ValLaws.{to_z-of_z}
use Rattle.lanternrung.specs.Told.{plain_fields, number_fields}
use Rattle.lanternrung.proofs.ToldLaws.{flag_is}
use Rattle.lanternrung.proofs.exports.FieldsFromNumber.from.Goals as goal

pub returns-in-NotANumber : goal.returns-in-NotANumber
unfolding number_fields
returns-in-NotANumber c = c.plain.ensures ∙ sym (ap number_fields c.in-NotANumber.is)

pub returns-in-Infinite : goal.returns-in-Infinite
unfolding number_fields
returns-in-Infinite c = c.plain-in-Infinite.ensures
    ∙ ap (λ (x : ℕ). plain_fields 4 (1 + x) 0 0) (c.from.ensures ∙ flag_is c.in-Infinite.minus)
    ∙ sym (ap number_fields c.in-Infinite.is)

pub returns-in-Finite : goal.returns-in-Finite
unfolding number_fields
returns-in-Finite c = rw (
  c.from-in-Finite.ensures,
  flag_is c.in-Finite.minus,
  to_z-of_z w32 c.in-Finite.power (record { sfits = omega arith }),
  c.in-Finite.is,
)
