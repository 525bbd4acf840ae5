-- The fields of each kind. Assumes nothing.
use mathlib.Core.Path.{sym, ap, ◌∙◌}
use Prim.Native.Nat.{ℕ}
use Rattle.lanternrung.specs.Told.{plain_fields, fields_of}
use Rattle.lanternrung.proofs.ToldLaws.{flag_is}
use Rattle.lanternrung.proofs.exports.FieldsFromRecord.from.Goals as goal

pub returns-in-Null : goal.returns-in-Null
unfolding fields_of
returns-in-Null c = c.plain.ensures ∙ sym (ap fields_of c.in-Null.is)

pub returns-in-Bool : goal.returns-in-Bool
unfolding fields_of
returns-in-Bool c = c.plain-in-Bool.ensures ∙ ap (λ (x : ℕ). plain_fields 2 x 0 0) (c.from.ensures ∙ flag_is c.in-Bool.b) ∙ sym (ap fields_of c.in-Bool.is)

pub returns-in-Number : goal.returns-in-Number
unfolding fields_of
returns-in-Number c = c.from-in-Number.ensures ∙ sym (ap fields_of c.in-Number.is)

pub returns-in-Str : goal.returns-in-Str
unfolding fields_of
returns-in-Str c = c.plain-in-Str.ensures ∙ sym (ap fields_of c.in-Str.is)

pub returns-in-Key : goal.returns-in-Key
unfolding fields_of
returns-in-Key c = c.plain-in-Key.ensures ∙ sym (ap fields_of c.in-Key.is)

pub returns-in-Bin : goal.returns-in-Bin
unfolding fields_of
returns-in-Bin c = c.plain-in-Bin.ensures ∙ sym (ap fields_of c.in-Bin.is)

pub returns-in-Time : goal.returns-in-Time
unfolding fields_of
returns-in-Time c = c.from-in-Time.ensures ∙ sym (ap fields_of c.in-Time.is)

pub returns-in-Array : goal.returns-in-Array
unfolding fields_of
returns-in-Array c = c.container.ensures ∙ sym (ap fields_of c.in-Array.is)

pub returns-in-Object : goal.returns-in-Object
unfolding fields_of
returns-in-Object c = c.container-in-Object.ensures ∙ sym (ap fields_of c.in-Object.is)
