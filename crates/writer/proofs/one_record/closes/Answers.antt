-- `one_record::closes`: by its test. Assumes nothing.
use mathlib.Core.Path.{ap, ◌∙◌}
use Prim.Native.Nat.{ℕ, ◌+◌}
use Rattle.writer.proofs.OneRecordLaws.{closes_by}
use Rattle.writer.proofs.one_record.closes.Goals as goal

pub returns : goal.returns
returns c = ap (λ (n : ℕ). 1 + n) c.from.ensures ∙ closes_by _ _
