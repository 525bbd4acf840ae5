-- `time_value::trimmed`: a closing zero less at each round. Assumes nothing.
use mathlib.Core.Path.{◌≡◌}
use Rattle.meaning.specs.Canonical.{trimmed as trimmedText}
use Rattle.writer.proofs.time_value.trimmed.Given as goal

abbrev pub invariant-loop-count : goal.invariant-loop-count
invariant-loop-count l = trimmedText 9 l.n ≡ trimmedText l.count l.digits
