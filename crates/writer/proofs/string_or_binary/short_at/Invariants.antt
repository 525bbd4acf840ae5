-- `string_or_binary::short_at`: byte by byte. Assumes nothing.

use lib.ListN.{drop}
use Rattle.meaning.specs.Canonical.{escapes}
use Rattle.writer.proofs.LaidLaws.{Writing}
use Rattle.writer.proofs.string_or_binary.short_at.Given as goal

abbrev pub invariant-loop-b : goal.invariant-loop-b
invariant-loop-b l = Writing (escapes l.s) (escapes (drop l.b-index l.s)) l.at l.initial.out l.out l.end
