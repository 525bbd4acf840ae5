-- `string_or_binary::pairs_at`: byte by byte. Assumes nothing.

use lib.ListN.{drop}
use Rattle.meaning.specs.Canonical.{hex_pairs}
use Rattle.writer.proofs.LaidLaws.{Writing}
use Rattle.writer.proofs.string_or_binary.pairs_at.Given as goal

abbrev pub invariant-loop-b : goal.invariant-loop-b
invariant-loop-b l = Writing (hex_pairs l.s) (hex_pairs (drop l.b-index l.s)) l.at l.initial.out l.out l.end
