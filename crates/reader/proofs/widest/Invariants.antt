use mathlib.Core.Path.{◌≡◌}
use lib.ListN.{length}
use Rattle.reader.specs.Between.Walk.{Searching}
use Rattle.once.proofs.WindowsLaws.{windows_left}
use Rattle.reader.proofs.widest.Given as goal

abbrev pub invariant-loop-found : goal.invariant-loop-found
invariant-loop-found l = Searching l.text l.found.best l.found.from × (length l.seen ≡ 262152)

abbrev pub decreases-loop-found : goal.decreases-loop-found
decreases-loop-found l = windows_left (length l.text) l.found.from
