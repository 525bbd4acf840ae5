-- `key::widest`: window after window, each later than the one before. Assumes nothing.
use mathlib.Core.Path.{◌≡◌}
use Prim.Native.Nat.{◌+◌}
use lib.ListN.{length}
use Rattle.tape.specs.Between.Key.{Windowed}
use Rattle.once.proofs.WindowsLaws.{windows_left}
use Rattle.tape.proofs.key.widest.Given as goal

abbrev pub invariant-loop-w : goal.invariant-loop-w
invariant-loop-w l = Windowed l.tape l.store l.bound l.w.best l.w.from × (length l.seen ≡ 262152)

abbrev pub decreases-loop-w : goal.decreases-loop-w
decreases-loop-w l = windows_left (l.bound + 1) l.w.from
