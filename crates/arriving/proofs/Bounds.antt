-- What a byte may bring: a state within its bounds after one byte more, and few store bytes. Assumes nothing.
use Prim.Native.Nat.{ℕ, ◌≤◌}
use mathlib.Core.Path.{◌≡◌}
use mathlib.Core.Bool.{true}
use Rattle.arriving.specs.declared.states.Out.{Out}
use Rattle.arriving.specs.declared.states.Out.TheVariants.{Takes, Stops, Breaks}
use Rattle.arriving.specs.Between.Arriving.{sane_mode}

-- after n bytes
abbrev pub Bounded : ℕ → Out → Type 0
Bounded n (Takes m k) = (sane_mode n m ≡ true) × (k ≤ 258)
Bounded n Stops = Unit {0}
Bounded n (Breaks r) = Unit {0}
