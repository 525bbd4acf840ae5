-- Two's complement, one law for every width. Assumes nothing.
use mathlib.Core.Path.{◌≡◌, sym, ◌∙◌, subst}
use Prim.Native.Nat.{ℕ}
use lib.IntN.{ℤ}
use mir.Syntax.{Width}
use mir.Val.{SFits, Fits, of_z, to_z}
use mir.ValLaws.{to_z-of_z, to_z-Fits}

-- a signed number that was read, as the machine has it in a value
pub read_back : (w : Width) (z : ℤ) (n : ℕ) → Fits w n → z ≡ to_z w n → to_z w (of_z w z) ≡ to_z w n
read_back w z n f e = to_z-of_z w z (subst (SFits w) (sym e) (to_z-Fits w n f)) ∙ e
