-- What the calls for C are made of: a signed field that is passed on at 32 bits; a check in the bytes that C lends. Assumes nothing.
use mathlib.Core.Path.{◌≡◌, refl, ap, ◌∙◌, subst}
use mathlib.Core.Bool.{Bool, true, false}
use mathlib.Core.List.{List}
use Prim.Native.Nat.{ℕ, ◌<◌, ◌^◌}
use native.Mathlib.Omega.{arith}
use lib.IntN.{ℤ}
use lib.Signed.{mag}
use lib.Seq.{sets}
use mir.Syntax.{w16, w32}
use mir.Val.{of_z, to_z, SFits, hbits, bool_byte}
use mir.ValLaws.{to_z-of_z}
use Rattle.meaning.specs.Bytes.{flag}
use Rattle.arriving.specs.declared.Check.{Check}
use Rattle.arriving.specs.Between.Packing.{packed, unpacked}
use Rattle.lanternrung.specs.Told.{Keeps}

-- a signed number of 16 bits is itself
pub same16 : (z : ℤ) → mag z < 2 ^ hbits w16 → to_z w16 (of_z w16 z) ≡ z
same16 z h = to_z-of_z w16 z (record { sfits = h })

-- and fits in 32
pub wider : (z : ℤ) → mag z < 2 ^ hbits w16 → SFits w32 z
wider z h = record { sfits = omega arith }

pub passed : (z : ℤ) → mag z < 2 ^ hbits w16 → to_z w32 (of_z w32 (to_z w16 (of_z w16 z))) ≡ z
passed z h = ap (λ (x : ℤ). to_z w32 (of_z w32 x)) (same16 z h) ∙ to_z-of_z w32 z (wider z h)

-- a bool as a number is 1 where it is set
pub flag_is : (b : Bool) → bool_byte b ≡ flag b
flag_is true = refl
flag_is false = refl

-- a check that was kept, by what it is
pub keeps : (x y : Check) (s t : List ℕ) → x ≡ y → (t ≡ sets s 0 (packed x)) × (unpacked (packed x) ≡ x) → Keeps y s t
keeps x y s t e p = subst (λ (z : Check). Keeps z s t) e (record { put = p.0; back = p.1 })
