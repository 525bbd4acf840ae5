-- What the tests of a byte in a number come to, by the machine's classes of bytes. Assumes nothing.
use Prim.Native.Nat.{ℕ, ◌+◌, ◌*◌, ◌≤◌, ◌<◌}
use mathlib.Core.Path.{◌≡◌, refl}
use mathlib.Core.Bool.{Bool, true, false, ◌&&◌}
use native.Mathlib.Omega.{arith}
use lib.Dec.{leb}
use borrow.Author.Tests.{leb-true, le-leb, lt-leb}
use Rattle.meaning.specs.Limits.{text_limit}
use Rattle.machine.specs.Strings as Strings
use Rattle.machine.specs.Numeric.{hex_of, value, no_hex}
use Rattle.machine.proofs.Numeric.Rows.{hex_is}
use Rattle.items.proofs.NumberHexLaws.{HexValue, value_is}
use Rattle.arriving.specs.declared.states.Decimal.{Decimal}
use Rattle.arriving.specs.declared.states.Figure.{Figure}
use Rattle.arriving.specs.Between.Figures.{Sound, sane_decimal, counts, sixteenth}
use Rattle.arriving.specs.Between.Figures.{on_hex}

-- ---- hexadecimal digits

hex_value : (b x : ℕ) → HexValue b x → x < 16 → hex_of b ≡ value x
hex_value b x (HexValue.digit i l) h = hex_is i
hex_value b x (HexValue.none e) h = absurd (omega arith)

hex_no : (b x : ℕ) → HexValue b x → 16 ≤ x → hex_of b ≡ no_hex
hex_no b x (HexValue.digit i l) h = absurd (omega arith)
hex_no b x (HexValue.none e) h = e

pub hex_some : (b x : ℕ) → (x ≡ Strings.hex_of b) × (x < 16) → hex_of b ≡ value x
hex_some b x h = hex_value b x (value_is b x h.0) h.1

pub hex_none : (b : ℕ) → 16 ≤ Strings.hex_of b → hex_of b ≡ no_hex
hex_none b h = hex_no b (Strings.hex_of b) (value_is b (Strings.hex_of b) refl) h

pub hex_low_lem : (q v : ℕ) (o : Bool) (x : ℕ) → v ≤ sixteenth → counts (Figure.Hex q (16 * v + x) o) ≡ on_hex q v o (value x)
hex_low_lem q v o x h = rw (le-leb v sixteenth h)

pub hex_high : (q v : ℕ) (o : Bool) (x : ℕ) → sixteenth < v → counts (Figure.Hex q v true) ≡ on_hex q v o (value x)
hex_high q v o x h = rw (lt-leb v sixteenth h)

-- ---- bounds

pub both_true : (x y : Bool) → (x && y) ≡ true → (x ≡ true) × (y ≡ true)
both_true true true e = (refl, refl)
both_true true false e = let z : ◌≡◌ {A = ℕ} 0 1 = cc in absurd (omega arith)
both_true false y e = let z : ◌≡◌ {A = ℕ} 0 1 = cc in absurd (omega arith)

pub sound : (n : ℕ) (d : Decimal) → sane_decimal n d ≡ true → n ≤ text_limit → Sound d
sound n d e h =
    let k = both_true (leb d.acc.z n) (leb d.fraction n) e in
    record { zeros = omega (arith, leb-true d.acc.z n k.0); places = omega (arith, leb-true d.fraction n k.1) }
