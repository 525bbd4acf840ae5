-- UTF-8 (docs/FORMAT.md, 1.1) while it arrives, a byte at a time. Assumes nothing.
use Rattle.std.specs.Prelude.{ℕ, suc, ◌-◌, ◌≤◌, ◌<◌, ◌≡◌, Bool, true, false, cond, List, [], ◌∷◌, eqb, ltb, leb}
use Rattle.arriving.specs.declared.octets.Utf.{Utf}

abbrev pub utf : ℕ → ℕ → ℕ → ℕ → Bool → Utf
utf n l h q x = record { left = n; low = l; high = h; first = q; broken = x }

-- between two characters
abbrev pub between : Utf
between = utf 0 0 0 0 false

-- the first ill-formed sequence begins at this place
abbrev pub fault_at : ℕ → Utf
fault_at q = utf 0 0 0 q true

-- n more bytes of a character, the next from l to h
abbrev pub opens : ℕ → ℕ → ℕ → ℕ → Utf
opens n l h q = utf n l h q false

-- the first byte of three: no overlong form, and no surrogate
unfoldable pub lead_of_three : ℕ → ℕ → Utf
lead_of_three p b = cond (eqb b 0xE0) (opens 2 0xA0 0xBF p) (cond (eqb b 0xED) (opens 2 0x80 0x9F p)
    (opens 2 0x80 0xBF p))

-- the first byte of four: no overlong form, and nothing above 10FFFF
unfoldable pub lead_of_four : ℕ → ℕ → Utf
lead_of_four p b =
    cond (eqb b 0xF0) (opens 3 0x90 0xBF p)
    (cond (leb b 0xF3) (opens 3 0x80 0xBF p)
    (cond (eqb b 0xF4) (opens 3 0x80 0x8F p) (fault_at p)))

-- a character's first byte
unfoldable pub leads : ℕ → ℕ → Utf
leads p b =
    cond (ltb b 0x80) between
    (cond (ltb b 0xC2) (fault_at p)
    (cond (ltb b 0xE0) (opens 1 0x80 0xBF p)
    (cond (ltb b 0xF0) (lead_of_three p b) (lead_of_four p b))))

-- a byte after the first
unfoldable pub follow : Utf → ℕ → Utf
follow u b =
    cond (ltb b u.low) (fault_at u.first)
    (cond (ltb u.high b) (fault_at u.first)
    (cond (leb u.left 1) between (opens (u.left - 1) 0x80 0xBF u.first)))

-- a byte at the place p
unfoldable pub next_utf : Utf → ℕ → ℕ → Utf
next_utf u p b = cond u.broken u (cond (eqb u.left 0) (leads p b) (follow u b))

-- bytes from the place p on
unfoldable pub fed_utf : Utf → ℕ → List ℕ → Utf
fed_utf u p [] = u
fed_utf u p (b ∷ t) = fed_utf (next_utf u p b) (suc p) t

-- r of a part's n bytes may belong to the open character: all that it lacks, or all there are
pub record Rests (u : Utf) (n r : ℕ) : Type 0 where
  pub within : r ≤ n
  pub lacks : r < n → r ≡ u.left
