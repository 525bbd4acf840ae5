-- Numbers in bytes, the lowest first, as the tape has them (docs/FORMAT.md, 11); bytes laid over others (13).
-- Assumes nothing.
use Rattle.std.specs.Prelude.{Bool, true, false, List, [], ◌∷◌, ◌++◌, ℕ, zero, suc, ◌/◌, ◌%◌, length, drop}

-- v in w bytes, little-endian
unfoldable pub le : ℕ → ℕ → List ℕ
le zero v = []
le (suc w) v = v % 256 ∷ le w (v / 256)

-- w unnamed bytes are zero
abbrev pub unnamed : ℕ → List ℕ
unnamed w = le w 0

-- 1 if set
abbrev pub flag : Bool → ℕ
flag true = 1
flag false = 0

-- x over the start of y: what lies past it is unchanged
abbrev pub laid : List ℕ → List ℕ → List ℕ
laid x y = x ++ drop (length x) y
