-- The tag of a key (docs/FORMAT.md, 7.2): a number below 2^32 that its bytes and a salt determine. Nothing else is
-- asked of it, and how well it tells keys apart decides no answer. Assumes nothing.
use Rattle.std.specs.Prelude.{List, [], ◌∷◌, ℕ, ◌+◌, ◌*◌, ◌/◌, ◌%◌}
use Rattle.std.specs.Int.Bits.{bit_xor}

-- the low half of a number, with its high bits in its low ones
unfoldable pub stirred : ℕ → ℕ
stirred p = bit_xor (p % 4294967296) (p % 4294967296 / 32768)

abbrev pub seed : ℕ → ℕ
seed salt = stirred (salt * 3266489909 + 668265263)

abbrev pub mix : ℕ → ℕ → ℕ
mix h b = stirred (h * 2654435761 + b)

abbrev pub finish : ℕ → ℕ
finish h = stirred (h * 2246822507)

-- so far, over the bytes
unfoldable pub mixes : ℕ → List ℕ → ℕ
mixes h [] = h
mixes h (b ∷ u) = mixes (mix h b) u

unfoldable pub hash_of : ℕ → List ℕ → ℕ
hash_of salt u = finish (mixes (seed salt) u)
