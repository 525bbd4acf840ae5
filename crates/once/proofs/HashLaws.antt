-- The tag of a key, byte by byte. Assumes nothing.
use mathlib.Core.Path.{◌≡◌, refl}
use mathlib.Core.List.{List, [], ◌∷◌, ◌++◌}
use Prim.Native.Nat.{ℕ}
use Rattle.once.specs.Hash.{seed, mix, finish, mixes, hash_of}

pub mixes_none : (h : ℕ) → mixes h [] ≡ h
unfolding mixes
mixes_none h = refl

pub mixes_join : (h : ℕ) (u v : List ℕ) → mixes h (u ++ v) ≡ mixes (mixes h u) v
unfolding mixes
mixes_join h [] v = refl
mixes_join h (b ∷ u) v = mixes_join (mix h b) u v

-- one byte more
pub mixes_more : (h : ℕ) (u : List ℕ) (b : ℕ) → mixes h (u ++ (b ∷ [])) ≡ mix (mixes h u) b
unfolding mixes
mixes_more h [] b = refl
mixes_more h (a ∷ u) b = mixes_more (mix h a) u b

pub hash_done : (salt : ℕ) (u : List ℕ) → finish (mixes (seed salt) u) ≡ hash_of salt u
unfolding hash_of
hash_done salt u = refl
