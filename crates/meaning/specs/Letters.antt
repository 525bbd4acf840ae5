-- Bytes with their names (docs/FORMAT.md, 1.1): a text literal of ASCII characters is its bytes. Assumes nothing.
use Rattle.std.specs.Prelude.{List, [], ◌∷◌, ℕ}
use Prim.Native.String.{String, [] as []ₛ, ◌∷◌ as ◌∷ₛ◌}
use Prim.Native.Char.{Char, code}

abbrev pub letters : String → List ℕ
letters []ₛ = []
letters (c ∷ₛ s) = code c ∷ letters s

abbrev pub ch : Char → ℕ
ch c = code c
