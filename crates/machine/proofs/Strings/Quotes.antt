-- What the quoted forms of strings and of binary share: quotes, the plain bytes between them, and the other quote. Assumes nothing.
use Prim.Native.Nat.{ℕ, suc, ◌-◌, ◌≤◌, ◌<◌}
use mathlib.Core.Path.{◌≡◌}
use mathlib.Core.Logic.{◌⊎◌, inl, inr}
use mathlib.Core.List.{List, [], ◌∷◌}
use native.Mathlib.Omega.{arith}
use native.Mathlib.Decide.{dec_lt, ℕ_discrete}
use Rattle.meaning.specs.Letters.{ch}
use Rattle.grammar.specs.Characters.{Range, ◌to◌, Of}
use Rattle.grammar.specs.Strings.{Quote, double, single, mark, other, Chars, source}
use Rattle.machine.proofs.Strings.Ascii.{Ascii}

pub mark_ascii : (q : Quote) → Ascii (mark q)
mark_ascii double = omega arith
mark_ascii single = omega arith

pub mark_high : (q : Quote) → 0x20 < mark q
mark_high double = omega arith
mark_high single = omega arith

-- from U+0020 up to hi, but for the quotes and the backslash
abbrev pub ranges : ℕ → List Range
ranges hi = 0x20 to 0x21 ∷ 0x23 to 0x26 ∷ 0x28 to 0x5B ∷ 0x5D to hi ∷ []

-- b lies from U+0020 to hi, and is no backslash and no quote q
pub record Between (hi q b : ℕ) : Type 0 where
  pub low : 0x20 ≤ b
  pub high : b ≤ hi
  pub no_back : b ≡ ch "\\" → ⊥
  pub no_end : b ≡ q → ⊥

-- what the ranges hold is between two quotes of either kind
pub between : (q : Quote) (hi b : ℕ) → 0x5B ≤ hi → Of (ranges hi) b → Between hi (mark q) b
between double hi b h (inl i) = omega arith
between double hi b h (inr (inl i)) = omega arith
between double hi b h (inr (inr (inl i))) = omega arith
between double hi b h (inr (inr (inr (inl i)))) = omega arith
between double hi b h (inr (inr (inr (inr i)))) = elim i [ ]
between single hi b h (inl i) = omega arith
between single hi b h (inr (inl i)) = omega arith
between single hi b h (inr (inr (inl i))) = omega arith
between single hi b h (inr (inr (inr (inl i)))) = omega arith
between single hi b h (inr (inr (inr (inr i)))) = elim i [ ]

pub between_other : (q : Quote) (hi : ℕ) → 0x5B ≤ hi → Between hi (mark q) (mark (other q))
between_other double hi h = omega arith
between_other single hi h = omega arith

-- and what is between them is in the ranges, or is the other quote
ranges_of : (hi b : ℕ) → 0x20 ≤ b → b ≤ hi → (b ≡ 0x22 → ⊥) → (b ≡ 0x27 → ⊥) → (b ≡ 0x5C → ⊥) → Of (ranges hi) b
ranges_of hi b l h x y z = go (dec_lt b 0x22) (dec_lt b 0x27) (dec_lt b 0x5C)
  where
    go : Dec (b < 0x22) → Dec (b < 0x27) → Dec (b < 0x5C) → Of (ranges hi) b
    go (yes i) j k = inl (omega arith)
    go (no i) (yes j) k = inr (inl (omega arith))
    go (no i) (no j) (yes k) = inr (inr (inl (omega arith)))
    go (no i) (no j) (no k) = inr (inr (inr (inl (omega arith))))

pub other_or : (q : Quote) {hi b : ℕ} → Between hi (mark q) b → (b ≡ mark (other q)) ⊎ Of (ranges hi) b
other_or double {hi} {b} x = go (ℕ_discrete b 0x27)
  where
    go : Dec (b ≡ 0x27) → (b ≡ 0x27) ⊎ Of (ranges hi) b
    go (yes e) = inl e
    go (no e) = inr (ranges_of hi b x.low x.high x.no_end e x.no_back)
other_or single {hi} {b} x = go (ℕ_discrete b 0x22)
  where
    go : Dec (b ≡ 0x22) → (b ≡ 0x22) ⊎ Of (ranges hi) b
    go (yes e) = inl e
    go (no e) = inr (ranges_of hi b x.low x.high e x.no_end x.no_back)

-- one more byte between two quotes q
module _ {P : List ℕ → Type 0} {E : List ℕ → List ℕ → Type 0} where
  pub plain_char : (q : Quote) (hi : ℕ) {b : ℕ} → Between hi (mark q) b → (Of (ranges hi) b → P (b ∷ [])) → {a u : List ℕ} → Chars P E q a u
      → Chars P E q (b ∷ a) (b ∷ u)
  plain_char q hi {b} x f {a} {u} y = go (other_or q x)
    where
      go : (b ≡ mark (other q)) ⊎ Of (ranges hi) b → Chars P E q (b ∷ a) (b ∷ u)
      go (inl e) = rw e (Chars.other_quote y)
      go (inr o) = Chars.plain (f o) y

-- ---- several lines

-- `source` by its quote
abbrev pub line_ranges : ℕ → List Range
line_ranges m = 0x09 to 0x09 ∷ 0x0A to 0x0A ∷ 0x0D to 0x0D ∷ 0x20 to (m - 1) ∷ suc m to 0x10FFFF ∷ []

pub line_of : (q : Quote) (n : ℕ) → Of (source q) n → Of (line_ranges (mark q)) n
line_of double n o = o
line_of single n o = o

pub of_line : (q : Quote) (n : ℕ) → Of (line_ranges (mark q)) n → Of (source q) n
of_line double n o = o
of_line single n o = o
