-- Byte classes: what a row knows of its bytes, and the row that a byte finds. Assumes nothing.
use Prim.Native.Nat.{ℕ, suc, ◌≤◌, ◌<◌}
use mathlib.Core.Path.{◌≡◌, refl}
use mathlib.Core.Bool.{Bool, true, false, cond}
use mathlib.Core.List.{List, [], ◌∷◌}
use mathlib.Core.Logic.{◌⊎◌, inl, inr}
use lib.Dec.{leb}
use borrow.Author.Tests.{leb-true, leb-false, le-leb, lt-leb}
use Rattle.machine.specs.Table.{cut}

infixr 20 ◌&◌
-- one row, and the rows after it
pub ◌&◌ : {A B : Type 0} → A → B → A × B
a & b = (a, b)

module _ {A : Type 0} where
  -- what every row, and the default, has of its bytes, the byte's class has
  abbrev pub Cuts : (ℕ → A → Type 0) → ℕ → List (ℕ × A) → A → ℕ → Type 0
  Cuts P lo [] d b = lo ≤ b → P b d
  Cuts P lo (r ∷ rs) d b = (lo ≤ b → b ≤ r.0 → P b r.1) × Cuts P (suc r.0) rs d b

  pub cut_is : (P : ℕ → A → Type 0) (lo : ℕ) (rs : List (ℕ × A)) (d : A) (b : ℕ) → lo ≤ b → Cuts P lo rs d b → P b (cut rs d b)
  cut_is P lo [] d b l h = h l
  cut_is P lo (r ∷ rs) d b l h = go (λ m. cut_is P (suc r.0) rs d b m h.1) (leb b r.0) refl
    where
      go : (r.0 < b → P b (cut rs d b)) → (y : Bool) → leb b r.0 ≡ y → P b (cond y r.1 (cut rs d b))
      go k true e = h.0 l (leb-true _ _ e)
      go k false e = k (leb-false _ _ e)

  abbrev pub Cut : List (ℕ × A) → A → ℕ → A → Type 0
  Cut [] d b x = d ≡ x
  Cut (r ∷ rs) d b x = ((b ≤ r.0) × (r.1 ≡ x)) ⊎ ((r.0 < b) × Cut rs d b x)

  pub cut_found : (rs : List (ℕ × A)) (d : A) (b : ℕ) (x : A) → Cut rs d b x → cut rs d b ≡ x
  cut_found [] d b x h = h
  cut_found (r ∷ rs) d b x (inl h) = rw (le-leb _ _ h.0) h.1
  cut_found (r ∷ rs) d b x (inr h) = rw (lt-leb _ _ h.0) (cut_found rs d b x h.1)
