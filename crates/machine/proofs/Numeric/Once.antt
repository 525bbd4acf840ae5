-- The rules give an item one meaning. Assumes nothing.
use Prim.Native.Nat.{ℕ, suc}
use mathlib.Core.Path.{◌≡◌, refl, subst}
use mathlib.Core.List.{List}
use native.Mathlib.Omega.{arith}
use Rattle.meaning.specs.Letters.{ch}
use Rattle.machine.specs.Scan.{Out}
use Rattle.machine.proofs.Runs.{Halt, Goes}

-- two runs over the same bytes end with the same value, where a comma may follow
module _ {S M : Type 0} (scan : ℕ → S → ℕ → Out S M) where
  halt_once : {p b : ℕ} {s : S} {m n : M} → b ≡ ch "," → Halt scan p s m b → Halt scan p s n b → m ≡ n
  halt_once c (Halt.here e) (Halt.here f) = cc
  halt_once c (Halt.here e) (Halt.spaced f k) = absurd (omega arith)
  halt_once c (Halt.spaced e k) f = absurd (omega arith)

  pub goes_once : {F : ℕ → Type 0} {p : ℕ} {s : S} {a : List ℕ} {m n : M} → F (ch ",") → Goes scan F p s a m → Goes scan F p s a n → m ≡ n
  goes_once comma (Goes.ends h) (Goes.ends k) = halt_once refl (h (ch ",") comma) (k (ch ",") comma)
  goes_once {F} {p} {n = n} comma (Goes.goes {s' = t} {a = a} h e) (Goes.goes {s' = u} k f) = let i : u ≡ t = cc in
      goes_once comma h (subst (λ (x : S). Goes scan F (suc p) x a n) i k)
