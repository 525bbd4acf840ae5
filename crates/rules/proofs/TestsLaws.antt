-- What a test promises: used, and made. Assumes nothing.
use mathlib.Core.Path.{◌≡◌, refl}
use mathlib.Core.Bool.{Bool, true, false}
use Prim.Native.Nat.{ℕ, ◌≤◌, ◌<◌}
use lib.Dec.{ltb, leb}
use borrow.Author.Tests.{ltb-true, ltb-false, leb-true, leb-false}
use native.Mathlib.Omega.{arith}
use Rattle.rules.specs.Between.Tests.{Decides, holds, fails}

pub by_test : {P : Type 0} (b : Bool) → (b ≡ true → P) → (b ≡ false → P → ⊥) → Decides P b
by_test true f g = holds (f refl)
by_test false f g = fails (g refl)

pub held : {P : Type 0} {b : Bool} → Decides P b → b ≡ true → P
held (holds p) e = p
held (fails f) e = let z : ◌≡◌ {A = ℕ} 0 1 = cc in absurd (omega arith)

pub failed : {P : Type 0} {b : Bool} → Decides P b → b ≡ false → P → ⊥
failed (holds p) e = let z : ◌≡◌ {A = ℕ} 0 1 = cc in absurd (omega arith)
failed (fails f) e = f

-- a test of the same thing, said otherwise
pub decides_as : {P R : Type 0} {b : Bool} → (P → R) → (R → P) → Decides P b → Decides R b
decides_as f g (holds p) = holds (f p)
decides_as f g (fails n) = fails (λ r. n (g r))

-- a test that fails, of what another thing wants
pub fails_too : {P R : Type 0} {b : Bool} → (R → P) → Decides P b → b ≡ false → Decides R b
fails_too g (holds p) e = let z : ◌≡◌ {A = ℕ} 0 1 = cc in absurd (omega arith)
fails_too g (fails n) e = fails (λ r. n (g r))

pub less_test : (a b : ℕ) → Decides (a < b) (ltb a b)
less_test a b = by_test (ltb a b) (λ e. ltb-true a b e) (λ e p. omega (arith, ltb-false a b e))

pub at_most_test : (a b : ℕ) → Decides (a ≤ b) (leb a b)
at_most_test a b = by_test (leb a b) (λ e. leb-true a b e) (λ e p. omega (arith, leb-false a b e))

pub both_test : {P R : Type 0} {b : Bool} → P → Decides R b → Decides (P × R) b
both_test p d = decides_as (λ r. (p, r)) (λ q. q.1) d

pub true_test : {P : Type 0} (b : Bool) → P → Decides ((b ≡ true) × P) b
true_test true p = holds (refl, p)
true_test false p = fails (λ x. let e = x.0 in let z : ◌≡◌ {A = ℕ} 0 1 = cc in omega arith)
