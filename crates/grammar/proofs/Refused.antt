-- A fault of 4 to 7 is no 3, and where there is one no 3 is given. Assumes nothing.
use Prim.Native.Nat.{ℕ}
use mathlib.Core.Path.{◌≡◌}
use mathlib.Core.List.{List}
use native.Mathlib.Omega.{arith}
use Rattle.meaning.specs.declared.Refusal.{Refusal}
use Rattle.meaning.specs.declared.Refusal.TheVariants.{NotGrammar}
use Rattle.grammar.specs.Refused.{ItemFault, Refused}

pub fault_no_three : {t : List ℕ} {r : Refusal} → ItemFault t r → (q : ℕ) → r ≡ NotGrammar q → ⊥
fault_no_three (ItemFault.escape r x y z n) q e = let z : ◌≡◌ {A = ℕ} 0 1 = cc in omega arith
fault_no_three (ItemFault.time x y n h) q e = let z : ◌≡◌ {A = ℕ} 0 1 = cc in omega arith
fault_no_three (ItemFault.number x y n h) q e = let z : ◌≡◌ {A = ℕ} 0 1 = cc in omega arith
fault_no_three (ItemFault.depth r x y) q e = let z : ◌≡◌ {A = ℕ} 0 1 = cc in omega arith

-- left to right: a fault comes before any 3
pub fault_first : {t : List ℕ} {r s : Refusal} → ItemFault t r → Refused t s → (q : ℕ) → s ≡ NotGrammar q → ⊥
fault_first f (Refused.fault g) q e = fault_no_three g q e
fault_first {r = r} f (Refused.grammar n s) q e = n r f
