-- A mode by its numbers, each way: by its case, and by a row of a table. Assumes nothing.
use mathlib.Core.Path.{◌≡◌, sym, ◌∙◌}
use mathlib.Core.List.{List, ◌++◌}
use Prim.Native.Nat.{ℕ, zero, suc, ◌≤◌, ◌<◌}
use native.Mathlib.Omega.{arith}
use lib.ListN.{length, get_or, replicate, length-replicate, get_or-replicate, get_or-append, get_or-eq_default}

-- ---- by a row of a table

-- n is none of the k first numbers, as the last arm of a match has it
abbrev pub NoneOf : ℕ → ℕ → Type 0
NoneOf zero n = Unit {0}
NoneOf (suc k) n = NoneOf k n × (n ≡ k → ⊥)

none_below : (k n : ℕ) → NoneOf k n → k ≤ n
none_below zero n h = omega arith
none_below (suc k) n h = let l = none_below k n h.0 in let x = h.1 in omega arith

pub past : {A : Type 0} (l : List A) (d : A) (n : ℕ) → NoneOf (length l) n → d ≡ get_or l n d
past l d n h = sym (get_or-eq_default l d (none_below (length l) n h))

-- one of k rows that are all the same
pub among : {A : Type 0} (k : ℕ) (x : A) (l : List A) (d : A) (n : ℕ) → n < k → x ≡ get_or (replicate k x ++ l) n d
among k x l d n h =
    sym (get_or-append (replicate k x) l d n (omega (arith, length-replicate k x)) ∙ get_or-replicate k n x d h)
