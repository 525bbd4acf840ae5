-- `number`: a step of the fold puts a digit of base 256 behind the number so far, or gives less where that wraps. Assumes
-- nothing.
use native.Mathlib.Numerals.{unary_clauses}
use native.Mathlib.Omega.{arith}
use Rattle.std.proofs.Common.{rules, ◌<◌, ◌^◌, length, ◌≡◌, ℕ, suc, ◌+◌, ◌-◌, ◌*◌, ◌%◌, List, [], ◌∷◌, get_or}
use Rattle.std.proofs.Math.Nat.{pow-suc, zero-add}
use Rattle.std.proofs.lemmas.Grind.{common_steps}
use Rattle.std.proofs.lemmas.Iterator.Adapters.{YieldsList-from_rev_slice}
use Rattle.std.proofs.lemmas.Iterator.Consumers.{fold_from_yields_List}
use Rattle.std.proofs.lemmas.List.{get_or-reverse, length-reverse}
use Rattle.std.specs.List.{fold}
use mathlib.Core.List.{reverse}
use Rattle.tape_damage.proofs.number.Goals as goal

-- what the closure gives
abbrev step : ℕ → ℕ → ℕ
step n b = (n * 256 % 2 ^ 64 + b) % 2 ^ 64

step_below : (n b p : ℕ) → n < p → b < 256 → step n b < p * 256
step_below n b p l m = omega arith

abbrev Bytes : List ℕ → Type 0
Bytes xs = (i : ℕ) → get_or xs i 0 < 256

reversed : (xs : List ℕ) → Bytes xs → Bytes (reverse xs)
reversed xs m i = grind (arith, common_steps, get_or-reverse xs i 0, m (length xs - 1 - i))

fold_below : (xs : List ℕ) (n k : ℕ) → n < 256 ^ k → Bytes xs → fold step n xs < 256 ^ (length xs + k)
fold_below [] n k l m = rw zero-add l
fold_below (x ∷ xs) n k l m =
    let h : step n x < 256 ^ suc k = rw (pow-suc 256 k) (step_below n x (256 ^ k) l (m 0)) in
    let e : length (x ∷ xs) + k ≡ length xs + suc k = omega arith in
    rw e (fold_below xs (step n x) (suc k) h (λ i. m (suc i)))

pub returns : goal.returns
returns c =
    let s = c.args.bytes.now in
    let e : c.fold.result ≡ fold step 0 (reverse s) =
    fold_from_yields_List _ _ 0 c.fold.result c.fold.ensures.ran (YieldsList-from_rev_slice s cc) (λ a x b q k. search rules) in
    let f = fold_below (reverse s) 0 0 (omega arith) (reversed s (λ i. (c.type_inv.bytes i).fits)) in
    rw (e, ← length-reverse s) (simp unary_clauses at f)
