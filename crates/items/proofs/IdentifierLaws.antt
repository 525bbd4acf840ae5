-- Identifiers, letter by letter. Assumes nothing.
use mathlib.Core.Path.{◌≡◌, refl, ◌∙◌}
use mathlib.Core.List.{List, [], ◌∷◌, ◌++◌, append_assoc}
use Prim.Native.Nat.{ℕ, suc, ◌+◌, ◌-◌, ◌≤◌, ◌<◌}
use native.Mathlib.Omega.{arith}
use lib.ListN.{length, take, drop, get_or, length-drop}
use lib.Seq.{take-suc, get_or-drop}
use Rattle.machine.specs.Scan.{takes, ran}
use Rattle.machine.specs.Names.{name, scan, on_name, class_of}
use Rattle.items.specs.Between.Places.{Onward}
use Rattle.items.specs.Between.Identifier.{sort_is}
use Rattle.items.specs.declared.identifier.Sort.{Sort}
use Rattle.items.proofs.PlacesLaws.{run_take, further}

-- one byte more of the text
pub take_more : (text : List ℕ) (p q : ℕ) → p ≤ q → q < length text → take (q + 1 - p) (drop p text) ≡ take (q - p) (drop p text) ++ (get_or text q 0 ∷ [])
take_more text p q l h =
    let n : q + 1 - p ≡ suc (q - p) = omega arith in
    let m : p + (q - p) ≡ q = omega arith in
    let k : q - p < length (drop p text) = simp length-drop (omega arith) in
    rw (n, take-suc (drop p text) (q - p) 0 k, get_or-drop, m)

-- on the way
pub record Naming (text : List ℕ) (p q : ℕ) : Type 0 where
  pub goes : (a : List ℕ) → ran scan p (name a) (drop p text) ≡ ran scan q (name (a ++ take (q - p) (drop p text))) (drop q text)
  pub onward : Onward text p q

module _ {text : List ℕ} {p q : ℕ} (v : Naming text p q) where
  name_on : q < length text → ((a : List ℕ) → scan q (name a) (get_or text q 0) ≡ takes (name (a ++ (get_or text q 0 ∷ [])))) → Naming text p (q + 1)
  name_on h e = record {
    goes = λ a. v.goes a ∙ run_take scan text q (name (a ++ take (q - p) (drop p text))) (name (a ++ take (q + 1 - p) (drop p text))) h
        (rw (take_more text p q v.onward.behind h, ← append_assoc) (e (a ++ take (q - p) (drop p text))));
    onward = further v.onward h;
  }

  pub name_more : q < length text → (k : Sort) → class_of (get_or text q 0) ≡ sort_is k → (k ≡ Sort.Neither → ⊥) → Naming text p (q + 1)
  unfolding scan on_name
  name_more h Sort.Letter e n = name_on h (λ a. rw e)
  name_more h Sort.Figure e n = name_on h (λ a. rw e)
  name_more h Sort.Neither e n = absurd (n refl)
