-- Bytes put into a store, as far as there is room. Assumes nothing.
use mathlib.Core.Path.{◌≡◌, refl, sym, ap, ◌∙◌}
use Prim.Native.Nat.{ℕ, suc, ◌+◌, ◌-◌, ◌/◌, ◌%◌, ◌≤◌, ◌<◌, min}
use mathlib.Core.List.{List, [], ◌∷◌, ◌++◌}
use mathlib.Core.Bool.{Bool, true, false}
use lib.ListN.{length, take, drop, set, get_or, length-take, length-drop}
use lib.Seq.{sets, length-sets, set_out, take-suc, take-add, get_or-drop}
use lib.Dec.{ltb}
use native.Mathlib.Omega.{arith}
use native.Mathlib.Numerals.{add-one}
use native.Mathlib.Nat.{suc-add, add-suc, add-zero}
use borrow.Author.Tests.{ltb-true, ltb-false}
use Rattle.rules.specs.Rfc3629.{encode}
use Rattle.rules.proofs.Numbers.{row_1, row_2, row_3, row_4}

pub sets_app : (t : List ℕ) (at : ℕ) (a b : List ℕ) → sets t at (a ++ b) ≡ sets (sets t at a) (at + length a) b
sets_app t at [] b = ap (λ (n : ℕ). sets t n b) (sym (add-zero at))
sets_app t at (x ∷ a) b = sets_app (set t at x) (suc at) a b ∙ ap (λ (n : ℕ). sets (sets (set t at x) (suc at) a) n b)
    (suc-add at (length a) ∙ sym (add-suc at (length a)))

pub sets_out : (t : List ℕ) (at : ℕ) (b : List ℕ) → length t ≤ at → sets t at b ≡ t
sets_out t at [] h = refl
sets_out t at (x ∷ b) h = rw (set_out t at x h) (sets_out t (suc at) b (omega arith))

-- one more byte of a segment
pub seg_more : (s t : List ℕ) (from at i : ℕ) → from + i < length s → (u : List ℕ) → u ≡ sets t at (take i (drop from s))
    → set u (at + i) (get_or s (from + i) 0) ≡ sets t at (take (i + 1) (drop from s))
seg_more s t from at i h u q =
    let k : i < length (drop from s) = simp length-drop (omega arith) in
    let z : at + i ≡ at + length (take i (drop from s)) = simp (length-take, length-drop) (omega arith) in
    rw (add-one, take-suc (drop from s) i 0 k, sets_app, get_or-drop, ← q, ← z)

seg_out : (s t : List ℕ) (from i to at : ℕ) → from ≤ i → i ≤ to → to ≤ length s → length t ≤ at + (i - from) → (u : List ℕ) → u
    ≡ sets t at (take (i - from) (drop from s)) → u ≡ sets t at (take (to - from) (drop from s))
seg_out s t from i to at l g h r u q =
    let n : to - from ≡ (i - from) + (to - i) = omega arith in
    let z : length t ≤ at + length (take (i - from) (drop from s)) = simp (length-take, length-drop) (omega arith) in
    q ∙ sym (rw (n, take-add, sets_app) (sets_out (sets t at (take (i - from) (drop from s))) (at + length (take (i - from) (drop from s)))
    (take (to - i) (drop (i - from) (drop from s))) (simp length-sets z)))

-- what is past the store's end is dropped
pub seg_limit : (s t : List ℕ) (from i to at : ℕ) → from ≤ i → i ≤ to → to ≤ length s → (i < to → length t ≤ at + (i - from)) → (u : List ℕ) → u
    ≡ sets t at (take (i - from) (drop from s)) → u ≡ sets t at (take (to - from) (drop from s))
seg_limit s t from i to at l g h f u q = by (ltb i to) refl
  where
    by : (x : Bool) → ltb i to ≡ x → u ≡ sets t at (take (to - from) (drop from s))
    by true e = seg_out s t from i to at l g h (f (ltb-true i to e)) u q
    by false e = let z : i ≡ to = omega (arith, ltb-false i to e) in rw z at q

pub copied : (s t : List ℕ) (from to at n : ℕ) → from ≤ to → to ≤ length s → at < length t → n ≡ min (length t - at) (to - from) → (u : List ℕ)
    → u ≡ sets t at (take n (drop from s)) → u ≡ sets t at (take (to - from) (drop from s))
copied s t from to at n l h r m u q =
    let z : from + n - from ≡ n = omega arith in
    seg_limit s t from (from + n) to at (omega arith) (omega arith) h (λ g. omega arith) u (rw z q)

-- how many bytes a character has
pub size1 : (c : ℕ) → c < 0x80 → length (encode c) ≡ 1
size1 c h = rw (row_1 c (omega arith))

pub size2 : (c : ℕ) → 0x80 ≤ c → c < 0x800 → length (encode c) ≡ 2
size2 c g h = rw (row_2 c (omega arith) (omega arith))

pub size3 : (c : ℕ) → 0x800 ≤ c → c < 0x10000 → length (encode c) ≡ 3
size3 c g h = rw (row_3 c (omega arith) (omega arith))

pub size4 : (c : ℕ) → 0x10000 ≤ c → length (encode c) ≡ 4
size4 c g = rw (row_4 c (omega arith))

-- its bytes, put one by one
module _ (t : List ℕ) (at c : ℕ) where
  pub enc1 : c < 0x80 → sets t at (encode c) ≡ set t at c
  enc1 h = rw (row_1 c (omega arith))

  pub enc2 : 0x80 ≤ c → c < 0x800 → sets t at (encode c) ≡ set (set t at (0xC0 + c / 64)) (at + 1) (0x80 + c % 64)
  enc2 g h = rw (row_2 c (omega arith) (omega arith), add-one)

  pub enc3 : 0x800 ≤ c → c < 0x10000
      → sets t at (encode c) ≡ set (set (set t at (0xE0 + c / 4096)) (at + 1) (0x80 + c / 64 % 64)) (at + 2) (0x80 + c % 64)
  enc3 g h = let two : at + 2 ≡ suc (suc at) = omega arith in rw (row_3 c (omega arith) (omega arith), add-one, two)

  pub enc4 : 0x10000 ≤ c → sets t at (encode c)
      ≡ set (set (set (set t at (0xF0 + c / 262144)) (at + 1) (0x80 + c / 4096 % 64)) (at + 2) (0x80 + c / 64 % 64)) (at + 3) (0x80 + c % 64)
  enc4 g =
      let two : at + 2 ≡ suc (suc at) = omega arith in
      let three : at + 3 ≡ suc (suc (suc at)) = omega arith in
      rw (row_4 c (omega arith), add-one, two, three)
