-- The bytes that a caller keeps, of any length: a check that lies in them is read back, and what lies past it stays. Assumes nothing.
use mathlib.Core.Path.{◌≡◌, refl, sym, ap, ◌∙◌}
use mathlib.Core.Bool.{Bool, true, false}
use mathlib.Core.List.{List, [], ◌++◌}
use Prim.Native.Nat.{ℕ, ◌+◌, ◌≤◌}
use native.Mathlib.Omega.{arith}
use lib.Dec.{leb}
use lib.ListN.{length, take, drop, replicate, length-take, length-drop, length-append, length-replicate, take-append-drop, drop_of_length-le}
use lib.Seq.{sets, sets-eq, length-sets, take_at, drop_at}
use borrow.Author.Tests.{leb-true, leb-false}
use Rattle.meaning.specs.Between.Words.{get}
use Rattle.meaning.specs.Limits.{depth_limit}
use Rattle.items.proofs.StoreLaws.{sets_out}
use Rattle.tape.proofs.PuttingLaws.{sets_append}
use Rattle.arriving.specs.declared.Check.{Check}
use Rattle.arriving.specs.Between.Arriving.{started}
use Rattle.arriving.specs.Between.Packing.{flat_mode, numbered, packed, flat_at, utf_at, here_at, unpacked, padded}
use Rattle.arriving.proofs.PackingByteLaws.{numbered_length, over_all}

-- of enough bytes the first are read
pub padded_long : (t : List ℕ) → 640 ≤ length t → padded t ≡ take 640 t
unfolding padded
padded_long t h =
    let z : List ℕ = replicate 640 0 in
    let a = take 640 t in
    let n : length a ≡ 640 = omega (arith, length-take 640 t) in
    ap (sets z 0) (sym (take-append-drop 640 t))
    ∙ sym (sets_append z 0 640 a (drop 640 t) (omega arith))
    ∙ ap (λ (x : List ℕ). sets x 640 (drop 640 t)) (over_all a z (omega (arith, length-replicate {A = ℕ} 640 0)))
    ∙ sets_out a 640 (drop 640 t) (omega arith)

-- a check that comes back has 640 bytes
pub packed_length : (c : Check) → unpacked (packed c) ≡ c → length (packed c) ≡ 640
unfolding packed unpacked depth_limit
packed_length c e =
    let n = numbered c.core (flat_mode c.core.here.mode) in
    let k = c.kinds ++ replicate 448 0 in
    let f : length (take 64 (drop 128 (n ++ k))) ≡ length c.kinds = ap (λ (x : Check). length x.kinds) e in
    omega (
      arith,
      f,
      length-take 64 (drop 128 (n ++ k)),
      length-drop 128 (n ++ k),
      length-append n k,
      length-append c.kinds (replicate 448 0),
      length-replicate {A = ℕ} 448 0,
      numbered_length c.core (flat_mode c.core.here.mode),
    )

put_over : (s p : List ℕ) → length p ≡ 640 → 640 ≤ length s → sets s 0 p ≡ p ++ drop 640 s
put_over s p n h = sets-eq p s 0 (omega arith) ∙ ap (λ (i : ℕ). p ++ drop (0 + i) s) n

-- what was put is read
pub state_back : (s : List ℕ) (c : Check) → unpacked (packed c) ≡ c → 640 ≤ length s → unpacked (padded (sets s 0 (packed c))) ≡ c
state_back s c e h =
    let p = packed c in
    let n = packed_length c e in
    let l : 640 ≤ length (sets s 0 p) = omega (arith, length-sets s 0 p) in
    ap unpacked (padded_long (sets s 0 p) l ∙ ap (take 640) (put_over s p n h) ∙ take_at p (drop 640 s) 640 n) ∙ e

-- what lies past it stays, and where there are fewer bytes none comes
pub state_past : (s : List ℕ) (c : Check) → unpacked (packed c) ≡ c → drop 640 (sets s 0 (packed c)) ≡ drop 640 s
state_past s c e = by (leb 640 (length s)) refl
  where
    by : (b : Bool) → leb 640 (length s) ≡ b → drop 640 (sets s 0 (packed c)) ≡ drop 640 s
    by true h =
        let n = packed_length c e in
        ap (drop 640) (put_over s (packed c) n (leb-true 640 (length s) h)) ∙ drop_at (packed c) (drop 640 s) 640 n
    by false h =
        let l = leb-false 640 (length s) h in
        drop_of_length-le (sets s 0 (packed c)) {i = 640} (omega (arith, length-sets s 0 (packed c)))
        ∙ sym (drop_of_length-le s {i = 640} (omega arith))

-- zeros are a check to which nothing has come
pub zeros_start : unpacked (padded []) ≡ started
unfolding unpacked padded utf_at here_at flat_at get depth_limit
zeros_start = refl
