-- Numbers put one after the other, and all of a check's bytes. Assumes nothing.
use mathlib.Core.Path.{◌≡◌, refl, sym, ap, ◌∙◌, subst}
use mathlib.Core.List.{List, [], ◌∷◌, ◌++◌, append_assoc, append-nil}
use Prim.Native.Nat.{ℕ, ◌+◌, ◌*◌, ◌-◌, ◌<◌}
use native.Mathlib.Numerals.{add-one}
use native.Mathlib.Omega.{arith}
use lib.ListN.{length, take, drop, get_or, replicate, length-take, length-drop, length-append, length-replicate, drop_of_length-le}
use lib.Seq.{sets, sets-eq, length-sets, take-suc, take-length}
use Rattle.meaning.specs.Bytes.{le}
use Rattle.meaning.proofs.Bytes.{le_length}
use Rattle.tape.proofs.PuttingLaws.{sets_append}
use Rattle.meaning.specs.Between.Words.{get}
use Rattle.meaning.specs.Limits.{depth_limit}
use Rattle.arriving.specs.declared.Core.{Core}
use Rattle.arriving.specs.declared.Check.{Check}
use Rattle.arriving.specs.declared.octets.Utf.{Utf}
use Rattle.arriving.specs.declared.packing.Flat.{Flat}
use Rattle.arriving.specs.declared.states.Due.{Due}
use Rattle.arriving.specs.declared.states.Mode.{Mode}
use Rattle.arriving.specs.declared.states.Here.{Here}
use Rattle.arriving.specs.Between.Arriving.{core_of, check_of}
use Rattle.arriving.specs.Between.Steps.{here_of}
use Rattle.arriving.specs.Between.Packing.{due_of, flat_mode, mode_of, FitMode, spread, Narrow, smalls, larges, numbered, Kept, packed, flat_at}
use Rattle.arriving.specs.Between.Packing.{utf_at, here_at, unpacked}

-- ---- numbers of eight bytes

spread_snoc : (a : List ℕ) (v : ℕ) → spread (a ++ (v ∷ [])) ≡ spread a ++ le 8 v
unfolding spread
spread_snoc [] v = append-nil (le 8 v)
spread_snoc (x ∷ a) v = ap (λ (l : List ℕ). le 8 x ++ l) (spread_snoc a v) ∙ sym (append_assoc (le 8 x) (spread a) (le 8 v))

pub spread_length : (a : List ℕ) → length (spread a) ≡ 8 * length a
unfolding spread
spread_length [] = refl
spread_length (x ∷ a) = length-append (le 8 x) (spread a) ∙ omega (arith, le_length 8 x, spread_length a)

pub word_more : (w s u : List ℕ) (at i : ℕ) → i < length w → u ≡ sets s at (spread (take i w))
    → sets u (at + 8 * i) (le 8 (get_or w i 0)) ≡ sets s at (spread (take (i + 1) w))
word_more w s u at i h q =
    let v = get_or w i 0 in
    let o = at + 8 * i in
    let n : at + length (spread (take i w)) ≡ o = omega (arith, spread_length (take i w), length-take i w) in
    ap (λ (x : List ℕ). sets x o (le 8 v)) q
    ∙ sets_append s at o (spread (take i w)) (le 8 v) n
    ∙ ap (sets s at) (sym (ap (λ (k : ℕ). spread (take k w)) (add-one i) ∙ ap spread (take-suc w i 0 h) ∙ spread_snoc (take i w) v))

-- ---- the check of any bytes

-- a list laid over another of its length
pub over_all : (t s : List ℕ) → length t ≡ length s → sets s 0 t ≡ t
over_all t s h =
    sets-eq t s 0 (omega arith)
    ∙ ap (λ (x : List ℕ). t ++ x) (drop_of_length-le s {i = 0 + length t} (omega arith))
    ∙ append-nil t

pub kinds_are : (s k : List ℕ) → length s ≡ 640 → k ≡ sets (replicate 64 0) 0 (take (192 - 128) (drop 128 s)) → k ≡ take 64 (drop 128 s)
kinds_are s k h e =
    e ∙ over_all (take 64 (drop 128 s)) (replicate 64 0) (omega (arith, length-take 64 (drop 128 s), length-drop 128 s, length-replicate {A = ℕ} 64 0))

pub check_is : (s k : List ℕ) (n : ℕ) (u : Utf) (h : Here) → length s ≡ 640 → k ≡ sets (replicate 64 0) 0 (take (192 - 128) (drop 128 s))
    → n ≡ get 8 s 16 → u ≡ utf_at s → h ≡ here_at s → check_of (core_of n u h) k ≡ unpacked s
unfolding unpacked depth_limit
check_is s k n u h l e f g i = λ j. check_of (core_of (f j) (g j) (i j)) (kinds_are s k l e j)

pub here_is : (s : List ℕ) (m : Mode) (f : Flat) (u : Due) (d r t : ℕ) → m ≡ mode_of f → f ≡ flat_at s → u ≡ due_of (get_or s 4 0) → d ≡ get 8 s 32
    → r ≡ get 8 s 40 → t ≡ get 8 s 48 → here_of m u d r t ≡ here_at s
unfolding here_at
here_is s m f u d r t a b c g h i = λ j. here_of ((a ∙ ap mode_of b) j) (c j) (g j) (h j) (i j)

-- ---- a check's bytes

pub core_kept : (c : Core) (s t u : List ℕ) (f : Flat) → f ≡ flat_mode c.here.mode → FitMode c.here.mode
    → t ≡ sets s 0 (smalls c.utf c.here.due f) → u ≡ sets t 16 (spread (larges c.length c.utf c.here f))
    → Narrow (larges c.length c.utf c.here f) → Kept c s u
unfolding smalls
core_kept c s t u f e fit p q narrow =
    let w = spread (larges c.length c.utf c.here f) in
    record {
      put =
          q
          ∙ ap (λ (x : List ℕ). sets x 16 w) p
          ∙ sets_append s 0 16 (smalls c.utf c.here.due f) w refl
          ∙ ap (λ (g : Flat). sets s 0 (numbered c g)) e;
      fit = fit;
      narrow = subst (λ (g : Flat). Narrow (larges c.length c.utf c.here g)) e narrow;
    }

-- all but the kinds are 128 bytes
pub numbered_length : (c : Core) (f : Flat) → length (numbered c f) ≡ 128
unfolding smalls larges
numbered_length c f =
    let u = c.utf in
    let l = larges c.length u c.here f in
    length-append (smalls u c.here.due f) (spread l) ∙ ap (λ (n : ℕ). 16 + n) (spread_length l)

pub kept_length : (c : Core) (s t : List ℕ) → Kept c s t → length t ≡ length s
kept_length c s t k = ap length k.put ∙ length-sets s 0 (numbered c (flat_mode c.here.mode))

-- all of a list of this length, as code copies it
pub whole_of : (n : ℕ) (s : List ℕ) → length s ≡ n → take (n - 0) (drop 0 s) ≡ s
whole_of n s h = let e : n - 0 ≡ length s = omega arith in ap (λ (k : ℕ). take k s) e ∙ take-length s

-- and all of it, over zeros
pub all_put : (x : Check) (s t u v : List ℕ) → length x.kinds ≡ 64 → Kept x.core (replicate 640 0) s
    → t ≡ sets s 128 x.kinds → v ≡ sets u 0 t → v ≡ sets u 0 (packed x)
unfolding packed depth_limit
all_put x s t u v h k e f =
    let n = numbered x.core (flat_mode x.core.here.mode) in
    let l = numbered_length x.core (flat_mode x.core.here.mode) in
    let z : List ℕ = replicate 640 0 in
    let y = n ++ x.kinds in
    let m : length y ≡ 192 = length-append n x.kinds ∙ omega arith in
    let g : t ≡ n ++ (x.kinds ++ replicate 448 0) =
    e
    ∙ ap (λ (a : List ℕ). sets a 128 x.kinds) k.put
    ∙ sets_append z 0 128 n x.kinds (omega arith)
    ∙ sets-eq y z 0 (omega (arith, length-replicate {A = ℕ} 640 0))
    ∙ ap (λ (i : ℕ). y ++ drop (0 + i) z) m
    ∙ append_assoc n x.kinds (replicate 448 0) in
    f ∙ ap (sets u 0) g
