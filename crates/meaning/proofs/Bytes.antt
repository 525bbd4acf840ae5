-- Numbers in bytes: one law for every width. Assumes nothing.
use mathlib.Core.Path.{◌≡◌, refl, sym, ap, ap₂, ◌∙◌, subst}
use mathlib.Core.List.{List, [], ◌∷◌, ◌++◌}
use Prim.Native.Nat.{ℕ, zero, suc, ◌+◌, ◌*◌, ◌/◌, ◌%◌, ◌^◌, ◌≤◌, ◌<◌}
use native.Mathlib.Nat.{div-add-mod', div-lt_iff_lt-mul, pow-suc, mul_assoc}
use native.Mathlib.Numerals.{add-one}
use native.Mathlib.Omega.{arith}
use lib.Arith.{digits_lt}
use lib.ListN.{length, get_or, take, drop}
use lib.Seq.{get_or-append-add, drop-cons, take_at, drop_at}
use Rattle.meaning.specs.Good.{Bytes}
use Rattle.meaning.specs.Bytes.{le}
use Rattle.meaning.specs.Between.Words.{get}

-- ---- lists of bytes

pub bytes_append : (a b : List ℕ) → Bytes a → Bytes b → Bytes (a ++ b)
bytes_append [] b f g = g
bytes_append (x ∷ a) b f g = (f.0, bytes_append a b f.1 g)

pub bytes_left : (a b : List ℕ) → Bytes (a ++ b) → Bytes a
bytes_left [] b f = tt
bytes_left (x ∷ a) b f = (f.0, bytes_left a b f.1)

pub bytes_right : (a b : List ℕ) → Bytes (a ++ b) → Bytes b
bytes_right [] b f = f
bytes_right (x ∷ a) b f = bytes_right a b f.1

pub bytes_of : (s : List ℕ) → ((i : ℕ) → get_or s i 0 < 256) → Bytes s
bytes_of [] h = tt
bytes_of (x ∷ s) h = (h 0, bytes_of s (λ i. h (suc i)))

-- the part s of a store, by its place and length
pub part_is : (store pre s post : List ℕ) → store ≡ pre ++ (s ++ post) → (at : ℕ) → at ≡ length pre → take (length s) (drop at store) ≡ s
part_is store pre s post e at a = rw (a, e) (rw (drop_at pre (s ++ post) (length pre) refl) (take_at s post (length s) refl))

-- ---- little-endian

pub le_length : (w v : ℕ) → length (le w v) ≡ w
unfolding le
le_length zero v = refl
le_length (suc w) v = ap suc (le_length w (v / 256))

pub le_bytes : (w v : ℕ) → Bytes (le w v)
unfolding le
le_bytes zero v = tt
le_bytes (suc w) v = (omega arith, le_bytes w (v / 256))

-- a number of w bytes is below 256 ^ w
pub get_lt : (w : ℕ) (s : List ℕ) (i : ℕ) → ((j : ℕ) → get_or s j 0 < 256) → get w s i < 256 ^ w
unfolding get
get_lt zero s i h = omega arith
get_lt (suc w) s i h = subst (λ (x : ℕ). get w s (i + 1) * 256 + get_or s i 0 < x) (sym (pow-suc 256 w)) (digits_lt (get_lt w s (i + 1) h) (h i))

-- what comes before does not count
pub get_past : (w : ℕ) (a s : List ℕ) (i : ℕ) → get w (a ++ s) (length a + i) ≡ get w s i
unfolding get
get_past zero a s i = refl
get_past (suc w) a s i =
    let e : length a + i + 1 ≡ length a + (i + 1) = omega arith in
    ap₂ (λ (x y : ℕ). x * 256 + y) (ap (λ (k : ℕ). get w (a ++ s) k) e ∙ get_past w a s (i + 1)) (get_or-append-add a s i 0)

pub get_at : (w : ℕ) (a s : List ℕ) (n i : ℕ) → length a + n ≡ i → get w (a ++ s) i ≡ get w s n
get_at w a s n i e = subst (λ (k : ℕ). get w (a ++ s) k ≡ get w s n) e (get_past w a s n)

-- the number that was put is the one that is got
pub get_le : (w v : ℕ) (s : List ℕ) → v < 256 ^ w → get w (le w v ++ s) 0 ≡ v
unfolding get le
get_le zero v s h = omega arith
get_le (suc w) v s h =
    ap (λ (x : ℕ). x * 256 + v % 256)
    (get_past w (v % 256 ∷ []) (le w (v / 256) ++ s) 0 ∙ get_le w (v / 256) s ((div-lt_iff_lt-mul (omega arith)).1
    (subst (λ (x : ℕ). v < x) (pow-suc 256 w) h)))
    ∙ div-add-mod' v 256

-- the bytes of the number that was got are the bytes that lie there
pub le_drop : (w : ℕ) (s : List ℕ) (p : ℕ) → ((j : ℕ) → get_or s j 0 < 256) → p + w ≤ length s → le w (get w s p) ++ drop (p + w) s ≡ drop p s
unfolding get le
le_drop zero s p b h = let z : p + 0 ≡ p = omega arith in ap (λ (k : ℕ). drop k s) z
le_drop (suc w) s p b h =
    let y = b p in
    let x = get w s (p + 1) in
    let e : (x * 256 + get_or s p 0) / 256 ≡ x = omega arith in
    let f : (x * 256 + get_or s p 0) % 256 ≡ get_or s p 0 = omega arith in
    let g : p + suc w ≡ p + 1 + w = omega arith in
    ap₂ (λ (u v : ℕ). u ∷ (le w v ++ drop (p + suc w) s)) f e
    ∙ ap (λ (k : ℕ). get_or s p 0 ∷ (le w x ++ drop k s)) g
    ∙ ap (λ (l : List ℕ). get_or s p 0 ∷ l) (le_drop w s (p + 1) b (omega arith))
    ∙ ap (λ (k : ℕ). get_or s p 0 ∷ drop k s) (add-one p)
    ∙ sym (drop-cons s p 0 (omega arith))

-- two numbers side by side are one, of both widths
pub le_join : (v w a b : ℕ) → a < 256 ^ v → le v a ++ le w b ≡ le (v + w) (a + b * 256 ^ v)
unfolding le
le_join zero w a b h = let e : a + b * 1 ≡ b = omega arith in let f : 0 + w ≡ w = omega arith in sym (ap₂ le f e)
le_join (suc v) w a b h =
    let p = pow-suc 256 v in
    let q : b * 256 ^ suc v ≡ b * 256 ^ v * 256 = ap (λ (x : ℕ). b * x) p ∙ sym (mul_assoc b (256 ^ v) 256) in
    let l : a / 256 < 256 ^ v = (div-lt_iff_lt-mul {k = 256} (omega arith)).1 (subst (λ (x : ℕ). a < x) p h) in
    let m : (a + b * 256 ^ suc v) % 256 ≡ a % 256 = omega arith in
    let d : (a + b * 256 ^ suc v) / 256 ≡ a / 256 + b * 256 ^ v = omega arith in
    let s : suc v + w ≡ suc (v + w) = omega arith in
    ap (λ (l : List ℕ). a % 256 ∷ l) (le_join v w (a / 256) b l)
    ∙ ap₂ (λ (x y : ℕ). x ∷ le (v + w) y) (sym m) (sym d)
    ∙ ap (λ (n : ℕ). le n (a + b * 256 ^ suc v)) (sym s)
