-- Numbers in bytes as the code puts and gets them, in two parts: one law for every width. Assumes nothing.
use mathlib.Core.Path.{◌≡◌, refl, sym, ap, ap₂, ◌∙◌}
use mathlib.Core.List.{List, [], ◌∷◌, ◌++◌}
use Prim.Native.Nat.{ℕ, zero, suc, ◌+◌, ◌*◌, ◌/◌, ◌%◌, ◌^◌}
use native.Mathlib.Nat.{div-div-eq-div-mul, mul_comm, mul_assoc, pow-suc}
use native.Mathlib.Omega.{arith}
use lib.ListN.{get_or}
use lib.Seq.{sets}
use Rattle.std.specs.Int.{bytes_low_first, byte_at}
use Rattle.meaning.specs.Bytes.{le}
use Rattle.meaning.specs.Between.Words.{get}
use Rattle.meaning.proofs.Bytes.{le_length}
use Rattle.tape.proofs.PuttingLaws.{sets_append}

-- a number's bytes are those of its low part and of its high part
pub le_cut : (v w n : ℕ) → le (v + w) n ≡ le v n ++ le w (n / 256 ^ v)
unfolding le
le_cut zero w n = let e : n ≡ n / 1 = omega arith in let f : 0 + w ≡ w = omega arith in ap₂ le f e
le_cut (suc v) w n =
    let s : suc v + w ≡ suc (v + w) = omega arith in
    let q : n / 256 / 256 ^ v ≡ n / 256 ^ suc v = div-div-eq-div-mul n 256 (256 ^ v) ∙ ap (λ (x : ℕ). n / x) (mul_comm 256 (256 ^ v) ∙ sym (pow-suc 256 v)) in
    ap (λ (x : ℕ). le x n) s
    ∙ ap (λ (l : List ℕ). n % 256 ∷ l) (le_cut v w (n / 256))
    ∙ ap (λ (x : ℕ). n % 256 ∷ (le v (n / 256) ++ le w x)) q

-- put one after the other
pub store_both : (v w : ℕ) (s : List ℕ) (i n : ℕ) → sets (sets s i (le v n)) (i + v) (le w (n / 256 ^ v)) ≡ sets s i (le (v + w) n)
store_both v w s i n =
    sets_append s i (i + v) (le v n) (le w (n / 256 ^ v)) (omega (arith, le_length v n)) ∙ ap (sets s i) (sym (le_cut v w n))

pub stored : (v w : ℕ) (s t u : List ℕ) (i n : ℕ) → t ≡ sets s i (le v n) → u ≡ sets t (i + v) (le w (n / 256 ^ v)) → u ≡ sets s i (le (v + w) n)
stored v w s t u i n e f = f ∙ ap (λ (x : List ℕ). sets x (i + v) (le w (n / 256 ^ v))) e ∙ store_both v w s i n

-- and got one after the other
pub get_cut : (v w : ℕ) (s : List ℕ) (i : ℕ) → get (v + w) s i ≡ get v s i + get w s (i + v) * 256 ^ v
unfolding get
get_cut zero w s i =
    let f : 0 + w ≡ w = omega arith in
    let e : i ≡ i + 0 = omega arith in
    ap₂ (λ (x y : ℕ). get x s y) f e ∙ omega arith
get_cut (suc v) w s i =
    let n : suc v + w ≡ suc (v + w) = omega arith in
    let e : i + 1 + v ≡ i + suc v = omega arith in
    let high = get w s (i + suc v) in
    let p : high * 256 ^ v * 256 ≡ high * 256 ^ suc v = mul_assoc high (256 ^ v) 256 ∙ ap (λ (x : ℕ). high * x) (sym (pow-suc 256 v)) in
    ap (λ (x : ℕ). get x s i) n
    ∙ ap (λ (x : ℕ). x * 256 + get_or s i 0) (get_cut v w s (i + 1) ∙ ap (λ (x : ℕ). get v s (i + 1) + get w s x * 256 ^ v) e)
    ∙ omega arith

pub got : (v w : ℕ) (s : List ℕ) (i a b : ℕ) → a ≡ get v s i → b ≡ get w s (i + v) → a + b * 256 ^ v ≡ get (v + w) s i
got v w s i a b e f = ap₂ (λ (x y : ℕ). x + y * 256 ^ v) e f ∙ sym (get_cut v w s i)

-- ---- std's bytes of a number

-- its bytes from byte i up
pub le_low : (k i n : ℕ) → bytes_low_first i k n ≡ le k (n / 256 ^ i)
unfolding le
le_low zero i n = refl
le_low (suc k) i n = ap₂ (λ (b : ℕ) (l : List ℕ). b ∷ l) (byte_is i) (le_low k (suc i) n ∙ ap (le k) (sym (next i)))
  where
    byte_is : (i : ℕ) → byte_at i n ≡ n / 256 ^ i % 256
    byte_is zero = omega arith
    byte_is (suc i) = refl

    next : (i : ℕ) → n / 256 ^ i / 256 ≡ n / 256 ^ suc i
    next i = div-div-eq-div-mul n (256 ^ i) 256 ∙ ap (λ (x : ℕ). n / x) (sym (pow-suc 256 i))

pub le_is : (k n : ℕ) → bytes_low_first 0 k n ≡ le k n
le_is k n = let e : n / 256 ^ 0 ≡ n = omega arith in le_low k 0 n ∙ ap (le k) e

-- the low bytes of a number
pub le_two : (n : ℕ) → le 2 (n % 65536) ≡ le 2 n
unfolding le
le_two n =
    let a : n % 65536 % 256 ≡ n % 256 = omega arith in
    let b : n % 65536 / 256 % 256 ≡ n / 256 % 256 = omega arith in
    λ k. a k ∷ b k ∷ []

pub le_four : (n : ℕ) → le 4 (n % 4294967296) ≡ le 4 n
unfolding le
le_four n =
    let a : n % 4294967296 % 256 ≡ n % 256 = omega arith in
    let b : n % 4294967296 / 256 % 256 ≡ n / 256 % 256 = omega arith in
    let c : n % 4294967296 / 256 / 256 % 256 ≡ n / 256 / 256 % 256 = omega arith in
    let d : n % 4294967296 / 256 / 256 / 256 % 256 ≡ n / 256 / 256 / 256 % 256 = omega arith in
    λ k. a k ∷ b k ∷ c k ∷ d k ∷ []

-- byte by byte, each at its place
pub get_two : (s : List ℕ) (i j : ℕ) → j ≡ i + 1 → get 2 s i ≡ get_or s i 0 + get_or s j 0 * 256
unfolding get
get_two s i j a = rw a (omega arith)

pub get_four : (s : List ℕ) (i j k l : ℕ) → j ≡ i + 1 → k ≡ j + 1 → l ≡ k + 1 → get 4 s i
    ≡ get_or s i 0 + get_or s j 0 * 256 + get_or s k 0 * 65536 + get_or s l 0 * 16777216
unfolding get
get_four s i j k l a b c = rw (c, b, a) (omega arith)

pub get_eight : (s : List ℕ) (i j k l m n o p : ℕ) → j ≡ i + 1 → k ≡ j + 1 → l ≡ k + 1 → m ≡ l + 1 → n ≡ m + 1 → o ≡ n + 1 → p ≡ o + 1 → get 8 s i
    ≡ get_or s i 0 + get_or s j 0 * 256 + get_or s k 0 * 65536 + get_or s l 0 * 16777216 + get_or s m 0 * 4294967296 + get_or s n 0 * 1099511627776
    + get_or s o 0 * 281474976710656
    + get_or s p 0 * 72057594037927936
get_eight s i j k l m n o p a b c d e f g =
    let x = get_four s i j k l a b c in
    let y = get_four s m n o p e f g in
    let z : get 4 s (i + 4) ≡ get 4 s m = let q : i + 4 ≡ m = omega arith in ap (get 4 s) q in
    get_cut 4 4 s i ∙ omega (arith, x, y, z)
