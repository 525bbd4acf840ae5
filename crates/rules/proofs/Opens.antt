-- Bytes each of which may follow the three before it are UTF-8 up to the beginning of the last character. Assumes nothing.
use mathlib.Core.Path.{◌≡◌, sym, ap, ◌∙◌}
use mathlib.Core.List.{List, ◌∷◌, ◌++◌}
use Prim.Native.Nat.{ℕ, zero, suc, ◌+◌, ◌-◌, ◌≤◌, ◌<◌}
use native.Mathlib.Decide.{dec_lt, ℕ_discrete}
use native.Mathlib.Omega.{arith}
use lib.ListN.{length, get_or, take, drop, take-append-drop, length-drop}
use lib.Seq.{length-take-le}
use Rattle.rules.specs.Rfc3629.{Char}
use Rattle.rules.specs.Between.Posts.{AtMost, Ascii, Passed, CharAt, char, low_of, high_of}
use Rattle.rules.specs.Between.Beside.{IsTail, Wanted, Barred, Beside, Clean, Topped, BlockIs, plain, wide, faulty, Open, whole, one, two, three}
use Rattle.std.specs.declared.option.Option.TheVariants.{Some}
use Rattle.rules.specs.declared.blocks.Block.{Block}
use Rattle.rules.specs.declared.blocks.Block.TheVariants.{Plain, Wide}
use Rattle.rules.proofs.Characters.{short}
use Rattle.rules.proofs.Places
use Rattle.rules.proofs.Places.{up, down, down⁻, step2, step3, step4, step5}
use Rattle.rules.proofs.Places.{low_e0, low_f0, low_else, high_ed, high_f4, high_else, at_first_lem, ascii_char, back2, back3, back4}
use Rattle.rules.proofs.Runs.{ascii_join, ascii_block, passed_ascii, passed_char}

-- ---- the bounds of a second byte

pub low_least : (a : ℕ) → 0x80 ≤ low_of a
low_least a = go (ℕ_discrete a 0xE0) (ℕ_discrete a 0xF0)
  where
    go : Dec (a ≡ 0xE0) → Dec (a ≡ 0xF0) → 0x80 ≤ low_of a
    go (yes e) q = omega (arith, ap low_of e ∙ low_e0)
    go (no p) (yes e) = omega (arith, ap low_of e ∙ low_f0)
    go (no p) (no q) = omega (arith, low_else a p q)

pub high_most : (a : ℕ) → high_of a ≤ 0xBF
high_most a = go (ℕ_discrete a 0xED) (ℕ_discrete a 0xF4)
  where
    go : Dec (a ≡ 0xED) → Dec (a ≡ 0xF4) → high_of a ≤ 0xBF
    go (yes e) q = omega (arith, ap high_of e ∙ high_ed)
    go (no p) (yes e) = omega (arith, ap high_of e ∙ high_f4)
    go (no p) (no q) = omega (arith, high_else a p q)

-- ---- four bytes

tail_is : {b t : ℕ} → IsTail b t → t ≡ 255 → (0x80 ≤ b) × (b ≤ 0xBF)
tail_is {b} {t} x e = go (dec_lt b 0x80) (dec_lt 0xBF b)
  where
    go : Dec (b < 0x80) → Dec (0xBF < b) → (0x80 ≤ b) × (b ≤ 0xBF)
    go (yes h) q = absurd (omega (arith, x.below h))
    go (no h) (yes g) = absurd (omega (arith, x.above g))
    go (no h) (no g) = omega arith

not_tail : {b t : ℕ} → IsTail b t → t ≡ 0 → 0x80 ≤ b → 0xC0 ≤ b
not_tail {b} {t} x e l = go (dec_lt 0xBF b)
  where
    go : Dec (0xBF < b) → 0xC0 ≤ b
    go (yes h) = omega arith
    go (no h) = absurd (omega (arith, x.tail l (omega arith)))

-- a tail that is not barred lies within the bounds
module _ {p b v u : ℕ} (x : Barred 0xA0 0xE0 0xED b v) (y : Barred 0x90 0xF0 0xF4 b u) (n : p ≡ v → ⊥) (m : p ≡ u → ⊥) where
  from_low : 0x80 ≤ b → low_of p ≤ b
  from_low l = go (ℕ_discrete p 0xE0) (ℕ_discrete p 0xF0) (dec_lt b 0xA0) (dec_lt b 0x90)
    where
      go : Dec (p ≡ 0xE0) → Dec (p ≡ 0xF0) → Dec (b < 0xA0) → Dec (b < 0x90) → low_of p ≤ b
      go (yes e) q (yes h) k = absurd (n (e ∙ sym (x.under h)))
      go (yes e) q (no h) k = omega (arith, ap low_of e ∙ low_e0)
      go (no f) (yes e) h (yes k) = absurd (m (e ∙ sym (y.under k)))
      go (no f) (yes e) h (no k) = omega (arith, ap low_of e ∙ low_f0)
      go (no f) (no g) h k = omega (arith, low_else p f g)

  to_high : b ≤ 0xBF → b ≤ high_of p
  to_high l = go (ℕ_discrete p 0xED) (ℕ_discrete p 0xF4) (dec_lt b 0xA0) (dec_lt b 0x90)
    where
      go : Dec (p ≡ 0xED) → Dec (p ≡ 0xF4) → Dec (b < 0xA0) → Dec (b < 0x90) → b ≤ high_of p
      go (yes e) q (no h) k = absurd (n (e ∙ sym (x.from (omega arith))))
      go (yes e) q (yes h) k = omega (arith, ap high_of e ∙ high_ed)
      go (no f) (yes e) h (no k) = absurd (m (e ∙ sym (y.from (omega arith))))
      go (no f) (yes e) h (yes k) = omega (arith, ap high_of e ∙ high_f4)
      go (no f) (no g) h k = omega (arith, high_else p f g)

-- a tail stands just where one is wanted, after no byte that bars it, and b is neither C0 nor C1
pub beside : {o q p b w t v u : ℕ} → Wanted o q p w → IsTail b t → w ≡ t → Barred 0xA0 0xE0 0xED b v → Barred 0x90 0xF0 0xF4 b u
    → (p ≡ v → ⊥) → (p ≡ u → ⊥) → (b ≡ 0xC0 → ⊥) → (b ≡ 0xC1 → ⊥) → Beside o q p b
beside {o} {q} {p} {b} {w} {t} a c e x y n m f g =
    record {
      first = λ i j k l. let z = not_tail c (sym e ∙ a.none i j k) l in less z;
      second = λ l. let z = tail_is c (sym e ∙ a.second l) in (from_low x y n m z.0, to_high x y n m z.1);
      third = λ l. tail_is c (sym e ∙ a.third l);
      fourth = λ l. tail_is c (sym e ∙ a.fourth l);
    }
  where
    less : 0xC0 ≤ b → 0xC2 ≤ b
    less z = omega arith

-- an ASCII byte may stand where no tail is wanted
pub beside_ascii : {o q p b : ℕ} → p < 0xC0 → q < 0xE0 → o < 0xF0 → b < 0x80 → Beside o q p b
beside_ascii i j k l = omega arith

-- ---- a character after what has been passed

at_same : (s : List ℕ) {i j : ℕ} → i ≡ j → get_or s i 0 ≡ get_or s j 0
at_same s e = ap (λ (k : ℕ). get_or s k 0) e

next1 : (s : List ℕ) (m n : ℕ) → n ≡ m + 1 → Passed s m → n ≤ length s → get_or s m 0 < 0x80 → Passed s n
next1 s m n en p f h = rw en (passed_char s m 1 p (ascii_char s m (omega arith) h))

next2 : (s : List ℕ) (m i n : ℕ) → i ≡ m + 1 → n ≡ m + 2 → Passed s m → n ≤ length s
    → 0xC2 ≤ get_or s m 0 → get_or s m 0 < 0xE0 → 0x80 ≤ get_or s i 0 → get_or s i 0 ≤ 0xBF → Passed s n
next2 s m i n ei en p f a b c d =
    let g = at_same s ei in
    let u = up step2 (get_or s m 0) (omega arith) (omega arith) in let v = down step3 (get_or s m 0) (omega arith) (omega arith) in
    let q = Places.plain (get_or s m 0) (λ x. omega arith) (λ x. omega arith) (λ x. omega arith) (λ x. omega arith) in
    rw en (passed_char s m 2 p (back2 s m (omega arith)))

next3 : (s : List ℕ) (m i j n : ℕ) → i ≡ m + 1 → j ≡ m + 2 → n ≡ m + 3 → Passed s m → n ≤ length s → 0xE0 ≤ get_or s m 0 → get_or s m 0 < 0xF0
    → low_of (get_or s m 0) ≤ get_or s i 0 → get_or s i 0 ≤ high_of (get_or s m 0) → 0x80 ≤ get_or s j 0 → get_or s j 0 ≤ 0xBF → Passed s n
next3 s m i j n ei ej en p f a b lo hi c d =
    let g = at_same s ei in let h = at_same s ej in
    let u = up step3 (get_or s m 0) (omega arith) (omega arith) in let v = down step4 (get_or s m 0) (omega arith) (omega arith) in
    rw en (passed_char s m 3 p (back3 s m (omega arith)))

next4 : (s : List ℕ) (m i j k n : ℕ) → i ≡ m + 1 → j ≡ m + 2 → k ≡ m + 3 → n ≡ m + 4 → Passed s m → n ≤ length s
    → 0xF0 ≤ get_or s m 0 → get_or s m 0 ≤ 0xF4 → low_of (get_or s m 0) ≤ get_or s i 0 → get_or s i 0 ≤ high_of (get_or s m 0)
    → 0x80 ≤ get_or s j 0 → get_or s j 0 ≤ 0xBF → 0x80 ≤ get_or s k 0 → get_or s k 0 ≤ 0xBF → Passed s n
next4 s m i j k n ei ej ek en p f a b lo hi c d x y =
    let g = at_same s ei in let h = at_same s ej in let l = at_same s ek in
    let u = up step4 (get_or s m 0) (omega arith) (omega arith) in let v = down step5 (get_or s m 0) (omega arith) (omega arith) in
    rw en (passed_char s m 4 p (back4 s m (omega arith)))

-- ---- one byte more

-- the four ways to be open, at places given by equations
module _ (s : List ℕ) (h i j k : ℕ) (ei : i ≡ h + 1) (ej : j ≡ h + 2) (ek : k ≡ h + 3) where
  whole_at : Passed s k → get_or s h 0 < 0xF0 → get_or s i 0 < 0xE0 → get_or s j 0 < 0xC0 → Open s h
  whole_at p a b c = whole (rw ek at p) a (rw ei at b) (rw ej at c)

  one_at : Passed s j → k ≤ length s → get_or s i 0 < 0xF0 → 0xC2 ≤ get_or s j 0 → get_or s j 0 ≤ 0xF4 → Open s h
  one_at p f a b c = one (rw ej at p) (rw ek at f) (rw ei at a) (rw ej at b) (rw ej at c)

  two_at : Passed s i → k ≤ length s → 0xE0 ≤ get_or s i 0 → get_or s i 0 ≤ 0xF4
      → low_of (get_or s i 0) ≤ get_or s j 0 → get_or s j 0 ≤ high_of (get_or s i 0) → Open s h
  two_at p f a b c d = two (rw ei at p) (rw ek at f) (rw ei at a) (rw ei at b) (rw (← ei, ← ej) c) (rw (← ei, ← ej) d)

  three_at : Passed s h → k ≤ length s → 0xF0 ≤ get_or s h 0 → get_or s h 0 ≤ 0xF4 → low_of (get_or s h 0) ≤ get_or s i 0
      → get_or s i 0 ≤ high_of (get_or s h 0)
      → 0x80 ≤ get_or s j 0 → get_or s j 0 ≤ 0xBF → Open s h
  three_at p f a b c d x y = three p (rw ek at f) a b (rw ei at c) (rw ei at d) (rw ej at x) (rw ej at y)

module _ (s : List ℕ) (h : ℕ) (x : Beside (get_or s h 0) (get_or s (h + 1) 0) (get_or s (h + 2) 0) (get_or s (h + 3) 0)) (t : get_or s (h + 3) 0 ≤ 0xF4)
    (f : h + 4 ≤ length s) where
  after_whole : Passed s (h + 3) → get_or s h 0 < 0xF0 → get_or s (h + 1) 0 < 0xE0 → get_or s (h + 2) 0 < 0xC0 → Dec (get_or s (h + 3) 0 < 0x80)
      → Open s (h + 1)
  after_whole p a b c (yes l) =
      whole_at s (h + 1) (h + 2) (h + 3) (h + 4) (omega arith) (omega arith) (omega arith)
      (next1 s (h + 3) (h + 4) (omega arith) p f l) (omega arith) (omega arith) (omega arith)
  after_whole p a b c (no l) =
      one_at s (h + 1) (h + 2) (h + 3) (h + 4) (omega arith) (omega arith) (omega arith) p f (omega arith) (x.first c b a (omega arith)) t

  after_one : Passed s (h + 2) → get_or s (h + 1) 0 < 0xF0 → 0xC2 ≤ get_or s (h + 2) 0 → get_or s (h + 2) 0 ≤ 0xF4 → Dec (get_or s (h + 2) 0 < 0xE0)
      → Open s (h + 1)
  after_one p a l u (yes g) =
      let y = x.second (omega arith) in
      let lo = low_least (get_or s (h + 2) 0) in let hi = high_most (get_or s (h + 2) 0) in
      whole_at s (h + 1) (h + 2) (h + 3) (h + 4) (omega arith) (omega arith) (omega arith)
      (next2 s (h + 2) (h + 3) (h + 4) (omega arith) (omega arith) p f l g (omega arith) (omega arith)) a g (omega arith)
  after_one p a l u (no g) =
      let y = x.second (omega arith) in
      two_at s (h + 1) (h + 2) (h + 3) (h + 4) (omega arith) (omega arith) (omega arith) p f (omega arith) u y.0 y.1

  after_two : Passed s (h + 1) → 0xE0 ≤ get_or s (h + 1) 0 → get_or s (h + 1) 0 ≤ 0xF4
      → low_of (get_or s (h + 1) 0) ≤ get_or s (h + 2) 0 → get_or s (h + 2) 0 ≤ high_of (get_or s (h + 1) 0) → Dec (get_or s (h + 1) 0 < 0xF0) → Open s (h + 1)
  after_two p l u lo hi (yes g) =
      let y = x.third l in let m = high_most (get_or s (h + 1) 0) in
      whole_at s (h + 1) (h + 2) (h + 3) (h + 4) (omega arith) (omega arith) (omega arith)
      (next3 s (h + 1) (h + 2) (h + 3) (h + 4) (omega arith) (omega arith) (omega arith) p f l g lo hi y.0 y.1) g (omega arith) (omega arith)
  after_two p l u lo hi (no g) =
      let y = x.third l in
      three_at s (h + 1) (h + 2) (h + 3) (h + 4) (omega arith) (omega arith) (omega arith) p f (omega arith) u lo hi y.0 y.1

  pub open_step : Open s h → Open s (h + 1)
  open_step (whole p a b c) = after_whole p a b c (dec_lt (get_or s (h + 3) 0) 0x80)
  open_step (one p e a l u) = after_one p a l u (dec_lt (get_or s (h + 2) 0) 0xE0)
  open_step (two p e l u lo hi) = after_two p l u lo hi (dec_lt (get_or s (h + 1) 0) 0xF0)
  open_step (three p e l u lo hi c d) =
      let y = x.fourth l in let m = high_most (get_or s h 0) in
      whole_at s (h + 1) (h + 2) (h + 3) (h + 4) (omega arith) (omega arith) (omega arith)
      (next4 s h (h + 1) (h + 2) (h + 3) (h + 4) (omega arith) (omega arith) (omega arith) (omega arith) p f l u lo hi c d y.0 y.1)
      (omega arith) (omega arith) (omega arith)

-- ---- 32 bytes more

module _ (s : List ℕ) (here : ℕ) (c : Clean s here 32) (t : Topped s here 32) (f : here + 35 ≤ length s) where
  open_on : (n k : ℕ) → k + n ≡ 32 → Open s (here + k) → Open s (here + 32)
  open_on zero k e o = let z : k ≡ 32 = omega arith in rw z at o
  open_on (suc n) k e o =
      let z : here + k + 1 ≡ here + (k + 1) = omega arith in
      open_on n (k + 1) (omega arith) (rw z at (open_step s (here + k) (c.each k (omega arith)) (t.each k (omega arith)) (omega arith) o))

  -- the block may begin before the place that is known
  pub open_block : (at : ℕ) → here ≤ at → at ≤ here + 32 → Open s at → Open s (here + 32)
  open_block at l u o = let z : at ≡ here + (at - here) = omega arith in open_on (32 - (at - here)) (at - here) (omega arith) (rw z at o)

-- ---- where a character begins

module _ {s : List ℕ} {h : ℕ} where
  pub back_one : Open s h → 0xC0 ≤ get_or s (h + 2) 0 → Passed s (h + 2)
  back_one (whole p a b c) l = absurd (omega arith)
  back_one (one p f a b c) l = p
  back_one (two p f a b c d) l = absurd (omega (arith, high_most (get_or s (h + 1) 0)))
  back_one (three p f a b c d x y) l = absurd (omega arith)

  pub back_two : Open s h → 0xE0 ≤ get_or s (h + 1) 0 → get_or s (h + 2) 0 < 0xC0 → Passed s (h + 1)
  back_two (whole p a b c) l u = absurd (omega arith)
  back_two (one p f a b c) l u = absurd (omega arith)
  back_two (two p f a b c d) l u = p
  back_two (three p f a b c d x y) l u = absurd (omega (arith, high_most (get_or s h 0)))

  pub back_three : Open s h → 0xF0 ≤ get_or s h 0 → get_or s (h + 1) 0 < 0xE0 → get_or s (h + 2) 0 < 0xC0 → Passed s h
  back_three (whole p a b c) l u v = absurd (omega arith)
  back_three (one p f a b c) l u v = absurd (omega arith)
  back_three (two p f a b c d) l u v = absurd (omega arith)
  back_three (three p f a b c d x y) l u v = p

  pub back_none : Open s h → get_or s h 0 < 0xF0 → get_or s (h + 1) 0 < 0xE0 → get_or s (h + 2) 0 < 0xC0 → Passed s (h + 3)
  back_none (whole p a b c) l u v = p
  back_none (one p f a b c) l u v = absurd (omega arith)
  back_none (two p f a b c d) l u v = absurd (omega arith)
  back_none (three p f a b c d x y) l u v = absurd (omega arith)

-- ASCII of three bytes or more ends a character
pub open_ascii : (s : List ℕ) (h to : ℕ) → Open s h → Ascii s h to → h + 3 ≤ to → Open s (to - 3)
open_ascii s h to o a l =
    let p = back_none o (small h (omega arith) (omega arith)) (tiny (h + 1) (omega arith) (omega arith)) (least (h + 2) (omega arith) (omega arith)) in
    whole_at s (to - 3) (to - 2) (to - 1) to (omega arith) (omega arith) (omega arith)
    (passed_ascii s (h + 3) to p (record { behind = l; within = a.within; each = λ k m n. a.each k (omega arith) n }))
    (small (to - 3) (omega arith) (omega arith)) (tiny (to - 2) (omega arith) (omega arith)) (least (to - 1) (omega arith) (omega arith))
  where
    small : (k : ℕ) → h ≤ k → k < to → get_or s k 0 < 0xF0
    small k m n = omega (arith, a.each k m n)

    tiny : (k : ℕ) → h ≤ k → k < to → get_or s k 0 < 0xE0
    tiny k m n = omega (arith, a.each k m n)

    least : (k : ℕ) → h ≤ k → k < to → get_or s k 0 < 0xC0
    least k m n = omega (arith, a.each k m n)

-- ---- a whole block

pub topped : (s : List ℕ) (at r : ℕ) → AtMost s (at + 3) 32 r → r ≤ 0xF4 → Topped s at 32
topped s at r m l = record { each = λ k h. let e : get_or s (at + k + 3) 0 ≡ get_or s (at + 3 + k) 0 = at_same s (omega arith) in omega (arith, m.each k h) }

pub ascii_32 : (s : List ℕ) (at r : ℕ) → at + 35 ≤ length s → AtMost s (at + 3) 32 r → r < 0x80 → Ascii s (at + 3) (at + 35)
ascii_32 s at r f m l =
    let z : at + 3 + 32 ≡ at + 35 = omega arith in rw z at (ascii_block s (at + 3) r (omega arith) m l)

-- ASCII after three bytes that want no tail
module _ (s : List ℕ) (at w : ℕ) (x : Wanted (get_or s at 0) (get_or s (at + 1) 0) (get_or s (at + 2) 0) w) (e : w ≡ 0) (a : Ascii s (at + 3) (at + 35)) where
  no_fourth : get_or s at 0 < 0xF0
  no_fourth = go (dec_lt (get_or s at 0) 0xF0)
    where
      go : Dec (get_or s at 0 < 0xF0) → get_or s at 0 < 0xF0
      go (yes h) = h
      go (no h) = absurd (omega (arith, x.fourth (omega arith)))

  no_third : get_or s (at + 1) 0 < 0xE0
  no_third = go (dec_lt (get_or s (at + 1) 0) 0xE0)
    where
      go : Dec (get_or s (at + 1) 0 < 0xE0) → get_or s (at + 1) 0 < 0xE0
      go (yes h) = h
      go (no h) = absurd (omega (arith, x.third (omega arith)))

  no_second : get_or s (at + 2) 0 < 0xC0
  no_second = go (dec_lt (get_or s (at + 2) 0) 0xC0)
    where
      go : Dec (get_or s (at + 2) 0 < 0xC0) → get_or s (at + 2) 0 < 0xC0
      go (yes h) = h
      go (no h) = absurd (omega (arith, x.second (omega arith)))

  last_small : (k : ℕ) → at + 2 ≤ k → k < at + 35 → Dec (k ≡ at + 2) → get_or s k 0 < 0xC0
  last_small k l u (yes z) = omega (arith, no_second, at_same s z)
  last_small k l u (no z) = omega (arith, a.each k (omega arith) u)

  prior_small : (k : ℕ) → at + 1 ≤ k → k < at + 35 → Dec (k ≡ at + 1) → get_or s k 0 < 0xE0
  prior_small k l u (yes z) = omega (arith, no_third, at_same s z)
  prior_small k l u (no z) = omega (arith, last_small k (omega arith) u (ℕ_discrete k (at + 2)))

  third_small : (k : ℕ) → at ≤ k → k < at + 35 → Dec (k ≡ at) → get_or s k 0 < 0xF0
  third_small k l u (yes z) = omega (arith, no_fourth, at_same s z)
  third_small k l u (no z) = omega (arith, prior_small k (omega arith) u (ℕ_discrete k (at + 1)))

  pub clean_ascii : Clean s at 32
  clean_ascii =
      record {
        each = λ k h.
            beside_ascii (last_small (at + k + 2) (omega arith) (omega arith) (ℕ_discrete (at + k + 2) (at + 2)))
            (prior_small (at + k + 1) (omega arith) (omega arith) (ℕ_discrete (at + k + 1) (at + 1)))
            (third_small (at + k) (omega arith) (omega arith) (ℕ_discrete (at + k) at)) (a.each (at + k + 3) (omega arith) (omega arith));
      }

-- ---- the first characters

-- the bytes before the place i want no tail there
pub record Settled (s : List ℕ) (i : ℕ) : Type 0 where
  pub last : (j : ℕ) → j + 1 ≡ i → get_or s j 0 < 0xC0
  pub prior : (j : ℕ) → j + 2 ≡ i → get_or s j 0 < 0xE0
  pub third : (j : ℕ) → j + 3 ≡ i → get_or s j 0 < 0xF0

pub settled_none : (s : List ℕ) → Settled s 0
settled_none s = record { last = λ j e. absurd (omega arith); prior = λ j e. absurd (omega arith); third = λ j e. absurd (omega arith) }

module _ (s : List ℕ) (i : ℕ) where
  after_1 : Settled s i → get_or s i 0 < 0x80 → Settled s (i + 1)
  after_1 x h =
      record {
        last = λ j e. let z : j ≡ i = omega arith in omega (arith, at_same s z);
        prior = λ j e. omega (arith, x.last j (omega arith));
        third = λ j e. omega (arith, x.prior j (omega arith));
      }

  after_2 : Settled s i → Places.Wide s i 2 → Settled s (i + 2)
  after_2 x w =
      let v = down⁻ step3 (get_or s i 0) (omega arith) (omega arith) in let m = high_most (get_or s i 0) in
      record {
        last = λ j e. let z : j ≡ i + 1 = omega arith in omega (arith, at_same s z);
        prior = λ j e. let z : j ≡ i = omega arith in omega (arith, at_same s z);
        third = λ j e. omega (arith, x.last j (omega arith));
      }

  after_3 : Places.Wide s i 3 → Settled s (i + 3)
  after_3 w =
      let v = down⁻ step4 (get_or s i 0) (omega arith) (omega arith) in let m = high_most (get_or s i 0) in let t = w.third (omega arith) in
      record {
        last = λ j e. let z : j ≡ i + 2 = omega arith in omega (arith, at_same s z);
        prior = λ j e. let z : j ≡ i + 1 = omega arith in omega (arith, at_same s z);
        third = λ j e. let z : j ≡ i = omega arith in omega (arith, at_same s z);
      }

  after_4 : Places.Wide s i 4 → Settled s (i + 4)
  after_4 w =
      let m = high_most (get_or s i 0) in let t = w.third (omega arith) in let u = w.fourth (omega arith) in
      record {
        last = λ j e. let z : j ≡ i + 3 = omega arith in omega (arith, at_same s z);
        prior = λ j e. let z : j ≡ i + 2 = omega arith in omega (arith, at_same s z);
        third = λ j e. let z : j ≡ i + 1 = omega arith in omega (arith, at_same s z);
      }

  after_wide : (n : ℕ) → Settled s i → Places.Wide s i n → Dec (n ≡ 2) → Dec (n ≡ 3) → Settled s (i + n)
  after_wide n x w (yes e) q = rw e (after_2 x (rw e at w))
  after_wide n x w (no p) (yes e) = rw e (after_3 (rw e at w))
  after_wide n x w (no p) (no q) = let e : n ≡ 4 = omega arith in rw e (after_4 (rw e at w))

  after_char : (n : ℕ) → Settled s i → i + n ≤ length s → Char (take n (drop i s)) → Dec (n ≡ 1) → Settled s (i + n)
  after_char n x f c (yes e) =
      let l : length (take n (drop i s)) ≡ n = length-take-le n (drop i s) (omega (arith, length-drop i s)) in
      let q = short c (omega arith) in
      let z : get_or s i 0 ≡ q.byte =
      at_first_lem s i (q.byte ∷ drop n (drop i s))
      (sym (take-append-drop n (drop i s)) ∙ ap (λ (t : List ℕ). t ++ drop n (drop i s)) q.is) in
      rw e (after_1 x (omega arith))
  after_char n x f c (no p) =
      let l : length (take n (drop i s)) ≡ n = length-take-le n (drop i s) (omega (arith, length-drop i s)) in
      let w : Places.Wide s i n = rw l at (Places.wide s i c (drop n (drop i s)) (sym (take-append-drop n (drop i s))) (λ z. p (sym l ∙ z))) in
      after_wide n x w (ℕ_discrete n 2) (ℕ_discrete n 3)

  pub settled_char : (n : ℕ) → Settled s i → CharAt s i (Some n) → Settled s (i + n)
  settled_char n x (char q f c) = after_char n x f c (ℕ_discrete n 1)

  pub opened : Passed s i → Settled s i → 3 ≤ i → Open s (i - 3)
  opened p x l =
      whole_at s (i - 3) (i - 2) (i - 1) i (omega arith) (omega arith) (omega arith) p
      (x.third (i - 3) (omega arith)) (x.prior (i - 2) (omega arith)) (x.last (i - 1) (omega arith))

-- ---- one turn of the loop over blocks

module _ (s : List ℕ) (here at : ℕ) (l : here ≤ at) (u : at ≤ here + 32) (f : here + 35 ≤ length s) (o : Open s at) where
  pub wide_on : {r : Block} → BlockIs s here r → r ≡ Wide → Open s (here + 32)
  wide_on (plain c t a) e = open_block s here c t f at l u o
  wide_on (wide c t) e = open_block s here c t f at l u o
  wide_on faulty e = let z : ◌≡◌ {A = ℕ} 0 1 = cc in absurd (omega arith)

  pub plain_on : {r : Block} (to : ℕ) → BlockIs s here r → r ≡ Plain → Ascii s (here + 35) to → Open s (to - 3)
  plain_on to (plain c t a) e b =
      let j = ascii_join s (here + 3) (here + 35) to a b in
      open_ascii s (here + 32) to (open_block s here c t f at l u o)
      (record { behind = omega arith; within = b.within; each = λ k m n. j.each k (omega arith) n }) (omega arith)
  plain_on to (wide c t) e b = let z : ◌≡◌ {A = ℕ} 0 1 = cc in absurd (omega arith)
  plain_on to faulty e b = let z : ◌≡◌ {A = ℕ} 0 1 = cc in absurd (omega arith)
