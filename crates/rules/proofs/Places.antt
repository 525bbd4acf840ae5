-- A character as bounds on the bytes at a place: what `char_at` tests. Assumes nothing.
use mathlib.Core.Path.{◌≡◌, refl, sym, ap, ◌∙◌, subst}
use mathlib.Core.Bool.{Bool}
use mathlib.Core.List.{List, [], ◌∷◌, ◌++◌}
use Prim.Native.Nat.{ℕ, suc, ◌+◌, ◌≤◌, ◌<◌}
use native.Mathlib.Decide.{dec_lt, ℕ_discrete}
use native.Mathlib.Numerals.{add-one, add-two, add-three}
use native.Mathlib.Omega.{arith}
use lib.Count.{count_leading_zeros}
use lib.Dec.{T, leb}
use lib.ListN.{length, get_or, take, drop, length-drop}
use lib.Seq.{get_or-drop, drop-cons}
use borrow.Author.Tests.{ne_eqb, le-leb, lt-leb, leb-true, leb-false}
use Rattle.rules.specs.Rfc3629.{Char, utf8_1, utf8_2, utf8_3a, utf8_3b, utf8_3c, utf8_3d, utf8_4a, utf8_4b, utf8_4c, NoChar}
use Rattle.rules.specs.Between.Decided.{ones}
use Rattle.rules.specs.Between.Posts.{Lead, one, two, three, four, CharAt, char, gap, low_of, high_of}
use Rattle.std.specs.declared.option.Option.TheVariants.{Some, None}
use Rattle.rules.proofs.Computed.{every, below, agree, agreed}
use Rattle.rules.proofs.Characters.{short}

-- ---- the count of leading ones of a byte is k or more just where the byte is t or more, by a test that antt computes

reach : ℕ → ℕ → ℕ → Bool
reach k t a = agree (leb k (ones a)) (leb t a)

pub record Step (k t : ℕ) : Type 0 where
  pub same : (a : ℕ) → a < 256 → leb k (ones a) ≡ leb t a

step : (k t : ℕ) → T (every (reach k t) 256) → Step k t
unfolding reach
step k t w = record { same = λ a h. agreed _ _ (below (reach k t) 256 w a h) }

module _ {k t : ℕ} (p : Step k t) (a : ℕ) (h : a < 256) where
  pub up : t ≤ a → k ≤ ones a
  up l = leb-true k (ones a) (p.same a h ∙ le-leb t a l)

  pub down : a < t → ones a < k
  down l = leb-false k (ones a) (p.same a h ∙ lt-leb t a l)

  up⁻ : k ≤ ones a → t ≤ a
  up⁻ l = leb-true t a (sym (p.same a h) ∙ le-leb k (ones a) l)

  pub down⁻ : ones a < k → a < t
  down⁻ l = leb-false t a (sym (p.same a h) ∙ lt-leb k (ones a) l)

pub step1 : Step 1 128
unfolding reach count_leading_zeros
step1 = step 1 128 tt

pub step2 : Step 2 192
unfolding reach count_leading_zeros
step2 = step 2 192 tt

pub step3 : Step 3 224
unfolding reach count_leading_zeros
step3 = step 3 224 tt

pub step4 : Step 4 240
unfolding reach count_leading_zeros
step4 = step 4 240 tt

pub step5 : Step 5 248
unfolding reach count_leading_zeros
step5 = step 5 248 tt

-- ---- the bounds of the second byte

pub low_e0 : low_of 0xE0 ≡ 0xA0
unfolding low_of
low_e0 = refl

pub low_f0 : low_of 0xF0 ≡ 0x90
unfolding low_of
low_f0 = refl

pub low_else : (a : ℕ) → (a ≡ 0xE0 → ⊥) → (a ≡ 0xF0 → ⊥) → low_of a ≡ 0x80
unfolding low_of
low_else a p q = simp (ne_eqb a 0xE0 p, ne_eqb a 0xF0 q)

pub high_ed : high_of 0xED ≡ 0x9F
unfolding high_of
high_ed = refl

pub high_f4 : high_of 0xF4 ≡ 0x8F
unfolding high_of
high_f4 = refl

pub high_else : (a : ℕ) → (a ≡ 0xED → ⊥) → (a ≡ 0xF4 → ⊥) → high_of a ≡ 0xBF
unfolding high_of
high_else a p q = simp (ne_eqb a 0xED p, ne_eqb a 0xF4 q)

-- a first byte after which any tail may stand
pub plain : (a : ℕ) → (a ≡ 0xE0 → ⊥) → (a ≡ 0xF0 → ⊥) → (a ≡ 0xED → ⊥) → (a ≡ 0xF4 → ⊥) → (low_of a ≡ 0x80) × (high_of a ≡ 0xBF)
plain a p q r t = (low_else a p q, high_else a r t)

-- ---- the rules for two bytes and more as bounds: n is also the count of leading ones

pub record Wide (s : List ℕ) (i n : ℕ) : Type 0 where
  pub two : 2 ≤ n
  pub four : n ≤ 4
  pub fits : i + n ≤ length s
  pub count : n ≡ ones (get_or s i 0)
  pub from : 0xC2 ≤ get_or s i 0
  pub to : get_or s i 0 ≤ 0xF4
  pub low : low_of (get_or s i 0) ≤ get_or s (i + 1) 0
  pub high : get_or s (i + 1) 0 ≤ high_of (get_or s i 0)
  pub third : 3 ≤ n → (0x80 ≤ get_or s (i + 2) 0) × (get_or s (i + 2) 0 ≤ 0xBF)
  pub fourth : 4 ≤ n → (0x80 ≤ get_or s (i + 3) 0) × (get_or s (i + 3) 0 ≤ 0xBF)

pub ruleset leads = (one, two, three, four)

-- of a character of two bytes and more
pub led : {a n : ℕ} → Lead a n → (n ≡ 1 → ⊥) → (2 ≤ n) × (n ≤ 4) × (n ≡ ones a) × (0xC2 ≤ a) × (a ≤ 0xF4)
led (one x) f = absurd (f refl)
led {a} (two x y) f = let u = up step2 a (omega arith) (omega arith) in let v = down step3 a (omega arith) (omega arith) in omega arith
led {a} (three x y) f = let u = up step3 a (omega arith) (omega arith) in let v = down step4 a (omega arith) (omega arith) in omega arith
led {a} (four x y) f = let u = up step4 a (omega arith) (omega arith) in let v = down step5 a (omega arith) (omega arith) in omega arith

pub led_one : {a n : ℕ} → Lead a n → n ≡ 1 → a < 0x80
led_one (one x) e = omega arith
led_one (two x y) e = absurd (omega arith)
led_one (three x y) e = absurd (omega arith)
led_one (four x y) e = absurd (omega arith)

lead_wide : {s : List ℕ} {i : ℕ} (n : ℕ) → Wide s i n → Lead (get_or s i 0) n
lead_wide {s} {i} n w = go (ℕ_discrete n 2) (ℕ_discrete n 3)
  where
    a : get_or s i 0 < 256
    a = omega arith

    go : Dec (n ≡ 2) → Dec (n ≡ 3) → Lead (get_or s i 0) n
    go (yes e) q = let v = down⁻ step3 (get_or s i 0) a (omega arith) in rw e (two (omega arith) (omega arith))
    go (no f) (yes e) =
        let u = up⁻ step3 (get_or s i 0) a (omega arith) in let v = down⁻ step4 (get_or s i 0) a (omega arith) in rw e (three (omega arith) (omega arith))
    go (no f) (no g) = let u = up⁻ step4 (get_or s i 0) a (omega arith) in let e : n ≡ 4 = omega arith in rw e (four (omega arith) (omega arith))

-- the bytes at a place, by what stands there
module _ (s : List ℕ) (i : ℕ) where
  pub at_first_lem : (t : List ℕ) → drop i s ≡ t → get_or s i 0 ≡ get_or t 0 0
  at_first_lem t e = let z : i + 0 ≡ i = omega arith in ap (λ (k : ℕ). get_or s k 0) (sym z) ∙ sym (get_or-drop i s 0 0) ∙ ap (λ (l : List ℕ). get_or l 0 0) e

  at_next : (t : List ℕ) (k : ℕ) → drop i s ≡ t → get_or s (i + k) 0 ≡ get_or t k 0
  at_next t k e = sym (get_or-drop i s k 0) ∙ ap (λ (l : List ℕ). get_or l k 0) e

  room : (t : List ℕ) → drop i s ≡ t → 0 < length t → i + length t ≤ length s
  room t e h = omega (arith, sym (length-drop i s) ∙ ap length e)

  -- each rule but the first gives the bounds
  pub wide : {c : List ℕ} → Char c → (r : List ℕ) → drop i s ≡ c ++ r → (length c ≡ 1 → ⊥) → Wide s i (length c)
  wide (utf8_1 x) r e h = absurd (h refl)
  wide (utf8_2 {a = a} {b = b} x y) r e h =
      let t : List ℕ = a ∷ b ∷ r in
      let e0 = at_first_lem t e in let e1 = at_next t 1 e in let f = room t e (omega arith) in
      let p = plain (get_or s i 0) (λ z. omega arith) (λ z. omega arith) (λ z. omega arith) (λ z. omega arith) in
      let u = up step2 (get_or s i 0) (omega arith) (omega arith) in let v = down step3 (get_or s i 0) (omega arith) (omega arith) in
      omega arith
  wide (utf8_3a {b = b} {c = c} y z) r e h =
      let t : List ℕ = 0xE0 ∷ b ∷ c ∷ r in
      let e0 = at_first_lem t e in let e1 = at_next t 1 e in let e2 = at_next t 2 e in let f = room t e (omega arith) in
      let l : low_of (get_or s i 0) ≡ 0xA0 = ap low_of e0 ∙ low_e0 in
      let g = high_else (get_or s i 0) (λ z. omega arith) (λ z. omega arith) in
      let u = up step3 (get_or s i 0) (omega arith) (omega arith) in let v = down step4 (get_or s i 0) (omega arith) (omega arith) in
      omega arith
  wide (utf8_3b {a = a} {b = b} {c = c} x y z) r e h =
      let t : List ℕ = a ∷ b ∷ c ∷ r in
      let e0 = at_first_lem t e in let e1 = at_next t 1 e in let e2 = at_next t 2 e in let f = room t e (omega arith) in
      let p = plain (get_or s i 0) (λ z. omega arith) (λ z. omega arith) (λ z. omega arith) (λ z. omega arith) in
      let u = up step3 (get_or s i 0) (omega arith) (omega arith) in let v = down step4 (get_or s i 0) (omega arith) (omega arith) in
      omega arith
  wide (utf8_3c {b = b} {c = c} y z) r e h =
      let t : List ℕ = 0xED ∷ b ∷ c ∷ r in
      let e0 = at_first_lem t e in let e1 = at_next t 1 e in let e2 = at_next t 2 e in let f = room t e (omega arith) in
      let l = low_else (get_or s i 0) (λ z. omega arith) (λ z. omega arith) in
      let g : high_of (get_or s i 0) ≡ 0x9F = ap high_of e0 ∙ high_ed in
      let u = up step3 (get_or s i 0) (omega arith) (omega arith) in let v = down step4 (get_or s i 0) (omega arith) (omega arith) in
      omega arith
  wide (utf8_3d {a = a} {b = b} {c = c} x y z) r e h =
      let t : List ℕ = a ∷ b ∷ c ∷ r in
      let e0 = at_first_lem t e in let e1 = at_next t 1 e in let e2 = at_next t 2 e in let f = room t e (omega arith) in
      let p = plain (get_or s i 0) (λ z. omega arith) (λ z. omega arith) (λ z. omega arith) (λ z. omega arith) in
      let u = up step3 (get_or s i 0) (omega arith) (omega arith) in let v = down step4 (get_or s i 0) (omega arith) (omega arith) in
      omega arith
  wide (utf8_4a {b = b} {c = c} {d = d} y z w) r e h =
      let t : List ℕ = 0xF0 ∷ b ∷ c ∷ d ∷ r in
      let e0 = at_first_lem t e in let e1 = at_next t 1 e in let e2 = at_next t 2 e in let e3 = at_next t 3 e in let f = room t e (omega arith) in
      let l : low_of (get_or s i 0) ≡ 0x90 = ap low_of e0 ∙ low_f0 in
      let g = high_else (get_or s i 0) (λ z. omega arith) (λ z. omega arith) in
      let u = up step4 (get_or s i 0) (omega arith) (omega arith) in let v = down step5 (get_or s i 0) (omega arith) (omega arith) in
      omega arith
  wide (utf8_4b {a = a} {b = b} {c = c} {d = d} x y z w) r e h =
      let t : List ℕ = a ∷ b ∷ c ∷ d ∷ r in
      let e0 = at_first_lem t e in let e1 = at_next t 1 e in let e2 = at_next t 2 e in let e3 = at_next t 3 e in let f = room t e (omega arith) in
      let p = plain (get_or s i 0) (λ z. omega arith) (λ z. omega arith) (λ z. omega arith) (λ z. omega arith) in
      let u = up step4 (get_or s i 0) (omega arith) (omega arith) in let v = down step5 (get_or s i 0) (omega arith) (omega arith) in
      omega arith
  wide (utf8_4c {b = b} {c = c} {d = d} y z w) r e h =
      let t : List ℕ = 0xF4 ∷ b ∷ c ∷ d ∷ r in
      let e0 = at_first_lem t e in let e1 = at_next t 1 e in let e2 = at_next t 2 e in let e3 = at_next t 3 e in let f = room t e (omega arith) in
      let l = low_else (get_or s i 0) (λ z. omega arith) (λ z. omega arith) in
      let g : high_of (get_or s i 0) ≡ 0x8F = ap high_of e0 ∙ high_f4 in
      let u = up step4 (get_or s i 0) (omega arith) (omega arith) in let v = down step5 (get_or s i 0) (omega arith) (omega arith) in
      omega arith

  -- no character stands where the byte is no ASCII and no bounds hold
  no_wide : 0x80 ≤ get_or s i 0 → ((n : ℕ) → Wide s i n → ⊥) → NoChar (drop i s)
  no_wide z f c r x e = go (ℕ_discrete (length c) 1)
    where
      go : Dec (length c ≡ 1) → ⊥
      go (no h) = f (length c) (wide x r e h)
      go (yes h) =
          let q = short x (omega arith) in
          let a : get_or s i 0 ≡ q.byte = at_first_lem (q.byte ∷ r) (e ∙ ap (λ (l : List ℕ). l ++ r) q.is) in
          omega arith

  pub no_char : 0x80 ≤ get_or s i 0 → ((n : ℕ) → Wide s i n → ⊥) → CharAt s i None
  no_char z f = gap (no_wide z f)

  -- where no character begins with the byte, and where none of as many bytes stands
  pub no_lead : ((n : ℕ) → Lead (get_or s i 0) n → ⊥) → CharAt s i None
  no_lead f = no_char (go (dec_lt (get_or s i 0) 0x80)) (λ n w. f n (lead_wide n w))
    where
      go : Dec (get_or s i 0 < 0x80) → 0x80 ≤ get_or s i 0
      go (yes h) = absurd (f 1 (one (omega arith)))
      go (no h) = omega arith

  pub no_wide_lead : (n : ℕ) → Lead (get_or s i 0) n → (n ≡ 1 → ⊥) → (Wide s i n → ⊥) → CharAt s i None
  no_wide_lead n x f g = let z = led x f in no_char (omega arith) (λ m w. g (subst (Wide s i) (w.count ∙ sym z.2) w))

  -- the bytes that are taken
  take_1 : i + 1 ≤ length s → take 1 (drop i s) ≡ get_or s i 0 ∷ []
  take_1 h = rw (drop-cons s i 0 (omega arith))

  take_2 : i + 2 ≤ length s → take 2 (drop i s) ≡ get_or s i 0 ∷ get_or s (i + 1) 0 ∷ []
  take_2 h = rw (add-one i, drop-cons s i 0 (omega arith), drop-cons s (suc i) 0 (omega arith))

  take_3 : i + 3 ≤ length s → take 3 (drop i s) ≡ get_or s i 0 ∷ get_or s (i + 1) 0 ∷ get_or s (i + 2) 0 ∷ []
  take_3 h =
      rw (add-one i, add-two i, drop-cons s i 0 (omega arith), drop-cons s (suc i) 0 (omega arith), drop-cons s (suc (suc i)) 0 (omega arith))

  take_4 : i + 4 ≤ length s → take 4 (drop i s) ≡ get_or s i 0 ∷ get_or s (i + 1) 0 ∷ get_or s (i + 2) 0 ∷ get_or s (i + 3) 0 ∷ []
  take_4 h =
      rw (
        add-one i,
        add-two i,
        add-three i,
        drop-cons s i 0 (omega arith),
        drop-cons s (suc i) 0 (omega arith),
        drop-cons s (suc (suc i)) 0 (omega arith),
        drop-cons s (suc (suc (suc i))) 0 (omega arith),
      )

  -- the bounds give the rule
  pub ascii_char : i < length s → get_or s i 0 < 0x80 → CharAt s i (Some 1)
  ascii_char h l = char {n = 1} (omega arith) (omega arith) (rw (take_1 (omega arith)) (utf8_1 {a = get_or s i 0} (omega arith)))

  pub back2 : Wide s i 2 → CharAt s i (Some 2)
  back2 w =
      let v = down⁻ step3 (get_or s i 0) (omega arith) (omega arith) in
      let p = plain (get_or s i 0) (λ x. omega arith) (λ x. omega arith) (λ x. omega arith) (λ x. omega arith) in
      char {n = 2} (omega arith) w.fits (rw (take_2 w.fits) (utf8_2 {a = get_or s i 0} {b = get_or s (i + 1) 0} (omega arith) (omega arith)))

  pub back3 : Wide s i 3 → CharAt s i (Some 3)
  back3 w = char {n = 3} (omega arith) w.fits (rw (take_3 w.fits) (go (get_or s i 0) (get_or s (i + 1) 0) (get_or s (i + 2) 0) refl refl refl
      (ℕ_discrete (get_or s i 0) 0xE0) (ℕ_discrete (get_or s i 0) 0xED) (dec_lt (get_or s i 0) 0xED)))
    where
      u : 224 ≤ get_or s i 0
      u = up⁻ step3 (get_or s i 0) (omega arith) (omega arith)

      v : get_or s i 0 < 240
      v = down⁻ step4 (get_or s i 0) (omega arith) (omega arith)

      t : (0x80 ≤ get_or s (i + 2) 0) × (get_or s (i + 2) 0 ≤ 0xBF)
      t = w.third (omega arith)

      go : (a b c : ℕ) → get_or s i 0 ≡ a → get_or s (i + 1) 0 ≡ b → get_or s (i + 2) 0 ≡ c → Dec (get_or s i 0 ≡ 0xE0) → Dec (get_or s i 0 ≡ 0xED)
          → Dec (get_or s i 0 < 0xED) → Char (a ∷ b ∷ c ∷ [])
      go a b c ea eb ec (yes e) q r =
          let l : low_of (get_or s i 0) ≡ 0xA0 = ap low_of e ∙ low_e0 in
          let g = high_else (get_or s i 0) (λ x. omega arith) (λ x. omega arith) in
          rw (sym ea ∙ e) (utf8_3a {b = b} {c = c} (omega (arith, u, v, t)) (omega (arith, u, v, t)))
      go a b c ea eb ec (no p) (yes e) r =
          let g : high_of (get_or s i 0) ≡ 0x9F = ap high_of e ∙ high_ed in
          let l = low_else (get_or s i 0) p (λ x. omega arith) in
          rw (sym ea ∙ e) (utf8_3c {b = b} {c = c} (omega (arith, u, v, t)) (omega (arith, u, v, t)))
      go a b c ea eb ec (no p) (no q) (yes r) =
          let l = plain (get_or s i 0) p (λ x. omega arith) q (λ x. omega arith) in
          utf8_3b {a = a} {b = b} {c = c} (omega (arith, u, v, t)) (omega (arith, u, v, t)) (omega (arith, u, v, t))
      go a b c ea eb ec (no p) (no q) (no r) =
          let l = plain (get_or s i 0) p (λ x. omega (arith, v)) q (λ x. omega (arith, v)) in
          utf8_3d {a = a} {b = b} {c = c} (omega (arith, u, v, t)) (omega (arith, u, v, t)) (omega (arith, u, v, t))

  pub back4 : Wide s i 4 → CharAt s i (Some 4)
  back4 w = char {n = 4} (omega arith) w.fits (rw (take_4 w.fits) (go (get_or s i 0) (get_or s (i + 1) 0) (get_or s (i + 2) 0) (get_or s (i + 3) 0) refl refl
      refl
      refl (ℕ_discrete (get_or s i 0) 0xF0) (ℕ_discrete (get_or s i 0) 0xF4)))
    where
      u : 240 ≤ get_or s i 0
      u = up⁻ step4 (get_or s i 0) (omega arith) (omega arith)

      t : (0x80 ≤ get_or s (i + 2) 0) × (get_or s (i + 2) 0 ≤ 0xBF)
      t = w.third (omega arith)

      f : (0x80 ≤ get_or s (i + 3) 0) × (get_or s (i + 3) 0 ≤ 0xBF)
      f = w.fourth (omega arith)

      go : (a b c d : ℕ) → get_or s i 0 ≡ a → get_or s (i + 1) 0 ≡ b → get_or s (i + 2) 0 ≡ c → get_or s (i + 3) 0 ≡ d → Dec (get_or s i 0 ≡ 0xF0)
          → Dec (get_or s i 0 ≡ 0xF4) → Char (a ∷ b ∷ c ∷ d ∷ [])
      go a b c d ea eb ec ed (yes e) q =
          let l : low_of (get_or s i 0) ≡ 0x90 = ap low_of e ∙ low_f0 in
          let g = high_else (get_or s i 0) (λ x. omega arith) (λ x. omega arith) in
          rw (sym ea ∙ e) (utf8_4a {b = b} {c = c} {d = d} (omega (arith, u, t, f)) (omega (arith, u, t, f)) (omega (arith, u, t, f)))
      go a b c d ea eb ec ed (no p) (yes e) =
          let g : high_of (get_or s i 0) ≡ 0x8F = ap high_of e ∙ high_f4 in
          let l = low_else (get_or s i 0) (λ x. omega arith) p in
          rw (sym ea ∙ e) (utf8_4c {b = b} {c = c} {d = d} (omega (arith, u, t, f)) (omega (arith, u, t, f)) (omega (arith, u, t, f)))
      go a b c d ea eb ec ed (no p) (no q) =
          let l = plain (get_or s i 0) (λ x. omega (arith, u)) p (λ x. omega (arith, u)) q in
          utf8_4b {a = a} {b = b} {c = c} {d = d} (omega (arith, u, t, f)) (omega (arith, u, t, f)) (omega (arith, u, t, f)) (omega (arith, u, t, f))
