-- Characters join, split at an ASCII byte, and are told apart by their first byte. Assumes nothing.
use mathlib.Core.Path.{◌≡◌, refl, sym, ap, ap₂, ◌∙◌, subst}
use mathlib.Core.Logic.{◌⊎◌, inl, inr, ⊎_elim}
use mathlib.Core.Bool.{cond}
use mathlib.Core.List.{List, [], ◌∷◌, ◌++◌, append_assoc, append-nil}
use Prim.Native.Nat.{ℕ, ◌≤◌, ◌<◌}
use native.Mathlib.Omega.{arith}
use native.Mathlib.Decide.{dec_lt}
use lib.Dec.{ltb}
use lib.ListN.{length, get_or, take, drop, length-append, get_or-append}
use lib.Seq.{take_at, drop_at}
use borrow.Author.Tests.{lt-ltb, le-ltb}
use Rattle.rules.specs.Rfc3629.{In, Tail, Char, utf8_1, utf8_2, utf8_3a, utf8_3b, utf8_3c, utf8_3d, utf8_4a, utf8_4b, utf8_4c, Octets, none, more, NoChar}

pub join : {a b : List ℕ} → Octets a → Octets b → Octets (a ++ b)
join none y = y
join {b = b} (more {c = c} {t = t} x r) y = rw (append_assoc c t b) (more x (join r y))

pub one : {c : List ℕ} → Char c → Octets c
one {c} x = rw (← append-nil c) (more x none)

-- ---- each byte of a list

pub data Each (P : ℕ → Type 0) : List ℕ → Type 0 where
  all_none : Each P []
  all_more : {b : ℕ} {s : List ℕ} → P b → Each P s → Each P (b ∷ s)

pub each_join : {P : ℕ → Type 0} {a b : List ℕ} → Each P a → Each P b → Each P (a ++ b)
each_join all_none y = y
each_join (all_more p x) y = all_more p (each_join x y)

pub each_at : {P : ℕ → Type 0} (a : List ℕ) (b : ℕ) (s : List ℕ) → Each P (a ++ (b ∷ s)) → P b
each_at [] b s (all_more p x) = p
each_at (c ∷ a) b s (all_more p x) = each_at a b s x

pub each_map : {P Q : ℕ → Type 0} {s : List ℕ} → ((b : ℕ) → P b → Q b) → Each P s → Each Q s
each_map f all_none = all_none
each_map f (all_more p x) = all_more (f _ p) (each_map f x)

-- ---- how long a character is, by its first byte

pub length_of : ℕ → ℕ
length_of a = cond (ltb a 0x80) 1 (cond (ltb a 0xE0) 2 (cond (ltb a 0xF0) 3 4))

length_1 : (a : ℕ) → a < 0x80 → length_of a ≡ 1
unfolding length_of
length_1 a h = simp (lt-ltb a 0x80 h)

length_2 : (a : ℕ) → 0x80 ≤ a → a < 0xE0 → length_of a ≡ 2
unfolding length_of
length_2 a l h = simp (le-ltb a 0x80 l, lt-ltb a 0xE0 h)

length_3 : (a : ℕ) → 0xE0 ≤ a → a < 0xF0 → length_of a ≡ 3
unfolding length_of
length_3 a l h = simp (le-ltb a 0x80 (omega arith), le-ltb a 0xE0 l, lt-ltb a 0xF0 h)

length_4 : (a : ℕ) → 0xF0 ≤ a → length_of a ≡ 4
unfolding length_of
length_4 a l = simp (le-ltb a 0x80 (omega arith), le-ltb a 0xE0 (omega arith), le-ltb a 0xF0 l)

-- what every character has: a byte, at most four, as many as its first byte says
pub record Sized (c : List ℕ) : Type 0 where
  pub some : 0 < length c
  pub four : length c ≤ 4
  pub says : length c ≡ length_of (get_or c 0 0)

pub sized : {c : List ℕ} → Char c → Sized c
sized (utf8_1 {a = a} x) = let e = length_1 a (omega arith) in omega arith
sized (utf8_2 {a = a} x y) = let e = length_2 a (omega arith) (omega arith) in omega arith
sized (utf8_3a x y) = let e = length_3 0xE0 (omega arith) (omega arith) in omega arith
sized (utf8_3b {a = a} x y z) = let e = length_3 a (omega arith) (omega arith) in omega arith
sized (utf8_3c x y) = let e = length_3 0xED (omega arith) (omega arith) in omega arith
sized (utf8_3d {a = a} x y z) = let e = length_3 a (omega arith) (omega arith) in omega arith
sized (utf8_4a x y z) = let e = length_4 0xF0 (omega arith) in omega arith
sized (utf8_4b {a = a} x y z w) = let e = length_4 a (omega arith) in omega arith
sized (utf8_4c x y z) = let e = length_4 0xF4 (omega arith) in omega arith

-- every byte of a longer character is 128 or more, and none is above F4
abbrev pub High : ℕ → Type 0
High b = In 0x80 0xF4 b

high : {lo hi b : ℕ} → In lo hi b → 0x80 ≤ lo → hi ≤ 0xF4 → High b
high x l h = omega arith

exactly : (b : ℕ) → 0x80 ≤ b → b ≤ 0xF4 → High b
exactly b l h = omega arith

tail_high : {b : ℕ} → Tail b → High b
tail_high x = omega arith

pub long : {c : List ℕ} → Char c → 1 < length c → Each High c
long (utf8_1 x) h = absurd (omega arith)
long (utf8_2 x y) h = all_more (high x (omega arith) (omega arith)) (all_more (tail_high y) all_none)
long (utf8_3a y z) h = all_more (exactly 0xE0 (omega arith) (omega arith)) (all_more (high y (omega arith) (omega arith)) (all_more (tail_high z) all_none))
long (utf8_3b x y z) h = all_more (high x (omega arith) (omega arith)) (all_more (tail_high y) (all_more (tail_high z) all_none))
long (utf8_3c y z) h = all_more (exactly 0xED (omega arith) (omega arith)) (all_more (high y (omega arith) (omega arith)) (all_more (tail_high z) all_none))
long (utf8_3d x y z) h = all_more (high x (omega arith) (omega arith)) (all_more (tail_high y) (all_more (tail_high z) all_none))
long (utf8_4a y z w) h = all_more (exactly 0xF0 (omega arith) (omega arith)) (all_more (high y (omega arith) (omega arith))
    (all_more (tail_high z) (all_more (tail_high w) all_none)))
long (utf8_4b x y z w) h = all_more (high x (omega arith) (omega arith)) (all_more (tail_high y) (all_more (tail_high z) (all_more (tail_high w) all_none)))
long (utf8_4c y z w) h = all_more (exactly 0xF4 (omega arith) (omega arith)) (all_more (high y (omega arith) (omega arith))
    (all_more (tail_high z) (all_more (tail_high w) all_none)))

-- a character of one byte is that ASCII byte
pub record Short (c : List ℕ) : Type 0 where
  pub byte : ℕ
  pub is : c ≡ byte ∷ []
  pub ascii : byte < 0x80

pub short : {c : List ℕ} → Char c → length c ≤ 1 → Short c
short (utf8_1 {a = a} x) h = record { byte = a; is = refl; ascii = omega arith }
short (utf8_2 x y) h = absurd (omega arith)
short (utf8_3a x y) h = absurd (omega arith)
short (utf8_3b x y z) h = absurd (omega arith)
short (utf8_3c x y) h = absurd (omega arith)
short (utf8_3d x y z) h = absurd (omega arith)
short (utf8_4a x y z) h = absurd (omega arith)
short (utf8_4b x y z w) h = absurd (omega arith)
short (utf8_4c x y z) h = absurd (omega arith)

-- ---- two ways to cut one list

pub record Within (a s c t : List ℕ) : Type 0 where
  pub mid : List ℕ
  pub front : a ≡ c ++ mid
  pub back : t ≡ mid ++ s

pub same_head : {b c : ℕ} {s t : List ℕ} → b ∷ s ≡ c ∷ t → b ≡ c
same_head e = cc

pub same_tail : {b c : ℕ} {s t : List ℕ} → b ∷ s ≡ c ∷ t → s ≡ t
same_tail e = cc

-- c ++ t and a ++ s are one list: one of the cuts lies within the other's front
pub cuts : (c t a s : List ℕ) → c ++ t ≡ a ++ s → Within a s c t ⊎ Within c t a s
cuts [] t a s e = inl (record { mid = a; front = refl; back = e })
cuts (b ∷ c) t [] s e = inr (record { mid = b ∷ c; front = refl; back = sym e })
cuts (b ∷ c) t (d ∷ a) s e =
    ⊎_elim (λ w. inl (record { mid = w.mid; front = ap₂ ◌∷◌ (sym (same_head e)) w.front; back = w.back }))
    (λ w. inr (record { mid = w.mid; front = ap₂ ◌∷◌ (same_head e) w.front; back = w.back }))
    (cuts c t a s (same_tail e))

-- ---- characters at the start of a list

-- two characters that begin one list are one
pub same_char : {c d : List ℕ} → Char c → Char d → (t u : List ℕ) → c ++ t ≡ d ++ u → c ≡ d
same_char {c} {d} x y t u e =
    let p = sized x in
    let q = sized y in
    let h : get_or c 0 0 ≡ get_or d 0 0 = sym (get_or-append c t 0 0 p.some) ∙ ap (λ (s : List ℕ). get_or s 0 0) e ∙ get_or-append d u 0 0 q.some in
    let n : length c ≡ length d = p.says ∙ ap length_of h ∙ sym q.says in
    sym (take_at c t (length c) refl) ∙ ap (take (length c)) e ∙ take_at d u (length c) (sym n)

-- what comes after the first character of UTF-8 is UTF-8
pub rest_is : {s c : List ℕ} → Octets s → Char c → (t : List ℕ) → s ≡ c ++ t → Octets t
rest_is {c = c} none y t e = let q = sized y in absurd (omega (arith, simp length-append at (ap length e)))
rest_is {c = c} (more {c = d} {t = u} x r) y t e =
    let f : d ≡ c = same_char x y u t e in
    subst Octets (sym (drop_at d u (length d) refl) ∙ ap (drop (length d)) e ∙ drop_at c t (length d) (ap length (sym f))) r

-- what comes after UTF-8 in UTF-8 is UTF-8
pub after : {a : List ℕ} → Octets a → (b : List ℕ) → Octets (a ++ b) → Octets b
after none b y = y
after (more {c = c} {t = t} x r) b y = after r b (rest_is y x (t ++ b) (append_assoc c t b))

-- UTF-8 that is not empty begins with a character
pub begins : {s : List ℕ} → Octets s → 0 < length s → NoChar s → ⊥
begins none h f = omega arith
begins (more {c = c} {t = t} x r) h f = f c t x refl

-- an ASCII byte cuts no character
uncut : {c : List ℕ} → Char c → (a mid t : List ℕ) (b : ℕ) (r : List ℕ) → b < 0x80 → c ≡ a ++ mid → b ∷ r ≡ mid ++ t → Octets a
uncut {c} x a [] t b r h e f = subst Octets (e ∙ append-nil a) (one x)
uncut {c} x [] (d ∷ m) t b r h e f = none
uncut {c} x (k ∷ a) (d ∷ m) t b r h e f =
    let n : 1 < length c = omega (arith, simp length-append at (ap length e)) in
    let g : High d = each_at (k ∷ a) d m (subst (Each High) e (long x n)) in
    absurd (omega (arith, same_head f))

-- a text splits at an ASCII byte
pub split_ascii : {s : List ℕ} → Octets s → (a : List ℕ) (b : ℕ) (r : List ℕ) → b < 0x80 → s ≡ a ++ (b ∷ r) → Octets a
split_ascii none a b r h e = absurd (omega (arith, simp length-append at (ap length e)))
split_ascii (more {c = c} {t = t} x y) a b r h e =
    ⊎_elim (λ w. rw w.front (more x (split_ascii y w.mid b r h w.back)))
    (λ w. uncut x a w.mid t b r h w.front w.back) (cuts c t a (b ∷ r) e)

-- no byte of UTF-8 is above F4
pub small : {s : List ℕ} → Octets s → Each (In 0x00 0xF4) s
small none = all_none
small (more {c = c} x r) = each_join (go (dec_lt 1 (length c))) (small r)
  where
    go : Dec (1 < length c) → Each (In 0x00 0xF4) c
    go (yes h) = each_map (λ b w. omega arith) (long x h)
    go (no h) = let q = short x (omega arith) in rw q.is (all_more {b = q.byte} (omega arith) all_none)
