-- Characters byte by byte: in a UTF-8 text, a scanner of bytes that lets every byte from 80 up pass reads what the rules derive.
-- Assumes nothing.
use Prim.Native.Nat.{ℕ, zero, suc, ◌≤◌, ◌<◌}
use mathlib.Core.Path.{◌≡◌, refl, sym, ap, ◌∙◌, subst, subst₂}
use mathlib.Core.Logic.{◌⊎◌, inl, inr}
use mathlib.Core.List.{List, [], ◌∷◌, ◌++◌, append_assoc}
use native.Mathlib.Decide.{dec_lt}
use native.Mathlib.Omega.{arith}
use lib.Dec.{lit<, lit≤}
use lib.ListN.{length, length-append}
use Rattle.rules.specs.Rfc3629.{Char, Octets, Scalar, encode}
use Rattle.rules.proofs.Characters.{Each, all_none, all_more, each_map, sized, long, short, same_head, same_tail, after, join}
use Rattle.rules.proofs.Numbers.{row_1, row_2, row_3, row_4, numbered}
use Rattle.meaning.specs.Letters.{ch}
use Rattle.grammar.specs.Characters.{Range, Of, Among, Many}
use Rattle.grammar.specs.Comments.{c_char, c_no_star, c_no_star_or_slash, Stars, CInner}
use Rattle.grammar.specs.Strings.{Quote, double, single, mark, other, Chars, unescaped, UpToTwo, source}
use Rattle.grammar.proofs.Utf8.{ascii}

-- a byte of a character of these ranges: an ASCII character is its byte, and every byte of another one is 80 or more
abbrev pub Raw : List Range → ℕ → Type 0
Raw r b = ((b < 0x80) × Of r b) ⊎ (0x80 ≤ b)

-- ---- from characters to bytes

pub longer : (n : ℕ) → 0x7F < n → 1 < length (encode n)
longer n h = go (dec_lt 0x7FF n) (dec_lt 0xFFFF n)
  where
    go : Dec (0x7FF < n) → Dec (0xFFFF < n) → 1 < length (encode n)
    go (no l) y = omega (arith, ap length (row_2 n h (omega arith)))
    go (yes l) (no m) = omega (arith, ap length (row_3 n l (omega arith)))
    go (yes l) (yes m) = omega (arith, ap length (row_4 n m))

-- ---- from bytes to characters

-- a character's number is above 7F if it has more than one byte
pub above : (n : ℕ) → 1 < length (encode n) → 0x7F < n
above n h = go (dec_lt 0x7F n)
  where
    go : Dec (0x7F < n) → 0x7F < n
    go (yes l) = l
    go (no l) = absurd (omega (arith, ap length (row_1 n (omega arith))))

-- a byte from 80 up begins a longer character in UTF-8
pub record Begins (b : ℕ) (s : List ℕ) : Type 0 where
  pub tails : List ℕ
  pub rest : List ℕ
  pub split : s ≡ tails ++ rest
  pub high : Each (λ c. 0x80 ≤ c) tails
  pub number : ℕ
  pub scalar : Scalar number
  pub past : 0x7F < number
  pub bytes : b ∷ tails ≡ encode number
  pub good : Octets rest

others : {P : ℕ → Type 0} {b : ℕ} {s : List ℕ} → Each P (b ∷ s) → Each P s
others (all_more p x) = x

begun : (b : ℕ) (c : List ℕ) → Char (b ∷ c) → (t : List ℕ) → Octets t → 0x80 ≤ b → Begins b (c ++ t)
begun b c x t o h = go (dec_lt 1 (length (b ∷ c)))
  where
    go : Dec (1 < length (b ∷ c)) → Begins b (c ++ t)
    go (yes l) =
        let m = numbered x in
        record {
          tails = c;
          rest = t;
          split = refl;
          high = each_map (λ k w. w.low) (others (long x l));
          number = m.number;
          scalar = m.scalar;
          past = above m.number (subst (λ (d : List ℕ). 1 < length d) m.bytes l);
          bytes = m.bytes;
          good = o;
        }
    go (no l) = let m = short x (omega arith) in absurd (omega (arith, same_head m.is, m.ascii))

pub begins : (b : ℕ) (s : List ℕ) → Octets (b ∷ s) → 0x80 ≤ b → Begins b s
begins b s o h = go o refl
  where
    cut : (c t : List ℕ) → Char c → Octets t → c ++ t ≡ b ∷ s → Begins b s
    cut [] t x y e = let z = sized x in absurd (omega arith)
    cut (d ∷ c) t x y e = subst (Begins b) (same_tail e) (begun b c (subst (λ (k : ℕ). Char (k ∷ c)) (same_head e) x) t y h)

    go : {a : List ℕ} → Octets a → a ≡ b ∷ s → Begins b s
    go Octets.none e = absurd (omega (arith, ap length e))
    go (Octets.more {c = c} {t = t} x y) e = cut c t x y e

-- ASCII in front of UTF-8 leaves UTF-8
pub behind : (b : ℕ) (s : List ℕ) → b < 0x80 → Octets (b ∷ s) → Octets s
behind b s h o = after (ascii {b = b} (omega arith) Octets.none) s o

-- Units of a front p, in ASCII, and a character n behind it: K says which n may follow which p. Line comments, block comments and
-- multiline strings are such.
pub data UnitOf (K : List ℕ → ℕ → Type 0) : List ℕ → Type 0 where
  unit : {p : List ℕ} {n : ℕ} → Scalar n → K p n → UnitOf K (p ++ encode n)

-- the same by bytes
pub data ByteOf (K : List ℕ → ℕ → Type 0) : List ℕ → Type 0 where
  low : {p : List ℕ} {b : ℕ} → b < 0x80 → K p b → ByteOf K (p ++ (b ∷ []))
  high : {p : List ℕ} {b : ℕ} → 0x80 ≤ b → ((n : ℕ) → 0x7F < n → Scalar n → K p n) → ByteOf K (p ++ (b ∷ []))

module _ {K : List ℕ → ℕ → Type 0} (fronts : (p : List ℕ) (n : ℕ) → K p n → Each (λ b. b < 0x80) p) where
  -- a front is ASCII
  front_octets : {p : List ℕ} → Each (λ b. b < 0x80) p → Octets p
  front_octets all_none = Octets.none
  front_octets (all_more h r) = ascii (omega arith) (front_octets r)

  some_scalar : Scalar 0x80
  some_scalar = record { top = omega arith; whole = inl (omega arith) }

  -- a byte from 80 up is a unit by itself
  peel_one : (p : List ℕ) (c : ℕ) (a : List ℕ) (b : ℕ) (s : List ℕ) → 0x80 ≤ b → Each (λ k. k < 0x80) p → p ++ (c ∷ []) ++ a ≡ b ∷ s → a ≡ s
  peel_one [] c a b s h f e = same_tail e
  peel_one (d ∷ p) c a b s h (all_more l f) e = absurd (omega (arith, same_head e))

  peel : {a : List ℕ} → Many (ByteOf K) a → (b : ℕ) (s : List ℕ) → 0x80 ≤ b → a ≡ b ∷ s → Many (ByteOf K) s
  peel Many.none b s h e = absurd (omega (arith, ap length e))
  peel (Many.more {a = a} (ByteOf.low {p = p} {b = c} l k) m) b s h e = subst (Many (ByteOf K)) (peel_one p c a b s h (fronts p c k) e) m
  peel (Many.more {a = a} (ByteOf.high {p = p} {b = c} l k) m) b s h e = subst (Many (ByteOf K))
      (peel_one p c a b s h (fronts p 0x80 (k 0x80 (omega arith) some_scalar)) e) m

  peels : {c : List ℕ} → Each (λ k. 0x80 ≤ k) c → (s : List ℕ) → Many (ByteOf K) (c ++ s) → Many (ByteOf K) s
  peels all_none s m = m
  peels (all_more {b = b} {s = c} h f) s m = peels f s (peel m b (c ++ s) h refl)

  abbrev UpTo : ℕ → Type 0
  UpTo n = (a : List ℕ) → length a < n → Many (ByteOf K) a → Octets a → Many (UnitOf K) a

  further : (n : ℕ) → UpTo n → {a : List ℕ} → length a < suc n → Many (ByteOf K) a → Octets a → Many (UnitOf K) a
  further n f l Many.none o = Many.none
  further n f l (Many.more {a = a} (ByteOf.low {p = p} {b = b} h k) m) o =
      let x : UnitOf K (p ++ (b ∷ [])) = subst (λ (c : List ℕ). UnitOf K (p ++ c)) (row_1 b (omega arith))
      (UnitOf.unit (record { top = omega arith; whole = inl (omega arith) }) k) in
      Many.more x (f a (omega (arith, simp length-append at l)) m (after (join (front_octets (fronts p b k)) (ascii {b = b} (omega arith) Octets.none)) a o))
  further n f l (Many.more {a = a} (ByteOf.high {p = p} {b = b} h k) m) o =
      let w = begins b a (after (front_octets (fronts p 0x80 (k 0x80 (omega arith) some_scalar))) (b ∷ a) (rw append_assoc at o)) h in
      let e : (p ++ encode w.number) ++ w.rest ≡ (p ++ (b ∷ [])) ++ a = append_assoc p (encode w.number) w.rest
      ∙ ap (λ (c : List ℕ). p ++ (c ++ w.rest)) (sym w.bytes) ∙ ap (λ (c : List ℕ). p ++ (b ∷ c)) (sym w.split) ∙ sym (append_assoc p (b ∷ []) a) in
      let r = f w.rest (omega (arith, simp length-append at l, simp length-append at (ap length w.split)))
      (peels w.high w.rest (subst (Many (ByteOf K)) w.split m)) w.good in
      subst (Many (UnitOf K)) e (Many.more (UnitOf.unit w.scalar (k w.number w.past w.scalar)) r)

  up_to : (n : ℕ) → UpTo n
  up_to zero a l m o = absurd (omega arith)
  up_to (suc n) a l m o = further n (up_to n) l m o

  -- in UTF-8, units by bytes are units
  pub units : {a : List ℕ} → Many (ByteOf K) a → Octets a → Many (UnitOf K) a
  units {a} m o = up_to (suc (length a)) a (omega arith) m o

many_map : {X Y : List ℕ → Type 0} {a : List ℕ} → ((c : List ℕ) → X c → Y c) → Many X a → Many Y a
many_map f Many.none = Many.none
many_map f (Many.more x m) = Many.more (f _ x) (many_map f m)

-- one such byte
pub data Byte (r : List Range) : List ℕ → Type 0 where
  byte : {b : ℕ} → Raw r b → Byte r (b ∷ [])

-- a unit by bytes, by its byte
by_byte : {K : List ℕ → ℕ → Type 0} (r : List Range) (p : List ℕ) → ((n : ℕ) → Of r n → K p n) → ((n : ℕ) → 0x7F < n → Scalar n → Of r n) → {c : List ℕ}
    → Byte r c → ByteOf K (p ++ c)
by_byte r p f g (Byte.byte (inl x)) = ByteOf.low x.0 (f _ x.1)
by_byte r p f g (Byte.byte (inr x)) = ByteOf.high x (λ n l s. f n (g n l s))

-- ---- line comments

data LineUnit : List ℕ → ℕ → Type 0 where
  line_unit : {n : ℕ} → Of c_char n → LineUnit [] n

line_front : (p : List ℕ) (n : ℕ) → LineUnit p n → Each (λ b. b < 0x80) p
line_front p n (LineUnit.line_unit h) = all_none

line_char : (c : List ℕ) → UnitOf LineUnit c → Among c_char c
line_char c (UnitOf.unit s (LineUnit.line_unit h)) = Among.character s h

c_char_open : (n : ℕ) → 0x7F < n → Scalar n → Of c_char n
c_char_open n l s = inr (inl (record { low = omega arith; high = s.top }))

pub line_chars : {a : List ℕ} → Many (Byte c_char) a → Octets a → Many (Among c_char) a
line_chars m o = many_map line_char (units line_front (many_map (λ c x. by_byte c_char [] (λ n h. LineUnit.line_unit h) c_char_open x) m) o)

-- ---- block comments

pub data InnerByte : List ℕ → Type 0 where
  no_star : {c : List ℕ} → Byte c_no_star c → InnerByte c
  stars : {s c : List ℕ} → Stars s → Byte c_no_star_or_slash c → InnerByte (s ++ c)

data BlockUnit : List ℕ → ℕ → Type 0 where
  no_star : {n : ℕ} → Of c_no_star n → BlockUnit [] n
  stars : {s : List ℕ} {n : ℕ} → Stars s → Of c_no_star_or_slash n → BlockUnit s n

stars_low : {s : List ℕ} → Stars s → Each (λ b. b < 0x80) s
stars_low Stars.one = all_more (lit< tt) all_none
stars_low (Stars.more r) = all_more (lit< tt) (stars_low r)

block_front : (p : List ℕ) (n : ℕ) → BlockUnit p n → Each (λ b. b < 0x80) p
block_front p n (BlockUnit.no_star h) = all_none
block_front p n (BlockUnit.stars r h) = stars_low r

block_char : (c : List ℕ) → UnitOf BlockUnit c → CInner c
block_char c (UnitOf.unit s (BlockUnit.no_star h)) = CInner.no_star (Among.character s h)
block_char c (UnitOf.unit s (BlockUnit.stars r h)) = CInner.stars r (Among.character s h)

no_star_open : (n : ℕ) → 0x7F < n → Scalar n → Of c_no_star n
no_star_open n l s = inr (inr (inr (inr (inl (record { low = omega arith; high = s.top })))))

no_star_or_slash_open : (n : ℕ) → 0x7F < n → Scalar n → Of c_no_star_or_slash n
no_star_or_slash_open n l s = inr (inr (inr (inr (inr (inl (record { low = omega arith; high = s.top }))))))

block_byte : (c : List ℕ) → InnerByte c → ByteOf BlockUnit c
block_byte c (InnerByte.no_star x) = by_byte c_no_star [] (λ n h. BlockUnit.no_star h) no_star_open x
block_byte c (InnerByte.stars {s = s} r x) = by_byte c_no_star_or_slash s (λ n h. BlockUnit.stars r h) no_star_or_slash_open x

pub block_inner : {a : List ℕ} → Many InnerByte a → Octets a → Many CInner a
block_inner m o = many_map block_char (units block_front (many_map block_byte m) o)

-- ---- multiline strings

pub data MByte (q : Quote) : List ℕ → Type 0 where
  m_byte : {s c : List ℕ} → UpToTwo q s → Byte (source q) c → MByte q (s ++ c)

data MUnit (q : Quote) : List ℕ → ℕ → Type 0 where
  m_unit : {s : List ℕ} {n : ℕ} → UpToTwo q s → Of (source q) n → MUnit q s n

mark_low : (q : Quote) → mark q < 0x80
mark_low double = lit< tt
mark_low single = lit< tt

-- ---- strings of one line

unescaped_open : (n : ℕ) → 0x7F < n → Scalar n → Of unescaped n
unescaped_open n l s = inr (inr (inr (inl (record { low = omega arith; high = s.top }))))

module _ (E : List ℕ → List ℕ → Type 0) (q : Quote) (escapes : (e v : List ℕ) → E e v → Octets e) where
  abbrev ByBytes : List ℕ → List ℕ → Type 0
  ByBytes a u = Chars (Byte unescaped) E q a u

  abbrev ByCharacters : List ℕ → List ℕ → Type 0
  ByCharacters a u = Chars (Among unescaped) E q a u

  -- bytes from 80 up stand for themselves
  record Peeled (c s u : List ℕ) : Type 0 where
    left : List ℕ
    is : u ≡ c ++ left
    chars : ByBytes s left

  peel_char : {a u : List ℕ} → ByBytes a u → (b : ℕ) (s : List ℕ) → 0x80 ≤ b → a ≡ b ∷ s → Peeled (b ∷ []) s u
  peel_char Chars.none b s h e = absurd (omega (arith, ap length e))
  peel_char (Chars.plain {u = u} (Byte.byte {b = c} x) r) b s h e = record {
    left = u;
    is = ap (λ (k : ℕ). k ∷ u) (same_head e);
    chars = subst (λ (d : List ℕ). ByBytes d u) (same_tail e) r;
  }
  peel_char (Chars.escaped x r) b s h e = absurd (omega (arith, same_head e))
  peel_char (Chars.other_quote r) b s h e = absurd (omega (arith, same_head e, mark_low (other q)))

  peel_chars : {c : List ℕ} → Each (λ k. 0x80 ≤ k) c → (s u : List ℕ) → ByBytes (c ++ s) u → Peeled c s u
  peel_chars all_none s u r = record { left = u; is = refl; chars = r }
  peel_chars (all_more {b = b} {s = c} h f) s u r =
      let x = peel_char r b (c ++ s) h refl in
      let y = peel_chars f s x.left x.chars in
      record { left = y.left; is = x.is ∙ ap (λ (d : List ℕ). b ∷ d) y.is; chars = y.chars }

  abbrev CharsTo : ℕ → Type 0
  CharsTo n = (a u : List ℕ) → length a < n → ByBytes a u → Octets a → ByCharacters a u

  chars_further : (n : ℕ) → CharsTo n → {a u : List ℕ} → length a < suc n → ByBytes a u → Octets a → ByCharacters a u
  chars_further n f l Chars.none o = Chars.none
  chars_further n f l (Chars.plain {a = a} {u = u} (Byte.byte {b = b} (inl x)) r) o =
      let c : Among unescaped (b ∷ []) = subst (Among unescaped) (row_1 b (omega (arith, x.0)))
      (Among.character (record { top = omega (arith, x.0); whole = inl (omega (arith, x.0)) }) x.1) in
      Chars.plain c (f a u (omega arith) r (behind b a x.0 o))
  chars_further n f l (Chars.plain {a = a} {u = u} (Byte.byte {b = b} (inr h)) r) o =
      let w = begins b a o h in
      let y = peel_chars w.high w.rest u (subst (λ (d : List ℕ). ByBytes d u) w.split r) in
      let z = Chars.plain (Among.character w.scalar (unescaped_open w.number w.past w.scalar))
      (f w.rest y.left (omega (arith, simp length-append at (ap length w.split))) y.chars w.good) in
      let p : encode w.number ++ w.rest ≡ b ∷ a = ap (λ (d : List ℕ). d ++ w.rest) (sym w.bytes) ∙ ap (λ (d : List ℕ). b ∷ d) (sym w.split) in
      let t : encode w.number ++ y.left ≡ b ∷ u = ap (λ (d : List ℕ). d ++ y.left) (sym w.bytes) ∙ ap (λ (d : List ℕ). b ∷ d) (sym y.is) in
      subst₂ ByCharacters p t z
  chars_further n f l (Chars.escaped {e = e} {v = v} {a = a} {u = u} x r) o =
      Chars.escaped x (f a u (omega (arith, simp length-append at l)) r (after (ascii {b = ch "\\"} (lit≤ tt) (escapes e v x)) a o))
  chars_further n f l (Chars.other_quote {a = a} {u = u} r) o = Chars.other_quote (f a u (omega arith) r (behind (mark (other q)) a (mark_low (other q)) o))

  chars_to : (n : ℕ) → CharsTo n
  chars_to zero a u l r o = absurd (omega arith)
  chars_to (suc n) a u l r o = chars_further n (chars_to n) l r o

  -- in UTF-8, a string by bytes is a string by characters
  pub chars : {a u : List ℕ} → ByBytes a u → Octets a → ByCharacters a u
  chars {a} {u} r o = chars_to (suc (length a)) a u (omega arith) r o
