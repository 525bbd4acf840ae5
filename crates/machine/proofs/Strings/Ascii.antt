-- ASCII bytes are UTF-8, and so is what stands beside them in UTF-8; how UTF-8 begins. Assumes nothing.
use Prim.Native.Nat.{ℕ, ◌≤◌, ◌<◌}
use mathlib.Core.Path.{◌≡◌, sym, ◌∙◌, ap}
use mathlib.Core.Logic.{◌⊎◌, inl, inr}
use mathlib.Core.List.{List, [], ◌∷◌, ◌++◌}
use native.Mathlib.Omega.{arith}
use native.Mathlib.Decide.{dec_lt, dec_le}
use lib.ListN.{length}
use Rattle.rules.specs.Rfc3629.{In, Char, utf8_1, Octets, none, more, Scalar, encode}
use Rattle.rules.proofs.Characters.{Each, all_none, all_more, High, long, short, same_head, same_tail}
use Rattle.rules.proofs.Numbers.{row_1, numbered}
use Rattle.grammar.specs.Characters.{Range, Of, Among, Hexdig, Digits}
use Rattle.machine.proofs.Strings.Tests.{hex_ascii}

abbrev pub Ascii : ℕ → Type 0
Ascii b = In 0x00 0x7F b

pub ascii_octets : {a : List ℕ} → Each Ascii a → Octets a
ascii_octets all_none = none
ascii_octets (all_more {b = b} p x) = more (utf8_1 p) (ascii_octets x)

pub digits_ascii : {base n v w : ℕ} {a : List ℕ} → Digits Hexdig base n v a w → Each Ascii a
digits_ascii Digits.over = all_none
digits_ascii (Digits.next {b = b} h x) = let i = hex_ascii h in all_more {b = b} (omega arith) (digits_ascii x)

-- the character that begins at a byte above U+007F
pub record Long (b : ℕ) (a : List ℕ) : Type 0 where
  pub rest : List ℕ
  pub then : List ℕ
  pub is : a ≡ rest ++ then
  pub char : Char (b ∷ rest)
  pub first : High b
  pub all : Each High rest
  pub good : Octets then

no_cons : {b : ℕ} {a : List ℕ} → [] ≡ b ∷ a → ⊥
no_cons e = let z : ◌≡◌ {A = ℕ} 0 1 = cc in omega arith

long_of : {c : List ℕ} → Char c → Each High c → (t : List ℕ) → Octets t → (b : ℕ) (a : List ℕ) → c ++ t ≡ b ∷ a → 0 < length c → Long b a
long_of x all_none t o b a e h = absurd (omega arith)
long_of x (all_more {b = d} {s = s} p y) t o b a e h =
    let f : d ≡ b = same_head e in
    record { rest = s; then = t; is = sym (same_tail e); char = rw f at x; first = rw f at p; all = y; good = o }

-- UTF-8 begins with an ASCII byte, or with a longer character
pub begins_with : {s : List ℕ} → Octets s → (b : ℕ) (a : List ℕ) → s ≡ b ∷ a → (Ascii b × Octets a) ⊎ Long b a
begins_with none b a e = absurd (no_cons e)
begins_with (more {c = c} {t = t} x o) b a e = go (dec_lt 1 (length c))
  where
    go : Dec (1 < length c) → (Ascii b × Octets a) ⊎ Long b a
    go (yes h) = inr (long_of x (long x h) t o b a e (omega arith))
    go (no h) =
        let q = short x (omega arith) in
        let f : q.byte ∷ t ≡ b ∷ a = ap (λ (l : List ℕ). l ++ t) (sym q.is) ∙ e in
        let g : q.byte ≡ b = same_head f in
        inl (omega arith, rw (same_tail f) at o)

-- ---- among ranges

pub ascii_among : (r : List Range) (b : ℕ) → Ascii b → Of r b → Among r (b ∷ [])
ascii_among r b i o = rw (← row_1 b i.high) (Among.character {n = b} (record { top = omega arith; whole = inl (omega arith) }) o)

pub long_among : (r : List Range) {b : ℕ} {c : List ℕ} → Char (b ∷ c) → High b → ((n : ℕ) → In 0x80 0x10FFFF n → Of r n) → Among r (b ∷ c)
long_among r {b} {c} x h f = go (numbered x).number (numbered x).scalar (numbered x).bytes
  where
    go : (n : ℕ) → Scalar n → b ∷ c ≡ encode n → Among r (b ∷ c)
    go n s e = rw e (Among.character s (f n (in_range (dec_le n 0x7F))))
      where
        in_range : Dec (n ≤ 0x7F) → In 0x80 0x10FFFF n
        in_range (yes l) = let g : b ≡ n = same_head (e ∙ row_1 n l) in absurd (omega arith)
        in_range (no l) = record { low = omega arith; high = s.top }
