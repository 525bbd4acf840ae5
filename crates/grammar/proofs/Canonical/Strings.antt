-- The canonical texts of strings, keys and binary are derived. Assumes nothing.
use Prim.Native.Nat.{ℕ, ◌/◌, ◌%◌, ◌≤◌, ◌<◌}
use mathlib.Core.Path.{◌≡◌, refl, sym, subst}
use mathlib.Core.Bool.{Bool, true, false, cond}
use mathlib.Core.Logic.{inl, inr}
use mathlib.Core.List.{List, [], ◌∷◌, ◌++◌, append_assoc, append-nil}
use native.Mathlib.Decide.{dec_lt, ℕ_discrete}
use native.Mathlib.Omega.{arith}
use lib.Dec.{ltb, eqb}
use lib.ListN.{length}
use borrow.Author.Tests.{ltb-true, ltb-false, eqb-true, eqb-false, ne_eqb, le-ltb}
use Rattle.rules.specs.Rfc3629.{Char, Octets, Scalar, encode}
use Rattle.rules.proofs.Characters.{Each, all_none, all_more, High, long, short}
use Rattle.rules.proofs.Numbers.{row_1, numbered}
use Rattle.meaning.specs.Letters.{letters, ch}
use Rattle.meaning.specs.Good.{Bytes}
use Rattle.meaning.specs.Canonical.{hex_pair, escaped, escapes, quoted, hex_pairs, binary_text}
use Rattle.grammar.specs.Characters.{Of, Among, Digits, Hexadecimal}
use Rattle.grammar.specs.Strings.{double, Chars, Quoted, Short, Escape, unescaped, StringPart, Concat, String}
use Rattle.grammar.specs.Binary.{BPart, BDirect, BValue, Binary}
use Rattle.grammar.proofs.Bytewise.{above}
use Rattle.grammar.proofs.Canonical.Digits.{hex_digit_is, hex_pair_is}

-- by a test
by : (P : List ℕ → Type 0) (x : Bool) {s t : List ℕ} → (x ≡ true → P s) → (x ≡ false → P t) → P (cond x s t)
by P true f g = f refl
by P false f g = g refl

-- inside double quotes
abbrev Inner : List ℕ → List ℕ → Type 0
Inner a u = Chars (Among unescaped) (Escape true) double a u

-- ---- one ASCII byte

module _ {a u : List ℕ} (r : Inner a u) where
  -- the escape of one byte
  one : {c b : ℕ} → Short c b → (e : ℕ) → e ≡ b → Inner (ch "\\" ∷ c ∷ a) (e ∷ u)
  one {c} {b} s e h = rw h (Chars.escaped {e = c ∷ []} {v = b ∷ []} (Escape.short s) r)

  -- `\u00` and two hex digits
  control : (b : ℕ) → b < 32 → Inner (letters "\\u00" ++ (hex_pair b ++ a)) (b ∷ u)
  control b h =
      let d : Hexadecimal 4 (letters "00" ++ hex_pair b) b = subst (λ (w : ℕ). Hexadecimal 4 (letters "00" ++ hex_pair b) w) (omega arith)
      (Digits.next (hex_digit_is 0 (omega arith)) (Digits.next (hex_digit_is 0 (omega arith))
      (Digits.next (hex_digit_is (b / 16) (omega arith)) (Digits.next (hex_digit_is (b % 16) (omega arith)) Digits.over)))) in
      subst (λ (v : List ℕ). Inner (letters "\\u00" ++ (hex_pair b ++ a)) (v ++ u)) (row_1 b (omega arith))
      (Chars.escaped {e = letters "u00" ++ hex_pair b} (Escape.unit {n = b} d (record { top = omega arith; whole = inl (omega arith) })) r)

  -- a character that needs no escape
  character : (n : ℕ) → Scalar n → Of unescaped n → Inner (encode n ++ a) (encode n ++ u)
  character n s h = Chars.plain (Among.character s h) r

  single_quote : (b : ℕ) → b ≡ ch "'" → Inner (b ∷ a) (b ∷ u)
  single_quote b e = rw e (Chars.other_quote r)

  ranges : (b : ℕ) → 32 ≤ b → b < 0x80 → (b ≡ 0x22 → ⊥) → (b ≡ 0x5C → ⊥) → (b ≡ 0x27 → ⊥) → Of unescaped b
  ranges b l h p q o = go (dec_lt b 0x22) (dec_lt b 0x27) (dec_lt b 0x5C)
    where
      go : Dec (b < 0x22) → Dec (b < 0x27) → Dec (b < 0x5C) → Of unescaped b
      go (yes x) y z = inl (record { low = l; high = omega arith })
      go (no x) (yes y) z = inr (inl (record { low = omega arith; high = omega arith }))
      go (no x) (no y) (yes z) = inr (inr (inl (record { low = omega arith; high = omega arith })))
      go (no x) (no y) (no z) = inr (inr (inr (inl (record { low = omega arith; high = omega arith }))))

  plain : (b : ℕ) → 32 ≤ b → b < 0x80 → (b ≡ 0x22 → ⊥) → (b ≡ 0x5C → ⊥) → Inner (b ∷ a) (b ∷ u)
  plain b l h p q = go (ℕ_discrete b 0x27)
    where
      go : Dec (b ≡ 0x27) → Inner (b ∷ a) (b ∷ u)
      go (yes e) = single_quote b e
      go (no e) = subst (λ (c : List ℕ). Inner (c ++ a) (c ++ u)) (row_1 b (omega arith))
          (character b (record { top = omega arith; whole = inl (omega arith) }) (ranges b l h p q e))

  byte : (b : ℕ) → b < 0x80 → Inner (escaped b ++ a) (b ∷ u)
  unfolding escaped
  byte b h =
      by (λ e. Inner (e ++ a) (b ∷ u)) (eqb b (ch "\"")) (λ e. one Short.double_quote b (eqb-true b _ e)) (λ p.
      by (λ e. Inner (e ++ a) (b ∷ u)) (eqb b (ch "\\")) (λ e. one Short.reverse_solidus b (eqb-true b _ e)) (λ q.
      by (λ e. Inner (e ++ a) (b ∷ u)) (eqb b (ch "\u{8}")) (λ e. one Short.backspace b (eqb-true b _ e)) (λ x.
      by (λ e. Inner (e ++ a) (b ∷ u)) (eqb b (ch "\u{c}")) (λ e. one Short.form_feed b (eqb-true b _ e)) (λ x.
      by (λ e. Inner (e ++ a) (b ∷ u)) (eqb b (ch "\n")) (λ e. one Short.line_feed b (eqb-true b _ e)) (λ x.
      by (λ e. Inner (e ++ a) (b ∷ u)) (eqb b (ch "\r")) (λ e. one Short.carriage_return b (eqb-true b _ e)) (λ x.
      by (λ e. Inner (e ++ a) (b ∷ u)) (eqb b (ch "\t")) (λ e. one Short.tab b (eqb-true b _ e)) (λ x.
      by (λ e. Inner (e ++ a) (b ∷ u)) (ltb b (ch " ")) (λ e. control b (ltb-true b _ e))
      (λ x. plain b (ltb-false b _ x) h (eqb-false b _ p) (eqb-false b _ q)))))))))

-- ---- a longer character

escapes_join : (a b : List ℕ) → escapes (a ++ b) ≡ escapes a ++ escapes b
unfolding escapes
escapes_join [] b = refl
escapes_join (c ∷ a) b = rw (escapes_join a b, append_assoc (escaped c) (escapes a) (escapes b))

high_escaped : (b : ℕ) → 0x80 ≤ b → escaped b ≡ b ∷ []
unfolding escaped
high_escaped b h =
    rw (
      ne_eqb b 0x22 (λ e. omega arith),
      ne_eqb b 0x5C (λ e. omega arith),
      ne_eqb b 0x8 (λ e. omega arith),
      ne_eqb b 0xC (λ e. omega arith),
      ne_eqb b 0xA (λ e. omega arith),
      ne_eqb b 0xD (λ e. omega arith),
      ne_eqb b 0x9 (λ e. omega arith),
      le-ltb b 0x20 (omega arith),
    )

high_escapes : {c : List ℕ} → Each High c → escapes c ≡ c
unfolding escapes
high_escapes all_none = refl
high_escapes (all_more {b = b} h r) = rw (high_escaped b (omega arith), high_escapes r)

longer : {c a u : List ℕ} → Char c → 1 < length c → Inner a u → Inner (escapes c ++ a) (c ++ u)
longer {c} {a} {u} x h r =
    let m = numbered x in
    let l = above m.number (subst (λ (d : List ℕ). 1 < length d) m.bytes h) in
    rw (high_escapes (long x h)) (subst (λ (d : List ℕ). Inner (d ++ a) (d ++ u)) (sym m.bytes)
    (character r m.number m.scalar (inr (inr (inr (inl (record { low = omega arith; high = m.scalar.top })))))))

first : {c a u : List ℕ} → Char c → Inner a u → Inner (escapes c ++ a) (c ++ u)
unfolding escapes
first {c} {a} {u} x r = go (dec_lt 1 (length c))
  where
    go : Dec (1 < length c) → Inner (escapes c ++ a) (c ++ u)
    go (yes h) = longer x h r
    go (no h) = let s = short x (omega arith) in rw (s.is, append-nil) (byte r s.byte s.ascii)

inner : {s : List ℕ} → Octets s → Inner (escapes s) s
unfolding escapes
inner Octets.none = Chars.none
inner (Octets.more {c = c} {t = t} x r) = rw (escapes_join c t) (first x (inner r))

pub string_derived : {s : List ℕ} → Octets s → String true (quoted s) s
unfolding quoted
string_derived x = Concat.part (StringPart.one_line (Quoted.quoted double (inner x)))

-- ---- binary

pairs : (b : ℕ) (s : List ℕ) → Bytes (b ∷ s) → BPart (hex_pairs (b ∷ s)) (b ∷ s)
unfolding hex_pairs
pairs b [] h = BPart.last (hex_pair_is b h.0)
pairs b (c ∷ s) h = BPart.more (hex_pair_is b h.0) (pairs c s h.1)

pub binary_derived : (s : List ℕ) → Bytes s → Binary (binary_text s) s
unfolding binary_text hex_pairs
binary_derived [] h = Concat.part BValue.empty
binary_derived (b ∷ s) h = Concat.part (BValue.direct (BDirect.part (pairs b s h)))
