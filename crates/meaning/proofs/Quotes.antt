-- Strings, quoted and escaped: each kind of byte, the steps, the lengths, and that they stay UTF-8. Assumes nothing.
use mathlib.Core.Path.{◌≡◌, refl, sym, ap, ap₂, ◌∙◌}
use mathlib.Core.Bool.{Bool, true, false, cond}
use mathlib.Core.List.{List, [], ◌∷◌, ◌++◌, append_assoc, append-nil}
use Prim.Native.Nat.{ℕ, ◌+◌, ◌*◌, ◌≤◌, ◌<◌}
use native.Mathlib.Numerals.{add-one}
use native.Mathlib.Omega.{arith}
use lib.Dec.{eqb, ltb}
use lib.ListN.{length, get_or, drop, length-append, drop_of_length-le}
use lib.Seq.{drop-cons}
use borrow.Author.Tests.{lt-ltb, le-ltb, ne_eqb}
use Rattle.rules.specs.Rfc3629.{Char, utf8_1, utf8_2, utf8_3a, utf8_3b, utf8_3c, utf8_3d, utf8_4a, utf8_4b, utf8_4c, Octets, none as no_char, more as one_char}
use Rattle.meaning.specs.Letters.{letters, ch}
use Rattle.meaning.specs.Good.{Bytes}
use Rattle.meaning.specs.Canonical.{hex_pair, escaped, escapes, quoted, hex_pairs, binary_text}
use Rattle.meaning.proofs.Digits.{Ascii, ascii_append, pair_ascii}

-- ---- UTF-8

pub octets_append : {a : List ℕ} (b : List ℕ) → Octets a → Octets b → Octets (a ++ b)
octets_append b no_char g = g
octets_append b (one_char {c = c} {t = t} h o) g = rw (append_assoc c t b) (one_char h (octets_append b o g))

pub ascii_octets : (s : List ℕ) → Ascii s → Octets s
ascii_octets [] f = no_char
ascii_octets (b ∷ s) f = one_char (utf8_1 {a = b} (record { low = omega arith; high = omega arith })) (ascii_octets s f.1)

-- ---- one byte

-- neither quote nor backslash nor below U+0020
pub escaped_plain : (b : ℕ) → (b ≡ ch "\"" → ⊥) → (b ≡ ch "\\" → ⊥) → ch " " ≤ b → escaped b ≡ b ∷ []
unfolding escaped
escaped_plain b q s h =
    simp (
      ne_eqb b (ch "\"") q,
      ne_eqb b (ch "\\") s,
      ne_eqb b (ch "\u{8}") (λ e. omega arith),
      ne_eqb b (ch "\u{c}") (λ e. omega arith),
      ne_eqb b (ch "\n") (λ e. omega arith),
      ne_eqb b (ch "\r") (λ e. omega arith),
      ne_eqb b (ch "\t") (λ e. omega arith),
      le-ltb b (ch " ") h,
    )

-- below U+0020, and none of the five with a letter
pub escaped_low : (b : ℕ) → (b ≡ ch "\u{8}" → ⊥) → (b ≡ ch "\u{c}" → ⊥) → (b ≡ ch "\n" → ⊥) → (b ≡ ch "\r" → ⊥) → (b ≡ ch "\t" → ⊥) → b < ch " "
    → escaped b ≡ letters "\\u00" ++ hex_pair b
unfolding escaped
escaped_low b h1 h2 h3 h4 h5 h =
    simp (
      ne_eqb b (ch "\"") (λ e. omega arith),
      ne_eqb b (ch "\\") (λ e. omega arith),
      ne_eqb b (ch "\u{8}") h1,
      ne_eqb b (ch "\u{c}") h2,
      ne_eqb b (ch "\n") h3,
      ne_eqb b (ch "\r") h4,
      ne_eqb b (ch "\t") h5,
      lt-ltb b (ch " ") h,
    )

-- what holds of every row of the table
pub record Rows (P : List ℕ → Type 0) (low plain : List ℕ) : Type 0 where
  pub quote : P (letters "\\\"")
  pub backslash : P (letters "\\\\")
  pub backspace : P (letters "\\b")
  pub form_feed : P (letters "\\f")
  pub line_feed : P (letters "\\n")
  pub return : P (letters "\\r")
  pub tab : P (letters "\\t")
  pub other : P low
  pub else : P plain

by_row : (P : List ℕ → Type 0) (low plain : List ℕ) → Rows P low plain → (a b c d e f g h : Bool)
    → P
    (cond a (letters "\\\"")
    (cond b (letters "\\\\")
    (cond c (letters "\\b")
    (cond d (letters "\\f") (cond e (letters "\\n") (cond f (letters "\\r") (cond g (letters "\\t") (cond h low plain))))))))
by_row P low plain r true b c d e f g h = r.quote
by_row P low plain r false true c d e f g h = r.backslash
by_row P low plain r false false true d e f g h = r.backspace
by_row P low plain r false false false true e f g h = r.form_feed
by_row P low plain r false false false false true f g h = r.line_feed
by_row P low plain r false false false false false true g h = r.return
by_row P low plain r false false false false false false true h = r.tab
by_row P low plain r false false false false false false false true = r.other
by_row P low plain r false false false false false false false false = r.else

-- holds of a byte's text
pub escaped_row : (P : List ℕ → Type 0) (b : ℕ) → Rows P (letters "\\u00" ++ hex_pair b) (b ∷ []) → P (escaped b)
unfolding escaped
escaped_row P b r =
    by_row P (letters "\\u00" ++ hex_pair b) (b ∷ []) r (eqb b (ch "\"")) (eqb b (ch "\\")) (eqb b (ch "\u{8}")) (eqb b (ch "\u{c}"))
    (eqb b (ch "\n")) (eqb b (ch "\r")) (eqb b (ch "\t")) (ltb b (ch " "))

abbrev pub Short : List ℕ → Type 0
Short s = (1 ≤ length s) × (length s ≤ 6)

pub escaped_short : (b : ℕ) → Short (escaped b)
escaped_short b = escaped_row Short b (omega arith)

pub escaped_ascii : (b : ℕ) → b < 128 → Ascii (escaped b)
escaped_ascii b h = escaped_row Ascii b (omega (arith, pair_ascii b (omega arith)))

-- ---- a string

pub escapes_append : (a b : List ℕ) → escapes (a ++ b) ≡ escapes a ++ escapes b
unfolding escapes
escapes_append [] b = refl
escapes_append (x ∷ a) b = ap (λ (l : List ℕ). escaped x ++ l) (escapes_append a b) ∙ sym (append_assoc (escaped x) (escapes a) (escapes b))

-- what is left of a string's text, before and after one byte of it
pub escapes_more : (s : List ℕ) (i : ℕ) → i < length s → escapes (drop i s) ≡ escaped (get_or s i 0) ++ escapes (drop (i + 1) s)
unfolding escapes
escapes_more s i h = rw (add-one, drop-cons s i 0) refl

pub escapes_end : (s : List ℕ) (i : ℕ) → length s ≤ i → escapes (drop i s) ≡ []
unfolding escapes
escapes_end s i h = ap escapes (drop_of_length-le s h)

pub escapes_length : (s : List ℕ) → length (escapes s) ≤ 6 * length s
unfolding escapes
escapes_length [] = omega arith
escapes_length (b ∷ s) = omega (arith, length-append (escaped b) (escapes s), escaped_short b, escapes_length s)

pub quoted_is : (s : List ℕ) → quoted s ≡ ch "\"" ∷ (escapes s ++ letters "\"")
unfolding quoted
quoted_is s = refl

pub quoted_length : (s : List ℕ) → length (quoted s) ≡ length (escapes s) + 2
quoted_length s = ap length (quoted_is s) ∙ omega (arith, length-append (escapes s) (letters "\""))

-- bytes from 80 on stay as they are
abbrev High : List ℕ → Type 0
High [] = Unit {0}
High (b ∷ s) = (128 ≤ b) × High s

high_stays : (s : List ℕ) → High s → escapes s ≡ s
unfolding escapes
high_stays [] h = refl
high_stays (b ∷ s) h = ap₂ (λ (x y : List ℕ). x ++ y) (escaped_plain b (λ e. omega arith) (λ e. omega arith) (omega arith)) (high_stays s h.1)

one : {c : List ℕ} → Char c → Octets c
one {c} h = rw (append-nil c) at (one_char h no_char)

high : {c : List ℕ} → Char c → High c → Octets (escapes c)
high {c} h g = rw (high_stays c g) (one h)

pub char_escapes : {c : List ℕ} → Char c → Octets (escapes c)
unfolding escapes
char_escapes (utf8_1 {a = b} a) = ascii_octets (escaped b ++ []) (ascii_append (escaped b) [] (escaped_ascii b (omega arith)) tt)
char_escapes (utf8_2 a b) = high (utf8_2 a b) (omega arith)
char_escapes (utf8_3a b c) = high (utf8_3a b c) (omega arith)
char_escapes (utf8_3b a b c) = high (utf8_3b a b c) (omega arith)
char_escapes (utf8_3c b c) = high (utf8_3c b c) (omega arith)
char_escapes (utf8_3d a b c) = high (utf8_3d a b c) (omega arith)
char_escapes (utf8_4a b c d) = high (utf8_4a b c d) (omega arith)
char_escapes (utf8_4b a b c d) = high (utf8_4b a b c d) (omega arith)
char_escapes (utf8_4c b c d) = high (utf8_4c b c d) (omega arith)

pub escapes_octets : {s : List ℕ} → Octets s → Octets (escapes s)
unfolding escapes
escapes_octets no_char = no_char
escapes_octets (one_char {c = c} {t = t} h o) = rw (escapes_append c t) (octets_append (escapes t) (char_escapes h) (escapes_octets o))

pub quoted_octets : {s : List ℕ} → Octets s → Octets (quoted s)
unfolding quoted
quoted_octets {s} o =
    octets_append (letters "\"") (octets_append (escapes s) (ascii_octets (letters "\"") (omega arith)) (escapes_octets o))
    (ascii_octets (letters "\"") (omega arith))

-- ---- binary

pub pairs_length : (s : List ℕ) → length (hex_pairs s) ≡ 2 * length s
unfolding hex_pairs
pairs_length [] = refl
pairs_length (b ∷ s) = omega (arith, pairs_length s)

pub pairs_ascii : (s : List ℕ) → Bytes s → Ascii (hex_pairs s)
unfolding hex_pairs
pairs_ascii [] h = tt
pairs_ascii (b ∷ s) h = ascii_append (hex_pair b) (hex_pairs s) (pair_ascii b h.0) (pairs_ascii s h.1)

pub pairs_more : (s : List ℕ) (i : ℕ) → i < length s → hex_pairs (drop i s) ≡ hex_pair (get_or s i 0) ++ hex_pairs (drop (i + 1) s)
unfolding hex_pairs
pairs_more s i h = rw (add-one, drop-cons s i 0) refl

pub pairs_end : (s : List ℕ) (i : ℕ) → length s ≤ i → hex_pairs (drop i s) ≡ []
unfolding hex_pairs
pairs_end s i h = ap hex_pairs (drop_of_length-le s h)

pub binary_ascii : (s : List ℕ) → Bytes s → Ascii (binary_text s)
unfolding binary_text
binary_ascii s h = (omega arith, pairs_ascii s h)
