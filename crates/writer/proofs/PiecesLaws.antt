-- The pieces' texts by cases, as the code goes by them. Assumes nothing.
use mathlib.Core.Path.{◌≡◌, refl, sym, ap, ◌∙◌, subst}
use mathlib.Core.Logic.{◌⊎◌, inl, inr}
use mathlib.Core.Bool.{Bool, true, false, cond}
use mathlib.Core.List.{List, [], ◌∷◌, ◌++◌, append_assoc}
use Prim.Native.Nat.{ℕ, zero, suc, ◌+◌, ◌-◌, ◌*◌, ◌/◌, ◌%◌, ◌^◌, ◌≤◌, ◌<◌}
use native.Mathlib.Decide.{dec_le}
use native.Mathlib.Nat.{lt_of_not-le}
use native.Mathlib.Omega.{arith}
use Rattle.std.specs.Prelude.{Some, None}
use lib.IntN.{ℤ, pos, negsuc, nat_abs}
use lib.Signed.{lt_z}
use mir.Syntax.{w16, w32}
use mir.Val.{SFits, of_z, to_z}
use mir.ValLaws.{to_z-of_z}
use Rattle.std.proofs.lemmas.Int.{ints}
use lib.ListN.{length, get_or, take, drop, length-append}
use lib.Dec.{leb}
use borrow.Author.Tests.{leb-true, leb-false, le-ltb, eq-eqb, ne_eqb}
use Rattle.meaning.specs.Letters.{letters, ch}
use Rattle.meaning.specs.Limits.{second, store_limit}
use Rattle.meaning.specs.declared.Number.{Number}
use Rattle.meaning.specs.declared.Number.TheVariants.{Finite, NotANumber, Infinite}
use Rattle.meaning.specs.declared.Date.{Date}
use Rattle.meaning.specs.declared.Time.{Time}
use Rattle.meaning.specs.declared.Time.TheVariants.{LocalDate, LocalTime, LocalDateTime, OffsetDateTime}
use Rattle.meaning.specs.Canonical.{decimal, fixed, trimmed, hex_pair, escaped, escapes, quoted, hex_pairs, binary_text, minus_text, minutes_text, power_text}
use Rattle.meaning.specs.Canonical.{finite_text, number_text, offset_text, fraction_text, date_text, clock_text, time_text}
use Rattle.meaning.proofs.Digits.{fixed_length, trimmed_less}
use Rattle.meaning.proofs.Quotes.{escaped_plain, escaped_low, escapes_more, escapes_length, quoted_length}
use Rattle.writer.specs.declared.Trimmed.{Trimmed}
use Rattle.writer.specs.Between.Pieces.{FractionDigits, IsPlain, Lettered}

pub length_three : (a b c : List ℕ) → length (a ++ b ++ c) ≡ length a + length b + length c
length_three a b c = simp length-append

-- ---- numbers

module _ {n : Number} where
  pub finite_parts : {minus : Bool} {c : ℕ} {p : ℤ} → n ≡ Finite minus c p → number_text n ≡ minus_text minus ++ finite_text c p
  unfolding number_text
  finite_parts e = ap number_text e

  pub nan_text : n ≡ NotANumber → number_text n ≡ letters "NaN"
  unfolding number_text
  nan_text e = ap number_text e

  pub infinite_parts : {minus : Bool} → n ≡ Infinite minus → number_text n ≡ minus_text minus ++ letters "Infinity"
  unfolding number_text
  infinite_parts e = ap number_text e

-- ---- powers

power_parts : (p : ℤ) → (p ≡ pos 0 → ⊥) → power_text p ≡ letters "e" ++ minus_text (lt_z p (pos 0)) ++ decimal (nat_abs p)
unfolding power_text
power_parts (pos zero) h = absurd (h refl)
power_parts (pos (suc k)) h =
    let z : lt_z (pos (suc k)) (pos 0) ≡ false = le-ltb (suc k) 0 (omega arith) in
    ap (λ (b : Bool). letters "e" ++ minus_text b ++ decimal (suc k)) (sym z)
power_parts (negsuc k) h = refl

-- by the sign and the size, as the machine has them
module _ (p : ℤ) (f : SFits w32 p) where
  pub power_none : of_z w32 p ≡ 0 → power_text p ≡ []
  unfolding power_text
  power_none e = let z : p ≡ pos 0 = omega (arith, ints) in ap power_text z

  module _ (h : of_z w32 p ≡ 0 → ⊥) {n : ℕ} (e : n ≡ nat_abs (to_z w32 (of_z w32 p))) where
    pub power_some : power_text p ≡ letters "e" ++ minus_text (lt_z (to_z w32 (of_z w32 p)) (pos 0)) ++ decimal n
    power_some = rw (e, to_z-of_z w32 p f) (power_parts p (λ z. h (ap (of_z w32) z)))

    pub power_length : length (power_text p) ≡ 1 + length (minus_text (lt_z (to_z w32 (of_z w32 p)) (pos 0))) + length (decimal n)
    power_length = ap length power_some ∙ length_three (letters "e") _ _

-- ---- offsets

pub minutes_length : (n : ℕ) → length (minutes_text n) ≡ 5
minutes_length n = simp (length-append, fixed_length)

offset_parts : (z : ℤ) → (z ≡ pos 0 → ⊥) → offset_text z ≡ (cond (lt_z z (pos 0)) (ch "-") (ch "+") ∷ minutes_text (nat_abs z))
unfolding offset_text
offset_parts (pos zero) h = absurd (h refl)
offset_parts (pos (suc k)) h =
    let z : lt_z (pos (suc k)) (pos 0) ≡ false = le-ltb (suc k) 0 (omega arith) in
    ap (λ (b : Bool). cond b (ch "-") (ch "+") ∷ minutes_text (suc k)) (sym z)
offset_parts (negsuc k) h = refl

module _ (z : ℤ) (f : SFits w16 z) where
  pub offset_none : of_z w16 z ≡ 0 → offset_text z ≡ letters "Z"
  unfolding offset_text
  offset_none e = let q : z ≡ pos 0 = omega (arith, ints) in ap offset_text q

  module _ (h : of_z w16 z ≡ 0 → ⊥) {n : ℕ} (e : n ≡ nat_abs (to_z w16 (of_z w16 z))) where
    pub offset_some : offset_text z ≡ (cond (lt_z (to_z w16 (of_z w16 z)) (pos 0)) (ch "-") (ch "+") ∷ minutes_text n)
    offset_some = rw (e, to_z-of_z w16 z f) (offset_parts z (λ x. h (ap (of_z w16) x)))

  pub offset_length : (of_z w16 z ≡ 0 → ⊥) → length (offset_text z) ≡ 6
  offset_length h = ap length (offset_some h refl) ∙ omega (arith, minutes_length (nat_abs (to_z w16 (of_z w16 z))))

-- ---- fractions

pub fraction_none : (n : ℕ) → n ≡ 0 → fraction_text n ≡ []
unfolding fraction_text
fraction_none n e = simp (eq-eqb n 0 e)

-- by the digits that are left of it
pub fraction_some : {n : ℕ} {r : Trimmed} → (n ≡ 0 → ⊥) → FractionDigits n r → fraction_text n ≡ letters "." ++ fixed r.count r.digits
unfolding fraction_text
fraction_some {n} h t = simp (ne_eqb n 0 h) (ap (λ (l : List ℕ). letters "." ++ l) t.text)

-- the last digit is not 0: nothing is cut
pub trimmed_kept : (w n : ℕ) → 0 < w → (n % 10 ≡ 0 → ⊥) → trimmed w n ≡ fixed w n
unfolding trimmed
trimmed_kept zero n p h = absurd (omega arith)
trimmed_kept (suc w) n p h = simp (ne_eqb (n % 10) 0 h)

pub trimmed_cut : (w n : ℕ) → 0 < w → n % 10 ≡ 0 → trimmed w n ≡ trimmed (w - 1) (n / 10)
trimmed_cut zero n p h = absurd (omega arith)
trimmed_cut (suc w) n p h = let z : w ≡ suc w - 1 = omega arith in trimmed_less w n h ∙ ap (λ (k : ℕ). trimmed k (n / 10)) z

pub trimmed_zero : (n m : ℕ) → trimmed 0 n ≡ fixed 0 m
unfolding trimmed fixed
trimmed_zero n m = refl

-- ---- escapes

-- the short ones, with their letters
pub data Short : ℕ → ℕ → Type 0 where
  quote : Short (ch "\"") (ch "\"")
  backslash : Short (ch "\\") (ch "\\")
  backspace : Short (ch "\u{8}") (ch "b")
  form_feed : Short (ch "\u{c}") (ch "f")
  line_feed : Short (ch "\n") (ch "n")
  return : Short (ch "\r") (ch "r")
  tab : Short (ch "\t") (ch "t")

short_text : {c r : ℕ} → Short c r → escaped c ≡ letters "\\" ++ (r ∷ [])
unfolding escaped
short_text quote = refl
short_text backslash = refl
short_text backspace = refl
short_text form_feed = refl
short_text line_feed = refl
short_text return = refl
short_text tab = refl

pub lettered : {c r : ℕ} (b : ℕ) → Short c r → b ≡ c → Lettered b (Some r)
lettered b s e = ap escaped e ∙ short_text s

pub lettered_self : (b : ℕ) → (b ≡ ch "\"") ⊎ (b ≡ ch "\\") → Lettered b (Some b)
lettered_self b (inl e) = subst (λ (x : ℕ). Lettered x (Some x)) (sym e) (short_text quote)
lettered_self b (inr e) = subst (λ (x : ℕ). Lettered x (Some x)) (sym e) (short_text backslash)

pub unlettered : (b : ℕ) → (b ≡ ch "\"" → ⊥) → (b ≡ ch "\\" → ⊥) → (b ≡ ch "\u{8}" → ⊥) → (b ≡ ch "\u{c}" → ⊥) → (b ≡ ch "\n" → ⊥) → (b ≡ ch "\r" → ⊥)
    → (b ≡ ch "\t" → ⊥) → Lettered b None
unlettered b q s h1 h2 h3 h4 h5 = (q, s, escaped_low b h1 h2 h3 h4 h5)

pub plain_by : (b : ℕ) → (b ≡ ch "\"" → ⊥) → (b ≡ ch "\\" → ⊥) → IsPlain b (leb (ch " ") b)
plain_by b q s = go (leb (ch " ") b) refl
  where
    go : (t : Bool) → leb (ch " ") b ≡ t → IsPlain b t
    go true e = escaped_plain b q s (leb-true (ch " ") b e)
    go false e = λ h. absurd (omega (arith, leb-false (ch " ") b e))

-- not plain, and no letter
pub low_text : (b : ℕ) → IsPlain b false → Lettered b None → escaped b ≡ letters "\\u00" ++ hex_pair b
low_text b p (q, s, low) =
    elim (dec_le (ch " ") b) [
      | yes h ↦ elim (p h) [ inl e ↦ absurd (q e) | inr e ↦ absurd (s e) ]
      | no h ↦ low (lt_of_not-le h)
    ]

-- ---- strings and binary, from one byte to the next

pub count_more : (s : List ℕ) (i : ℕ) → i < length s → length (escapes (drop i s)) ≡ length (escaped (get_or s i 0)) + length (escapes (drop (i + 1) s))
count_more s i h = ap length (escapes_more s i h) ∙ length-append (escaped (get_or s i 0)) (escapes (drop (i + 1) s))

pub quoted_small : (s : List ℕ) → length s ≤ store_limit → length (quoted s) < 2 ^ 30
quoted_small s h = omega (arith, quoted_length s, escapes_length s)

pub quoted_parts : (s : List ℕ) → quoted s ≡ letters "\"" ++ escapes s ++ letters "\""
unfolding quoted
quoted_parts s = refl

pub binary_is : (s : List ℕ) → binary_text s ≡ letters "$" ++ hex_pairs s
unfolding binary_text
binary_is s = refl

-- a part of the store, by its start and end
pub part_to : (store : List ℕ) (start size : ℕ) → take (start + size - start) (drop start store) ≡ take size (drop start store)
part_to store start size = let z : start + size - start ≡ size = omega arith in ap (λ (k : ℕ). take k (drop start store)) z

-- ---- dates and times

pub date_parts : (d : Date) → date_text d ≡ fixed 4 d.year ++ (ch "-" ∷ fixed 2 d.month) ++ (ch "-" ∷ fixed 2 d.day)
unfolding date_text
date_parts d = simp append_assoc

pub clock_parts : (t : ℕ)
    → clock_text t
    ≡ fixed 2 (t / (60 * 60 * second)) ++ (ch ":" ∷ fixed 2 (t / (60 * second) % 60)) ++ (ch ":" ∷ fixed 2 (t / second % 60)) ++ fraction_text (t % second)
unfolding clock_text
clock_parts t = simp append_assoc

pub minutes_parts : (n : ℕ) → minutes_text n ≡ fixed 2 (n / 60) ++ (ch ":" ∷ fixed 2 (n % 60))
minutes_parts n = simp append_assoc

module _ {t : Time} where
  pub date_alone : {d : Date} → t ≡ LocalDate d → time_text t ≡ date_text d
  unfolding time_text
  date_alone e = ap time_text e

  pub clock_alone : {clock : ℕ} → t ≡ LocalTime clock → time_text t ≡ clock_text clock
  unfolding time_text
  clock_alone e = ap time_text e

  pub local_parts : {d : Date} {clock : ℕ} → t ≡ LocalDateTime d clock → time_text t ≡ date_text d ++ letters "T" ++ clock_text clock
  unfolding time_text
  local_parts e = ap time_text e

  pub offset_date_parts : {d : Date} {clock : ℕ} {o : ℤ} → t ≡ OffsetDateTime d clock o
      → time_text t ≡ date_text d ++ letters "T" ++ clock_text clock ++ offset_text o
  unfolding time_text
  offset_date_parts e = ap time_text e
