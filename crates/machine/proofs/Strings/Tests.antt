-- What a test says in each of its two branches; hexadecimal digits, short escapes, and what may come after a part. Assumes nothing.
use Prim.Native.Nat.{ℕ, zero, ◌≤◌, ◌<◌}
use mathlib.Core.Path.{◌≡◌, refl}
use mathlib.Core.Bool.{Bool, true, false, cond}
use mathlib.Core.List.{List, []}
use native.Mathlib.Omega.{arith}
use lib.Dec.{eqb, ltb, leb}
use borrow.Author.Tests.{eqb-true, eqb-false, ltb-true, ltb-false, leb-true, leb-false, le-ltb, le-leb, lt-leb}
use Rattle.rules.specs.Rfc3629.{In}
use Rattle.meaning.specs.Letters.{ch}
use Rattle.grammar.specs.Characters.{Hexdig, Digits}
use Rattle.grammar.specs.Comments.{Blank}
use Rattle.grammar.specs.Strings.{Short}
use Rattle.machine.specs.Scan.{over}
use Rattle.machine.specs.Strings.{hex_of, short_of}
use Rattle.machine.proofs.Runs.{EndsItem, PartEnds}

module _ {A : Type 0} (P : A → Type 0) where
  pub by_bool : (t : Bool) (x y : A) → (t ≡ true → P x) → (t ≡ false → P y) → P (cond t x y)
  by_bool true x y f g = f refl
  by_bool false x y f g = g refl

  -- whatever the test says
  pub either : (t : Bool) {x y : A} → P x → P y → P (cond t x y)
  either true a b = a
  either false a b = b

  pub by_eqb : (a b : ℕ) (x y : A) → (a ≡ b → P x) → ((a ≡ b → ⊥) → P y) → P (cond (eqb a b) x y)
  by_eqb a b x y f g = by_bool (eqb a b) x y (λ e. f (eqb-true a b e)) (λ e. g (eqb-false a b e))

  pub by_ltb : (a b : ℕ) (x y : A) → (a < b → P x) → (b ≤ a → P y) → P (cond (ltb a b) x y)
  by_ltb a b x y f g = by_bool (ltb a b) x y (λ e. f (ltb-true a b e)) (λ e. g (ltb-false a b e))

  pub by_leb : (a b : ℕ) (x y : A) → (a ≤ b → P x) → (b < a → P y) → P (cond (leb a b) x y)
  by_leb a b x y f g = by_bool (leb a b) x y (λ e. f (leb-true a b e)) (λ e. g (leb-false a b e))

-- ---- hexadecimal digits

pub hex_of_lem : {b x : ℕ} → Hexdig b x → hex_of b ≡ x
unfolding hex_of
hex_of_lem {b} (Hexdig.decimal w) = simp (le-ltb b 0x30 w.low, le-leb b 0x39 w.high)
hex_of_lem {b} (Hexdig.upper w) = simp (le-ltb b 0x30 (omega arith), lt-leb b 0x39 (omega arith), le-ltb b 0x41 w.low, le-leb b 0x46 w.high)
hex_of_lem {b} (Hexdig.lower w) =
    simp (
      le-ltb b 0x30 (omega arith),
      lt-leb b 0x39 (omega arith),
      le-ltb b 0x41 (omega arith),
      lt-leb b 0x46 (omega arith),
      le-ltb b 0x61 w.low,
      le-leb b 0x66 w.high,
    )

pub hex_small : {b x : ℕ} → Hexdig b x → x < 16
hex_small (Hexdig.decimal w) = omega arith
hex_small (Hexdig.upper w) = omega arith
hex_small (Hexdig.lower w) = omega arith

-- no digits are none, and their value is the value before them
pub over_is : {v w : ℕ} {a : List ℕ} → Digits Hexdig 16 zero v a w → (a ≡ []) × (w ≡ v)
over_is Digits.over = (refl, refl)

-- every digit is a letter or a figure
pub hex_ascii : {b x : ℕ} → Hexdig b x → In 0x30 0x66 b
hex_ascii (Hexdig.decimal w) = omega arith
hex_ascii (Hexdig.upper w) = omega arith
hex_ascii (Hexdig.lower w) = omega arith

pub hex_is : (b : ℕ) → hex_of b < 16 → Hexdig b (hex_of b)
unfolding hex_of
hex_is b =
    by_ltb Q b 0x30 _ _ (λ h l. absurd (omega arith)) λ h₁.
    by_leb Q b 0x39 _ _ (λ h l. Hexdig.decimal (record { low = h₁; high = h })) λ h₂.
    by_ltb Q b 0x41 _ _ (λ h l. absurd (omega arith)) λ h₃.
    by_leb Q b 0x46 _ _ (λ h l. Hexdig.upper (record { low = h₃; high = h })) λ h₄.
    by_ltb Q b 0x61 _ _ (λ h l. absurd (omega arith)) λ h₅.
    by_leb Q b 0x66 _ _ (λ h l. Hexdig.lower (record { low = h₅; high = h })) (λ h l. absurd (omega arith))
  where
    Q : ℕ → Type 0
    Q x = x < 16 → Hexdig b x

-- ---- short escapes

-- a short escape is ASCII, no `u` and no `x`, and means an ASCII character
pub record Shortly (b c : ℕ) : Type 0 where
  pub ascii : b < 0x80
  pub no_u : b ≡ ch "u" → ⊥
  pub no_x : b ≡ ch "x" → ⊥
  pub small : c ≤ 0x5C

pub short_of_lem : {b c : ℕ} → Short b c → (short_of b ≡ c) × Shortly b c
unfolding short_of
short_of_lem Short.double_quote = (refl, omega arith)
short_of_lem Short.single_quote = (refl, omega arith)
short_of_lem Short.reverse_solidus = (refl, omega arith)
short_of_lem Short.solidus = (refl, omega arith)
short_of_lem Short.nul = (refl, omega arith)
short_of_lem Short.backspace = (refl, omega arith)
short_of_lem Short.form_feed = (refl, omega arith)
short_of_lem Short.line_feed = (refl, omega arith)
short_of_lem Short.carriage_return = (refl, omega arith)
short_of_lem Short.tab = (refl, omega arith)
short_of_lem Short.vtab = (refl, omega arith)

pub short_is : (b : ℕ) → short_of b < 256 → Short b (short_of b)
unfolding short_of
short_is b =
    by_eqb Q b 0x22 _ _ (λ e l. rw e Short.double_quote) λ n₁.
    by_eqb Q b 0x27 _ _ (λ e l. rw e Short.single_quote) λ n₂.
    by_eqb Q b 0x5C _ _ (λ e l. rw e Short.reverse_solidus) λ n₃.
    by_eqb Q b 0x2F _ _ (λ e l. rw e Short.solidus) λ n₄.
    by_eqb Q b 0x30 _ _ (λ e l. rw e Short.nul) λ n₅.
    by_eqb Q b 0x62 _ _ (λ e l. rw e Short.backspace) λ n₆.
    by_eqb Q b 0x66 _ _ (λ e l. rw e Short.form_feed) λ n₇.
    by_eqb Q b 0x6E _ _ (λ e l. rw e Short.line_feed) λ n₈.
    by_eqb Q b 0x72 _ _ (λ e l. rw e Short.carriage_return) λ n₉.
    by_eqb Q b 0x74 _ _ (λ e l. rw e Short.tab) λ n₁₀.
    by_eqb Q b 0x76 _ _ (λ e l. rw e Short.vtab) (λ n₁₁ l. absurd (omega arith))
  where
    Q : ℕ → Type 0
    Q c = c < 256 → Short b c

-- ---- what may come after a part

-- what each of these bytes has, every byte has that may come after a part
pub ends_all : (P : ℕ → Type 0) → P (ch " ") × P (ch "\t") × P (ch "\n") × P (ch "\r") × P (ch "#") × P (ch "/") × P (ch ",") × P (ch "]") × P (ch "}") × P over
    × P (ch "+") × P (ch ":") → {b : ℕ} → PartEnds b → P b
ends_all P f (PartEnds.ends (EndsItem.blank Blank.space)) = f.0
ends_all P f (PartEnds.ends (EndsItem.blank Blank.tab)) = f.1
ends_all P f (PartEnds.ends (EndsItem.blank Blank.line_feed)) = f.2
ends_all P f (PartEnds.ends (EndsItem.blank Blank.carriage_return)) = f.3
ends_all P f (PartEnds.ends EndsItem.hash) = f.4
ends_all P f (PartEnds.ends EndsItem.slash) = f.5
ends_all P f (PartEnds.ends EndsItem.comma) = f.6
ends_all P f (PartEnds.ends EndsItem.bracket) = f.7
ends_all P f (PartEnds.ends EndsItem.brace) = f.8
ends_all P f (PartEnds.ends EndsItem.end) = f.9
ends_all P f PartEnds.plus = f.10
ends_all P f PartEnds.colon = f.11
