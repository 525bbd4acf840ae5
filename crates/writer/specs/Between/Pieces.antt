-- What the functions below the writers of a piece (docs/FORMAT.md, 12) promise their callers. Assumes nothing.
use Rattle.std.specs.Prelude.{◌≡◌, Bool, true, false, List, [], ◌∷◌, ◌++◌, ℕ, suc, ◌+◌, ◌^◌, ◌≤◌, ◌<◌, ℤ}
use Rattle.std.specs.Prelude.{pos, negsuc, length, get_or, ◌⊎◌, Option, Some, None}
use Rattle.meaning.specs.Letters.{letters, ch}
use Rattle.meaning.specs.Limits.{plain_digits, fraction_digits}
use Rattle.meaning.specs.Canonical.{hex_pair, escaped, fixed, trimmed as trimmedText}
use Rattle.writer.specs.declared.Form.{Form}
use Rattle.writer.specs.declared.Form.TheVariants.{Zeros, Point, Power as WithPower}
use Rattle.writer.specs.declared.Trimmed.{Trimmed}

-- the form of a number of d digits with this power
pub data FormOf (d : ℕ) : ℤ → Form → Type 0 where
  zeros : {p : ℕ} → d + p ≤ plain_digits → FormOf d (pos p) (Zeros p)
  point : {n : ℕ} → suc n ≤ plain_digits → FormOf d (negsuc n) (Point (suc n))
  raised : {p : ℕ} → plain_digits < d + p → FormOf d (pos p) WithPower
  lowered : {n : ℕ} → plain_digits < suc n → FormOf d (negsuc n) WithPower

-- how long d digits are with the last n of them after a point
pub record PointedLength (d n r : ℕ) : Type 0 where
  pub few : d ≤ n → r ≡ n + 2
  pub more : n < d → r ≡ d + 1
  pub small : r ≤ plain_digits + 2

-- the byte stands for itself; else it lies below U+0020 or is a quote or a backslash
abbrev pub IsPlain : ℕ → Bool → Type 0
IsPlain b true = escaped b ≡ b ∷ []
IsPlain b false = ch " " ≤ b → (b ≡ ch "\"") ⊎ (b ≡ ch "\\")

-- with a letter after the backslash; with none, it is no quote and no backslash, and below U+0020 it goes by its number
abbrev pub Lettered : ℕ → Option ℕ → Type 0
Lettered b (Some letter) = escaped b ≡ letters "\\" ++ (letter ∷ [])
Lettered b None = (b ≡ ch "\"" → ⊥) × (b ≡ ch "\\" → ⊥)
    × (b < ch " " → escaped b ≡ letters "\\u00" ++ hex_pair b)

-- where r is not 0, the byte b stands for itself
pub record Ease (b r : ℕ) : Type 0 where
  pub plain : (r ≡ 0 → ⊥) → escaped b ≡ b ∷ []

-- so does each of the n bytes at the place `at`
pub record EaseAll (s : List ℕ) (at n r : ℕ) : Type 0 where
  pub each : (k : ℕ) → k < n → Ease (get_or s (at + k) 0) r

-- the bytes from `from` up to `to` stand for themselves
pub record PlainRun (s : List ℕ) (from to : ℕ) : Type 0 where
  pub behind : from ≤ to
  pub within : to ≤ length s
  pub each : (k : ℕ) → from ≤ k → k < to → escaped (get_or s k 0) ≡ get_or s k 0 ∷ []

-- true only where the last sixteen bytes stand for themselves
pub record PlainLast (s : List ℕ) (b : Bool) : Type 0 where
  pub run : b ≡ true → (k : ℕ) → length s ≤ k + 16 → k < length s → escaped (get_or s k 0) ≡ get_or s k 0 ∷ []

-- so many digits of this number are the fraction's, without closing zeros
pub record FractionDigits (n : ℕ) (r : Trimmed) : Type 0 where
  pub text : trimmedText fraction_digits n ≡ fixed r.count r.digits
  pub few : r.count ≤ fraction_digits

-- 10 to the power t, and 0 where t is 0
pub record Power (t r : ℕ) : Type 0 where
  pub none : t ≡ 0 → r ≡ 0
  pub some : 0 < t → r ≡ 10 ^ t

-- 1 where n is at least p
pub record Reaches (n p r : ℕ) : Type 0 where
  pub below : n < p → r ≡ 0
  pub above : p ≤ n → r ≡ 1
  pub small : r ≤ 1
