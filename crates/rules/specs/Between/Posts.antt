-- What the functions below `utf8` and `date` (docs/FORMAT.md, 1.1 and 6) promise their callers. Assumes nothing.
use Rattle.std.specs.Prelude.{cond, List, ℕ, ◌+◌, ◌≤◌, ◌<◌, eqb, length, get_or, take, drop, Option, Some, None}
use Rattle.rules.specs.Rfc3629.{Char, NoChar, Octets}
use Rattle.rules.specs.Rfc3339.{Days}

-- each of the n bytes at the place `at` is at most r
pub record AtMost (s : List ℕ) (at n r : ℕ) : Type 0 where
  pub each : (k : ℕ) → k < n → get_or s (at + k) 0 ≤ r

-- the bytes from `from` up to `to` are ASCII
pub record Ascii (s : List ℕ) (from to : ℕ) : Type 0 where
  pub behind : from ≤ to
  pub within : to ≤ length s
  pub each : (k : ℕ) → from ≤ k → k < to → get_or s k 0 < 0x80

-- the bytes before the place i are UTF-8
pub record Passed (s : List ℕ) (i : ℕ) : Type 0 where
  pub within : i ≤ length s
  pub good : Octets (take i s)

-- a character that begins with the byte a has n bytes
pub data Lead (a : ℕ) : ℕ → Type 0 where
  one : a ≤ 0x7F → Lead a 1
  two : 0xC2 ≤ a → a ≤ 0xDF → Lead a 2
  three : 0xE0 ≤ a → a ≤ 0xEF → Lead a 3
  four : 0xF0 ≤ a → a ≤ 0xF4 → Lead a 4

-- the character at the place i has n bytes, or none stands there
pub data CharAt (s : List ℕ) (i : ℕ) : Option ℕ → Type 0 where
  char : {n : ℕ} → 0 < n → i + n ≤ length s → Char (take n (drop i s)) → CharAt s i (Some n)
  gap : NoChar (drop i s) → CharAt s i None

-- of the n bytes at the place i, at most four, each from the third on is a tail
pub record Tails (s : List ℕ) (i n : ℕ) : Type 0 where
  pub third : 3 ≤ n → (0x80 ≤ get_or s (i + 2) 0) × (get_or s (i + 2) 0 ≤ 0xBF)
  pub fourth : 4 ≤ n → (0x80 ≤ get_or s (i + 3) 0) × (get_or s (i + 3) 0 ≤ 0xBF)

-- the least and the greatest second byte after the first byte a, of three or four
unfoldable pub low_of : ℕ → ℕ
low_of a = cond (eqb a 0xE0) 0xA0 (cond (eqb a 0xF0) 0x90 0x80)

unfoldable pub high_of : ℕ → ℕ
high_of a = cond (eqb a 0xED) 0x9F (cond (eqb a 0xF4) 0x8F 0xBF)

-- the days of the month, or none where the number is no month
pub data Lasts (y m : ℕ) : Option ℕ → Type 0 where
  month : {n : ℕ} → Days y m n → Lasts y m (Some n)
  no_month : ((n : ℕ) → Days y m n → ⊥) → Lasts y m None
