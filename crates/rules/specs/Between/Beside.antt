-- What the functions over blocks of bytes promise of UTF-8 (docs/FORMAT.md, 1.1). Assumes nothing.
use Rattle.std.specs.Prelude.{◌≡◌, List, ℕ, ◌+◌, ◌≤◌, ◌<◌, length, get_or}
use Rattle.rules.specs.Between.Posts.{Ascii, Passed, low_of, high_of}
use Rattle.rules.specs.declared.blocks.Block.{Block}
use Rattle.rules.specs.declared.blocks.Block.TheVariants.{Plain, Wide, Faulty}

-- r is 255 where b is a tail, else 0
pub record IsTail (b r : ℕ) : Type 0 where
  pub below : b < 0x80 → r ≡ 0
  pub tail : 0x80 ≤ b → b ≤ 0xBF → r ≡ 255
  pub above : 0xBF < b → r ≡ 0

-- r is 255 where one of the three bytes o, q, p begins a character that does not end with p, else 0
pub record Wanted (o q p r : ℕ) : Type 0 where
  pub none : p < 0xC0 → q < 0xE0 → o < 0xF0 → r ≡ 0
  pub second : 0xC0 ≤ p → r ≡ 255
  pub third : 0xE0 ≤ q → r ≡ 255
  pub fourth : 0xF0 ≤ o → r ≡ 255

-- r is x below the bound, and y from it on
pub record Barred (bound x y b r : ℕ) : Type 0 where
  pub under : b < bound → r ≡ x
  pub from : bound ≤ b → r ≡ y

-- the byte b may follow o, q, p, as far as these four tell, and but for a bound above
pub record Beside (o q p b : ℕ) : Type 0 where
  pub first : p < 0xC0 → q < 0xE0 → o < 0xF0 → 0x80 ≤ b → 0xC2 ≤ b
  pub second : 0xC0 ≤ p → (low_of p ≤ b) × (b ≤ high_of p)
  pub third : 0xE0 ≤ q → (0x80 ≤ b) × (b ≤ 0xBF)
  pub fourth : 0xF0 ≤ o → (0x80 ≤ b) × (b ≤ 0xBF)

-- each of the n bytes after the three at the place `at` may follow the three before it
pub record Clean (s : List ℕ) (at n : ℕ) : Type 0 where
  pub each : (k : ℕ) → k < n → Beside (get_or s (at + k) 0) (get_or s (at + k + 1) 0) (get_or s (at + k + 2) 0)
      (get_or s (at + k + 3) 0)

-- none of the n bytes after the three at the place `at` is above F4
pub record Topped (s : List ℕ) (at n : ℕ) : Type 0 where
  pub each : (k : ℕ) → k < n → get_or s (at + k + 3) 0 ≤ 0xF4

-- what a block of 32 bytes after the three at the place `at` may be called
pub data BlockIs (s : List ℕ) (at : ℕ) : Block → Type 0 where
  plain : Clean s at 32 → Topped s at 32 → Ascii s (at + 3) (at + 35) → BlockIs s at Plain
  wide : Clean s at 32 → Topped s at 32 → BlockIs s at Wide
  faulty : BlockIs s at Faulty

-- all is UTF-8 up to the beginning of the last character before the place h + 3, and that character is one as far as it
-- goes: it has ended there, or one, two or three of its bytes stand before that place
pub data Open (s : List ℕ) (h : ℕ) : Type 0 where
  whole : Passed s (h + 3) → get_or s h 0 < 0xF0 → get_or s (h + 1) 0 < 0xE0 → get_or s (h + 2) 0 < 0xC0 → Open s h
  one : Passed s (h + 2) → h + 3 ≤ length s → get_or s (h + 1) 0 < 0xF0 → 0xC2 ≤ get_or s (h + 2) 0
      → get_or s (h + 2) 0 ≤ 0xF4 → Open s h
  two : Passed s (h + 1) → h + 3 ≤ length s → 0xE0 ≤ get_or s (h + 1) 0 → get_or s (h + 1) 0 ≤ 0xF4
      → low_of (get_or s (h + 1) 0) ≤ get_or s (h + 2) 0 → get_or s (h + 2) 0 ≤ high_of (get_or s (h + 1) 0) → Open s h
  three : Passed s h → h + 3 ≤ length s → 0xF0 ≤ get_or s h 0 → get_or s h 0 ≤ 0xF4
      → low_of (get_or s h 0) ≤ get_or s (h + 1) 0 → get_or s (h + 1) 0 ≤ high_of (get_or s h 0)
      → 0x80 ≤ get_or s (h + 2) 0 → get_or s (h + 2) 0 ≤ 0xBF → Open s h
