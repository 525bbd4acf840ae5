-- A stack of slots kept in lent numbers, for keys (docs/FORMAT.md, 7.2): a slot is a place and a tag; the slots whose
-- tags are alike modulo how many slots there are stand in one chain, the newest first. Assumes nothing.
use Rattle.std.specs.Prelude.{◌≡◌, cond, List, [], ◌∷◌, ◌++◌, ℕ, zero, suc, ◌+◌, ◌*◌, ◌-◌, ◌/◌, ◌%◌, ◌<◌, ◌≤◌, ◌^◌, eqb}
use Rattle.std.specs.Prelude.{Option, Some, None, length, get_or}

-- a place and a tag
abbrev pub Slot : Type 0
Slot = ℕ × ℕ

-- a number of the table, 0 for none
abbrev pub unless_zero : ℕ → Option ℕ
unless_zero zero = None
unless_zero (suc n) = Some (suc n)

-- the first eight numbers are a header; four numbers for each slot
abbrev pub room : List ℕ → ℕ
room seen = (length seen - 8) / 4

-- of the slots, the newest first: one more than how many are below the newest of bucket h of n; 0 where there is none
unfoldable pub newest_of : ℕ → ℕ → List Slot → ℕ
newest_of n h [] = 0
newest_of n h (s ∷ k) = cond (eqb (s.1 % n) h) (suc (length k)) (newest_of n h k)

-- each slot's place, tag and link
abbrev pub Slotted : ℕ → List ℕ → List Slot → Type 0
Slotted n seen [] = Unit {0}
Slotted n seen (s ∷ k) =
    (get_or seen (8 + 4 * length k) 0 ≡ s.0)
    × (get_or seen (9 + 4 * length k) 0 ≡ s.1)
    × (get_or seen (10 + 4 * length k) 0 ≡ newest_of n (s.1 % n) k)
    × Slotted n seen k

pub record Table (n : ℕ) (seen : List ℕ) (k : List Slot) : Type 0 where
  pub some : 0 < n
  pub size : n ≡ room seen
  pub short : length seen < 2 ^ 32
  pub top : get_or seen 0 0 ≡ length k
  pub few : length k ≤ n
  pub slots : Slotted n seen k
  pub heads : (h : ℕ) → h < n → get_or seen (11 + 4 * h) 0 ≡ newest_of n h k

-- the rest of the header
abbrev pub HeaderStays : List ℕ → List ℕ → Type 0
HeaderStays before after = (length after ≡ length before) × ((j : ℕ) → 0 < j → j < 8 → get_or after j 0
    ≡ get_or before j 0)

-- ---- one slot more, one less

abbrev pub Roomy : List ℕ → Type 0
Roomy seen = (k : List Slot) × (Table (room seen) seen k × (length k < room seen))

abbrev pub Pushes : List ℕ → List ℕ → ℕ → ℕ → Type 0
Pushes before after place tag = HeaderStays before after × ((k : List Slot) → Table (room before) before k
    → length k < room before → Table (room after) after ((place, tag) ∷ k))

abbrev pub Filled : List ℕ → Type 0
Filled seen = (s : Slot) × ((k : List Slot) × Table (room seen) seen (s ∷ k))

abbrev pub Pops : List ℕ → List ℕ → Type 0
Pops before after = HeaderStays before after × ((s : Slot) (k : List Slot) → Table (room before) before (s ∷ k)
    → Table (room after) after k)

-- ---- down to so many

abbrev pub Above : List ℕ → ℕ → Type 0
Above seen to = (a : List Slot) × ((k : List Slot) × ((length k ≡ to) × Table (room seen) seen (a ++ k)))

abbrev pub Drops : List ℕ → List ℕ → ℕ → Type 0
Drops before after to = HeaderStays before after × ((a k : List Slot) → length k ≡ to
    → Table (room before) before (a ++ k)
    → Table (room after) after k)
