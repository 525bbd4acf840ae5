-- Runs of bytes and whole items at once, for the check in parts (docs/FORMAT.md, 13.2): byte by byte comes to the same.
-- Assumes nothing.
use Rattle.std.specs.Prelude.{ℕ, ◌+◌, ◌*◌, ◌≤◌, ◌<◌, ◌≡◌, Bool, true, false, cond, List, eqb, leb, length, drop, get_or}
use Rattle.meaning.specs.Letters.{ch}
use Rattle.meaning.specs.Limits.{text_limit, depth_limit}
use Rattle.machine.specs.Scan.{ended, ran}
use Rattle.machine.specs.Names.{word_scan}
use Rattle.machine.specs.Strings.{line_byte, plain_byte}
use Rattle.arriving.specs.declared.states.Due as DueOf
use Rattle.arriving.specs.declared.states.Due.TheVariants as Due
use Rattle.arriving.specs.declared.states.Here.{Here}
use Rattle.arriving.specs.declared.states.Mode.TheVariants as Mode
use Rattle.arriving.specs.declared.leaps.Run as RunOf
use Rattle.arriving.specs.declared.leaps.Run.TheVariants as Run
use Rattle.arriving.specs.declared.leaps.Spot.{Spot}
pub use Rattle.arriving.specs.Between.Packing.{due_number, dues, due_of}
use Rattle.arriving.specs.Between.Steps.{Stand, here_of, walked}
use Rattle.arriving.specs.Between.Arriving.{sane_here}

-- ---- what a leap promises

-- from x, at the place `at` of a part that stands at `base`, the check comes byte by byte to y at the place `to`
pub record Leapt (part : List ℕ) (base : ℕ) (x : Stand) (at : ℕ) (y : Stand) (to : ℕ) : Type 0 where
  pub same : walked x (base + at) (drop at part) ≡ walked y (base + to) (drop to part)
  pub behind : at ≤ to
  pub within : to ≤ length part
  pub sane : sane_here (base + at) x.0 ≡ true → sane_here (base + to) y.0 ≡ true

-- wherever the part stands
pub record Leaps (part : List ℕ) (x : Stand) (at : ℕ) (y : Stand) (to : ℕ) : Type 0 where
  pub behind : at ≤ to
  pub within : to ≤ length part
  pub from : (base : ℕ) → base + length part ≤ text_limit → Leapt part base x at y to

-- what is due at a spot, which has it by number
abbrev pub due_at : Spot → DueOf.Due
due_at x = due_of x.due

-- where the check stands at a spot
abbrev pub stand_of : Spot → List ℕ → Stand
stand_of x ks = (here_of Mode.At (due_at x) x.depth x.records x.stored, ks)

abbrev pub spot_of : ℕ → DueOf.Due → ℕ → ℕ → ℕ → Spot
spot_of p u d r w = record { at = p; due = due_number u; depth = d; records = r; stored = w }

-- a spot at another place, with all else as it was
abbrev pub spot_at : Spot → ℕ → Spot
spot_at x p = record { at = p; due = x.due; depth = x.depth; records = x.records; stored = x.stored }

abbrev pub Skips : List ℕ → Spot → List ℕ → Spot → List ℕ → Type 0
Skips part x ks y ls = Leaps part (stand_of x ks) x.at (stand_of y ls) y.at

-- ---- what it needs

abbrev pub Bytes : List ℕ → Type 0
Bytes part = (i : ℕ) → get_or part i 0 < 256

-- the bounds that sums need
pub record Room (x : Spot) : Type 0 where
  pub at : x.at ≤ text_limit
  pub deep : x.depth ≤ depth_limit
  pub records : x.records ≤ text_limit
  pub stored : x.stored ≤ 300 * text_limit

-- at a byte of a part
pub record Placed (part : List ℕ) (x : Spot) : Type 0 where
  pub within : x.at < length part
  pub short : length part ≤ text_limit
  pub room : Room x

-- at a place of a part that may stand in a text
pub record Stands (part : List ℕ) (at : ℕ) (h : Here) : Type 0 where
  pub base : ℕ
  pub short : base + length part ≤ text_limit
  pub within : at ≤ length part
  pub sane : sane_here (base + at) h ≡ true

-- ---- runs

-- whether a byte leaves the check where it stands
unfoldable pub stays_in : RunOf.Run → ℕ → Bool
stays_in Run.Blank b =
    cond (eqb b (ch " ")) true (cond (eqb b (ch "\n")) true (cond (eqb b (ch "\r")) true (eqb b (ch "\t"))))
stays_in Run.Line b = cond (leb 0x20 b) true (eqb b (ch "\t"))
stays_in Run.Block b = cond (eqb b (ch "*")) false (line_byte b)
stays_in (Run.Plain q) b = cond (eqb b (ch "\\")) false (cond (eqb b q) false (plain_byte b))
stays_in (Run.Lines q) b = cond (eqb b q) false (line_byte b)

-- each byte from `from` to `to` does
pub record RanTo (part : List ℕ) (from : ℕ) (run : RunOf.Run) (to : ℕ) : Type 0 where
  pub behind : from ≤ to
  pub within : to ≤ length part
  pub each : (i : ℕ) → from ≤ i → i < to → stays_in run (get_or part i 0) ≡ true

-- ---- punctuation

-- nothing has changed, or one byte was passed, which does f
pub data Stepped (f : Stand → ℕ → Stand) (x : Spot) (ks : List ℕ) (y : Spot) (ls : List ℕ) : Type 0 where
  stays : y ≡ x → ls ≡ ks → Stepped f x ks y ls
  steps : y.at ≡ x.at + 1 → y.depth ≤ depth_limit → y.records ≤ x.records + 1 → y.stored ≡ x.stored
      → ((p : ℕ) → f (stand_of x ks) p ≡ stand_of y ls) → Stepped f x ks y ls

-- ---- words

-- nothing has changed, or a word of these letters was passed
pub data WordPassed (part : List ℕ) (x : Spot) (letters : List ℕ) (y : Spot) : Type 0 where
  stays : y ≡ x → WordPassed part x letters y
  passed : {q : ℕ} → y ≡ spot_of q Due.AfterValue x.depth (x.records + 1) (x.stored + 0)
      → ran word_scan x.at letters (drop x.at part) ≡ ended tt q → q < length part → WordPassed part x letters y

-- ---- where an item may begin

-- a byte that is no blank and no quote
pub record Plainly (b : ℕ) : Type 0 where
  pub high : ch " " < b
  pub double : b ≡ ch "\"" → ⊥
  pub single : b ≡ ch "'" → ⊥
