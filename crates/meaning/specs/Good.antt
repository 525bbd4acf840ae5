-- A meaning within the limits (docs/FORMAT.md, 8 and 9): its parts one by one, its depth, and each key once in its
-- object. Assumes nothing.
use Rattle.std.specs.Prelude.{◌≡◌, cond, true, List, [], ◌∷◌, ℕ, ◌+◌, ◌%◌, ◌≤◌, ◌<◌, leb, ℤ, pos, nat_abs}
use Rattle.rules.specs.Rfc3339.{Date as Calendar}
use Rattle.rules.specs.Rfc3629.{Octets}
use Rattle.meaning.specs.declared.Number.{Number}
use Rattle.meaning.specs.declared.Number.TheVariants.{Finite, NotANumber, Infinite}
use Rattle.meaning.specs.declared.Date.{Date}
use Rattle.meaning.specs.declared.Time.{Time}
use Rattle.meaning.specs.declared.Time.TheVariants.{LocalDate, LocalTime, LocalDateTime, OffsetDateTime}
use Rattle.meaning.specs.Limits.{depth_limit, coefficient_limit, power_limit, offset_limit, day}
use Rattle.meaning.specs.Meaning.{Meaning, Meanings, Members, null, bool, number, string, binary, time, array}
use Rattle.meaning.specs.Meaning.{object, none, more, bare, member}
use Rattle.meaning.specs.Once.{once}

-- A coefficient and a power of ten: the coefficient is below 2^64 and doesn't end in the digit 0, the power lies from
-- -9,999 to 9,999. Zero has coefficient 0 and power 0.
pub data GoodFinite : ℕ → ℤ → Type 0 where
  nought : GoodFinite 0 (pos 0)
  nonzero : {c : ℕ} {p : ℤ} → c < coefficient_limit → (c % 10 ≡ 0 → ⊥) → nat_abs p ≤ power_limit → GoodFinite c p

-- Minus zero is apart from zero, and so the sign is free.
abbrev pub GoodNumber : Number → Type 0
GoodNumber (Finite minus c p) = GoodFinite c p
GoodNumber NotANumber = Unit {0}
GoodNumber (Infinite minus) = Unit {0}

-- Years 0000 to 9999, leap years as RFC 3339 appendix C.
abbrev pub GoodDate : Date → Type 0
GoodDate d = Calendar d.year d.month d.day

abbrev pub GoodTime : Time → Type 0
GoodTime (LocalDate d) = GoodDate d
GoodTime (LocalTime t) = t < day
GoodTime (LocalDateTime d t) = GoodDate d × (t < day)
GoodTime (OffsetDateTime d t o) = GoodDate d × (t < day) × (nat_abs o ≤ offset_limit)

-- each is a byte
abbrev pub Bytes : List ℕ → Type 0
Bytes [] = Unit {0}
Bytes (b ∷ s) = (b < 256) × Bytes s

-- every part within the limits: strings and keys UTF-8, binary bytes, numbers and times good
abbrev mutual
  pub GoodParts : Meaning → Type 0
  GoodParts null = Unit {0}
  GoodParts (bool b) = Unit {0}
  GoodParts (number n) = GoodNumber n
  GoodParts (string s) = Octets s
  GoodParts (binary s) = Bytes s
  GoodParts (time t) = GoodTime t
  GoodParts (array ms) = GoodElements ms
  GoodParts (object ms) = GoodMembers ms

  pub GoodElements : Meanings → Type 0
  GoodElements none = Unit {0}
  GoodElements (more ms m) = GoodElements ms × GoodParts m

  pub GoodMembers : Members → Type 0
  GoodMembers bare = Unit {0}
  GoodMembers (member ms k m) = GoodMembers ms × Octets k × GoodParts m

-- the greater of two
unfoldable pub most : ℕ → ℕ → ℕ
most a b = cond (leb a b) b a

-- how many arrays and objects lie in each other
unfoldable mutual
  pub depth : Meaning → ℕ
  depth null = 0
  depth (bool b) = 0
  depth (number n) = 0
  depth (string s) = 0
  depth (binary s) = 0
  depth (time t) = 0
  depth (array ms) = 1 + elements_depth ms
  depth (object ms) = 1 + members_depth ms

  pub elements_depth : Meanings → ℕ
  elements_depth none = 0
  elements_depth (more ms m) = most (elements_depth ms) (depth m)

  pub members_depth : Members → ℕ
  members_depth bare = 0
  members_depth (member ms k m) = most (members_depth ms) (depth m)

pub record Good (m : Meaning) : Type 0 where
  pub parts : GoodParts m
  pub shallow : depth m ≤ depth_limit
  pub single : once m ≡ true
