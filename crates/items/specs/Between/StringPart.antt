-- What the functions that read a string part (docs/FORMAT.md, 3) promise, against the machine's scanner. Places count
-- from the opening quote; `base` is any place where the part may stand in a text. Assumes nothing.
use Rattle.std.specs.Prelude.{◌≡◌, ℕ, ◌+◌, ◌*◌, ◌-◌, ◌≤◌, ◌<◌, Bool, true, false, cond, List, [], ◌++◌}
use Rattle.std.specs.Prelude.{length, drop, take, get_or, eqb, ltb, Option, Some, None, Result, Ok, Err}
use Rattle.std.proofs.lemmas.List.Edits.{sets}
use Rattle.rules.specs.Rfc3629.{encode}
use Rattle.meaning.specs.declared.Refusal.TheVariants.{NotGrammar, BadEscape}
use Rattle.meaning.specs.Letters.{ch}
use Rattle.machine.specs.Scan.{over, Ran, ended, broke, ran}
use Rattle.machine.specs.Strings as S
use Rattle.machine.specs.Strings.{Ctx, mk, give, blame, first, fine, spoilt, whole, unit, one, lines0, lines, body}
use Rattle.machine.specs.Strings.{begin, scan, plain_byte}
use Rattle.items.specs.Between.Places.{byte_at, ran_from, Goes}
use Rattle.items.specs.declared.Taken.{Taken}
use Rattle.items.specs.declared.NotGrammar as items
use Rattle.items.specs.declared.string_part.Escape.{Escape}
use Rattle.items.specs.declared.string_part.Escape.TheVariants.{Half, Code, Bad}
use Rattle.items.specs.declared.string_part.Broken as part
use Rattle.items.specs.declared.string_part.Broken.TheVariants as Why

-- ---- plain bytes

-- a byte that neither closes nor escapes
unfoldable pub plain : ℕ → ℕ → Bool
plain q b = cond (eqb b (ch "\\")) false (cond (eqb b q) false (plain_byte b))

-- the bytes from i to j are plain, and what stands at j is not
pub record Passed (s : List ℕ) (q i j : ℕ) : Type 0 where
  pub goes : (base : ℕ) (bad : S.Bad) (acc : List ℕ) → Goes scan base s (body (mk q bad whole acc)) i
      (body (mk q bad whole (acc ++ take (j - i) (drop i s)))) j
  pub behind : i ≤ j
  pub within : j ≤ length s
  pub stopped : plain q (byte_at s j) ≡ false

-- how far apart two numbers are
abbrev pub gap : ℕ → ℕ → ℕ
gap a b = (a - b) + (b - a)

-- a byte that is plain beside the quote q
pub record Plain (q b : ℕ) : Type 0 where
  pub byte : b < over
  pub low : 0x20 ≤ b
  pub slash : b ≡ ch "\\" → ⊥
  pub quote : b ≡ q → ⊥

-- each of the n bytes at the place `at` is
pub record Plains (s : List ℕ) (q at n : ℕ) : Type 0 where
  pub each : (k : ℕ) → k < n → Plain q (get_or s (at + k) 0)

-- a block: yes says that all of it is plain, no nothing
abbrev pub BlockSays : List ℕ → ℕ → ℕ → Bool → Type 0
BlockSays s q at true = Plains s q at 16
BlockSays s q at false = Unit {0}

-- ---- escapes

-- the escape at `at` is the unit w
pub record Halved (s : List ℕ) (at next w : ℕ) : Type 0 where
  pub goes : (base : ℕ) (k : Ctx) → Goes scan base s (body k) at (body (unit k (base + at) w k.high)) next
  pub six : next ≡ at + 6
  pub within : next ≤ length s
  pub small : w < 0x10000

-- the escape at `at` is the character c
pub record Coded (s : List ℕ) (at next c : ℕ) : Type 0 where
  pub goes : (base : ℕ) (k : Ctx) → Goes scan base s (body k) at (body (give k (encode c))) next
  pub room : at + length (encode c) ≤ next
  pub past : at < next
  pub within : next ≤ length s
  pub small : c ≤ 0x10FFFF

-- the escape at `at` is a bad one
pub record Spoilt (s : List ℕ) (at next : ℕ) : Type 0 where
  pub goes : (base : ℕ) (k : Ctx) → Goes scan base s (body k) at (body (blame k (base + at))) next
  pub past : at < next
  pub within : next ≤ length s

-- the escape at `at` breaks at p
pub record Broken (s : List ℕ) (at p : ℕ) : Type 0 where
  pub ends : (base : ℕ) (k : Ctx) → ran_from scan base s (body k) at ≡ broke (NotGrammar (base + p))
  pub within : p ≤ length s

abbrev pub EscapeIs : List ℕ → ℕ → Escape → ℕ → Type 0
EscapeIs s at (Half w) next = Halved s at next w
EscapeIs s at (Code c) next = Coded s at next c
EscapeIs s at Bad next = Spoilt s at next

abbrev pub EscapeSays : List ℕ → ℕ → Result (Taken Escape) items.NotGrammar → Type 0
EscapeSays s at (Ok t) = EscapeIs s at t.value t.end
EscapeSays s at (Err e) = Broken s at e.place

-- v is w, or both are past the last character
pub data Like (v w : ℕ) : Type 0 where
  same : v ≡ w → Like v w
  both : 0x10FFFF < v → 0x10FFFF < w → Like v w

abbrev pub Grown : ℕ → ℕ → ℕ → Type 0
Grown v d r = (w : ℕ) → Like v w → Like r (16 * w + d)

-- one more digit; a number past the last character stays past it
unfoldable pub grown_to : ℕ → ℕ → ℕ
grown_to v d = cond (ltb v 0x110000) (16 * v + d) 0x110000

-- an escape, or a pair of them, where no high surrogate waits: the character c
pub record Read (s : List ℕ) (at next c : ℕ) : Type 0 where
  pub goes : (base q : ℕ) (bad : S.Bad) (acc : List ℕ) → Goes scan base s (body (mk q bad whole acc)) at
      (body (mk q bad whole (acc ++ encode c))) next
  pub room : at + length (encode c) ≤ next
  pub past : at < next
  pub within : next ≤ length s
  pub small : c ≤ 0x10FFFF

-- the same: a bad one
pub record Blamed (s : List ℕ) (at next : ℕ) : Type 0 where
  pub goes : (base q : ℕ) (bad : S.Bad) (acc : List ℕ) → Goes scan base s (body (mk q bad whole acc)) at
      (body (mk q (first bad (base + at)) whole acc)) next
  pub past : at < next
  pub within : next ≤ length s

-- the same: it breaks at p
pub record Stopped (s : List ℕ) (at p : ℕ) : Type 0 where
  pub ends : (base q : ℕ) → q < over → (bad : S.Bad) (acc : List ℕ)
      → ran_from scan base s (body (mk q bad whole acc)) at
      ≡ broke (NotGrammar (base + p))
  pub within : p ≤ length s

abbrev pub CharIs : List ℕ → ℕ → Option ℕ → ℕ → Type 0
CharIs s at (Some c) next = Read s at next c
CharIs s at None next = Blamed s at next

abbrev pub CharSays : List ℕ → ℕ → Result (Taken (Option ℕ)) items.NotGrammar → Type 0
CharSays s at (Ok t) = CharIs s at t.value t.end
CharSays s at (Err e) = Stopped s at e.place

-- the backslash of the first bad escape, if there is one
abbrev pub marked : ℕ → Option ℕ → S.Bad
marked base None = fine
marked base (Some at) = spoilt (base + at)

-- ---- parts

-- The part ends before the place `taken`, of n bytes; its value is in the store from `at` on, as far as there is room.
-- R: what the scanner comes to.
pub record Held (R : ℕ → Ran (List ℕ)) (n at : ℕ) (entry exit : List ℕ) (taken bytes : ℕ) : Type 0 where
  pub value : List ℕ
  pub runs : (base : ℕ) → R base ≡ ended value (base + taken)
  pub counted : bytes ≡ length value
  pub stored : exit ≡ sets entry at value
  pub within : taken ≤ n
  pub fewer : bytes + 2 ≤ taken

abbrev pub Says : (ℕ → Ran (List ℕ)) → ℕ → ℕ → List ℕ → List ℕ → Result (Taken ℕ) part.Broken → Type 0
Says R n at entry exit (Ok t) = Held R n at entry exit t.end t.value
Says R n at entry exit (Err (Why.BadEscape p)) = ((base : ℕ) → R base ≡ broke (BadEscape (base + p))) × (p ≤ n)
Says R n at entry exit (Err (Why.NotGrammar p)) = ((base : ℕ) → R base ≡ broke (NotGrammar (base + p))) × (p ≤ n)

-- after the opening quote of a part with one
abbrev pub InnerSays : List ℕ → ℕ → ℕ → List ℕ → List ℕ → Result (Taken ℕ) part.Broken → Type 0
InnerSays s q = Says (λ base. ran_from scan base s (body (mk q fine whole [])) 1) (length s)

-- after the opening quote
abbrev pub OneSays : List ℕ → ℕ → ℕ → List ℕ → List ℕ → Result (Taken ℕ) part.Broken → Type 0
OneSays s q = Says (λ base. ran_from scan base s (one q) 1) (length s)

-- after three quotes
abbrev pub ThreeSays : List ℕ → ℕ → ℕ → List ℕ → List ℕ → Result (Taken ℕ) part.Broken → Type 0
ThreeSays s q = Says (λ base. ran_from scan base s (lines0 q) 3) (length s)

-- a whole part, from its opening quote
abbrev pub PartSays : List ℕ → ℕ → List ℕ → List ℕ → Result (Taken ℕ) part.Broken → Type 0
PartSays s = Says (λ base. ran scan base begin s) (length s)

-- a multiline part's bytes begin at r
pub record Begun (s : List ℕ) (r : ℕ) : Type 0 where
  pub goes : (base q : ℕ) → 0x20 < q → Goes scan base s (lines0 q) 3 (lines q 0 []) r
  pub within : r ≤ length s
  pub past : 3 ≤ r

-- the bytes from i on go to the three quotes at e
pub record Closes (s : List ℕ) (q i e : ℕ) : Type 0 where
  pub ends : (base : ℕ) → ran_from scan base s (lines q 0 []) i ≡ ended (take (e - i) (drop i s)) (base + (e + 3))
  pub behind : i ≤ e
  pub within : e + 3 ≤ length s

pub record Breaks (s : List ℕ) (q i p : ℕ) : Type 0 where
  pub ends : (base : ℕ) → ran_from scan base s (lines q 0 []) i ≡ broke (NotGrammar (base + p))
  pub within : p ≤ length s

abbrev pub LinesSays : List ℕ → ℕ → ℕ → Result ℕ items.NotGrammar → Type 0
LinesSays s q i (Ok e) = Closes s q i e
LinesSays s q i (Err e) = Breaks s q i e.place
