-- What the functions that read a binary part (docs/FORMAT.md, 4) promise, against the machine's scanner. Assumes
-- nothing.
use Rattle.std.specs.Prelude.{◌≡◌, List, [], ◌∷◌, ◌++◌, ℕ, ◌+◌, ◌≤◌, ◌<◌, length, get_or, drop}
use Rattle.std.specs.Prelude.{Option, Some, None, Result, Ok, Err}
use Rattle.meaning.specs.declared.Refusal.TheVariants.{NotGrammar}
use Rattle.machine.specs.Scan.{ended, broke, ran}
use Rattle.machine.specs.Strings.{no_digit}
use Rattle.machine.specs.Binaries.{St, low, pairs, text, esc, begin, scan}
use Rattle.items.specs.Between.Places.{digit_at, Runs}
use Rattle.items.specs.Between.PlacedPart.{Meant, Ended}
use Rattle.items.specs.declared.Taken.{Taken}
use Rattle.items.specs.declared.NotGrammar as items

-- after a pair
abbrev pub PairSays : List ℕ → ℕ → Result (Option ℕ) items.NotGrammar → Type 0
PairSays s p (Ok (Some q)) = ((a : List ℕ) → Runs scan s (pairs a) p (low a (digit_at s q)) (q + 1)) × (q < length s)
    × (p ≤ q) × (digit_at s q < no_digit)
PairSays s p (Ok None) = (a : List ℕ) → ran scan p (pairs a) (drop p s) ≡ ended a p
PairSays s p (Err e) = (a : List ℕ) → ran scan p (pairs a) (drop p s) ≡ broke (NotGrammar e.place)

-- after a backslash
pub record Escaped (s : List ℕ) (p q v : ℕ) : Type 0 where
  pub runs : (c : ℕ) (a : List ℕ) → Runs scan s (esc c a) p (text c (a ++ (v ∷ []))) q
  pub past : p < q
  pub within : q ≤ length s

abbrev pub EscapeSays : List ℕ → ℕ → Result (Taken ℕ) items.NotGrammar → Type 0
EscapeSays s p (Ok t) = Escaped s p t.end t.value
EscapeSays s p (Err e) = (c : ℕ) (a : List ℕ) → ran scan p (esc c a) (drop p s) ≡ broke (NotGrammar e.place)

-- a byte of the quoted form where the quote c does not close it
pub record OneByte (s : List ℕ) (p q v : ℕ) : Type 0 where
  pub runs : (c : ℕ) (a : List ℕ) → (get_or s p 0 ≡ c → ⊥) → Runs scan s (text c a) p (text c (a ++ (v ∷ []))) q
  pub past : p < q
  pub within : q ≤ length s

abbrev pub OneByteSays : List ℕ → ℕ → Result (Taken ℕ) items.NotGrammar → Type 0
OneByteSays s p (Ok t) = OneByte s p t.end t.value
OneByteSays s p (Err e) =
    (c : ℕ) (a : List ℕ) → (get_or s p 0 ≡ c → ⊥) → ran scan p (text c a) (drop p s) ≡ broke (NotGrammar e.place)

-- from the state c at p the part closes, or breaks
pub record Closing (s : List ℕ) (c : St) (from p start : ℕ) (entry exit : List ℕ) (q n : ℕ) : Type 0 where
  pub u : List ℕ
  pub runs : ran scan p c (drop p s) ≡ ended u q
  pub meant : Meant start entry exit u n from q
  pub within : q ≤ length s

abbrev pub StateSays : List ℕ → St → ℕ → ℕ → ℕ → List ℕ → List ℕ → Result (Taken ℕ) items.NotGrammar → Type 0
StateSays s c from p start entry exit (Ok t) = Closing s c from p start entry exit t.end t.value
StateSays s c from p start entry exit (Err e) = ran scan p c (drop p s) ≡ broke (NotGrammar e.place)

-- after the first digit of the first pair
abbrev pub PairsSays : List ℕ → ℕ → ℕ → List ℕ → List ℕ → Result (Taken ℕ) items.NotGrammar → Type 0
PairsSays s p start entry exit r = StateSays s (low [] (digit_at s p)) p (p + 1) start entry exit r

-- after the opening quote
abbrev pub TextSays : List ℕ → ℕ → ℕ → ℕ → List ℕ → List ℕ → Result (Taken ℕ) items.NotGrammar → Type 0
TextSays s c p start entry exit r = StateSays s (text c []) p p start entry exit r

-- a whole part
abbrev pub PieceSays : List ℕ → ℕ → ℕ → List ℕ → List ℕ → Result (Taken ℕ) items.NotGrammar → Type 0
PieceSays s p start entry exit (Ok t) = Ended scan begin s p start entry exit t.end t.value
PieceSays s p start entry exit (Err e) = ran scan p begin (drop p s) ≡ broke (NotGrammar e.place)
