-- Runs of a scanner over places of a slice: how an item is read (docs/FORMAT.md, 1.3). Assumes nothing.
use Rattle.std.specs.Prelude.{◌≡◌, ℕ, ◌+◌, ◌≤◌, List, length, drop, get_or}
use Rattle.machine.specs.Scan.{Out, over, Ran, ran}
use Rattle.machine.specs.Strings.{hex_of}

-- the byte at a place, or the text's end
abbrev pub byte_at : List ℕ → ℕ → ℕ
byte_at s i = get_or s i over

-- the digit at a place; no_digit where there is none
abbrev pub digit_at : List ℕ → ℕ → ℕ
digit_at s i = hex_of (byte_at s i)

-- from p on, and not past the text's end
pub record Onward (text : List ℕ) (p q : ℕ) : Type 0 where
  pub behind : p ≤ q
  pub within : q ≤ length text

-- the slice s is the whole text
module _ {S M : Type 0} (scan : ℕ → S → ℕ → Out S M) (s : List ℕ) where
  -- what the scanner comes to from the place i on
  abbrev pub ran_at : S → ℕ → Ran M
  ran_at c i = ran scan i c (drop i s)

  -- from the state c at i the scanner comes to the state d at j
  abbrev pub Runs : S → ℕ → S → ℕ → Type 0
  Runs c i d j = ran_at c i ≡ ran_at d j

-- the slice s stands in a text at the place `base`
module _ {S M : Type 0} (scan : ℕ → S → ℕ → Out S M) (base : ℕ) (s : List ℕ) where
  abbrev pub ran_from : S → ℕ → Ran M
  ran_from c i = ran scan (base + i) c (drop i s)

  abbrev pub Goes : S → ℕ → S → ℕ → Type 0
  Goes c i d j = ran_from c i ≡ ran_from d j
