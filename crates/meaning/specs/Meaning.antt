-- What a text means (docs/FORMAT.md, 9). Assumes nothing.
use Rattle.std.specs.Prelude.{Bool, List, ℕ}
use Rattle.meaning.specs.declared.Number.{Number}
use Rattle.meaning.specs.declared.Time.{Time}

-- Arrays and objects are sequences, the last element or member outermost; an object keeps its members in the order
-- written. Strings and keys are their UTF-8 bytes.
mutual
  pub data Meaning : Type 0 where
    null : Meaning
    bool : Bool → Meaning
    number : Number → Meaning
    string : List ℕ → Meaning
    binary : List ℕ → Meaning
    time : Time → Meaning
    array : Meanings → Meaning
    object : Members → Meaning

  pub data Meanings : Type 0 where
    none : Meanings
    more : Meanings → Meaning → Meanings

  pub data Members : Type 0 where
    bare : Members
    member : Members → List ℕ → Meaning → Members
