-- What one record does to the judge (docs/FORMAT.md, 11.3), by what is still to come in what is open: 2 before the
-- root and 0 after it; in a container, from `none` up, twice the records to come and one more in an object. Assumes
-- nothing.
use Rattle.std.specs.Prelude.{◌≡◌, Bool, true, false, cond, Option, Some, None, List, ℕ, ◌+◌, ◌*◌, ◌%◌, eqb, ltb}
use Rattle.meaning.specs.declared.Record.{Record}
use Rattle.meaning.specs.Limits.{depth_limit}
use Rattle.meaning.specs.Look.{RecordAt}
use Rattle.tape.specs.declared.judging.Turn.{Turn}

-- nothing is to come in a container: more than all that may stand in one
abbrev pub none : ℕ
none = 1099511627776

-- a value is due: at the root, in an array, in an object after a key
unfoldable pub value_due : ℕ → Bool
value_due rest = cond (eqb rest 0) false (cond (eqb (rest % 2) 0) true (eqb (rest % 4) 3))

-- a key is due: in an object where no value is
unfoldable pub key_due : ℕ → Bool
key_due rest = eqb (rest % 4) 1

-- a container has as many elements or members as it states
unfoldable pub counted : ℕ → Bool
counted rest = cond (eqb rest none) true (eqb rest (none + 1))

-- a string, key or binary starts where the one before ended
unfoldable pub pass_of : ℕ → ℕ → ℕ → Option Turn
pass_of size start at = cond (eqb start at) (Some (Turn.Pass (at + size))) None

-- at most so many are open
unfoldable pub open_of : ℕ → ℕ → ℕ → Option Turn
open_of end rest depth = cond (ltb depth depth_limit) (Some (Turn.Open end rest)) None

-- a value that is no container, where one is due
unfoldable pub leaf_of : Record → ℕ → Option Turn
leaf_of Record.Null at = Some (Turn.Pass at)
leaf_of (Record.Bool b) at = Some (Turn.Pass at)
leaf_of (Record.Number n) at = Some (Turn.Pass at)
leaf_of (Record.Str size start) at = pass_of size start at
leaf_of (Record.Key size start) at = None
leaf_of (Record.Bin size start) at = pass_of size start at
leaf_of (Record.Time t) at = Some (Turn.Pass at)
leaf_of (Record.Array count end) at = None
leaf_of (Record.Object count end) at = None

abbrev pub if_due : Bool → Option Turn → Option Turn
if_due due t = cond due t None

-- any record, where a value or a key is due or not; what is to come in a container is what it states
unfoldable pub turn_of : Record → Bool → Bool → ℕ → ℕ → Option Turn
turn_of Record.Null due key at depth = if_due due (leaf_of Record.Null at)
turn_of (Record.Bool b) due key at depth = if_due due (leaf_of (Record.Bool b) at)
turn_of (Record.Number n) due key at depth = if_due due (leaf_of (Record.Number n) at)
turn_of (Record.Str size start) due key at depth = if_due due (leaf_of (Record.Str size start) at)
turn_of (Record.Key size start) due key at depth = if_due key (pass_of size start at)
turn_of (Record.Bin size start) due key at depth = if_due due (leaf_of (Record.Bin size start) at)
turn_of (Record.Time t) due key at depth = if_due due (leaf_of (Record.Time t) at)
turn_of (Record.Array count end) due key at depth = if_due due (open_of end (none + 2 * count) depth)
turn_of (Record.Object count end) due key at depth = if_due due (open_of end (none + 4 * count + 1) depth)

-- where a record's bytes end
abbrev pub bytes_end : Record → ℕ
bytes_end Record.Null = 0
bytes_end (Record.Bool b) = 0
bytes_end (Record.Number n) = 0
bytes_end (Record.Str size start) = start + size
bytes_end (Record.Key size start) = start + size
bytes_end (Record.Bin size start) = start + size
bytes_end (Record.Time t) = 0
bytes_end (Record.Array count end) = 0
bytes_end (Record.Object count end) = 0

-- the turn t where P holds
pub data Tested (P : Type 0) (t : Option Turn) : Option Turn → Type 0 where
  passes : {u : Option Turn} → P → u ≡ t → Tested P t u
  fails : (P → t ≡ None) → Tested P t None

-- what the record at this index does where a value is due, if it is no container
pub data LeafIs (tape store : List ℕ) (index at : ℕ) : Option Turn → Type 0 where
  leaf : {t : Option Turn} (r : Record) → RecordAt tape store index r → t ≡ leaf_of r at → LeafIs tape store index at t
  none_there : ((r : Record) → RecordAt tape store index r → ⊥) → LeafIs tape store index at None

-- the turn of the record at this index, if one stands there
pub data TurnIs (tape store : List ℕ) (index rest at depth : ℕ) : Option Turn → Type 0 where
  stands : {t : Option Turn} (r : Record) → RecordAt tape store index r
      → t ≡ turn_of r (value_due rest) (key_due rest) at depth → TurnIs tape store index rest at depth t
  no : ((r : Record) → RecordAt tape store index r → turn_of r (value_due rest) (key_due rest) at depth ≡ None)
      → TurnIs tape store index rest at depth None
