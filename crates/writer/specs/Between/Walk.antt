-- What each record of a tape prints where it stands, and its share of the length (docs/FORMAT.md, 12). Assumes nothing.
use Rattle.std.specs.Prelude.{◌≡◌, Bool, true, false, cond, List, [], ◌++◌, ℕ, ◌+◌, ◌≤◌, eqb, length, take, drop}
use Rattle.std.specs.Prelude.{Option, Some, None, Result}
use Rattle.std.proofs.Math.Option.{none, some}
use Rattle.meaning.specs.declared.Record.{Record}
use Rattle.meaning.specs.declared.Refusal.{Refusal}
use Rattle.meaning.specs.Letters.{letters, ch}
use Rattle.meaning.specs.Meaning.{Meaning}
use Rattle.meaning.specs.Tape.{WellFormed}
use Rattle.meaning.specs.Canonical.{number_text, quoted, binary_text, time_text, canonical}
use Rattle.meaning.specs.Json.{no_json}
use Rattle.writer.specs.declared.Effect.{Effect}
use Rattle.writer.specs.Between.Laid.{Put}
use Rattle.writer.specs.Written.{Writes}

-- the bytes of a string, a key or a binary
abbrev pub part : List ℕ → ℕ → ℕ → List ℕ
part store size start = take size (drop start store)

-- a key with its colon, a container its opening bracket
unfoldable pub printed : Record → List ℕ → List ℕ
printed Record.Null store = letters "null"
printed (Record.Bool b) store = cond b (letters "true") (letters "false")
printed (Record.Number n) store = number_text n
printed (Record.Str size start) store = quoted (part store size start)
printed (Record.Key size start) store = quoted (part store size start) ++ letters ":"
printed (Record.Bin size start) store = binary_text (part store size start)
printed (Record.Time t) store = time_text t
printed (Record.Array count end) store = letters "["
printed (Record.Object count end) store = letters "{"

-- a comma before it, where a value stands before it in its container
abbrev pub comma_text : Bool → List ℕ
comma_text true = letters ","
comma_text false = []

-- what it does to the walk: it is passed, and a comma comes next or not; or a container opens, with the bracket that
-- closes it and its end
unfoldable pub effect_of : Record → Effect
effect_of Record.Null = Effect.Pass true
effect_of (Record.Bool b) = Effect.Pass true
effect_of (Record.Number n) = Effect.Pass true
effect_of (Record.Str size start) = Effect.Pass true
effect_of (Record.Key size start) = Effect.Pass false
effect_of (Record.Bin size start) = Effect.Pass true
effect_of (Record.Time t) = Effect.Pass true
effect_of (Record.Array count end) = Effect.Open (ch "]") end
effect_of (Record.Object count end) = Effect.Open (ch "}") end

-- Count a comma after every value: the last one inside a container stands for its closing bracket, so that only an
-- empty container counts one byte more. A text has one byte less than its records count.
unfoldable pub closes : ℕ → ℕ → ℕ
closes end index = cond (eqb end (index + 1)) 2 1

unfoldable pub follows : Record → ℕ → ℕ
follows Record.Null index = 1
follows (Record.Bool b) index = 1
follows (Record.Number n) index = 1
follows (Record.Str size start) index = 1
follows (Record.Key size start) index = 0
follows (Record.Bin size start) index = 1
follows (Record.Time t) index = 1
follows (Record.Array count end) index = closes end index
follows (Record.Object count end) index = closes end index

abbrev pub share : Record → ℕ → List ℕ → ℕ
share r index store = length (printed r store) + follows r index

-- ---- what the functions of the walk promise of a well-formed tape

-- well formed, and its text fits into so many bytes
pub record TextFits (tape store : List ℕ) (room : ℕ) : Type 0 where
  pub well : WellFormed tape store
  pub fits : length (canonical well.meaning) ≤ room

pub record TextLength (tape store : List ℕ) (n : ℕ) : Type 0 where
  pub is : (w : WellFormed tape store) → n ≡ length (canonical w.meaning)

pub record TextPut (tape store o out : List ℕ) (n : ℕ) : Type 0 where
  pub is : (w : WellFormed tape store) → Put (canonical w.meaning) o out n

-- 13, 12, or the text
pub record WritesText (tape store o : List ℕ) (answer : Result ℕ Refusal) (out : List ℕ) : Type 0 where
  pub is : (w : WellFormed tape store) → Writes (canonical w.meaning) o answer out

-- the first record with no JSON form
pub data Finds (m : Meaning) : Option ℕ → Type 0 where
  at : {index : ℕ} → no_json m ≡ some index → Finds m (Some index)
  nowhere : no_json m ≡ none → Finds m None

pub record FirstFormless (tape store : List ℕ) (found : Option ℕ) : Type 0 where
  pub is : (w : WellFormed tape store) → Finds w.meaning found
