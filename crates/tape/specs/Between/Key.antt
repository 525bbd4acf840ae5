-- The first key among records that repeats an earlier one of its object (docs/FORMAT.md, 7.2 and 11), and what the
-- functions that look for it promise their callers. Assumes nothing.
use Rattle.std.specs.Prelude.{◌≡◌, Bool, true, false, cond, Option, List, [], ◌∷◌, ◌++◌, ℕ, suc, ◌+◌, ◌-◌, ◌*◌, ◌/◌}
use Rattle.std.specs.Prelude.{◌≤◌, ◌<◌}
use Rattle.std.specs.Prelude.{leb, length, get_or, take, drop}
use Rattle.meaning.specs.declared.Record.{Record}
use Rattle.meaning.specs.Once.{same}
use Rattle.meaning.specs.Limits.{record_limit, depth_limit}
use Rattle.meaning.specs.Look.{RecordAt}
use Rattle.meaning.specs.Between.Events.{Event, begins, ends, named, first_repeat}
use Rattle.once.specs.Groups.{Stands, Placed, Tagged}
use Rattle.once.specs.Hash.{hash_of}
use Rattle.once.specs.Windows.{hits, all, given, Kept, nothing, present, level, SearchedTo, NoneOrLater}
use Rattle.once.specs.Keeping.{Keeps, Goes}
use Rattle.tape.specs.declared.key.Window.{Window}
use Rattle.tape.specs.Between.Standing.{read_at, records_from}

-- ---- what happens to keys, record by record

-- an open container, by its end
pub data Open : Type 0 where
  array_to object_to : ℕ → Open

abbrev pub end_of : Open → ℕ
end_of (array_to e) = e
end_of (object_to e) = e

abbrev pub ending : Open → List Event
ending (array_to e) = []
ending (object_to e) = ends ∷ []

-- before index i what ends there or before closes, the innermost first; and what is left open
unfoldable pub closings : ℕ → List Open → List Event
closings i [] = []
closings i (o ∷ os) = cond (leb (end_of o) i) (ending o ++ closings i os) []

unfoldable pub left : ℕ → List Open → List Open
left i [] = []
left i (o ∷ os) = cond (leb (end_of o) i) (left i os) (o ∷ os)

-- the innermost is an object
abbrev pub in_object : List Open → Bool
in_object [] = false
in_object (array_to e ∷ os) = false
in_object (object_to e ∷ os) = true

-- what a record does: an object begins; a key counts where it stands in an object
abbrev pub gives : List ℕ → List Open → ℕ → Record → List Event
gives store os i Record.Null = []
gives store os i (Record.Bool b) = []
gives store os i (Record.Number n) = []
gives store os i (Record.Str size start) = []
gives store os i (Record.Key size start) = cond (in_object os) (named i (take size (drop start store)) ∷ []) []
gives store os i (Record.Bin size start) = []
gives store os i (Record.Time t) = []
gives store os i (Record.Array count end) = []
gives store os i (Record.Object count end) = begins ∷ []

-- what is open after it
abbrev pub open_after : Record → List Open → List Open
open_after Record.Null os = os
open_after (Record.Bool b) os = os
open_after (Record.Number n) os = os
open_after (Record.Str size start) os = os
open_after (Record.Key size start) os = os
open_after (Record.Bin size start) os = os
open_after (Record.Time t) os = os
open_after (Record.Array count end) os = array_to end ∷ os
open_after (Record.Object count end) os = object_to end ∷ os

-- the events of records, the first at index i, where so much is open; what ends where they do closes too
unfoldable pub events_in : List ℕ → List Record → ℕ → List Open → List Event
events_in store [] i os = closings i os
events_in store (r ∷ rs) i os =
    closings i os ++ (gives store (left i os) i r ++ events_in store rs (i + 1) (open_after r (left i os)))

-- no more are open at once than may be
abbrev pub Shallow : List Record → ℕ → List Open → Type 0
Shallow [] i os = Unit {0}
Shallow (r ∷ rs) i os = (length (open_after r (left i os)) ≤ depth_limit)
    × Shallow rs (i + 1) (open_after r (left i os))

-- ---- the first repeated key

-- the events of the records below a bound
abbrev pub events_below : List ℕ → List ℕ → ℕ → List Event
events_below tape store bound = events_in store (records_from bound tape 0) 0 []

-- the least index below the bound of a key that repeats an earlier one of its object
abbrev pub first_of : List ℕ → List ℕ → ℕ → Option ℕ
first_of tape store bound = given (first_repeat [] (events_below tape store bound))

-- each record below the bound stands by itself
pub record Standing (tape store : List ℕ) (bound : ℕ) : Type 0 where
  pub few : bound ≤ record_limit
  pub each : (k : ℕ) → k < bound → RecordAt tape store k (read_at tape k)
  pub shallow : Shallow (records_from bound tape 0) 0 []

-- ---- a key, and those of its object that are taken in

pub record KeyIs (tape store : List ℕ) (index : ℕ) (key : List ℕ) : Type 0 where
  pub size : ℕ
  pub start : ℕ
  pub there : RecordAt tape store index (Record.Key size start)
  pub is : key ≡ take size (drop start store)

abbrev pub SomeKey : List ℕ → List ℕ → ℕ → Type 0
SomeKey tape store index = (v : List ℕ) × KeyIs tape store index v

abbrev pub SameKey : List ℕ → List ℕ → ℕ → List ℕ → Bool → Type 0
SameKey tape store index key r = (v : List ℕ) → KeyIs tape store index v → r ≡ same key v

-- a slot of the table, whose key is at some index
abbrev pub SlotHolds : List ℕ → List ℕ → List ℕ → ℕ → Type 0
SlotHolds tape store seen at = Stands seen at × ((q : ℕ) → Placed seen at q → SomeKey tape store q)

pub data SlotIs (tape store key : List ℕ) (tag : ℕ) (seen : List ℕ) (at : ℕ) : Bool → Type 0 where
  other_tag : (t : ℕ) → Tagged seen at t → (t ≡ tag → ⊥) → SlotIs tape store key tag seen at false
  told : {r : Bool} (q : ℕ) → Placed seen at q → SameKey tape store q key r → SlotIs tape store key tag seen at r

-- the table of a window, at some index, and the tag of a key
pub record Tabled (tape store key : List ℕ) (tag : ℕ) (seen : List ℕ) (at from : ℕ) (s : Kept) : Type 0 where
  pub keeps : Keeps (KeyIs tape store) (hash_of from) seen at from s
  pub tagged : tag ≡ hash_of from key

abbrev pub Seeks : List ℕ → List ℕ → List ℕ → ℕ → List ℕ → Type 0
Seeks tape store key tag seen = (at : ℕ) × ((from : ℕ) × ((s : Kept) × Tabled tape store key tag seen at from s))

abbrev pub Repeats : List ℕ → List ℕ → List ℕ → ℕ → List ℕ → Bool → Type 0
Repeats tape store key tag seen r =
    (at from : ℕ) (s : Kept) → Tabled tape store key tag seen at from s → r ≡ hits all key (present s.keys)

-- the key at an index comes, in an object
pub record Comes (tape store : List ℕ) (index from : ℕ) (key seen : List ℕ) (s : Kept) : Type 0 where
  pub keeps : Keeps (KeyIs tape store) (hash_of from) seen index from s
  pub is : KeyIs tape store index key
  pub inside : 0 < length s.keys
  pub few : index < record_limit

abbrev pub Coming : List ℕ → List ℕ → ℕ → ℕ → List ℕ → List ℕ → Type 0
Coming tape store index from key seen = (s : Kept) × Comes tape store index from key seen s

abbrev pub Notes : List ℕ → List ℕ → ℕ → ℕ → List ℕ → List ℕ → List ℕ → Type 0
Notes tape store index from key seen seen' =
    (s : Kept) → Comes tape store index from key seen s
    → Goes (KeyIs tape store) (hash_of from) seen' (index + 1) from s (named index key ∷ [])

-- ---- a pass

-- an open container on the stack: twice its end, and one more for an object
abbrev pub number_of : Open → ℕ
number_of (array_to e) = 2 * e
number_of (object_to e) = 2 * e + 1

-- the innermost stands last
abbrev pub Stacked : List ℕ → List Open → Type 0
Stacked stack [] = Unit {0}
Stacked stack (o ∷ os) = (get_or stack (length os) 0 ≡ number_of o) × Stacked stack os

abbrev pub Innermost : List ℕ → ℕ → Bool → Type 0
Innermost stack depth r = (os : List Open) → Stacked stack os → length os ≡ depth → r ≡ in_object os

abbrev pub objects_of : List Open → ℕ
objects_of [] = 0
objects_of (array_to e ∷ os) = objects_of os
objects_of (object_to e ∷ os) = suc (objects_of os)

-- the table and the stack before index i, where os is open: the events so far, and those to come
pub record Walk (tape store : List ℕ) (bound from : ℕ) (seen stack : List ℕ) (depth i : ℕ) (os : List Open) : Type 0
  where
    pub standing : Standing tape store bound
    pub within : i ≤ bound
    pub so : List Event
    pub goes : Goes (KeyIs tape store) (hash_of from) seen i from nothing so
    pub whole : so ++ events_in store (records_from (bound - i) tape i) i os ≡ events_below tape store bound
    pub shallow : Shallow (records_from (bound - i) tape i) i os
    pub many : length os ≡ depth
    pub deepest : depth ≤ depth_limit
    pub objects : level 0 so ≡ objects_of os
    pub stacked : Stacked stack os
    pub long : length stack ≡ depth_limit

abbrev pub Walks : List ℕ → List ℕ → ℕ → ℕ → List ℕ → List ℕ → ℕ → ℕ → Type 0
Walks tape store bound from seen stack depth i = (os : List Open) × Walk tape store bound from seen stack depth i os

-- nothing that is open ends at i or before
abbrev pub Clear : List ℕ → ℕ → ℕ → Type 0
Clear stack depth i = 0 < depth → i < get_or stack (depth - 1) 0 / 2

-- of some tape
pub record Walking (seen stack : List ℕ) (depth i : ℕ) : Type 0 where
  pub tape : List ℕ
  pub store : List ℕ
  pub bound : ℕ
  pub from : ℕ
  pub walks : Walks tape store bound from seen stack depth i

abbrev pub Closes : List ℕ → List ℕ → ℕ → ℕ → List ℕ → ℕ → Type 0
Closes seen stack depth i seen' depth' =
    Clear stack depth' i
    × ((tape store : List ℕ) (bound from : ℕ) → Walks tape store bound from seen stack depth i
    → Walks tape store bound from seen' stack depth' i)

-- the record at index i comes
pub record Ready (tape store : List ℕ) (bound from : ℕ) (seen stack : List ℕ) (depth i : ℕ) : Type 0 where
  pub walks : Walks tape store bound from seen stack depth i
  pub clear : Clear stack depth i
  pub below : i < bound

abbrev pub Readied : List ℕ → List ℕ → ℕ → List ℕ → List ℕ → ℕ → ℕ → Type 0
Readied tape store from seen stack depth i = (bound : ℕ) × Ready tape store bound from seen stack depth i

abbrev pub Steps : List ℕ → List ℕ → ℕ → List ℕ → List ℕ → ℕ → ℕ → List ℕ → List ℕ → ℕ → Type 0
Steps tape store from seen stack depth i seen' stack' depth' =
    (bound : ℕ) → Ready tape store bound from seen stack depth i
    → Walks tape store bound from seen' stack' depth' (i + 1)

abbrev pub Passed : List ℕ → List ℕ → ℕ → ℕ → List ℕ → Type 0
Passed tape store bound from seen =
    Goes (KeyIs tape store) (hash_of from) seen bound from nothing (events_below tape store bound)

-- ---- windows

-- an empty table
abbrev pub Empty : List ℕ → List ℕ → ℕ → List ℕ → Type 0
Empty tape store from seen = Keeps (KeyIs tape store) (hash_of from) seen 0 from nothing

-- all windows so far
abbrev pub Windowed : List ℕ → List ℕ → ℕ → Option ℕ → Option ℕ → Type 0
Windowed tape store bound best from = SearchedTo (bound + 1) (events_below tape store bound) best from

-- a window later than the one from there on
pub record Later (tape store : List ℕ) (bound from : ℕ) (v : Window) : Type 0 where
  pub windowed : Windowed tape store bound v.best v.from
  pub later : NoneOrLater from v.from
