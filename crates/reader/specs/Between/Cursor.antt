-- What the cursor's methods promise, by their answer: values, arrays and objects (docs/FORMAT.md, 7). Assumes nothing.
use Rattle.std.specs.Prelude.{◌≡◌, ◌⊎◌, List, [], ◌∷◌, ◌++◌, ℕ, suc, ◌+◌, ◌*◌, ◌-◌, ◌≤◌, ◌<◌, length, get_or, drop}
use Rattle.std.specs.Prelude.{Result, Ok, Err}
use Rattle.std.proofs.Math.Option.{some}
use Rattle.std.proofs.lemmas.List.Edits.{sets}
use Rattle.meaning.specs.declared.Record.{Record}
use Rattle.meaning.specs.declared.Refusal.{Refusal}
use Rattle.meaning.specs.declared.Refusal.TheVariants.{TooDeep}
use Rattle.meaning.specs.Letters.{ch}
use Rattle.meaning.specs.Limits.{text_limit}
use Rattle.meaning.specs.Meaning.{Meaning, Meanings, Members}
use Rattle.meaning.specs.Tape.{records, store_of, bytes, records_of, records_bytes}
use Rattle.meaning.specs.Between.Events.{Event, begins, ends, named}
use Rattle.grammar.specs.Values.{Inside, elements, members}
use Rattle.machine.specs.Machine.{Base, want, got, key, value, base, Frame, inside, pair, Conf, at}
use Rattle.machine.specs.Machine.{Bracket, square, curly, bare_of, wanted, shut, class_of, quote_c}
use Rattle.machine.specs.Heard.{names, tell, key_heard, key_at}
use Rattle.machine.specs.Names.{word_scan}
use Rattle.machine.specs.Scan.{ended, broke}
use Rattle.items.specs.Between.Places.{ran_at}
use Rattle.once.specs.Windows.{Kept, level}
use Rattle.tape.specs.Between.Putting.{put_record}
use Rattle.reader.specs.Between.Scanning.{Goes, Hears, Tells, Refuses, Bare, Shut}
use Rattle.reader.specs.Between.Repeat.{Keeping, Led}
use Rattle.reader.specs.Between.Joined.{PartKind, string_parts, binary_parts}
use Rattle.items.specs.declared.Item.{Item}
use Rattle.items.specs.Between.NumberOrTime.{Scanned}
use Rattle.reader.specs.declared.cursor.Cursor.{Cursor}
use Rattle.reader.specs.declared.cursor.Head.{Head}
use Rattle.reader.specs.declared.cursor.Ahead.{Ahead}
use Rattle.reader.specs.declared.cursor.After.{After}

-- ---- items

-- the record of an item whose store bytes begin at `start`
abbrev pub record_item : Item → ℕ → Record
record_item Item.Null start = Record.Null
record_item (Item.Bool b) start = Record.Bool b
record_item (Item.Number n) start = Record.Number n
record_item (Item.Time t) start = Record.Time t
record_item (Item.Str n) start = Record.Str n start
record_item (Item.Bin n) start = Record.Bin n start

-- how many store bytes an item has
abbrev pub item_bytes : Item → ℕ
item_bytes Item.Null = 0
item_bytes (Item.Bool b) = 0
item_bytes (Item.Number n) = 0
item_bytes (Item.Time t) = 0
item_bytes (Item.Str n) = n
item_bytes (Item.Bin n) = n

-- one item, where a value is wanted: what it means, its record and its store bytes
pub record Scalar (text : List ℕ) (p start : ℕ) (entry exit : List ℕ) (i : Item) (q : ℕ) : Type 0 where
  pub m : Meaning
  pub runs : (d : ℕ) (k : List Frame) → Goes text (at (base want) d k) p (at (base (got (value m))) d k) q
  pub taped : (index : ℕ) → records_of m index start ≡ record_item i start ∷ []
  pub filled : exit ≡ sets entry start (store_of m)
  pub counted : item_bytes i ≡ bytes m
  pub room : p + bytes m ≤ q
  pub past : p < q
  pub within : q ≤ length text

-- where a value is wanted the text is refused, unless a bracket closes there
abbrev pub Unwanted : List ℕ → ℕ → Refusal → Type 0
Unwanted text p why = (d : ℕ) (k : List Frame) → Shut text p d k → Refuses text (at (base want) d k) p why

abbrev pub ScalarSays : List ℕ → ℕ → ℕ → List ℕ → List ℕ → Scanned → Type 0
ScalarSays text p start entry exit (Ok t) = Scalar text p start entry exit t.value t.end
ScalarSays text p start entry exit (Err why) = Unwanted text p why

-- a word that means this item
abbrev pub SpeltSays : List ℕ → ℕ → List ℕ → Item → Scanned → Type 0
SpeltSays text p letters item (Ok t) =
    (ran_at word_scan text letters p ≡ ended tt t.end) × (t.end ≤ length text) × (t.value ≡ item)
SpeltSays text p letters item (Err why) = ran_at word_scan text letters p ≡ broke why

-- a quote stands at p
pub record Quoted (text : List ℕ) (p : ℕ) : Type 0 where
  pub inside : p < length text
  pub quote : class_of (get_or text p 0) ≡ quote_c

-- a part of this kind begins at p
abbrev pub Opens : PartKind → List ℕ → ℕ → Type 0
Opens string_parts text p = Quoted text p
Opens binary_parts text p = (p < length text) × (get_or text p 0 ≡ ch "$")

-- where an item may stand: no layout, and no opening bracket
pub record AtScalar (text : List ℕ) (p start : ℕ) : Type 0 where
  pub inside : p < length text
  pub bare : Bare text p
  pub stored : start ≤ p
  pub short : length text ≤ text_limit
  pub no_square : get_or text p 0 ≡ ch "[" → ⊥
  pub no_curly : get_or text p 0 ≡ ch "{" → ⊥

-- ---- the cursor

-- what has been put is no more than what has been passed
pub record Ready (text : List ℕ) (c : Cursor) : Type 0 where
  pub within : c.at ≤ length text
  pub records : c.records ≤ c.at
  pub stored : c.stored ≤ c.at
  pub short : length text ≤ text_limit

-- where a value is wanted, no layout stands
pub record AtValue (text : List ℕ) (c : Cursor) : Type 0 where
  pub ready : Ready text c
  pub bare : Bare text c.at

-- after an opening bracket: one byte more has been passed than counted
pub record Inner (text : List ℕ) (c : Cursor) : Type 0 where
  pub within : c.at ≤ length text
  pub records : c.records < c.at
  pub stored : c.stored < c.at
  pub short : length text ≤ text_limit

-- where a member begins
pub record AtMember (text : List ℕ) (c : Cursor) : Type 0 where
  pub ready : Ready text c
  pub bare : Bare text c.at
  pub inside : c.at < length text
  pub other : get_or text c.at 0 ≡ ch "}" → ⊥

-- the table of the keys before a place, or no table: no number at all
abbrev pub Seen : List ℕ → List ℕ → ℕ → Type 0
Seen text seen p = (length seen ≡ 0) ⊎ ((f : ℕ) × ((s : Kept) × Keeping text seen p f s))

-- the same counts, further on
pub record Moved (text : List ℕ) (c n : Cursor) : Type 0 where
  pub past : c.at < n.at
  pub within : n.at ≤ length text
  pub records : n.records ≡ c.records
  pub stored : n.stored ≡ c.stored

-- ---- brackets, commas and colons

-- what an opening bracket says, and the closing bracket of a container
abbrev pub opening_of : Bracket → List Event
opening_of square = []
opening_of curly = begins ∷ []

abbrev pub closing_of : Inside → List Event
closing_of (elements x) = []
closing_of (members x) = ends ∷ []

-- an opening bracket
pub record Opened (text : List ℕ) (c : Cursor) (y : Bracket) (n : Cursor) : Type 0 where
  pub opens : (d : ℕ) (k : List Frame)
      → Tells text (at (base want) (suc d) k) c.at (opening_of y)
      (at (base (wanted (bare_of y))) d (inside (bare_of y) ∷ k)) n.at
  pub deep : (k : List Frame) → Refuses text (at (base want) 0 k) c.at (TooDeep c.at)
  pub moved : Moved text c n

pub record OneItem (text : List ℕ) (c : Cursor) (entry exit : List ℕ) (i : Item) (n : Cursor) : Type 0 where
  pub scalar : Scalar text c.at c.stored entry exit i n.at
  pub records : n.records ≡ c.records + 1
  pub stored : n.stored ≡ c.stored + item_bytes i

abbrev pub HeadSays : List ℕ → Cursor → List ℕ → List ℕ → Result Head Refusal → Type 0
HeadSays text c entry exit (Ok (Head.Item i n)) = OneItem text c entry exit i n
HeadSays text c entry exit (Ok (Head.Array n)) = Opened text c square n × (exit ≡ entry)
HeadSays text c entry exit (Ok (Head.Object n)) = Opened text c curly n × (exit ≡ entry)
HeadSays text c entry exit (Err why) = Unwanted text c.at why

-- the byte that closes
abbrev pub closer : Inside → ℕ
closer (elements x) = ch "]"
closer (members x) = ch "}"

-- in a container where an element or a member may stand
abbrev pub within : Inside → ℕ → List Frame → Conf
within y d k = at (base (wanted y)) d (inside y ∷ k)

-- where it has closed
abbrev pub closed : Inside → ℕ → List Frame → Conf
closed y d k = at (base (got (value (shut y)))) (suc d) k

-- an element or a member begins
pub record Begins (text : List ℕ) (c : Cursor) (closing : ℕ) (n : Cursor) : Type 0 where
  pub goes : (s : Base) (d : ℕ) (k : List Frame) → Goes text (at (base s) d k) c.at (at (base s) d k) n.at
  pub bare : Bare text n.at
  pub behind : c.at ≤ n.at
  pub inside : n.at < length text
  pub other : get_or text n.at 0 ≡ closing → ⊥
  pub records : n.records ≡ c.records
  pub stored : n.stored ≡ c.stored

abbrev pub AheadSays : List ℕ → Cursor → ℕ → Result Ahead Refusal → Type 0
AheadSays text c closing (Ok (Ahead.Close n)) =
    ((y : Inside) → closer y ≡ closing → (d : ℕ) (k : List Frame)
    → Tells text (within y d k) c.at (closing_of y) (closed y d k) n.at) × Moved text c n
AheadSays text c closing (Ok (Ahead.More n)) = Begins text c closing n
AheadSays text c closing (Err why) =
    (y : Inside) → closer y ≡ closing → (d : ℕ) (k : List Frame) → Refuses text (within y d k) c.at why

-- in a frame whose container this byte closes, one more value makes of it what the function says
pub data Adds : Frame → ℕ → (Meaning → Inside) → Type 0 where
  element : {x : Meanings} → Adds (inside (elements x)) (ch "]") (λ m. elements (Meanings.more x m))
  member : {x : Members} {u : List ℕ} → Adds (pair x u) (ch "}") (λ m. members (Members.member x u m))

abbrev pub AfterSays : List ℕ → Cursor → ℕ → Result After Refusal → Type 0
AfterSays text c closing (Ok (After.Comma n)) =
    ((f : Frame) (y : Meaning → Inside) → Adds f closing y → (m : Meaning) (d : ℕ) (k : List Frame)
    → Goes text (at (base (got (value m))) d (f ∷ k)) c.at (within (y m) d k) n.at) × Moved text c n
AfterSays text c closing (Ok (After.Close n)) =
    ((f : Frame) (y : Meaning → Inside) → Adds f closing y → (m : Meaning) (d : ℕ) (k : List Frame)
    → Tells text (at (base (got (value m))) d (f ∷ k)) c.at (closing_of (y m)) (closed (y m) d k) n.at)
    × Moved text c n
AfterSays text c closing (Err why) =
    (f : Frame) (y : Meaning → Inside) → Adds f closing y → (m : Meaning) (d : ℕ) (k : List Frame)
    → Refuses text (at (base (got (value m))) d (f ∷ k)) c.at why

-- after a key: a colon, and where its value begins
pub record Coloned (text : List ℕ) (c n : Cursor) : Type 0 where
  pub goes : (x : Members) (u : List ℕ) (d : ℕ) (k : List Frame)
      → Hears text (at (base (got (key u))) d (inside (members x) ∷ k)) c.at (names u ∷ [])
      (at (base want) d (pair x u ∷ k)) n.at
  -- whatever is open, the colon says what the key means
  pub names_it : (u : List ℕ) (d : ℕ) (k : List Frame)
      → key_heard (tell c.at (at (base (got (key u))) d k) (drop c.at text)).heard ≡ some u
  pub bare : Bare text n.at
  pub moved : Moved text c n

abbrev pub ColonSays : List ℕ → Cursor → Result Cursor Refusal → Type 0
ColonSays text c (Ok v) = Coloned text c v
ColonSays text c (Err why) =
    (x : Members) (u : List ℕ) (d : ℕ) (k : List Frame)
    → Refuses text (at (base (got (key u))) d (inside (members x) ∷ k)) c.at why

-- a key and its colon; the key begins at `first`
pub record Named (text : List ℕ) (c : Cursor) (first : ℕ) (entry exit : List ℕ) (n : ℕ) (v : Cursor) : Type 0 where
  pub u : List ℕ
  pub goes : (x : Members) (d : ℕ) (k : List Frame)
      → Tells text (within (members x) d k) c.at (named first u ∷ []) (at (base want) d (pair x u ∷ k)) v.at
  pub is : key_at text first ≡ some u
  pub behind : c.at ≤ first
  pub ahead : first < v.at
  pub counted : n ≡ length u
  pub filled : exit ≡ sets entry c.stored u
  pub bare : Bare text v.at
  pub records : v.records ≡ c.records + 1
  pub stored : v.stored ≡ c.stored + length u
  pub room : c.at + 1 + length u ≤ v.at
  pub past : c.at + 1 < v.at
  pub within : v.at ≤ length text

abbrev pub MemberSays : List ℕ → Cursor → List ℕ → List ℕ → Result (ℕ × Cursor) Refusal → Type 0
MemberSays text c entry exit (Ok (n, v)) = Named text c c.at entry exit n v
MemberSays text c entry exit (Err why) =
    (x : Members) (d : ℕ) (k : List Frame) → Refuses text (within (members x) d k) c.at why

-- a member begins: its key and its colon, with the key's record put and the key noted
pub record MemberBegins (text : List ℕ) (c : Cursor) (tape tape' store store' seen seen' : List ℕ) (v : Cursor)
    : Type 0 where
  pub size : ℕ
  pub first : ℕ
  pub key_is : Named text c first store store' size v
  pub taped : tape' ≡ put_record tape c.records (Record.Key size c.stored)
  pub noted : (f : ℕ) (s : Kept) → Keeping text seen c.at f s → 0 < length s.keys
      → Led text seen' v.at f s (named first key_is.u ∷ [])

-- in an object where a member may stand
abbrev pub MemberAheadSays : List ℕ → Cursor → List ℕ → List ℕ → List ℕ → List ℕ → List ℕ → List ℕ
    → Result Ahead Refusal → Type 0
MemberAheadSays text c tape tape' store store' seen seen' (Ok (Ahead.Close n)) =
    AheadSays text c (ch "}") (Ok (Ahead.Close n)) × (tape' ≡ tape) × (store' ≡ store) × (seen' ≡ seen)
MemberAheadSays text c tape tape' store store' seen seen' (Ok (Ahead.More v)) =
    MemberBegins text c tape tape' store store' seen seen' v
MemberAheadSays text c tape tape' store store' seen seen' (Err why) =
    AheadSays text c (ch "}") (Err why)

-- ---- values

-- of a table, by the window's first place and what it holds
abbrev pub Stood : Type 1
Stood = ℕ → Kept → Type 0

-- where a value is wanted: the keys before it
abbrev pub keeping : List ℕ → List ℕ → Cursor → Stood
keeping text seen c f s = Keeping text seen c.at f s

-- after an opening bracket: the keys before the bracket
abbrev pub keeping_before : List ℕ → List ℕ → Cursor → Stood
keeping_before text seen c f s = Keeping text seen (c.at - 1) f s

-- A value has been read, from a state in which `depth` more may open to one in which `top` may: what it means, the
-- records and the store bytes put, and that these are no more than the bytes passed; and the objects and keys heard.
-- The tape is filled where it has room for all of the value's records. The table that stood so has these objects and
-- keys noted, after the events that were heard first.
pub record Took (text : List ℕ) (start : List Frame → Conf) (top : ℕ) (heard : List Event) (stood : Stood) (c : Cursor)
    (tape tape' store store' seen' : List ℕ) (n : Cursor) : Type 0 where
  pub m : Meaning
  pub keys : List Event
  pub runs : (k : List Frame) → Tells text (start k) c.at keys (at (base (got (value m))) top k) n.at
  pub recorded : n.records ≡ c.records + records m
  pub stored : n.stored ≡ c.stored + bytes m
  pub taped : n.records * 16 ≤ length tape
      → tape' ≡ sets tape (c.records * 16) (records_bytes (records_of m c.records c.stored))
  pub filled : store' ≡ sets store c.stored (store_of m)
  -- as many objects are open as before
  pub level_kept : (i : ℕ) → level i (heard ++ keys) ≡ i
  pub noted : (f : ℕ) (s : Kept) → stood f s → Led text seen' n.at f s (heard ++ keys)
  pub past : c.at < n.at
  pub few : n.records + c.at ≤ c.records + n.at
  pub short : n.stored + c.at ≤ c.stored + n.at
  pub within : n.at ≤ length text

-- the text is refused, whatever is open, where `ok` holds of it
abbrev pub Left : List ℕ → (List Frame → Conf) → (List Frame → Type 0) → ℕ → Refusal → Type 0
Left text start ok p why = (k : List Frame) → ok k → Refuses text (start k) p why

abbrev pub Says : List ℕ → (List Frame → Conf) → (List Frame → Type 0) → ℕ → List Event → Stood → Cursor
    → List ℕ → List ℕ → List ℕ → List ℕ → List ℕ → Result Cursor Refusal → Type 0
Says text start ok top heard stood c tape tape' store store' seen' (Ok n) =
    Took text start top heard stood c tape tape' store store' seen' n
Says text start ok top heard stood c tape tape' store store' seen' (Err why) = Left text start ok c.at why

-- where a value is wanted
abbrev pub wants : ℕ → List Frame → Conf
wants d k = at (base want) d k

-- inside a container with nothing in it yet
abbrev pub bare_in : Bracket → ℕ → List Frame → Conf
bare_in y d k = within (bare_of y) d k

abbrev pub always : List Frame → Type 0
always k = Unit {0}

-- what `value` promises, and what `array` and `object` do
abbrev pub ValueSays : List ℕ → ℕ → Cursor → List ℕ → List ℕ → List ℕ → List ℕ → List ℕ → List ℕ
    → Result Cursor Refusal → Type 0
ValueSays text depth c tape tape' store store' seen seen' r =
    Says text (wants depth) (λ k. Shut text c.at depth k) depth [] (keeping text seen c) c tape tape' store store'
    seen' r

abbrev pub InsideSays : List ℕ → Bracket → ℕ → Cursor → List ℕ → List ℕ → List ℕ → List ℕ → List ℕ → List ℕ
    → Result Cursor Refusal → Type 0
InsideSays text b depth c tape tape' store store' seen seen' r =
    Says text (bare_in b depth) always (suc depth) (opening_of b) (keeping_before text seen c) c tape tape' store store'
    seen'
    r
