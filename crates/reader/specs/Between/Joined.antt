-- What the readers of strings, binary and keys (docs/FORMAT.md, 3.5, 4 and 7.2) promise. Assumes nothing.
use Rattle.std.specs.Prelude.{◌≡◌, List, [], ◌∷◌, ℕ, ◌≤◌, ◌<◌, length, get_or, drop, Result, Ok, Err}
use Rattle.meaning.specs.declared.Refusal.{Refusal}
use Rattle.meaning.specs.declared.Refusal.TheVariants as refusal
use Rattle.items.specs.declared.NotGrammar.{NotGrammar}
use Rattle.items.specs.declared.Taken.{Taken}
use Rattle.machine.specs.Machine.{Use, Item, string_part, binary_part, Got, string, binary, key, Base, want_key, got}
use Rattle.machine.specs.Machine.{base, item, Frame, at, class_of, plus_c, plus_after}
use Rattle.machine.specs.Heard.{starts}
use Rattle.machine.specs.Scan.{Out, broke, ran}
use Rattle.machine.specs.Strings
use Rattle.machine.specs.Binaries
use Rattle.items.specs.Between.Places.{Onward}
use Rattle.items.specs.declared.Item.{Item as Value}
use Rattle.items.specs.Between.PlacedPart.{Meant, Ended}
use Rattle.reader.specs.Between.Scanning.{Goes, Hears, Refuses, Faults, Bare, Shut}
use Rattle.reader.specs.declared.joined.Join.{Join}

-- no plus stands at p
abbrev pub Plusless : List ℕ → ℕ → Type 0
Plusless text p = p < length text → class_of (get_or text p 0) ≡ plus_c → ⊥

-- after g a plus may come, and then s is expected
abbrev pub Plus : Got → Base → Type 0
Plus g s = (o d : ℕ) (k : List Frame) → plus_after o d k g ≡ at (base s) d k

-- after a part: none follows
pub record Alone (text : List ℕ) (p q : ℕ) : Type 0 where
  pub goes : (s : Base) (d : ℕ) (k : List Frame) → Goes text (at (base s) d k) p (at (base s) d k) q
  pub onward : Onward text p q
  pub bare : Bare text q
  pub plusless : Plusless text q

-- after a part: a plus, and the place of the next
pub record Joining (text : List ℕ) (p q : ℕ) : Type 0 where
  pub goes : (g : Got) (s : Base) → Plus g s → (d : ℕ) (k : List Frame)
      → Goes text (at (base (got g)) d k) p (at (base s) d k) q
  pub past : p < q
  pub within : q ≤ length text
  pub bare : Bare text q

-- after a part: the text is refused, and nothing is heard
abbrev pub Stray : List ℕ → ℕ → Refusal → Type 0
Stray text p why =
    (g : Got) (s : Base) → Plus g s → (d : ℕ) (k : List Frame) → Faults text (at (base (got g)) d k) p why

abbrev pub FollowsSays : List ℕ → ℕ → Join → Type 0
FollowsSays text p (Join.Next q) = Joining text p q
FollowsSays text p (Join.Last q) = Alone text p q

abbrev pub JoinSays : List ℕ → ℕ → Result Join NotGrammar → Type 0
JoinSays text p (Ok j) = FollowsSays text p j
JoinSays text p (Err e) = Stray text p (refusal.NotGrammar e.place)

-- what a plus joins: parts of strings, or of binary
pub data PartKind : Type 0 where
  string_parts : PartKind
  binary_parts : PartKind

-- the states of a part's scanner
abbrev pub State : PartKind → Type 0
State string_parts = Strings.St
State binary_parts = Binaries.St

abbrev pub scan_of : (i : PartKind) → ℕ → State i → ℕ → Out (State i) (List ℕ)
scan_of string_parts = Strings.scan
scan_of binary_parts = Binaries.scan

abbrev pub begin_of : (i : PartKind) → State i
begin_of string_parts = Strings.begin
begin_of binary_parts = Binaries.begin

-- a part at its place in the text
abbrev pub PlacedSays : PartKind → List ℕ → ℕ → ℕ → List ℕ → List ℕ → Result (Taken ℕ) Refusal → Type 0
PlacedSays i text p start entry exit (Ok t) = Ended (scan_of i) (begin_of i) text p start entry exit t.end t.value
PlacedSays i text p start entry exit (Err why) = ran (scan_of i) p (begin_of i) (drop p text) ≡ broke why

-- joined parts, from where the first begins; A tells apart what they are joined to
pub record Joined (A : Type 0) (part : A → List ℕ → Item) (whole : A → List ℕ → Got)
    (text : List ℕ) (p start : ℕ) (entry exit : List ℕ) (q n : ℕ) : Type 0 where
  pub u : List ℕ
  pub runs : (a : A) (d : ℕ) (k : List Frame)
      → Goes text (at (item (part a [])) d k) p (at (base (got (whole a u))) d k) q
  pub meant : Meant start entry exit u n p q
  pub within : q ≤ length text
  pub bare : Bare text q
  pub plusless : Plusless text q

abbrev pub BytesSays : (A : Type 0) → (A → List ℕ → Item) → (A → List ℕ → Got)
    → List ℕ → ℕ → ℕ → List ℕ → List ℕ → Result (Taken ℕ) Refusal → Type 0
BytesSays A part whole text p start entry exit (Ok t) = Joined A part whole text p start entry exit t.end t.value
BytesSays A part whole text p start entry exit (Err why) =
    (a : A) (d : ℕ) (k : List Frame) → Refuses text (at (item (part a [])) d k) p why

abbrev pub string_part_of : Use → List ℕ → Item
string_part_of z u = string_part z u Strings.begin

abbrev pub binary_part_of : Unit {0} → List ℕ → Item
binary_part_of z u = binary_part u Binaries.begin

abbrev pub whole_binary : Unit {0} → List ℕ → Got
whole_binary z u = binary u

-- what parts of a kind are joined to, where they are read, and what they are then
abbrev pub Uses : PartKind → Type 0
Uses string_parts = Use
Uses binary_parts = Unit {0}

abbrev pub part_of : (i : PartKind) → Uses i → List ℕ → Item
part_of string_parts = string_part_of
part_of binary_parts = binary_part_of

abbrev pub whole_of : (i : PartKind) → Uses i → List ℕ → Got
whole_of string_parts = string
whole_of binary_parts = whole_binary

-- the item that they are
abbrev pub item_of : PartKind → ℕ → Value
item_of string_parts n = Value.Str n
item_of binary_parts n = Value.Bin n

-- a key: its first byte is heard
pub record Keyed (text : List ℕ) (p start : ℕ) (entry exit : List ℕ) (q n : ℕ) : Type 0 where
  pub u : List ℕ
  pub runs : (d : ℕ) (k : List Frame)
      → Hears text (at (base want_key) d k) p (starts p ∷ []) (at (base (got (key u))) d k) q
  pub meant : Meant start entry exit u n p q
  pub within : q ≤ length text

abbrev pub KeySays : List ℕ → ℕ → ℕ → List ℕ → List ℕ → Result (Taken ℕ) Refusal → Type 0
KeySays text p start entry exit (Ok t) = Keyed text p start entry exit t.end t.value
KeySays text p start entry exit (Err why) =
    (d : ℕ) (k : List Frame) → Shut text p d k → Refuses text (at (base want_key) d k) p why
