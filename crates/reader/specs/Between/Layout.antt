-- What the readers of layout (docs/FORMAT.md, 2) promise. Assumes nothing.
use Rattle.std.specs.Prelude.{◌≡◌, List, ℕ, ◌<◌, length, get_or, Option, Some, None, Result, Ok, Err}
use Rattle.meaning.specs.declared.Refusal.TheVariants as refusal
use Rattle.machine.specs.Machine.{Base, Mode, base, Frame, Conf, at}
use Rattle.machine.specs.Machine as Machine
use Rattle.items.specs.Between.Places.{Onward}
use Rattle.reader.specs.Between.Scanning.{Goes, Faults, Bare}
use Rattle.items.specs.declared.NotGrammar.{NotGrammar}

-- whatever is expected after it, the layout from p to q is passed
abbrev pub Passes : List ℕ → ℕ → ℕ → Type 0
Passes text p q = (s : Base) (d : ℕ) (k : List Frame) → Goes text (at (base s) d k) p (at (base s) d k) q

-- in a comment, the machine in this mode
pub record Commented (text : List ℕ) (mode : Base → Mode) (p q : ℕ) : Type 0 where
  pub goes : (s : Base) (d : ℕ) (k : List Frame) → Goes text (at (mode s) d k) p (at (base s) d k) q
  pub onward : Onward text p q

abbrev pub Breaks : List ℕ → (Base → Mode) → ℕ → ℕ → Type 0
Breaks text mode p q = (s : Base) (d : ℕ) (k : List Frame) → Faults text (at (mode s) d k) p (refusal.NotGrammar q)

-- a comment that is open in this mode
abbrev pub CommentSays : List ℕ → (Base → Mode) → ℕ → Result ℕ NotGrammar → Type 0
CommentSays text mode p (Ok q) = Commented text mode p q
CommentSays text mode p (Err e) = Breaks text mode p e.place

-- a comment that may begin at p
abbrev pub MaybeSays : List ℕ → ℕ → Result (Option ℕ) NotGrammar → Type 0
MaybeSays text p (Ok None) =
    (Machine.class_of (get_or text p 0) ≡ Machine.hash_c → ⊥)
    × (Machine.class_of (get_or text p 0) ≡ Machine.slash_c → ⊥)
MaybeSays text p (Ok (Some q)) = Commented text base p q × (p < q)
MaybeSays text p (Err e) = Breaks text base p e.place

-- blanks alone
pub record Blanks (text : List ℕ) (p q : ℕ) : Type 0 where
  pub goes : Passes text p q
  pub onward : Onward text p q
  pub stopped : q < length text → Machine.class_of (get_or text q 0) ≡ Machine.blank_c → ⊥

-- all the layout from p on
pub record LayoutEnds (text : List ℕ) (p q : ℕ) : Type 0 where
  pub goes : Passes text p q
  pub onward : Onward text p q
  pub bare : Bare text q

abbrev pub LayoutSays : List ℕ → ℕ → Result ℕ NotGrammar → Type 0
LayoutSays text p (Ok q) = LayoutEnds text p q
LayoutSays text p (Err e) = Breaks text base p e.place
