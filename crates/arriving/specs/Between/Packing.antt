-- A check as bytes that a caller keeps (docs/FORMAT.md, 13.2): which bytes it is, and which check any bytes are.
-- Assumes nothing.
use Rattle.std.specs.Prelude.{ℕ, ◌+◌, ◌*◌, ◌-◌, ◌%◌, ◌<◌, ◌^◌, ◌≡◌, Bool, false, List, [], ◌∷◌, ◌++◌, eqb, get_or, take}
use Rattle.std.specs.Prelude.{drop, replicate}
use Rattle.std.proofs.lemmas.List.Edits.{sets}
use Rattle.meaning.specs.Bytes.{le, flag}
use Rattle.meaning.specs.Between.Words.{get}
use Rattle.meaning.specs.Limits.{depth_limit}
use Rattle.meaning.specs.declared.Refusal.{Refusal}
use Rattle.items.specs.declared.number.Acc.{Acc}
use Rattle.arriving.specs.declared.Core.{Core}
use Rattle.arriving.specs.declared.Check.{Check}
use Rattle.arriving.specs.declared.octets.Utf.{Utf}
use Rattle.arriving.specs.declared.packing.Flat.{Flat}
use Rattle.arriving.specs.declared.states.Due as DueOf
use Rattle.arriving.specs.declared.states.Due.TheVariants as Due
use Rattle.arriving.specs.declared.states.Decimal.{Decimal}
use Rattle.arriving.specs.declared.states.Figure as FigureOf
use Rattle.arriving.specs.declared.states.Figure.TheVariants as Figure
use Rattle.arriving.specs.declared.states.Open.{Open}
use Rattle.arriving.specs.declared.states.Stamp.{Stamp}
use Rattle.arriving.specs.declared.states.Slot as SlotOf
use Rattle.arriving.specs.declared.states.Slot.TheVariants as Slot
use Rattle.arriving.specs.declared.states.Moment as MomentOf
use Rattle.arriving.specs.declared.states.Moment.TheVariants as Moment
use Rattle.arriving.specs.declared.states.Quoted.{Quoted}
use Rattle.arriving.specs.declared.states.Inner as InnerOf
use Rattle.arriving.specs.declared.states.Inner.TheVariants as Inner
use Rattle.arriving.specs.declared.states.Octets as OctetsOf
use Rattle.arriving.specs.declared.states.Octets.TheVariants as Octets
use Rattle.arriving.specs.declared.states.Mode as ModeOf
use Rattle.arriving.specs.declared.states.Mode.TheVariants as Mode
use Rattle.arriving.specs.declared.states.Here.{Here}

-- ---- a mode by numbers: which, which of its cases, and their fields; those that a case has not are 0

abbrev pub flat : ℕ → ℕ → ℕ → ℕ → ℕ → ℕ → ℕ → ℕ → ℕ → Flat
flat k s x y a b c d e = record { kind = k; sort = s; x = x; y = y; a = a; b = b; c = c; d = d; e = e }

abbrev pub due_number : DueOf.Due → ℕ
due_number Due.Value = 0
due_number Due.Key = 1
due_number Due.StringPart = 2
due_number Due.KeyPart = 3
due_number Due.BinaryPart = 4
due_number Due.AfterValue = 5
due_number Due.AfterKey = 6
due_number Due.AfterString = 7
due_number Due.AfterKeyString = 8
due_number Due.AfterBinary = 9

abbrev pub dues : List DueOf.Due
dues =
    Due.Value ∷ Due.Key ∷ Due.StringPart ∷ Due.KeyPart ∷ Due.BinaryPart ∷ Due.AfterValue ∷ Due.AfterKey
    ∷ Due.AfterString ∷ Due.AfterKeyString ∷ []

abbrev pub due_of : ℕ → DueOf.Due
due_of n = get_or dues n Due.AfterBinary

-- ---- a number

abbrev pub acc_of : ℕ → ℕ → ℕ → Acc
acc_of c o z = record { c = c; over = eqb o 1; z = z }

abbrev pub flat_decimal : ℕ → Decimal → Bool → ℕ → Flat
flat_decimal s d down e = flat 6 s (flag d.acc.over) (flag down) d.first d.acc.c d.acc.z d.fraction e

abbrev pub decimal_of : Flat → Decimal
decimal_of f = record { first = f.a; acc = acc_of f.b f.x f.c; fraction = f.d }

abbrev pub flat_open : Open → Flat
flat_open o = flat 6 5 o.count (flag o.nought) o.first o.acc.c o.acc.z o.value (flag o.acc.over)

abbrev pub flat_figure : FigureOf.Figure → Flat
flat_figure (Figure.Sign q) = flat 6 0 0 0 q 0 0 0 0
flat_figure (Figure.Nought q) = flat 6 1 0 0 q 0 0 0 0
flat_figure (Figure.Point q) = flat 6 2 0 0 q 0 0 0 0
flat_figure (Figure.HexMark q) = flat 6 3 0 0 q 0 0 0 0
flat_figure (Figure.Hex q v o) = flat 6 4 (flag o) 0 q v 0 0 0
flat_figure (Figure.Open o) = flat_open o
flat_figure (Figure.Whole d) = flat_decimal 6 d false 0
flat_figure (Figure.Fraction d) = flat_decimal 7 d false 0
flat_figure (Figure.Exponent d) = flat_decimal 8 d false 0
flat_figure (Figure.ExponentSign d down) = flat_decimal 9 d down 0
flat_figure (Figure.ExponentDigits d down e) = flat_decimal 10 d down e

abbrev pub open_of : Flat → Open
open_of f =
    record { first = f.a; count = f.x; nought = eqb f.y 1; value = f.d % 65536; acc = acc_of f.b f.e f.c }

abbrev pub figures : Flat → List FigureOf.Figure
figures f =
    Figure.Sign f.a ∷ Figure.Nought f.a ∷ Figure.Point f.a ∷ Figure.HexMark f.a
    ∷ Figure.Hex f.a f.b (eqb f.x 1)
    ∷ Figure.Open (open_of f) ∷ Figure.Whole (decimal_of f) ∷ Figure.Fraction (decimal_of f)
    ∷ Figure.Exponent (decimal_of f) ∷ Figure.ExponentSign (decimal_of f) (eqb f.y 1) ∷ []

abbrev pub figure_of : Flat → FigureOf.Figure
figure_of f = get_or (figures f) f.sort (Figure.ExponentDigits (decimal_of f) (eqb f.y 1) f.e)

-- ---- a time value: a field by its number, the others after them

abbrev pub flat_time : ℕ → Stamp → ℕ → ℕ → ℕ → ℕ → Flat
flat_time s t left value year month =
    flat 7 s left value t.first year month (flag t.dated) (flag t.good)

abbrev pub flat_field : Stamp → ℕ → ℕ → SlotOf.Slot → Flat
flat_field t n v (Slot.Month year) = flat_time 0 t n v year 0
flat_field t n v (Slot.Day year month) = flat_time 1 t n v year month
flat_field t n v Slot.Hour = flat_time 2 t n v 0 0
flat_field t n v Slot.Minute = flat_time 3 t n v 0 0
flat_field t n v Slot.Second = flat_time 4 t n v 0 0
flat_field t n v Slot.OffsetHour = flat_time 5 t n v 0 0
flat_field t n v Slot.OffsetMinute = flat_time 6 t n v 0 0

abbrev pub flat_moment : Stamp → MomentOf.Moment → Flat
flat_moment t (Moment.Field slot n v) = flat_field t n v slot
flat_moment t Moment.Spaced = flat_time 7 t 0 0 0 0
flat_moment t Moment.Point = flat_time 8 t 0 0 0 0
flat_moment t Moment.Fraction = flat_time 9 t 0 0 0 0
flat_moment t Moment.Zulu = flat_time 10 t 0 0 0 0

abbrev pub stamp_of : Flat → Stamp
stamp_of f = record { first = f.a; dated = eqb f.d 1; good = eqb f.e 1 }

abbrev pub slots : Flat → List SlotOf.Slot
slots f =
    Slot.Month (f.b % 65536) ∷ Slot.Day (f.b % 65536) (f.c % 256) ∷ Slot.Hour ∷ Slot.Minute ∷ Slot.Second
    ∷ Slot.OffsetHour ∷ []

abbrev pub slot_of : Flat → SlotOf.Slot
slot_of f = get_or (slots f) f.sort Slot.OffsetMinute

abbrev pub field_of : Flat → MomentOf.Moment
field_of f = Moment.Field (slot_of f) f.x f.y

abbrev pub moments : Flat → List MomentOf.Moment
moments f = replicate 7 (field_of f) ++ (Moment.Spaced ∷ Moment.Point ∷ Moment.Fraction ∷ [])

abbrev pub moment_of : Flat → MomentOf.Moment
moment_of f = get_or (moments f) f.sort Moment.Zulu

-- ---- a string part

abbrev pub flat_quoted : ℕ → Quoted → ℕ → ℕ → ℕ → Flat
flat_quoted s k n p v = flat 8 s k.quote n k.bad k.half p v 0

abbrev pub flat_inner : Quoted → InnerOf.Inner → Flat
flat_inner k Inner.One = flat_quoted 0 k 0 0 0
flat_inner k Inner.Two = flat_quoted 1 k 0 0 0
flat_inner k Inner.Opened = flat_quoted 2 k 0 0 0
flat_inner k Inner.OpenedCr = flat_quoted 3 k 0 0 0
flat_inner k (Inner.Lines n) = flat_quoted 4 k n 0 0
flat_inner k Inner.Body = flat_quoted 5 k 0 0 0
flat_inner k (Inner.Escape p) = flat_quoted 6 k 0 p 0
flat_inner k (Inner.Unicode p) = flat_quoted 7 k 0 p 0
flat_inner k (Inner.Hex v n p) = flat_quoted 8 k n p v
flat_inner k (Inner.BraceOpen p) = flat_quoted 9 k 0 p 0
flat_inner k (Inner.Brace v p) = flat_quoted 10 k 0 p v
flat_inner k Inner.Done = flat_quoted 11 k 0 0 0

abbrev pub quoted_of : Flat → Quoted
quoted_of f = record { quote = f.x; bad = f.a; half = f.b }

abbrev pub inners : Flat → List InnerOf.Inner
inners f =
    Inner.One ∷ Inner.Two ∷ Inner.Opened ∷ Inner.OpenedCr ∷ Inner.Lines f.y ∷ Inner.Body ∷ Inner.Escape f.c
    ∷ Inner.Unicode f.c ∷ Inner.Hex (f.d % 4294967296) f.y f.c ∷ Inner.BraceOpen f.c
    ∷ Inner.Brace (f.d % 4294967296) f.c ∷ []

abbrev pub inner_of : Flat → InnerOf.Inner
inner_of f = get_or (inners f) f.sort Inner.Done

-- ---- a binary part

abbrev pub flat_octets : OctetsOf.Octets → Flat
flat_octets Octets.Dollar = flat 9 0 0 0 0 0 0 0 0
flat_octets (Octets.Text q) = flat 9 1 q 0 0 0 0 0 0
flat_octets (Octets.Escape q) = flat 9 2 q 0 0 0 0 0 0
flat_octets (Octets.Hex q) = flat 9 3 q 0 0 0 0 0 0
flat_octets (Octets.HexLow q) = flat 9 4 q 0 0 0 0 0 0
flat_octets Octets.Low = flat 9 5 0 0 0 0 0 0 0
flat_octets Octets.Pair = flat 9 6 0 0 0 0 0 0 0
flat_octets Octets.Dot = flat 9 7 0 0 0 0 0 0 0
flat_octets Octets.Done = flat 9 8 0 0 0 0 0 0 0

abbrev pub octetses : ℕ → List OctetsOf.Octets
octetses q =
    Octets.Dollar ∷ Octets.Text q ∷ Octets.Escape q ∷ Octets.Hex q ∷ Octets.HexLow q ∷ Octets.Low ∷ Octets.Pair
    ∷ Octets.Dot ∷ []

abbrev pub octets_of : Flat → OctetsOf.Octets
octets_of f = get_or (octetses f.x) f.sort Octets.Done

-- ---- a refusal

abbrev pub flat_failed : ℕ → ℕ → Flat
flat_failed s p = flat 11 s 0 0 p 0 0 0 0

abbrev pub flat_refusal : Refusal → Flat
flat_refusal Refusal.TextTooLong = flat_failed 0 0
flat_refusal (Refusal.NotUtf8 p) = flat_failed 1 p
flat_refusal (Refusal.NotGrammar p) = flat_failed 2 p
flat_refusal (Refusal.BadEscape p) = flat_failed 3 p
flat_refusal (Refusal.BadTime p) = flat_failed 4 p
flat_refusal (Refusal.BadNumber p) = flat_failed 5 p
flat_refusal (Refusal.TooDeep p) = flat_failed 6 p
flat_refusal (Refusal.TapeTooShort p) = flat_failed 7 p
flat_refusal (Refusal.StoreTooShort p) = flat_failed 8 p
flat_refusal (Refusal.NotWellFormed p) = flat_failed 9 p
flat_refusal (Refusal.NoJsonForm p) = flat_failed 10 p
flat_refusal (Refusal.OutputTooShort p) = flat_failed 11 p
flat_refusal (Refusal.WrittenTooLong p) = flat_failed 12 p
flat_refusal (Refusal.NoSuchRecord p) = flat_failed 13 p
flat_refusal (Refusal.RepeatedKey p) = flat_failed 14 p

abbrev pub refusals : ℕ → List Refusal
refusals p =
    Refusal.TextTooLong ∷ Refusal.NotUtf8 p ∷ Refusal.NotGrammar p ∷ Refusal.BadEscape p ∷ Refusal.BadTime p
    ∷ Refusal.BadNumber p ∷ Refusal.TooDeep p ∷ Refusal.TapeTooShort p ∷ Refusal.StoreTooShort p
    ∷ Refusal.NotWellFormed p ∷ Refusal.NoJsonForm p ∷ Refusal.OutputTooShort p ∷ Refusal.WrittenTooLong p
    ∷ Refusal.NoSuchRecord p ∷ []

abbrev pub refusal_of : Flat → Refusal
refusal_of f = get_or (refusals f.a) f.sort (Refusal.RepeatedKey f.a)

-- ---- a mode

abbrev pub flat_mode : ModeOf.Mode → Flat
flat_mode Mode.At = flat 0 0 0 0 0 0 0 0 0
flat_mode Mode.Slash = flat 1 0 0 0 0 0 0 0 0
flat_mode Mode.Line = flat 2 0 0 0 0 0 0 0 0
flat_mode Mode.Block = flat 3 0 0 0 0 0 0 0 0
flat_mode Mode.Star = flat 4 0 0 0 0 0 0 0 0
flat_mode (Mode.Spelling n) = flat 5 0 0 0 n 0 0 0 0
flat_mode (Mode.Counting g) = flat_figure g
flat_mode (Mode.Timing t m) = flat_moment t m
flat_mode (Mode.Quoting k s) = flat_inner k s
flat_mode (Mode.Packing o) = flat_octets o
flat_mode Mode.Naming = flat 10 0 0 0 0 0 0 0 0
flat_mode (Mode.Failed r) = flat_refusal r

abbrev pub modes : Flat → List ModeOf.Mode
modes f =
    Mode.At ∷ Mode.Slash ∷ Mode.Line ∷ Mode.Block ∷ Mode.Star ∷ Mode.Spelling f.a ∷ Mode.Counting (figure_of f)
    ∷ Mode.Timing (stamp_of f) (moment_of f) ∷ Mode.Quoting (quoted_of f) (inner_of f) ∷ Mode.Packing (octets_of f)
    ∷ Mode.Naming ∷ []

abbrev pub mode_of : Flat → ModeOf.Mode
mode_of f = get_or (modes f) f.kind (Mode.Failed (refusal_of f))

-- ---- the fields that are narrower than the number that holds them

abbrev pub FitFigure : FigureOf.Figure → Type 0
FitFigure (Figure.Sign q) = Unit {0}
FitFigure (Figure.Nought q) = Unit {0}
FitFigure (Figure.Point q) = Unit {0}
FitFigure (Figure.HexMark q) = Unit {0}
FitFigure (Figure.Hex q v o) = Unit {0}
FitFigure (Figure.Open o) = o.value < 65536
FitFigure (Figure.Whole d) = Unit {0}
FitFigure (Figure.Fraction d) = Unit {0}
FitFigure (Figure.Exponent d) = Unit {0}
FitFigure (Figure.ExponentSign d down) = Unit {0}
FitFigure (Figure.ExponentDigits d down e) = Unit {0}

abbrev pub FitSlot : SlotOf.Slot → Type 0
FitSlot (Slot.Month year) = year < 65536
FitSlot (Slot.Day year month) = (year < 65536) × (month < 256)
FitSlot Slot.Hour = Unit {0}
FitSlot Slot.Minute = Unit {0}
FitSlot Slot.Second = Unit {0}
FitSlot Slot.OffsetHour = Unit {0}
FitSlot Slot.OffsetMinute = Unit {0}

abbrev pub FitMoment : MomentOf.Moment → Type 0
FitMoment (Moment.Field slot n v) = FitSlot slot
FitMoment Moment.Spaced = Unit {0}
FitMoment Moment.Point = Unit {0}
FitMoment Moment.Fraction = Unit {0}
FitMoment Moment.Zulu = Unit {0}

abbrev pub FitInner : InnerOf.Inner → Type 0
FitInner Inner.One = Unit {0}
FitInner Inner.Two = Unit {0}
FitInner Inner.Opened = Unit {0}
FitInner Inner.OpenedCr = Unit {0}
FitInner (Inner.Lines n) = Unit {0}
FitInner Inner.Body = Unit {0}
FitInner (Inner.Escape p) = Unit {0}
FitInner (Inner.Unicode p) = Unit {0}
FitInner (Inner.Hex v n p) = v < 4294967296
FitInner (Inner.BraceOpen p) = Unit {0}
FitInner (Inner.Brace v p) = v < 4294967296
FitInner Inner.Done = Unit {0}

abbrev pub FitMode : ModeOf.Mode → Type 0
FitMode Mode.At = Unit {0}
FitMode Mode.Slash = Unit {0}
FitMode Mode.Line = Unit {0}
FitMode Mode.Block = Unit {0}
FitMode Mode.Star = Unit {0}
FitMode (Mode.Spelling n) = Unit {0}
FitMode (Mode.Counting g) = FitFigure g
FitMode (Mode.Timing t m) = FitMoment m
FitMode (Mode.Quoting k s) = FitInner s
FitMode (Mode.Packing o) = Unit {0}
FitMode Mode.Naming = Unit {0}
FitMode (Mode.Failed r) = Unit {0}

-- ---- the bytes

abbrev pub check_bytes : ℕ
check_bytes = 640

-- numbers of eight bytes each, one after the other
unfoldable pub spread : List ℕ → List ℕ
spread [] = []
spread (n ∷ ns) = le 8 n ++ spread ns

-- each of them fits
abbrev pub Narrow : List ℕ → Type 0
Narrow l = (i : ℕ) → get_or l i 0 < 2 ^ 64

-- sixteen numbers of one byte
unfoldable pub smalls : Utf → DueOf.Due → Flat → List ℕ
smalls u d f =
    u.left ∷ u.low ∷ u.high ∷ flag u.broken ∷ due_number d ∷ f.kind ∷ f.sort ∷ f.x ∷ f.y
    ∷ 0 ∷ 0 ∷ 0 ∷ 0 ∷ 0 ∷ 0 ∷ 0 ∷ []

-- fourteen of eight bytes
unfoldable pub larges : ℕ → Utf → Here → Flat → List ℕ
larges n u h f =
    n ∷ u.first ∷ h.depth ∷ h.records ∷ h.stored ∷ f.a ∷ f.b ∷ f.c ∷ f.d ∷ f.e ∷ 0 ∷ 0 ∷ 0 ∷ 0 ∷ []

abbrev pub numbered : Core → Flat → List ℕ
numbered c f =
    smalls c.utf c.here.due f ++ spread (larges c.length c.utf c.here f)

abbrev pub numbers : Core → List ℕ
numbers c = larges c.length c.utf c.here (flat_mode c.here.mode)

-- all but the kinds, put over the first bytes; each number is narrow enough to come back
pub record Kept (c : Core) (s t : List ℕ) : Type 0 where
  pub put : t ≡ sets s 0 (numbered c (flat_mode c.here.mode))
  pub fit : FitMode c.here.mode
  pub narrow : Narrow (numbers c)

-- a check's bytes
unfoldable pub packed : Check → List ℕ
packed x =
    numbered x.core (flat_mode x.core.here.mode) ++ (x.kinds ++ replicate (512 - depth_limit) 0)

-- the check of any bytes
abbrev pub large : List ℕ → ℕ → ℕ
large s i = get 8 s (16 + 8 * i)

unfoldable pub flat_at : List ℕ → Flat
flat_at s =
    flat (get_or s 5 0) (get_or s 6 0) (get_or s 7 0) (get_or s 8 0) (large s 5) (large s 6) (large s 7) (large s 8)
    (large s 9)

unfoldable pub utf_at : List ℕ → Utf
utf_at s =
    record {
      left = get_or s 0 0;
      low = get_or s 1 0;
      high = get_or s 2 0;
      first = large s 1;
      broken = eqb (get_or s 3 0) 1;
    }

unfoldable pub here_at : List ℕ → Here
here_at s =
    record {
      mode = mode_of (flat_at s);
      due = due_of (get_or s 4 0);
      depth = large s 2;
      records = large s 3;
      stored = large s 4;
    }

unfoldable pub unpacked : List ℕ → Check
unpacked s =
    record {
      core = record { length = large s 0; utf = utf_at s; here = here_at s };
      kinds = take depth_limit (drop 128 s);
    }

-- bytes that a caller lends: those that are missing count as zero
unfoldable pub padded : List ℕ → List ℕ
padded t = sets (replicate check_bytes 0) 0 t
