-- What is packed comes back: a mode by its numbers, and a check by its bytes. Assumes nothing.
use mathlib.Core.Path.{◌≡◌, refl, sym, ap, ◌∙◌}
use mathlib.Core.Bool.{Bool, true, false}
use mathlib.Core.List.{List, [], ◌∷◌, ◌++◌, append_assoc}
use Prim.Native.Nat.{ℕ, zero, suc, ◌+◌, ◌*◌, ◌-◌, ◌%◌, ◌<◌, ◌^◌}
use native.Mathlib.Omega.{arith}
use lib.Dec.{eqb}
use lib.ListN.{length, take, drop, get_or, replicate, length-append}
use lib.Seq.{take_at, drop_at}
use Rattle.meaning.specs.Bytes.{le, flag}
use Rattle.meaning.specs.Between.Words.{get}
use Rattle.meaning.specs.Limits.{depth_limit}
use Rattle.meaning.specs.declared.Refusal.{Refusal}
use Rattle.meaning.proofs.Bytes.{le_length, get_at, get_le}
use Rattle.arriving.specs.declared.Check.{Check}
use Rattle.arriving.specs.declared.states.Due as DueOf
use Rattle.arriving.specs.declared.states.Due.TheVariants as Due
use Rattle.arriving.specs.declared.states.Decimal.{Decimal}
use Rattle.arriving.specs.declared.states.Figure as FigureOf
use Rattle.arriving.specs.declared.states.Figure.TheVariants as Figure
use Rattle.arriving.specs.declared.states.Stamp.{Stamp}
use Rattle.arriving.specs.declared.states.Slot as SlotOf
use Rattle.arriving.specs.declared.states.Slot.TheVariants as Slot
use Rattle.arriving.specs.declared.states.Moment as MomentOf
use Rattle.arriving.specs.declared.states.Moment.TheVariants as Moment
use Rattle.arriving.specs.declared.states.Quoted.{Quoted}
use Rattle.arriving.specs.declared.states.Inner as InnerOf
use Rattle.arriving.specs.declared.states.Inner.TheVariants as Inner
use Rattle.arriving.specs.declared.states.Octets as OctetsOf
use Rattle.arriving.specs.declared.states.Octets.TheVariants as Octets
use Rattle.arriving.specs.declared.states.Mode as ModeOf
use Rattle.arriving.specs.declared.states.Mode.TheVariants as Mode
use Rattle.arriving.specs.Between.Arriving.{core_of, check_of}
use Rattle.arriving.specs.Between.Octets.{utf}
use Rattle.arriving.specs.Between.Steps.{here_of}
use Rattle.arriving.specs.Between.Packing.{flat, due_number, due_of, decimal_of, flat_decimal, flat_figure, flat_time, stamp_of}
use Rattle.arriving.specs.Between.Packing.{flat_field, flat_moment, flat_inner, flat_octets}
use Rattle.arriving.specs.Between.Packing.{flat_refusal, flat_mode, mode_of, FitFigure, FitSlot, FitMoment, FitInner, FitMode}
use Rattle.arriving.specs.Between.Packing.{spread, Narrow, smalls, larges, numbers, numbered, packed, large, flat_at, utf_at, here_at, unpacked}
use Rattle.arriving.proofs.PackingByteLaws.{numbered_length}

-- ---- a mode by its numbers

bit_back : (b : Bool) → eqb (flag b) 1 ≡ b
bit_back true = refl
bit_back false = refl

due_back : (u : DueOf.Due) → due_of (due_number u) ≡ u
due_back Due.Value = refl
due_back Due.Key = refl
due_back Due.StringPart = refl
due_back Due.KeyPart = refl
due_back Due.BinaryPart = refl
due_back Due.AfterValue = refl
due_back Due.AfterKey = refl
due_back Due.AfterString = refl
due_back Due.AfterKeyString = refl
due_back Due.AfterBinary = refl

decimal_back : (s : ℕ) (d : Decimal) (down : Bool) (e : ℕ) → decimal_of (flat_decimal s d down e) ≡ d
decimal_back s d down e =
    λ i. record { first = d.first; acc = record { c = d.acc.c; over = bit_back d.acc.over i; z = d.acc.z }; fraction = d.fraction }

figure_back : (g : FigureOf.Figure) → FitFigure g → mode_of (flat_figure g) ≡ Mode.Counting g
figure_back (Figure.Sign q) h = refl
figure_back (Figure.Nought q) h = refl
figure_back (Figure.Point q) h = refl
figure_back (Figure.HexMark q) h = refl
figure_back (Figure.Hex q v o) h = λ i. Mode.Counting (Figure.Hex q v (bit_back o i))
figure_back (Figure.Open o) h =
    let e : o.value % 65536 ≡ o.value = omega arith in
    λ i. Mode.Counting (Figure.Open (record {
      first = o.first;
      count = o.count;
      nought = bit_back o.nought i;
      value = e i;
      acc = record { c = o.acc.c; over = bit_back o.acc.over i; z = o.acc.z };
    }))
figure_back (Figure.Whole d) h = λ i. Mode.Counting (Figure.Whole (decimal_back 6 d false 0 i))
figure_back (Figure.Fraction d) h = λ i. Mode.Counting (Figure.Fraction (decimal_back 7 d false 0 i))
figure_back (Figure.Exponent d) h = λ i. Mode.Counting (Figure.Exponent (decimal_back 8 d false 0 i))
figure_back (Figure.ExponentSign d down) h = λ i. Mode.Counting (Figure.ExponentSign (decimal_back 9 d down 0 i) (bit_back down i))
figure_back (Figure.ExponentDigits d down e) h = λ i. Mode.Counting (Figure.ExponentDigits (decimal_back 10 d down e i) (bit_back down i) e)

stamp_back : (s : ℕ) (t : Stamp) (left value year month : ℕ) → stamp_of (flat_time s t left value year month) ≡ t
stamp_back s t left value year month = λ i. record { first = t.first; dated = bit_back t.dated i; good = bit_back t.good i }

slot_back : (t : Stamp) (s : SlotOf.Slot) (n v : ℕ) → FitSlot s → mode_of (flat_field t n v s) ≡ Mode.Timing t (Moment.Field s n v)
slot_back t (Slot.Month year) n v h =
    let e : year % 65536 ≡ year = omega arith in λ i. Mode.Timing (stamp_back 0 t n v year 0 i) (Moment.Field (Slot.Month (e i)) n v)
slot_back t (Slot.Day year month) n v h =
    let e : year % 65536 ≡ year = omega arith in
    let f : month % 256 ≡ month = omega arith in
    λ i. Mode.Timing (stamp_back 1 t n v year month i) (Moment.Field (Slot.Day (e i) (f i)) n v)
slot_back t Slot.Hour n v h = λ i. Mode.Timing (stamp_back 2 t n v 0 0 i) (Moment.Field Slot.Hour n v)
slot_back t Slot.Minute n v h = λ i. Mode.Timing (stamp_back 3 t n v 0 0 i) (Moment.Field Slot.Minute n v)
slot_back t Slot.Second n v h = λ i. Mode.Timing (stamp_back 4 t n v 0 0 i) (Moment.Field Slot.Second n v)
slot_back t Slot.OffsetHour n v h = λ i. Mode.Timing (stamp_back 5 t n v 0 0 i) (Moment.Field Slot.OffsetHour n v)
slot_back t Slot.OffsetMinute n v h = λ i. Mode.Timing (stamp_back 6 t n v 0 0 i) (Moment.Field Slot.OffsetMinute n v)

moment_back : (t : Stamp) (m : MomentOf.Moment) → FitMoment m → mode_of (flat_moment t m) ≡ Mode.Timing t m
moment_back t (Moment.Field s n v) h = slot_back t s n v h
moment_back t Moment.Spaced h = λ i. Mode.Timing (stamp_back 7 t 0 0 0 0 i) Moment.Spaced
moment_back t Moment.Point h = λ i. Mode.Timing (stamp_back 8 t 0 0 0 0 i) Moment.Point
moment_back t Moment.Fraction h = λ i. Mode.Timing (stamp_back 9 t 0 0 0 0 i) Moment.Fraction
moment_back t Moment.Zulu h = λ i. Mode.Timing (stamp_back 10 t 0 0 0 0 i) Moment.Zulu

inner_back : (k : Quoted) (s : InnerOf.Inner) → FitInner s → mode_of (flat_inner k s) ≡ Mode.Quoting k s
inner_back k Inner.One h = refl
inner_back k Inner.Two h = refl
inner_back k Inner.Opened h = refl
inner_back k Inner.OpenedCr h = refl
inner_back k (Inner.Lines n) h = refl
inner_back k Inner.Body h = refl
inner_back k (Inner.Escape p) h = refl
inner_back k (Inner.Unicode p) h = refl
inner_back k (Inner.Hex v n p) h = let e : v % 4294967296 ≡ v = omega arith in λ i. Mode.Quoting k (Inner.Hex (e i) n p)
inner_back k (Inner.BraceOpen p) h = refl
inner_back k (Inner.Brace v p) h = let e : v % 4294967296 ≡ v = omega arith in λ i. Mode.Quoting k (Inner.Brace (e i) p)
inner_back k Inner.Done h = refl

octets_back : (o : OctetsOf.Octets) → mode_of (flat_octets o) ≡ Mode.Packing o
octets_back Octets.Dollar = refl
octets_back (Octets.Text q) = refl
octets_back (Octets.Escape q) = refl
octets_back (Octets.Hex q) = refl
octets_back (Octets.HexLow q) = refl
octets_back Octets.Low = refl
octets_back Octets.Pair = refl
octets_back Octets.Dot = refl
octets_back Octets.Done = refl

refusal_back : (r : Refusal) → mode_of (flat_refusal r) ≡ Mode.Failed r
refusal_back Refusal.TextTooLong = refl
refusal_back (Refusal.NotUtf8 p) = refl
refusal_back (Refusal.NotGrammar p) = refl
refusal_back (Refusal.BadEscape p) = refl
refusal_back (Refusal.BadTime p) = refl
refusal_back (Refusal.BadNumber p) = refl
refusal_back (Refusal.TooDeep p) = refl
refusal_back (Refusal.TapeTooShort p) = refl
refusal_back (Refusal.StoreTooShort p) = refl
refusal_back (Refusal.NotWellFormed p) = refl
refusal_back (Refusal.NoJsonForm p) = refl
refusal_back (Refusal.OutputTooShort p) = refl
refusal_back (Refusal.WrittenTooLong p) = refl
refusal_back (Refusal.NoSuchRecord p) = refl
refusal_back (Refusal.RepeatedKey p) = refl

pub mode_back : (m : ModeOf.Mode) → FitMode m → mode_of (flat_mode m) ≡ m
mode_back Mode.At h = refl
mode_back Mode.Slash h = refl
mode_back Mode.Line h = refl
mode_back Mode.Block h = refl
mode_back Mode.Star h = refl
mode_back (Mode.Spelling n) h = refl
mode_back (Mode.Counting g) h = figure_back g h
mode_back (Mode.Timing t m) h = moment_back t m h
mode_back (Mode.Quoting k s) h = inner_back k s h
mode_back (Mode.Packing o) h = octets_back o
mode_back Mode.Naming h = refl
mode_back (Mode.Failed r) h = refusal_back r

-- ---- a check by its bytes

-- the number at the place i of those that stand after p
word_in : (p ws r : List ℕ) (i n : ℕ) → n ≡ length p + 8 * i → i < length ws → get_or ws i 0 < 2 ^ 64
    → get 8 (p ++ (spread ws ++ r)) n ≡ get_or ws i 0
unfolding spread
word_in p [] r i n e h f = absurd (omega arith)
word_in p (v ∷ ws) r zero n e h f =
    ap (λ (l : List ℕ). get 8 (p ++ l) n) (append_assoc (le 8 v) (spread ws) r)
    ∙ get_at 8 p (le 8 v ++ (spread ws ++ r)) 0 n (omega arith)
    ∙ get_le 8 v (spread ws ++ r) f
word_in p (v ∷ ws) r (suc i) n e h f =
    ap (λ (l : List ℕ). get 8 l n) (ap (λ (l : List ℕ). p ++ l) (append_assoc (le 8 v) (spread ws) r) ∙ sym (append_assoc p (le 8 v) (spread ws ++ r)))
    ∙ word_in (p ++ le 8 v) ws r i n (omega (arith, length-append p (le 8 v), le_length 8 v)) (omega arith) f

module _ (x : Check) (fit : FitMode x.core.here.mode) (narrow : Narrow (numbers x.core)) (k : length x.kinds ≡ 64) where
  tail : List ℕ
  tail = x.kinds ++ replicate (512 - depth_limit) 0

  large_is : (i : ℕ) → i < 14 → large (packed x) i ≡ get_or (numbers x.core) i 0
  unfolding tail packed smalls larges
  large_is i h =
      let f = flat_mode x.core.here.mode in
      let p = smalls x.core.utf x.core.here.due f in
      let ws = numbers x.core in
      ap (λ (l : List ℕ). get 8 l (16 + 8 * i)) (append_assoc p (spread ws) tail) ∙ word_in p ws tail i (16 + 8 * i) refl h (narrow i)

  flat_is : flat_at (packed x) ≡ flat_mode x.core.here.mode
  unfolding flat_at packed smalls larges
  flat_is =
      let f = flat_mode x.core.here.mode in
      let a = large_is 5 (omega arith) in
      let b = large_is 6 (omega arith) in
      let c = large_is 7 (omega arith) in
      let d = large_is 8 (omega arith) in
      let e = large_is 9 (omega arith) in
      λ i. flat f.kind f.sort f.x f.y (a i) (b i) (c i) (d i) (e i)

  kinds_is : take depth_limit (drop 128 (packed x)) ≡ x.kinds
  unfolding packed depth_limit
  kinds_is =
      let n = numbered x.core (flat_mode x.core.here.mode) in
      ap (take 64) (drop_at n (x.kinds ++ replicate 448 0) 128 (numbered_length x.core (flat_mode x.core.here.mode)))
      ∙ take_at x.kinds (replicate 448 0) 64 k

  pub check_back : unpacked (packed x) ≡ x
  unfolding unpacked utf_at here_at packed smalls larges
  check_back =
      let u = x.core.utf in
      let h = x.core.here in
      let n = large_is 0 (omega arith) in
      let q = large_is 1 (omega arith) in
      let d = large_is 2 (omega arith) in
      let r = large_is 3 (omega arith) in
      let s = large_is 4 (omega arith) in
      let m = ap mode_of flat_is ∙ mode_back h.mode fit in
      λ i. check_of
      (core_of (n i) (utf u.left u.low u.high (q i) (bit_back u.broken i)) (here_of (m i) (due_back h.due i) (d i) (r i) (s i)))
      (kinds_is i)
