-- A time value, a byte at a time: what a byte may bring, and that the check and the machine do the same. Assumes nothing.
use Prim.Native.Nat.{ℕ, zero, suc, ◌+◌, ◌*◌, ◌%◌, ◌^◌, ◌<◌}
use mathlib.Core.Path.{◌≡◌, refl, sym}
use mathlib.Core.Bool.{Bool, true, false, cond, ◌&&◌}
use native.Mathlib.Omega.{arith}
use native.Mathlib.Nat.{zero-add}
use lib.Dec.{eqb, leb}
use Rattle.std.specs.Prelude.{Result, Ok, Err, is_ok}
use Rattle.rules.specs.Rfc3339.{Dated}
use Rattle.rules.specs.declared.NoDate.{NoDate}
use Rattle.rules.specs.Between.Decided.{is_date}
use Rattle.rules.proofs.Outcomes.{date_done_lem, date_none}
use Rattle.rules.proofs.Months.{date_is, is_date_lem}
use Rattle.meaning.specs.Limits.{fraction_digits}
use Rattle.meaning.specs.Meaning.{Meaning}
use Rattle.meaning.specs.declared.Date.{Date}
use Rattle.meaning.specs.declared.Time.{Time}
use Rattle.meaning.specs.declared.Time.TheVariants.{LocalDate}
use Rattle.meaning.specs.declared.Refusal.TheVariants.{NotGrammar, BadTime}
use Rattle.machine.specs.Scan as Scan
use Rattle.machine.specs.Scan.{over}
use Rattle.machine.specs.Numeric as Numeric
use Rattle.machine.specs.Numeric.{St, When, alone, on, field, sec_point, nanos, ok_date, ok_clock, scan, Dg, dg_of, day_of, Sec, sec_of}
use Rattle.machine.specs.Numeric.{month, day, hour, minute, second, offset_hour, offset_minute, digit_s, point_s, zulu_s, plus_s, minus_s, other_s}
use Rattle.machine.proofs.Numeric.Rows.{dg_class, DgIs}
use Rattle.arriving.specs.declared.states.Stamp.{Stamp}
use Rattle.arriving.specs.declared.states.Slot.{Slot}
use Rattle.arriving.specs.declared.states.Moment.{Moment}
use Rattle.arriving.specs.declared.states.Moment.TheVariants.{Field, Spaced, Point, Fraction, Zulu}
use Rattle.arriving.specs.declared.states.Mode.{Mode}
use Rattle.arriving.specs.declared.states.Mode.TheVariants.{Timing}
use Rattle.arriving.specs.declared.states.Out.TheVariants.{Stops, Breaks}
use Rattle.arriving.specs.Between.Arriving.{sane_mode}
use Rattle.arriving.specs.Between.Times.{stamp, within, goes_on, field_due, tested_out, next_day, next_offset, next_zone, next_second}
use Rattle.arriving.specs.Between.Times.{next_fraction, only_then, next_full, next_field, next_spaced, next_point, next_moment}
use Rattle.arriving.proofs.Alike.{Alike}
use Rattle.arriving.proofs.Bounds.{Bounded}

-- ---- a date

-- what `date` answers is what the test computes
pub date_told : {y m d : ℕ} (r : Result (Unit {0}) NoDate) → Dated y m d r → is_ok r ≡ is_date y m d
date_told (Ok u) x = sym (date_is (date_done_lem x))
date_told {y} {m} {d} (Err e) x = go (is_date y m d) refl
  where
    go : (b : Bool) → is_date y m d ≡ b → false ≡ is_date y m d
    go true f = absurd (date_none x (is_date_lem f))
    go false f = sym f

-- ---- what a byte may bring

module _ (n : ℕ) where
  on_bounded : (s : Stamp) (m : Moment) → Bounded n (goes_on s m)
  unfolding sane_mode
  on_bounded s m = (refl, omega arith)

  tested_bounded : (s : Stamp) → Bounded n (tested_out s)
  tested_bounded s = go s.good
    where
      go : (g : Bool) → Bounded n (cond g Stops (Breaks (BadTime s.first)))
      go true = tt
      go false = tt

  day_bounded : (s : Stamp) (c : Numeric.Day) → Bounded n (next_day s c)
  day_bounded s Numeric.letter_d = on_bounded _ _
  day_bounded s Numeric.space_d = on_bounded _ _
  day_bounded s Numeric.other_d = tested_bounded s

  offset_bounded : (s : Stamp) (c : Sec) → Bounded n (next_offset s c)
  offset_bounded s zulu_s = on_bounded _ _
  offset_bounded s plus_s = on_bounded _ _
  offset_bounded s minus_s = on_bounded _ _
  offset_bounded s digit_s = tested_bounded s
  offset_bounded s point_s = tested_bounded s
  offset_bounded s other_s = tested_bounded s

  zone_bounded : (s : Stamp) (c : Sec) → Bounded n (next_zone s c)
  zone_bounded s c = go s.dated
    where
      go : (d : Bool) → Bounded n (cond d (next_offset s c) (tested_out s))
      go true = offset_bounded s c
      go false = tested_bounded s

  second_bounded : (s : Stamp) (c : Sec) → Bounded n (next_second s c)
  second_bounded s point_s = on_bounded _ _
  second_bounded s digit_s = zone_bounded s digit_s
  second_bounded s zulu_s = zone_bounded s zulu_s
  second_bounded s plus_s = zone_bounded s plus_s
  second_bounded s minus_s = zone_bounded s minus_s
  second_bounded s other_s = zone_bounded s other_s

  fraction_bounded : (s : Stamp) (c : Sec) → Bounded n (next_fraction s c)
  fraction_bounded s digit_s = on_bounded _ _
  fraction_bounded s point_s = zone_bounded s point_s
  fraction_bounded s zulu_s = zone_bounded s zulu_s
  fraction_bounded s plus_s = zone_bounded s plus_s
  fraction_bounded s minus_s = zone_bounded s minus_s
  fraction_bounded s other_s = zone_bounded s other_s

  only_bounded : (s : Stamp) (l : Slot) (mark p b : ℕ) → Bounded n (only_then s l mark p b)
  only_bounded s l mark p b = go (eqb b mark)
    where
      go : (t : Bool) → Bounded n (cond t (field_due s l) (Breaks (NotGrammar p)))
      go true = on_bounded _ _
      go false = tt

  full_bounded : (s : Stamp) (l : Slot) (v p b : ℕ) → Bounded n (next_full s l v p b)
  full_bounded s (Slot.Month y) v p b = only_bounded _ _ _ p b
  full_bounded s (Slot.Day y m) v p b = day_bounded _ (day_of b)
  full_bounded s Slot.Hour v p b = only_bounded _ _ _ p b
  full_bounded s Slot.Minute v p b = only_bounded _ _ _ p b
  full_bounded s Slot.Second v p b = second_bounded _ (sec_of b)
  full_bounded s Slot.OffsetHour v p b = only_bounded _ _ _ p b
  full_bounded s Slot.OffsetMinute v p b = tested_bounded (within s v 59)

  field_bounded : (s : Stamp) (l : Slot) (k v p b : ℕ) (c : Dg) → Bounded n (next_field s l k v p b c)
  field_bounded s l k v p b Numeric.digit = on_bounded _ _
  field_bounded s l k v p b Numeric.other = tt

  spaced_bounded : (s : Stamp) (b : ℕ) (c : Dg) → Bounded n (next_spaced s b c)
  spaced_bounded s b Numeric.digit = on_bounded _ _
  spaced_bounded s b Numeric.other = tested_bounded s

  point_bounded : (s : Stamp) (p : ℕ) (c : Dg) → Bounded n (next_point s p c)
  point_bounded s p Numeric.digit = on_bounded _ _
  point_bounded s p Numeric.other = tt

pub times_bounded : (s : Stamp) (m : Moment) (n p b : ℕ) → Bounded n (next_moment s m p b)
unfolding next_moment
times_bounded s (Field l zero v) n p b = full_bounded n s l v p b
times_bounded s (Field l (suc k) v) n p b = field_bounded n s l k v p b (dg_of b)
times_bounded s Spaced n p b = spaced_bounded n s b (dg_of b)
times_bounded s Point n p b = point_bounded n s p (dg_of b)
times_bounded s Fraction n p b = fraction_bounded n s (sec_of b)
times_bounded s Zulu n p b = tested_bounded n s

-- ---- the check's time value, and the machine's

-- a field's value with n digits to come
pub data Room : ℕ → ℕ → Type 0 where
  two : Room 2 0
  one : {v : ℕ} → v < 10 → Room 1 v
  whole : {v : ℕ} → Room 0 v

abbrev pub slot_of : Numeric.Slot → Slot
slot_of (month y) = Slot.Month y
slot_of (day y m) = Slot.Day y m
slot_of (hour d) = Slot.Hour
slot_of (minute w h) = Slot.Minute
slot_of (second w h m) = Slot.Second
slot_of (offset_hour d h m s n g) = Slot.OffsetHour
slot_of (offset_minute d h m s n g i) = Slot.OffsetMinute

-- whether a date stands before a time of day
abbrev pub dated_when : When → Bool
dated_when alone = false
dated_when (on d) = true

abbrev pub dated_slot : Numeric.Slot → Bool
dated_slot (month y) = true
dated_slot (day y m) = true
dated_slot (hour d) = true
dated_slot (minute w h) = dated_when w
dated_slot (second w h m) = dated_when w
dated_slot (offset_hour d h m s n g) = true
dated_slot (offset_minute d h m s n g i) = true

-- whether the fields up to the hour, the minute, the second are in range
abbrev pub good_hour : When → ℕ → Bool
good_hour alone h = leb h 23
good_hour (on d) h = ok_date d && leb h 23

abbrev pub good_minute : When → ℕ → ℕ → Bool
good_minute w h m = good_hour w h && leb m 59

abbrev pub good_second : When → ℕ → ℕ → ℕ → Bool
good_second w h m s = good_minute w h m && leb s 59

-- whether the fields before this one are in range
abbrev pub good_slot : Numeric.Slot → Bool
good_slot (month y) = true
good_slot (day y m) = true
good_slot (hour d) = ok_date d
good_slot (minute w h) = good_hour w h
good_slot (second w h m) = good_minute w h m
good_slot (offset_hour d h m s n g) = good_second (on d) h m s
good_slot (offset_minute d h m s n g i) = good_second (on d) h m s && leb i 23

pub data Timed (base : ℕ) : Stamp → Moment → St → Type 0 where
  inside : {q : ℕ} {l : Numeric.Slot} {n v : ℕ} → Room n v → Timed base (stamp (base + q) (dated_slot l) (good_slot l)) (Field (slot_of l) n v) (field q l n v)
  spaced : {q : ℕ} {d : Date} → Timed base (stamp (base + q) true (ok_date d)) Spaced (Numeric.spaced q d)
  pointed : {q : ℕ} {w : When} {h m s : ℕ} → Timed base (stamp (base + q) (dated_when w) (good_second w h m s)) Point (sec_point q w h m s)
  parted : {q : ℕ} {w : When} {h m s k v : ℕ} → Timed base (stamp (base + q) (dated_when w) (good_second w h m s)) Fraction (nanos q w h m s k v)
  zulu : {q : ℕ} {d : Date} {h m s n : ℕ} → Timed base (stamp (base + q) true (good_second (on d) h m s)) Zulu (Numeric.zulu q d h m s n)

pub year_stands : {base q y : ℕ} → y < 10000 → Timed base (stamp (base + q) true true) (Field (Slot.Month y) 2 0) (field q (month y) 2 0)
year_stands {y = y} l = inside {l = month y} two

pub hour_stands : {base q h : ℕ} → h < 100 → Timed base (stamp (base + q) false (leb h 23)) (Field Slot.Minute 2 0) (field q (minute alone h) 2 0)
hour_stands {h = h} l = inside {l = minute alone h} two

-- ---- what a byte does to both

-- the tests one after the other, and the machine's
local_good : (h m s : ℕ) → good_second alone h m s ≡ ok_clock h m s
local_good h m s = go (leb h 23)
  where
    go : (a : Bool) → ((a && leb m 59) && leb s 59) ≡ (a && (leb m 59 && leb s 59))
    go true = refl
    go false = refl

dated_good : (d : Date) (h m s : ℕ) → good_second (on d) h m s ≡ (ok_date d && ok_clock h m s)
dated_good d h m s = go (ok_date d) (leb h 23)
  where
    go : (x a : Bool) → (((x && a) && leb m 59) && leb s 59) ≡ (x && (a && (leb m 59 && leb s 59)))
    go true true = refl
    go true false = refl
    go false a = refl

offset_good : (d : Date) (h m s i v : ℕ) → ((good_second (on d) h m s && leb i 23) && leb v 59) ≡ ((ok_date d && ok_clock h m s) && (leb i 23 && leb v 59))
offset_good d h m s i v = rw (dated_good d h m s) (go (ok_date d && ok_clock h m s))
  where
    go : (x : Bool) → ((x && leb i 23) && leb v 59) ≡ (x && (leb i 23 && leb v 59))
    go true = refl
    go false = refl

module _ (Is : Mode → St → ℕ → Type 0) (Gives : Meaning → ℕ → Type 0) (base : ℕ)
    (stands : (s : Stamp) (m : Moment) (st : St) → Timed base s m st → Is (Timing s m) st 0) (gives : (t : Time) → Gives (Meaning.time t) 0) where
  on_alike : {s : Stamp} {m : Moment} {st : St} → Timed base s m st → Alike Is Gives base 0 (goes_on s m) (Scan.takes st)
  on_alike t = Alike.takes (stands _ _ _ t)

  tested_alike : (q : ℕ) (d : Bool) {g g' : Bool} (t : Time) → g ≡ g' → Alike Is Gives base 0 (tested_out (stamp (base + q) d g)) (Numeric.tested q g' t)
  tested_alike q d {g} {g'} t e = rw e (go g')
    where
      go : (x : Bool) → Alike Is Gives base 0 (cond x Stops (Breaks (BadTime (base + q)))) (Numeric.tested q x t)
      go true = Alike.stops (gives t)
      go false = Alike.breaks refl

  only_alike : (p mark b : ℕ) {s : Stamp} {l : Slot} {st : St} → Timed base s (Field l 2 0) st
      → Alike Is Gives base 0 (only_then s l mark (base + p) b) (Numeric.only p mark st b)
  only_alike p mark b {s} {l} {st} t = go (eqb b mark)
    where
      go : (x : Bool) → Alike Is Gives base 0 (cond x (field_due s l) (Breaks (NotGrammar (base + p))))
          (cond x (Scan.takes st) (Scan.breaks (NotGrammar p)))
      go true = on_alike t
      go false = Alike.breaks refl

  day_alike : (q : ℕ) (d : Date) (c : Numeric.Day) → Alike Is Gives base 0 (next_day (stamp (base + q) true (ok_date d)) c) (Numeric.on_day q d c)
  day_alike q d Numeric.letter_d = on_alike (inside {l = hour d} two)
  day_alike q d Numeric.space_d = on_alike spaced
  day_alike q d Numeric.other_d = tested_alike q true {g = ok_date d} (LocalDate d) refl

  module _ (q : ℕ) where
    clock_alike : (w : When) (h m s n : ℕ) → Alike Is Gives base 0 (tested_out (stamp (base + q) (dated_when w) (good_second w h m s)))
        (Numeric.clock_done q w h m s n)
    clock_alike alone h m s n = tested_alike q false _ (local_good h m s)
    clock_alike (on d) h m s n = tested_alike q true _ (dated_good d h m s)

    zone_alike : (w : When) (h m s n : ℕ) (c : Sec)
        → Alike Is Gives base 0 (next_zone (stamp (base + q) (dated_when w) (good_second w h m s)) c) (Numeric.on_zone q w h m s n c)
    zone_alike alone h m s n c = clock_alike alone h m s n
    zone_alike (on d) h m s n zulu_s = on_alike zulu
    zone_alike (on d) h m s n plus_s = on_alike (inside {l = offset_hour d h m s n false} two)
    zone_alike (on d) h m s n minus_s = on_alike (inside {l = offset_hour d h m s n true} two)
    zone_alike (on d) h m s n digit_s = clock_alike (on d) h m s n
    zone_alike (on d) h m s n point_s = clock_alike (on d) h m s n
    zone_alike (on d) h m s n other_s = clock_alike (on d) h m s n

    second_alike : (w : When) (h m s : ℕ) (c : Sec)
        → Alike Is Gives base 0 (next_second (stamp (base + q) (dated_when w) (good_second w h m s)) c) (Numeric.on_sec q w h m s c)
    second_alike w h m s point_s = on_alike pointed
    second_alike w h m s digit_s = zone_alike w h m s 0 digit_s
    second_alike w h m s zulu_s = zone_alike w h m s 0 zulu_s
    second_alike w h m s plus_s = zone_alike w h m s 0 plus_s
    second_alike w h m s minus_s = zone_alike w h m s 0 minus_s
    second_alike w h m s other_s = zone_alike w h m s 0 other_s

    fraction_alike : (w : When) (h m s k v b : ℕ) (c : Sec)
        → Alike Is Gives base 0 (next_fraction (stamp (base + q) (dated_when w) (good_second w h m s)) c) (Numeric.on_nanos q w h m s k v b c)
    fraction_alike w h m s zero v b digit_s = on_alike parted
    fraction_alike w h m s (suc k) v b digit_s = on_alike parted
    fraction_alike w h m s k v b point_s = zone_alike w h m s (v * 10 ^ k) point_s
    fraction_alike w h m s k v b zulu_s = zone_alike w h m s (v * 10 ^ k) zulu_s
    fraction_alike w h m s k v b plus_s = zone_alike w h m s (v * 10 ^ k) plus_s
    fraction_alike w h m s k v b minus_s = zone_alike w h m s (v * 10 ^ k) minus_s
    fraction_alike w h m s k v b other_s = zone_alike w h m s (v * 10 ^ k) other_s

    full_alike : (p : ℕ) (l : Numeric.Slot) (v b : ℕ)
        → Alike Is Gives base 0 (next_full (stamp (base + q) (dated_slot l) (good_slot l)) (slot_of l) v (base + p) b) (Numeric.on_full p q l v b)
    full_alike p (month y) v b = only_alike p _ b (inside {l = day y v} two)
    full_alike p (day y m) v b = day_alike q (Numeric.dated y m v) (day_of b)
    full_alike p (hour d) v b = only_alike p _ b (inside {l = minute (on d) v} two)
    full_alike p (minute w h) v b = only_alike p _ b (inside {l = second w h v} two)
    full_alike p (second w h m) v b = second_alike w h m v (sec_of b)
    full_alike p (offset_hour d h m s n g) v b = only_alike p _ b (inside {l = offset_minute d h m s n g v} two)
    full_alike p (offset_minute d h m s n g i) v b = tested_alike q true _ (offset_good d h m s i v)

    field_alike : (p : ℕ) (l : Numeric.Slot) {n v b : ℕ} {c : Dg} → Room (suc n) v → DgIs b c
        → Alike Is Gives base 0 (next_field (stamp (base + q) (dated_slot l) (good_slot l)) (slot_of l) n v (base + p) b c) (Numeric.on_field p q l n v b c)
    field_alike p l two (DgIs.digit i) = on_alike (inside {l = l} (one (omega arith)))
    field_alike p l {v = v} (one h) (DgIs.digit i) = let e : v % 10 ≡ v = omega arith in rw e (on_alike (inside {l = l} whole))
    field_alike p l two DgIs.other = Alike.breaks refl
    field_alike p l (one h) DgIs.other = Alike.breaks refl

    spaced_alike : (d : Date) {b : ℕ} {c : Dg} → DgIs b c → Alike Is Gives base 0 (next_spaced (stamp (base + q) true (ok_date d)) b c)
        (Numeric.on_spaced q d b c)
    spaced_alike d (DgIs.digit i) = rw zero-add (on_alike (inside {l = hour d} (one (omega arith))))
    spaced_alike d DgIs.other = tested_alike q true {g = ok_date d} (LocalDate d) refl

    point_alike : (p : ℕ) (w : When) (h m s b : ℕ) (c : Dg)
        → Alike Is Gives base 0 (next_point (stamp (base + q) (dated_when w) (good_second w h m s)) (base + p) c) (Numeric.on_sec_point p q w h m s b c)
    point_alike p w h m s b Numeric.digit = fraction_alike w h m s fraction_digits 0 b digit_s
    point_alike p w h m s b Numeric.other = Alike.breaks refl

  pub times_alike : (s : Stamp) (m : Moment) (st : St) (p b : ℕ) → Timed base s m st → Alike Is Gives base 0 (next_moment s m (base + p) b) (scan p st b)
  unfolding next_moment
  times_alike s m st p b (inside {q} {l} whole) = full_alike q p l _ b
  times_alike s m st p b (inside {q} {l} two) = field_alike q p l two (dg_class b)
  times_alike s m st p b (inside {q} {l} (one h)) = field_alike q p l (one h) (dg_class b)
  times_alike s m st p b (spaced {q} {d}) = spaced_alike q d (dg_class b)
  times_alike s m st p b (pointed {q} {w} {h = x} {m = y} {s = z}) = point_alike q p w x y z b (dg_of b)
  times_alike s m st p b (parted {q} {w} {h = x} {m = y} {s = z} {k} {v}) = fraction_alike q w x y z k v b (sec_of b)
  times_alike s m st p b (zulu {q} {d} {h = x} {m = y} {s = z}) = tested_alike q true _ (dated_good d x y z)

-- ---- the text's end

full_end_lem : (p q : ℕ) (l : Numeric.Slot) (v : ℕ) → Numeric.on_full p q l v over ≡ Numeric.on_full p q l v 0
full_end_lem p q (month y) v = refl
full_end_lem p q (day y m) v = refl
full_end_lem p q (hour d) v = refl
full_end_lem p q (minute w h) v = refl
full_end_lem p q (second w h m) v = refl
full_end_lem p q (offset_hour d h m s n g) v = refl
full_end_lem p q (offset_minute d h m s n g i) v = refl

nanos_end : (q : ℕ) (w : When) (h m s k v : ℕ) → Numeric.on_nanos q w h m s k v over other_s ≡ Numeric.on_nanos q w h m s k v 0 other_s
nanos_end q w h m s zero v = refl
nanos_end q w h m s (suc k) v = refl

pub time_end : {base : ℕ} {s : Stamp} {m : Moment} {st : St} (p : ℕ) → Timed base s m st → scan p st over ≡ scan p st 0
time_end p (inside {q} {l} whole) = full_end_lem p q l _
time_end p (inside two) = refl
time_end p (inside (one h)) = refl
time_end p spaced = refl
time_end p pointed = refl
time_end p (parted {q} {w} {h = x} {m = y} {s = z} {k} {v}) = nanos_end q w x y z k v
time_end p zulu = refl
