-- A time value (docs/FORMAT.md, 6), a byte at a time, as the check in parts keeps it: of its fields whether they are in
-- range so far. Assumes nothing.
use Rattle.std.specs.Prelude.{ℕ, zero, suc, ◌+◌, ◌*◌, ◌-◌, ◌%◌, Bool, cond, ◌&&◌, eqb, leb}
use Rattle.rules.specs.Between.Decided.{is_date}
use Rattle.meaning.specs.Letters.{ch}
use Rattle.meaning.specs.declared.Refusal.TheVariants.{NotGrammar, BadTime}
use Rattle.machine.specs.Numeric.{Dg, digit, other, dg_of, day_of, letter_d, space_d, other_d}
use Rattle.machine.specs.Numeric as Numeric
use Rattle.machine.specs.Numeric.{Sec, digit_s, point_s, zulu_s, plus_s, minus_s, other_s, sec_of}
use Rattle.arriving.specs.declared.states.Stamp.{Stamp}
use Rattle.arriving.specs.declared.states.Slot.{Slot}
use Rattle.arriving.specs.declared.states.Moment.{Moment}
use Rattle.arriving.specs.declared.states.Moment.TheVariants.{Field, Spaced, Point, Fraction, Zulu}
use Rattle.arriving.specs.declared.states.Mode.TheVariants.{Timing}
use Rattle.arriving.specs.declared.states.Out.{Out}
use Rattle.arriving.specs.declared.states.Out.TheVariants.{Takes, Stops, Breaks}

abbrev pub stamp : ℕ → Bool → Bool → Stamp
stamp q d g = record { first = q; dated = d; good = g }

-- its fields are in range, or not
abbrev pub judged : Stamp → Bool → Stamp
judged s g = stamp s.first s.dated g

-- one field more, of the value v
abbrev pub within : Stamp → ℕ → ℕ → Stamp
within s v most = judged s (s.good && leb v most)

abbrev pub goes_on : Stamp → Moment → Out
goes_on s m = Takes (Timing s m) 0

-- the first digit of a field is due
abbrev pub field_due : Stamp → Slot → Out
field_due s l = goes_on s (Field l 2 0)

-- the check is made at the end, and gives 5 at the first byte
abbrev pub tested_out : Stamp → Out
tested_out s = cond s.good Stops (Breaks (BadTime s.first))

-- a date goes on with a time after T, or after one space followed by a digit
abbrev pub next_day : Stamp → Numeric.Day → Out
next_day s letter_d = field_due s Slot.Hour
next_day s space_d = goes_on s Spaced
next_day s other_d = tested_out s

-- after a date's time of day
abbrev pub next_offset : Stamp → Sec → Out
next_offset s zulu_s = goes_on s Zulu
next_offset s plus_s = field_due s Slot.OffsetHour
next_offset s minus_s = field_due s Slot.OffsetHour
next_offset s digit_s = tested_out s
next_offset s point_s = tested_out s
next_offset s other_s = tested_out s

-- a local time has no offset
abbrev pub next_zone : Stamp → Sec → Out
next_zone s c = cond s.dated (next_offset s c) (tested_out s)

abbrev pub next_second : Stamp → Sec → Out
next_second s point_s = goes_on s Point
next_second s digit_s = next_zone s digit_s
next_second s zulu_s = next_zone s zulu_s
next_second s plus_s = next_zone s plus_s
next_second s minus_s = next_zone s minus_s
next_second s other_s = next_zone s other_s

abbrev pub next_fraction : Stamp → Sec → Out
next_fraction s digit_s = goes_on s Fraction
next_fraction s point_s = next_zone s point_s
next_fraction s zulu_s = next_zone s zulu_s
next_fraction s plus_s = next_zone s plus_s
next_fraction s minus_s = next_zone s minus_s
next_fraction s other_s = next_zone s other_s

-- no byte but this, and then the next field
abbrev pub only_then : Stamp → Slot → ℕ → ℕ → ℕ → Out
only_then s l mark p b = cond (eqb b mark) (field_due s l) (Breaks (NotGrammar p))

-- after a field of the value v
abbrev pub next_full : Stamp → Slot → ℕ → ℕ → ℕ → Out
next_full s (Slot.Month y) v p b = only_then s (Slot.Day y v) (ch "-") p b
next_full s (Slot.Day y m) v p b = next_day (judged s (is_date y m v)) (day_of b)
next_full s Slot.Hour v p b = only_then (within s v 23) Slot.Minute (ch ":") p b
next_full s Slot.Minute v p b = only_then (within s v 59) Slot.Second (ch ":") p b
next_full s Slot.Second v p b = next_second (within s v 59) (sec_of b)
next_full s Slot.OffsetHour v p b = only_then (within s v 23) Slot.OffsetMinute (ch ":") p b
next_full s Slot.OffsetMinute v p b = tested_out (within s v 59)

-- with n digits more to come; a field has two
abbrev pub next_field : Stamp → Slot → ℕ → ℕ → ℕ → ℕ → Dg → Out
next_field s l n v p b digit = goes_on s (Field l n (10 * (v % 10) + (b - ch "0")))
next_field s l n v p b other = Breaks (NotGrammar p)

abbrev pub next_spaced : Stamp → ℕ → Dg → Out
next_spaced s b digit = goes_on s (Field Slot.Hour 1 (b - ch "0"))
next_spaced s b other = tested_out s

abbrev pub next_point : Stamp → ℕ → Dg → Out
next_point s p digit = goes_on s Fraction
next_point s p other = Breaks (NotGrammar p)

unfoldable pub next_moment : Stamp → Moment → ℕ → ℕ → Out
next_moment s (Field l zero v) p b = next_full s l v p b
next_moment s (Field l (suc n) v) p b = next_field s l n v p b (dg_of b)
next_moment s Spaced p b = next_spaced s b (dg_of b)
next_moment s Point p b = next_point s p (dg_of b)
next_moment s Fraction p b = next_fraction s (sec_of b)
next_moment s Zulu p b = tested_out s
