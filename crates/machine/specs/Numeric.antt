-- The scanner of a number or a time value (docs/FORMAT.md, 5 and 6). Digits with no sign stay open as number and as
-- time while both are possible; a date goes on with a time after T, or after one space followed by a digit. Assumes
-- nothing.
use Rattle.std.specs.Prelude.{ℕ, zero, suc, ◌+◌, ◌*◌, ◌-◌, ◌/◌, ◌%◌, ◌^◌, Bool, true, false, cond, ◌&&◌, List, [], ◌∷◌}
use Rattle.std.specs.Prelude.{ltb, leb, eqb, ℤ, pos, negsuc}
use Rattle.rules.specs.Between.Decided.{is_date}
use Rattle.meaning.specs.declared.Number.{Number}
use Rattle.meaning.specs.declared.Number.TheVariants.{Finite, NotANumber, Infinite}
use Rattle.meaning.specs.declared.Date.{Date}
use Rattle.meaning.specs.declared.Time.{Time}
use Rattle.meaning.specs.declared.Time.TheVariants.{LocalDate, LocalTime, LocalDateTime, OffsetDateTime}
use Rattle.meaning.specs.declared.Refusal.TheVariants.{NotGrammar, BadTime, BadNumber}
use Rattle.meaning.specs.Letters.{letters, ch}
use Rattle.meaning.specs.Limits.{coefficient_limit, power_limit, fraction_digits}
use Rattle.meaning.specs.Clock.{time_of_day}
use Rattle.meaning.specs.Meaning.{Meaning}
use Rattle.grammar.specs.Numbers.{raised, lowered}
use Rattle.grammar.specs.Times.{signed}
use Rattle.machine.specs.Scan.{Out, takes, stops, breaks}

-- ---- states
-- q: the item's first place; g: minus; m: the value so far; f: how many fraction digits it has; s: the exponent's
-- minus; e: the exponent. d: a date; w: what stands before a time of day; h, m, s, n: hour, minute, second,
-- nanoseconds.

-- what stands before a time of day
pub data When : Type 0 where
  alone : When
  on : Date → When

-- a field of two digits, with the fields before it
pub data Slot : Type 0 where
  month : ℕ → Slot
  day : ℕ → ℕ → Slot
  hour : Date → Slot
  minute : When → ℕ → Slot
  second : When → ℕ → ℕ → Slot
  offset_hour : Date → ℕ → ℕ → ℕ → ℕ → Bool → Slot
  offset_minute : Date → ℕ → ℕ → ℕ → ℕ → Bool → ℕ → Slot

-- how many digits with no sign
pub data Len : Type 0 where
  d1 d2 d3 d4 : Len

pub data St : Type 0 where
  begin : St
  sign : ℕ → Bool → St
  -- what is left of a word, and what it means
  word : List ℕ → Number → St
  -- a first 0, under a sign
  nought : ℕ → Bool → St
  -- the integer's value
  int : ℕ → Bool → ℕ → St
  -- a point with no digit before it
  point : ℕ → Bool → St
  -- the value with the fraction's digits, and how many these are
  frac : ℕ → Bool → ℕ → ℕ → St
  -- after the letter e; after its sign; after its digits, with their value
  exp : ℕ → Bool → ℕ → ℕ → St
  exp_sign : ℕ → Bool → ℕ → ℕ → Bool → St
  exp_digits : ℕ → Bool → ℕ → ℕ → Bool → ℕ → St
  -- after 0x; after its digits, with their value
  hex_mark : ℕ → Bool → St
  hex : ℕ → Bool → ℕ → St
  -- digits with no sign, number or time: how many; whether the first is 0; their value
  both : ℕ → Len → Bool → ℕ → St
  -- n more digits of a field; the value so far
  field : ℕ → Slot → ℕ → ℕ → St
  -- a date and one space
  spaced : ℕ → Date → St
  -- hour, minute, second and a point; with a fraction, of which n more digits count, and its value
  sec_point : ℕ → When → ℕ → ℕ → ℕ → St
  nanos : ℕ → When → ℕ → ℕ → ℕ → ℕ → ℕ → St
  -- hour, minute, second, nanoseconds and a Z
  zulu : ℕ → Date → ℕ → ℕ → ℕ → ℕ → St

abbrev pub Res : Type 0
Res = Out St Meaning

-- ---- a byte, as each kind of state tells it apart: the first row that holds it decides

pub record Row (A : Type 0) : Type 0 where
  pub low : ℕ
  pub high : ℕ
  pub act : A

module _ {A : Type 0} where
  abbrev pub row : ℕ → ℕ → A → Row A
  row l h a = record { low = l; high = h; act = a }

  abbrev pub one : ℕ → A → Row A
  one l a = record { low = l; high = l; act = a }

  abbrev pub pick : List (Row A) → A → ℕ → A
  pick [] d b = d
  pick (r ∷ rs) d b = cond (leb r.low b && leb b r.high) r.act (pick rs d b)

-- where only a digit can come
pub data Dg : Type 0 where
  digit other : Dg

abbrev pub dg_table : List (Row Dg)
dg_table = row (ch "0") (ch "9") digit ∷ []

abbrev pub dg_of : ℕ → Dg
dg_of = pick dg_table other

-- the first byte, or the first after a sign
pub data Fst : Type 0 where
  nought_f digit_f plus_f minus_f point_f n_f i_f other_f : Fst

abbrev pub fst_table : List (Row Fst)
fst_table = row (ch "1") (ch "9") digit_f ∷ one (ch "0") nought_f ∷ one (ch "+") plus_f ∷ one (ch "-") minus_f ∷
    one (ch ".") point_f ∷ one (ch "N") n_f ∷ one (ch "I") i_f ∷ []

abbrev pub fst_of : ℕ → Fst
fst_of = pick fst_table other_f

-- after a number's digits
pub data Num : Type 0 where
  digit_n point_n e_n x_n colon_n minus_n other_n : Num

abbrev pub num_table : List (Row Num)
num_table = row (ch "0") (ch "9") digit_n ∷ one (ch ".") point_n ∷ one (ch "e") e_n ∷ one (ch "E") e_n ∷
    one (ch "x") x_n ∷
    one (ch "X") x_n ∷ one (ch ":") colon_n ∷ one (ch "-") minus_n ∷ []

abbrev pub num_of : ℕ → Num
num_of = pick num_table other_n

-- after the letter e
pub data ExpB : Type 0 where
  digit_e plus_e minus_e other_e : ExpB

abbrev pub exp_table : List (Row ExpB)
exp_table = row (ch "0") (ch "9") digit_e ∷ one (ch "+") plus_e ∷ one (ch "-") minus_e ∷ []

abbrev pub exp_of : ℕ → ExpB
exp_of = pick exp_table other_e

-- where only a hex digit can come: its value
pub data HexB : Type 0 where
  value : ℕ → HexB
  no_hex : HexB

abbrev pub hex_table : ℕ → List (Row HexB)
hex_table b = row (ch "0") (ch "9") (value (b - ch "0")) ∷ row (ch "A") (ch "F") (value (b - ch "A" + 10)) ∷
    row (ch "a") (ch "f") (value (b - ch "a" + 10)) ∷ []

abbrev pub hex_of : ℕ → HexB
hex_of b = pick (hex_table b) no_hex b

-- after a date: the letter T in either case, a space
pub data Day : Type 0 where
  letter_d space_d other_d : Day

abbrev pub day_table : List (Row Day)
day_table = one (ch "T") letter_d ∷ one (ch "t") letter_d ∷ one (ch " ") space_d ∷ []

abbrev pub day_of : ℕ → Day
day_of = pick day_table other_d

-- after a second: among others the letter Z in either case
pub data Sec : Type 0 where
  digit_s point_s zulu_s plus_s minus_s other_s : Sec

abbrev pub sec_table : List (Row Sec)
sec_table = row (ch "0") (ch "9") digit_s ∷ one (ch ".") point_s ∷ one (ch "Z") zulu_s ∷ one (ch "z") zulu_s ∷
    one (ch "+") plus_s ∷ one (ch "-") minus_s ∷ []

abbrev pub sec_of : ℕ → Sec
sec_of = pick sec_table other_s

-- ---- the check of a number: m × 10 ^ up / 10 ^ dn as sign, coefficient and power of ten, or 6 at its first byte

-- m without the zeros at its end, and z with how many they were. The first number is fuel.
unfoldable pub strip : ℕ → ℕ → ℕ → ℕ × ℕ
strip zero m z = (m, z)
strip (suc n) m z = let r = strip n (m / 10) (suc z) in cond (eqb (m % 10) 0) r (m, z)

abbrev pub finite : Bool → ℕ → ℤ → Res
finite g c n = stops (Meaning.number (Finite g c n))

-- c × 10 ^ u / 10 ^ d
abbrev pub ranged : ℕ → Bool → ℕ → ℕ → ℕ → Res
ranged q g c u d = cond (leb d u) (cond (leb (u - d) power_limit) (finite g c (pos (u - d))) (breaks (BadNumber q)))
    (cond (leb (d - u) power_limit) (finite g c (negsuc (d - u - 1))) (breaks (BadNumber q)))

abbrev pub checked : ℕ → Bool → ℕ → ℕ → ℕ → Res
checked q g c u d = cond (ltb c coefficient_limit) (ranged q g c u d) (breaks (BadNumber q))

unfoldable pub settle : ℕ → Bool → ℕ → ℕ → ℕ → Res
settle q g m up dn = cond (eqb m 0) (finite g 0 (pos 0)) (checked q g (strip m m 0).0 ((strip m m 0).1 + up) dn)

-- ---- numbers

-- one more digit
abbrev pub dig : ℕ → ℕ → ℕ
dig v b = 10 * v + (b - ch "0")

abbrev pub nan : Res
nan = takes (word (letters "aN") NotANumber)

abbrev pub infinity : Bool → Res
infinity g = takes (word (letters "nfinity") (Infinite g))

abbrev pub on_sign : ℕ → ℕ → Bool → ℕ → Fst → Res
on_sign p q g b nought_f = takes (nought q g)
on_sign p q g b digit_f = takes (int q g (dig 0 b))
on_sign p q g b point_f = takes (point q g)
on_sign p q g b n_f = nan
on_sign p q g b i_f = infinity g
on_sign p q g b plus_f = breaks (NotGrammar p)
on_sign p q g b minus_f = breaks (NotGrammar p)
on_sign p q g b other_f = breaks (NotGrammar p)

abbrev pub on_begin : ℕ → ℕ → Fst → Res
on_begin p b nought_f = takes (both p d1 true 0)
on_begin p b digit_f = takes (both p d1 false (dig 0 b))
on_begin p b point_f = takes (point p false)
on_begin p b n_f = nan
on_begin p b i_f = infinity false
on_begin p b plus_f = takes (sign p false)
on_begin p b minus_f = takes (sign p true)
on_begin p b other_f = breaks (NotGrammar p)

abbrev pub on_nought : ℕ → Bool → Num → Res
on_nought q g point_n = takes (frac q g 0 0)
on_nought q g e_n = takes (exp q g 0 0)
on_nought q g x_n = takes (hex_mark q g)
on_nought q g digit_n = settle q g 0 0 0
on_nought q g colon_n = settle q g 0 0 0
on_nought q g minus_n = settle q g 0 0 0
on_nought q g other_n = settle q g 0 0 0

abbrev pub on_int : ℕ → Bool → ℕ → ℕ → Num → Res
on_int q g m b digit_n = takes (int q g (dig m b))
on_int q g m b point_n = takes (frac q g m 0)
on_int q g m b e_n = takes (exp q g m 0)
on_int q g m b x_n = settle q g m 0 0
on_int q g m b colon_n = settle q g m 0 0
on_int q g m b minus_n = settle q g m 0 0
on_int q g m b other_n = settle q g m 0 0

abbrev pub on_frac : ℕ → Bool → ℕ → ℕ → ℕ → Num → Res
on_frac q g m f b digit_n = takes (frac q g (dig m b) (suc f))
on_frac q g m f b e_n = takes (exp q g m f)
on_frac q g m f b point_n = settle q g m 0 f
on_frac q g m f b x_n = settle q g m 0 f
on_frac q g m f b colon_n = settle q g m 0 f
on_frac q g m f b minus_n = settle q g m 0 f
on_frac q g m f b other_n = settle q g m 0 f

abbrev pub on_point : ℕ → ℕ → Bool → ℕ → Dg → Res
on_point p q g b digit = takes (frac q g (dig 0 b) 1)
on_point p q g b other = breaks (NotGrammar p)

abbrev pub on_exp : ℕ → ℕ → Bool → ℕ → ℕ → ℕ → ExpB → Res
on_exp p q g m f b digit_e = takes (exp_digits q g m f false (dig 0 b))
on_exp p q g m f b plus_e = takes (exp_sign q g m f false)
on_exp p q g m f b minus_e = takes (exp_sign q g m f true)
on_exp p q g m f b other_e = breaks (NotGrammar p)

abbrev pub on_exp_sign : ℕ → ℕ → Bool → ℕ → ℕ → Bool → ℕ → Dg → Res
on_exp_sign p q g m f s b digit = takes (exp_digits q g m f s (dig 0 b))
on_exp_sign p q g m f s b other = breaks (NotGrammar p)

abbrev pub scaled : ℕ → Bool → ℕ → ℕ → Bool → ℕ → Res
scaled q g m f s e = settle q g m (raised s e) (f + lowered s e)

abbrev pub on_exp_digits : ℕ → Bool → ℕ → ℕ → Bool → ℕ → ℕ → Dg → Res
on_exp_digits q g m f s e b digit = takes (exp_digits q g m f s (dig e b))
on_exp_digits q g m f s e b other = scaled q g m f s e

abbrev pub on_hex_mark : ℕ → ℕ → Bool → HexB → Res
on_hex_mark p q g (value d) = takes (hex q g (16 * 0 + d))
on_hex_mark p q g no_hex = breaks (NotGrammar p)

-- a hex number must itself be below 2^64
abbrev pub on_hex : ℕ → Bool → ℕ → HexB → Res
on_hex q g v (value d) = takes (hex q g (16 * v + d))
on_hex q g v no_hex = cond (ltb v coefficient_limit) (settle q g v 0 0) (breaks (BadNumber q))

-- ---- times: the check of a time value is made at its end, and gives 5 at its first byte

abbrev pub ok_date : Date → Bool
ok_date d = is_date d.year d.month d.day

abbrev pub ok_clock : ℕ → ℕ → ℕ → Bool
ok_clock h m s = leb h 23 && (leb m 59 && leb s 59)

abbrev pub tested : ℕ → Bool → Time → Res
tested q ok t = cond ok (stops (Meaning.time t)) (breaks (BadTime q))

abbrev pub date_done : ℕ → Date → Res
date_done q d = tested q (ok_date d) (LocalDate d)

abbrev pub clock_done : ℕ → When → ℕ → ℕ → ℕ → ℕ → Res
clock_done q alone h m s n = tested q (ok_clock h m s) (LocalTime (time_of_day h m s n))
clock_done q (on d) h m s n = tested q (ok_date d && ok_clock h m s) (LocalDateTime d (time_of_day h m s n))

abbrev pub on_day : ℕ → Date → Day → Res
on_day q d letter_d = takes (field q (hour d) 2 0)
on_day q d space_d = takes (spaced q d)
on_day q d other_d = date_done q d

-- a local time has no offset
abbrev pub on_zone : ℕ → When → ℕ → ℕ → ℕ → ℕ → Sec → Res
on_zone q alone h m s n c = clock_done q alone h m s n
on_zone q (on d) h m s n zulu_s = takes (zulu q d h m s n)
on_zone q (on d) h m s n plus_s = takes (field q (offset_hour d h m s n false) 2 0)
on_zone q (on d) h m s n minus_s = takes (field q (offset_hour d h m s n true) 2 0)
on_zone q (on d) h m s n digit_s = clock_done q (on d) h m s n
on_zone q (on d) h m s n point_s = clock_done q (on d) h m s n
on_zone q (on d) h m s n other_s = clock_done q (on d) h m s n

abbrev pub on_sec : ℕ → When → ℕ → ℕ → ℕ → Sec → Res
on_sec q w h m s point_s = takes (sec_point q w h m s)
on_sec q w h m s digit_s = on_zone q w h m s 0 digit_s
on_sec q w h m s zulu_s = on_zone q w h m s 0 zulu_s
on_sec q w h m s plus_s = on_zone q w h m s 0 plus_s
on_sec q w h m s minus_s = on_zone q w h m s 0 minus_s
on_sec q w h m s other_s = on_zone q w h m s 0 other_s

-- k more digits count; those after them are cut off
abbrev pub on_nanos : ℕ → When → ℕ → ℕ → ℕ → ℕ → ℕ → ℕ → Sec → Res
on_nanos q w h m s zero v b digit_s = takes (nanos q w h m s zero v)
on_nanos q w h m s (suc k) v b digit_s = takes (nanos q w h m s k (dig v b))
on_nanos q w h m s k v b point_s = on_zone q w h m s (v * 10 ^ k) point_s
on_nanos q w h m s k v b zulu_s = on_zone q w h m s (v * 10 ^ k) zulu_s
on_nanos q w h m s k v b plus_s = on_zone q w h m s (v * 10 ^ k) plus_s
on_nanos q w h m s k v b minus_s = on_zone q w h m s (v * 10 ^ k) minus_s
on_nanos q w h m s k v b other_s = on_zone q w h m s (v * 10 ^ k) other_s

abbrev pub dated : ℕ → ℕ → ℕ → Date
dated y m d = record { year = y; month = m; day = d }

-- no byte but c, and then the state s
abbrev pub only : ℕ → ℕ → St → ℕ → Res
only p c s b = cond (eqb b c) (takes s) (breaks (NotGrammar p))

-- after a field
abbrev pub on_full : ℕ → ℕ → Slot → ℕ → ℕ → Res
on_full p q (month y) v b = only p (ch "-") (field q (day y v) 2 0) b
on_full p q (day y m) v b = on_day q (dated y m v) (day_of b)
on_full p q (hour d) v b = only p (ch ":") (field q (minute (on d) v) 2 0) b
on_full p q (minute w h) v b = only p (ch ":") (field q (second w h v) 2 0) b
on_full p q (second w h m) v b = on_sec q w h m v (sec_of b)
on_full p q (offset_hour d h m s n g) v b = only p (ch ":") (field q (offset_minute d h m s n g v) 2 0) b
on_full p q (offset_minute d h m s n g i) v b = tested q ((ok_date d && ok_clock h m s) && (leb i 23 && leb v 59))
    (OffsetDateTime d (time_of_day h m s n) (signed g (i * 60 + v)))

abbrev pub on_field : ℕ → ℕ → Slot → ℕ → ℕ → ℕ → Dg → Res
on_field p q l n v b digit = takes (field q l n (dig v b))
on_field p q l n v b other = breaks (NotGrammar p)

abbrev pub on_spaced : ℕ → Date → ℕ → Dg → Res
on_spaced q d b digit = takes (field q (hour d) 1 (dig 0 b))
on_spaced q d b other = date_done q d

abbrev pub on_sec_point : ℕ → ℕ → When → ℕ → ℕ → ℕ → ℕ → Dg → Res
on_sec_point p q w h m s b digit = on_nanos q w h m s fraction_digits 0 b digit_s
on_sec_point p q w h m s b other = breaks (NotGrammar p)

-- ---- digits with no sign

-- as a number: what `on_int` or, after a first 0, `on_nought` does; more digits after a first 0 are no number
abbrev pub as_number : ℕ → ℕ → Len → Bool → ℕ → ℕ → Num → Res
as_number p q k false v b c = on_int q false v b c
as_number p q d1 true v b c = on_nought q false c
as_number p q d2 true v b c = breaks (NotGrammar p)
as_number p q d3 true v b c = breaks (NotGrammar p)
as_number p q d4 true v b c = breaks (NotGrammar p)

abbrev pub on_digit : ℕ → ℕ → Len → Bool → ℕ → ℕ → Res
on_digit p q d1 z v b = takes (both q d2 z (dig v b))
on_digit p q d2 z v b = takes (both q d3 z (dig v b))
on_digit p q d3 z v b = takes (both q d4 z (dig v b))
on_digit p q d4 z v b = as_number p q d4 z v b digit_n

-- two digits may be an hour
abbrev pub on_colon : ℕ → ℕ → Len → Bool → ℕ → ℕ → Res
on_colon p q d1 z v b = as_number p q d1 z v b colon_n
on_colon p q d2 z v b = takes (field q (minute alone v) 2 0)
on_colon p q d3 z v b = as_number p q d3 z v b colon_n
on_colon p q d4 z v b = as_number p q d4 z v b colon_n

-- four digits may be a year
abbrev pub on_minus : ℕ → ℕ → Len → Bool → ℕ → ℕ → Res
on_minus p q d1 z v b = as_number p q d1 z v b minus_n
on_minus p q d2 z v b = as_number p q d2 z v b minus_n
on_minus p q d3 z v b = as_number p q d3 z v b minus_n
on_minus p q d4 z v b = takes (field q (month v) 2 0)

abbrev pub on_both : ℕ → ℕ → Len → Bool → ℕ → ℕ → Num → Res
on_both p q k z v b digit_n = on_digit p q k z v b
on_both p q k z v b colon_n = on_colon p q k z v b
on_both p q k z v b minus_n = on_minus p q k z v b
on_both p q k z v b point_n = as_number p q k z v b point_n
on_both p q k z v b e_n = as_number p q k z v b e_n
on_both p q k z v b x_n = as_number p q k z v b x_n
on_both p q k z v b other_n = as_number p q k z v b other_n

-- ---- what the byte b does at the place p

abbrev pub scan : ℕ → St → ℕ → Res
scan p begin b = on_begin p b (fst_of b)
scan p (sign q g) b = on_sign p q g b (fst_of b)
scan p (word [] n) b = stops (Meaning.number n)
scan p (word (c ∷ a) n) b = only p c (word a n) b
scan p (nought q g) b = on_nought q g (num_of b)
scan p (int q g m) b = on_int q g m b (num_of b)
scan p (point q g) b = on_point p q g b (dg_of b)
scan p (frac q g m f) b = on_frac q g m f b (num_of b)
scan p (exp q g m f) b = on_exp p q g m f b (exp_of b)
scan p (exp_sign q g m f s) b = on_exp_sign p q g m f s b (dg_of b)
scan p (exp_digits q g m f s e) b = on_exp_digits q g m f s e b (dg_of b)
scan p (hex_mark q g) b = on_hex_mark p q g (hex_of b)
scan p (hex q g v) b = on_hex q g v (hex_of b)
scan p (both q k z v) b = on_both p q k z v b (num_of b)
scan p (field q l zero v) b = on_full p q l v b
scan p (field q l (suc n) v) b = on_field p q l n v b (dg_of b)
scan p (spaced q d) b = on_spaced q d b (dg_of b)
scan p (sec_point q w h m s) b = on_sec_point p q w h m s b (dg_of b)
scan p (nanos q w h m s k v) b = on_nanos q w h m s k v b (sec_of b)
scan p (zulu q d h m s n) b = tested q (ok_date d && ok_clock h m s) (OffsetDateTime d (time_of_day h m s n) (pos 0))
