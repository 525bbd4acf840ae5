-- A number (docs/FORMAT.md, 5), a byte at a time, as the check in parts keeps it: its value as a coefficient and zeros.
-- It goes by the machine's classes of bytes, clause by clause. Assumes nothing.
use Rattle.std.specs.Prelude.{ℕ, ◌+◌, ◌*◌, ◌-◌, ◌%◌, ◌≤◌, Bool, true, false, cond, ◌&&◌, eqb, ltb, leb}
use Rattle.meaning.specs.Letters.{ch}
use Rattle.meaning.specs.Limits.{text_limit, power_limit}
use Rattle.meaning.specs.declared.Refusal.TheVariants.{NotGrammar, BadNumber}
use Rattle.machine.specs.Numeric.{Num, num_of, digit_n, point_n, e_n, x_n, colon_n, minus_n, other_n}
use Rattle.machine.specs.Numeric.{Fst, fst_of, nought_f, digit_f, plus_f, minus_f, point_f, n_f, i_f, other_f}
use Rattle.machine.specs.Numeric.{ExpB, exp_of, digit_e, plus_e, minus_e, other_e, Dg, dg_of, digit, other}
use Rattle.machine.specs.Numeric.{HexB, hex_of, value, no_hex}
use Rattle.items.specs.declared.number.Acc.{Acc}
use Rattle.items.specs.Between.NumberOrTime.{acc_of, pushed, raised_by}
use Rattle.arriving.specs.declared.states.Decimal.{Decimal}
use Rattle.arriving.specs.declared.states.Open.{Open}
use Rattle.arriving.specs.declared.states.Figure.{Figure}
use Rattle.arriving.specs.declared.states.Stamp.{Stamp}
use Rattle.arriving.specs.declared.states.Slot.TheVariants.{Month, Minute}
use Rattle.arriving.specs.declared.states.Moment.TheVariants.{Field}
use Rattle.arriving.specs.declared.states.Mode.TheVariants.{Spelling, Counting, Timing}
use Rattle.arriving.specs.declared.states.Out.{Out}
use Rattle.arriving.specs.declared.states.Out.TheVariants.{Takes, Stops, Breaks}
use Rattle.arriving.specs.Between.Small.{not_a_number_at, infinity_at}

-- q: the number's first place; p: the byte's; a: the digits so far; d: the same with how many are a fraction's
-- o: digits with no sign

abbrev pub counts : Figure → Out
counts f = Takes (Counting f) 0

abbrev pub spells : ℕ → Out
spells i = Takes (Spelling i) 0

abbrev pub odd_at : ℕ → Out
odd_at p = Breaks (NotGrammar p)

abbrev pub no_digits : Acc
no_digits = acc_of 0 false 0

abbrev pub decimal : ℕ → Acc → ℕ → Decimal
decimal q a f = record { first = q; acc = a; fraction = f }

-- n digits with no sign, with the value v; z: the first is 0
abbrev pub unsigned : ℕ → ℕ → Bool → ℕ → Acc → Open
unsigned q n z v a = record { first = q; count = n; nought = z; value = v; acc = a }

-- nothing but the first place
abbrev pub bare : ℕ → Decimal
bare q = decimal q no_digits 0

-- one more digit, and so many more of a fraction
abbrev pub digited : Decimal → ℕ → ℕ → Decimal
digited d b n = decimal d.first (pushed d.acc b) (d.fraction + n)

-- ---- a number has ended

-- whether the digits times 10 ^ up / 10 ^ down are a number within the limits
unfoldable pub fits : Acc → ℕ → ℕ → Bool
fits a up down =
    cond a.over false
    (cond (eqb a.c 0) true
    (cond (leb down (a.z + up)) (leb (a.z + up - down) power_limit) (leb (down - (a.z + up)) power_limit)))

unfoldable pub settled : Decimal → ℕ → ℕ → Out
settled d up down = cond (fits d.acc up down) Stops (Breaks (BadNumber d.first))

-- ---- decimal numbers

abbrev pub on_sign : ℕ → ℕ → ℕ → Fst → Out
on_sign p q b nought_f = counts (Figure.Nought q)
on_sign p q b digit_f = counts (Figure.Whole (digited (bare q) b 0))
on_sign p q b point_f = counts (Figure.Point q)
on_sign p q b n_f = spells not_a_number_at
on_sign p q b i_f = spells infinity_at
on_sign p q b plus_f = odd_at p
on_sign p q b minus_f = odd_at p
on_sign p q b other_f = odd_at p

abbrev pub on_begin : ℕ → ℕ → Fst → Out
on_begin p b nought_f = counts (Figure.Open (unsigned p 1 true (b - ch "0") (pushed no_digits b)))
on_begin p b digit_f = counts (Figure.Open (unsigned p 1 false (b - ch "0") (pushed no_digits b)))
on_begin p b point_f = counts (Figure.Point p)
on_begin p b n_f = spells not_a_number_at
on_begin p b i_f = spells infinity_at
on_begin p b plus_f = counts (Figure.Sign p)
on_begin p b minus_f = counts (Figure.Sign p)
on_begin p b other_f = odd_at p

abbrev pub on_nought : ℕ → Num → Out
on_nought q point_n = counts (Figure.Fraction (bare q))
on_nought q e_n = counts (Figure.Exponent (bare q))
on_nought q x_n = counts (Figure.HexMark q)
on_nought q digit_n = Stops
on_nought q colon_n = Stops
on_nought q minus_n = Stops
on_nought q other_n = Stops

abbrev pub on_whole : Decimal → ℕ → Num → Out
on_whole d b digit_n = counts (Figure.Whole (digited d b 0))
on_whole d b point_n = counts (Figure.Fraction d)
on_whole d b e_n = counts (Figure.Exponent d)
on_whole d b x_n = settled d 0 0
on_whole d b colon_n = settled d 0 0
on_whole d b minus_n = settled d 0 0
on_whole d b other_n = settled d 0 0

abbrev pub on_fraction : Decimal → ℕ → Num → Out
on_fraction d b digit_n = counts (Figure.Fraction (digited d b 1))
on_fraction d b e_n = counts (Figure.Exponent d)
on_fraction d b point_n = settled d 0 d.fraction
on_fraction d b x_n = settled d 0 d.fraction
on_fraction d b colon_n = settled d 0 d.fraction
on_fraction d b minus_n = settled d 0 d.fraction
on_fraction d b other_n = settled d 0 d.fraction

abbrev pub on_point : ℕ → ℕ → ℕ → Dg → Out
on_point p q b digit = counts (Figure.Fraction (digited (bare q) b 1))
on_point p q b other = odd_at p

abbrev pub on_exponent_sign : ℕ → Decimal → Bool → ℕ → Dg → Out
on_exponent_sign p d down b digit = counts (Figure.ExponentDigits d down (b - ch "0"))
on_exponent_sign p d down b other = odd_at p

abbrev pub on_exponent : ℕ → Decimal → ℕ → ExpB → Out
on_exponent p d b digit_e = counts (Figure.ExponentDigits d false (b - ch "0"))
on_exponent p d b plus_e = counts (Figure.ExponentSign d false)
on_exponent p d b minus_e = counts (Figure.ExponentSign d true)
on_exponent p d b other_e = odd_at p

-- with the exponent e, or its minus
unfoldable pub scaled : Decimal → Bool → ℕ → Out
scaled d false e = settled d e d.fraction
scaled d true e = settled d 0 (d.fraction + e)

abbrev pub on_exponent_digits : Decimal → Bool → ℕ → ℕ → Dg → Out
on_exponent_digits d down e b digit = counts (Figure.ExponentDigits d down (raised_by e b))
on_exponent_digits d down e b other = scaled d down e

-- ---- hexadecimal numbers

abbrev pub on_hex_mark : ℕ → ℕ → HexB → Out
on_hex_mark p q (value x) = counts (Figure.Hex q x false)
on_hex_mark p q no_hex = odd_at p

-- sixteen times a number above this is no coefficient
abbrev pub sixteenth : ℕ
sixteenth = 1152921504606846975

abbrev pub on_hex : ℕ → ℕ → Bool → HexB → Out
on_hex q v o (value x) = cond (leb v sixteenth) (counts (Figure.Hex q (16 * v + x) o)) (counts (Figure.Hex q v true))
on_hex q v o no_hex = cond o (Breaks (BadNumber q)) Stops

-- ---- digits with no sign

-- as a number; more digits after a first 0 are none
abbrev pub as_number : ℕ → Open → ℕ → Num → Out
as_number p o b c =
    cond o.nought (cond (leb o.count 1) (on_nought o.first c) (odd_at p)) (on_whole (decimal o.first o.acc 0) b c)

abbrev pub stamp : ℕ → Bool → Bool → Stamp
stamp q dated good = record { first = q; dated = dated; good = good }

abbrev pub on_digit : ℕ → Open → ℕ → Out
on_digit p o b =
    let v : ℕ = 10 * (o.value % 1000) + (b - ch "0") in
    cond (ltb o.count 4) (counts (Figure.Open (unsigned o.first (o.count + 1) o.nought v (pushed o.acc b))))
    (as_number p o b digit_n)

-- two digits may be an hour
abbrev pub on_colon : ℕ → Open → ℕ → Out
on_colon p o b =
    cond (eqb o.count 2) (Takes (Timing (stamp o.first false (leb o.value 23)) (Field Minute 2 0)) 0)
    (as_number p o b colon_n)

-- four digits may be a year
abbrev pub on_minus : ℕ → Open → ℕ → Out
on_minus p o b =
    cond (eqb o.count 4) (Takes (Timing (stamp o.first true true) (Field (Month o.value) 2 0)) 0)
    (as_number p o b minus_n)

abbrev pub on_open : ℕ → Open → ℕ → Num → Out
on_open p o b digit_n = on_digit p o b
on_open p o b colon_n = on_colon p o b
on_open p o b minus_n = on_minus p o b
on_open p o b point_n = as_number p o b point_n
on_open p o b e_n = as_number p o b e_n
on_open p o b x_n = as_number p o b x_n
on_open p o b other_n = as_number p o b other_n

-- ---- the byte b at the place p

-- the first byte of a number or a time value
unfoldable pub begin_figure : ℕ → ℕ → Out
begin_figure p b = on_begin p b (fst_of b)

unfoldable pub next_figure : Figure → ℕ → ℕ → Out
next_figure (Figure.Sign q) p b = on_sign p q b (fst_of b)
next_figure (Figure.Nought q) p b = on_nought q (num_of b)
next_figure (Figure.Point q) p b = on_point p q b (dg_of b)
next_figure (Figure.HexMark q) p b = on_hex_mark p q (hex_of b)
next_figure (Figure.Hex q v o) p b = on_hex q v o (hex_of b)
next_figure (Figure.Open o) p b = on_open p o b (num_of b)
next_figure (Figure.Whole d) p b = on_whole d b (num_of b)
next_figure (Figure.Fraction d) p b = on_fraction d b (num_of b)
next_figure (Figure.Exponent d) p b = on_exponent p d b (exp_of b)
next_figure (Figure.ExponentSign d down) p b = on_exponent_sign p d down b (dg_of b)
next_figure (Figure.ExponentDigits d down e) p b = on_exponent_digits d down e b (dg_of b)

-- ---- the bounds that sums need, after n bytes

abbrev pub sane_decimal : ℕ → Decimal → Bool
sane_decimal n d = leb d.acc.z n && leb d.fraction n

unfoldable pub sane_figure : ℕ → Figure → Bool
sane_figure n (Figure.Sign q) = true
sane_figure n (Figure.Nought q) = true
sane_figure n (Figure.Point q) = true
sane_figure n (Figure.HexMark q) = true
sane_figure n (Figure.Hex q v o) = true
sane_figure n (Figure.Open o) = leb o.acc.z n
sane_figure n (Figure.Whole d) = sane_decimal n d
sane_figure n (Figure.Fraction d) = sane_decimal n d
sane_figure n (Figure.Exponent d) = sane_decimal n d
sane_figure n (Figure.ExponentSign d down) = sane_decimal n d
sane_figure n (Figure.ExponentDigits d down e) = sane_decimal n d && ltb e 10000000000

-- what a sane decimal is asked for: its sums fit
pub record Sound (d : Decimal) : Type 0 where
  pub zeros : d.acc.z ≤ text_limit
  pub places : d.fraction ≤ text_limit
