-- Numbers and time values: a byte does to the check's state what it does to the machine's. Assumes nothing.
use Prim.Native.Nat.{ℕ, ◌+◌, ◌*◌, ◌-◌, ◌≤◌, ◌<◌, ◌%◌}
use mathlib.Core.Path.{◌≡◌, refl}
use mathlib.Core.Bool.{Bool, true, false, cond, ◌&&◌}
use mathlib.Core.Logic.{inl}
use mathlib.Core.List.{List}
use native.Mathlib.Nat.{zero-add}
use native.Mathlib.Numerals.{add-one}
use native.Mathlib.Omega.{arith}
use lib.Dec.{eqb, ltb, leb}
use lib.IntN.{pos, negsuc}
use borrow.Author.Tests.{leb-true, leb-false, eqb-true, eqb-false, lt-ltb, le-ltb}
use Rattle.meaning.specs.Letters.{ch}
use Rattle.meaning.specs.Limits.{text_limit, coefficient_limit, power_limit}
use Rattle.meaning.specs.Meaning.{Meaning}
use Rattle.meaning.specs.Tape.{records, store_of, bytes}
use Rattle.meaning.specs.declared.Number.{Number}
use Rattle.meaning.specs.declared.Time.{Time}
use Rattle.meaning.specs.declared.Refusal.TheVariants.{BadNumber}
use Rattle.machine.specs.Scan as Scan
use Rattle.machine.specs.Scan.{over}
use Rattle.machine.specs.Numeric as M
use Rattle.machine.specs.Numeric.{St, Res, Len, d1, d2, d3, d4, dig, settle, finite, scan}
use Rattle.machine.specs.Numeric.{Num, num_of, digit_n, point_n, e_n, x_n, colon_n, minus_n, other_n}
use Rattle.machine.proofs.Numeric.Rows.{NumIs, num_class, DgIs, dg_class, ExpIs, exp_class, FstIs, fst_class, HexIs, hex_class}
use Rattle.items.specs.declared.number.Acc.{Acc}
use Rattle.items.specs.Between.NumberOrTime.{IsDigit, Held, Capped, pushed}
use Rattle.items.proofs.NumberSettleLaws.{of_none, of_over, of_fits, capped_up, capped_dn}
use Rattle.arriving.specs.declared.states.Figure.{Figure}
use Rattle.arriving.specs.declared.states.Stamp.{Stamp}
use Rattle.arriving.specs.declared.states.Moment.{Moment}
use Rattle.arriving.specs.declared.states.Mode.{Mode}
use Rattle.arriving.specs.declared.states.Mode.TheVariants.{Spelling, Counting, Timing}
use Rattle.arriving.specs.declared.states.Out.{Out}
use Rattle.arriving.specs.declared.states.Out.TheVariants.{Stops, Breaks}
use Rattle.arriving.specs.Between.Figures as C
use Rattle.arriving.specs.Between.Figures.{decimal, unsigned, fits, settled, begin_figure, next_figure, sane_figure}
use Rattle.arriving.specs.Between.Times.{next_moment}
use Rattle.arriving.specs.Between.Small.{next_word}
use Rattle.arriving.proofs.Alike.{Alike}
use Rattle.arriving.proofs.SmallLaws.{Spelt, nan_spelt, infinity_spelt, number_word, number_word_end}
use Rattle.arriving.proofs.TimesLaws.{Timed, year_stands, hour_stands, times_alike, time_end}
use Rattle.arriving.proofs.NumericsValueLaws.{Sums, no_sum, pushed_sums, first_capped, raised_capped, Sixteens, hex_small, first_sixteen}
use Rattle.arriving.proofs.NumericsValueLaws.{sixteen_more, sixteen_over, small_settles}

-- ---- the check's state, and the machine's

-- how many digits with no sign, and that their value has no more
pub data Count : ℕ → Len → ℕ → Type 0 where
  one : {v : ℕ} → v < 10 → Count 1 d1 v
  two : {v : ℕ} → v < 100 → Count 2 d2 v
  three : {v : ℕ} → v < 1000 → Count 3 d3 v
  four : {v : ℕ} → v < 10000 → Count 4 d4 v

-- The check, `base` places further on than the machine, stands where the machine does. No number gives store bytes.
pub data NumericIs (base : ℕ) : Mode → St → ℕ → Type 0 where
  sign : {q : ℕ} {g : Bool} → NumericIs base (Counting (Figure.Sign (base + q))) (M.sign q g) 0
  nought : {q : ℕ} {g : Bool} → NumericIs base (Counting (Figure.Nought (base + q))) (M.nought q g) 0
  point : {q : ℕ} {g : Bool} → NumericIs base (Counting (Figure.Point (base + q))) (M.point q g) 0
  hex_mark : {q : ℕ} {g : Bool} → NumericIs base (Counting (Figure.HexMark (base + q))) (M.hex_mark q g) 0
  hex : {q : ℕ} {g : Bool} {w v : ℕ} {o : Bool} → Sixteens w v o → NumericIs base (Counting (Figure.Hex (base + q) v o)) (M.hex q g w) 0
  digits : {q n : ℕ} {k : Len} {z : Bool} {v : ℕ} {a : Acc} → Count n k v → Sums v a
      → NumericIs base (Counting (Figure.Open (unsigned (base + q) n z v a))) (M.both q k z v) 0
  whole : {q : ℕ} {g : Bool} {m : ℕ} {a : Acc} → Sums m a → NumericIs base (Counting (Figure.Whole (decimal (base + q) a 0))) (M.int q g m) 0
  fraction : {q : ℕ} {g : Bool} {m f : ℕ} {a : Acc} → Sums m a
      → NumericIs base (Counting (Figure.Fraction (decimal (base + q) a f))) (M.frac q g m f) 0
  exponent : {q : ℕ} {g : Bool} {m f : ℕ} {a : Acc} → Sums m a
      → NumericIs base (Counting (Figure.Exponent (decimal (base + q) a f))) (M.exp q g m f) 0
  exponent_sign : {q : ℕ} {g : Bool} {m f : ℕ} {a : Acc} {s : Bool} → Sums m a
      → NumericIs base (Counting (Figure.ExponentSign (decimal (base + q) a f) s)) (M.exp_sign q g m f s) 0
  exponent_digits : {q : ℕ} {g : Bool} {m f : ℕ} {a : Acc} {s : Bool} {w e : ℕ} → Sums m a → Capped w e
      → NumericIs base (Counting (Figure.ExponentDigits (decimal (base + q) a f) s e)) (M.exp_digits q g m f s w) 0
  timing : {s : Stamp} {m : Moment} {st : St} → Timed base s m st → NumericIs base (Timing s m) st 0
  spelling : {i : ℕ} {ls : List ℕ} {n : Number} → Spelt i ls → NumericIs base (Spelling i) (M.word ls n) 0

-- what holds of every mode of a number or a time value
pub numeric_by : (P : Mode → Type 0) → ((f : Figure) → P (Counting f)) → ((s : Stamp) (m : Moment) → P (Timing s m)) → ((i : ℕ) → P (Spelling i))
    → {base : ℕ} {m : Mode} {st : St} {n : ℕ} → NumericIs base m st n → P m
numeric_by P c t w sign = c _
numeric_by P c t w nought = c _
numeric_by P c t w point = c _
numeric_by P c t w hex_mark = c _
numeric_by P c t w (hex s) = c _
numeric_by P c t w (digits k s) = c _
numeric_by P c t w (whole s) = c _
numeric_by P c t w (fraction s) = c _
numeric_by P c t w (exponent s) = c _
numeric_by P c t w (exponent_sign s) = c _
numeric_by P c t w (exponent_digits s h) = c _
numeric_by P c t w (timing h) = t _ _
numeric_by P c t w (spelling h) = w _

-- one record, and n store bytes
abbrev pub MeaningGives : Meaning → ℕ → Type 0
MeaningGives m n = (records m ≡ 1) × (bytes m ≡ n)

number_gives : (n : Number) → MeaningGives (Meaning.number n) 0
unfolding records store_of
number_gives n = (refl, refl)

time_gives : (t : Time) → MeaningGives (Meaning.time t) 0
unfolding records store_of
time_gives t = (refl, refl)

abbrev Same : ℕ → Out → Res → Type 0
Same base out out' = Alike (NumericIs base) MeaningGives base 0 out out'

-- ---- a number has ended

module _ (base q : ℕ) (g : Bool) where
  ranged_alike : (c u dn : ℕ) (x y z : Bool) → Same base (cond (cond x y z) Stops (Breaks (BadNumber (base + q))))
      (cond x (cond y (finite g c (pos (u - dn))) (Scan.breaks (BadNumber q))) (cond z (finite g c (negsuc (dn - u - 1))) (Scan.breaks (BadNumber q))))
  ranged_alike c u dn true true z = Alike.stops (number_gives _)
  ranged_alike c u dn true false z = Alike.breaks refl
  ranged_alike c u dn false y true = Alike.stops (number_gives _)
  ranged_alike c u dn false y false = Alike.breaks refl

  settled_alike : {m : ℕ} {a : Acc} (f up dn : ℕ) → Sums m a → Same base (settled (decimal (base + q) a f) up dn) (settle q g m up dn)
  unfolding settled fits
  settled_alike {m} {a} f up dn s = go a.over s.holds
    where
      some : Held m a.c false a.z → (x : Bool) → eqb a.c 0 ≡ x → Same base (cond (cond x true
          (cond (leb dn (a.z + up)) (leb (a.z + up - dn) power_limit) (leb (dn - (a.z + up)) power_limit))) Stops (Breaks (BadNumber (base + q))))
          (settle q g m up dn)
      some h true e = rw (of_none q g m up dn a.c a.z (eqb-true a.c 0 e) h) (Alike.stops (number_gives _))
      some h false e = rw (of_fits q g m up dn a.c a.z (eqb-false a.c 0 e) s.small h) (ranged_alike a.c (a.z + up) dn
          (leb dn (a.z + up)) (leb (a.z + up - dn) power_limit) (leb (dn - (a.z + up)) power_limit))

      go : (o : Bool) → Held m a.c o a.z → Same base (cond (cond o false (cond (eqb a.c 0) true
          (cond (leb dn (a.z + up)) (leb (a.z + up - dn) power_limit) (leb (dn - (a.z + up)) power_limit)))) Stops (Breaks (BadNumber (base + q))))
          (settle q g m up dn)
      go true h = rw (of_over q g m up dn a.c a.z h) (Alike.breaks refl)
      go false h = some h (eqb a.c 0) refl

  none_alike : Same base Stops (settle q g 0 0 0)
  none_alike = rw (of_none q g 0 0 0 0 0 refl (refl, inl refl)) (Alike.stops (number_gives _))

  -- with the exponent w, of which e is kept
  scaled_alike : {m : ℕ} {a : Acc} (f : ℕ) (s : Bool) (w e : ℕ) → a.z ≤ text_limit → f ≤ text_limit → Capped w e → Sums m a
      → Same base (C.scaled (decimal (base + q) a f) s e) (M.scaled q g m f s w)
  unfolding C.scaled
  scaled_alike {m} {a} f false w e i j k h =
      let z : f + 0 ≡ f = omega arith in
      rw (z, capped_up q g m a.c a.z h.small i a.over e w f h.holds k j) (settled_alike f e f h)
  scaled_alike {m} {a} f true w e i j k h =
      rw (capped_dn q g m a.c a.z h.small i a.over e w f h.holds k) (settled_alike f 0 (f + e) h)

  -- ---- decimal numbers

  nought_alike : (c : Num) → Same base (C.on_nought (base + q) c) (M.on_nought q g c)
  nought_alike point_n = Alike.takes (fraction no_sum)
  nought_alike e_n = Alike.takes (exponent no_sum)
  nought_alike x_n = Alike.takes hex_mark
  nought_alike digit_n = none_alike
  nought_alike colon_n = none_alike
  nought_alike minus_n = none_alike
  nought_alike other_n = none_alike

  whole_alike : {m : ℕ} {a : Acc} {b : ℕ} {c : Num} → NumIs b c → Sums m a → Same base (C.on_whole (decimal (base + q) a 0) b c) (M.on_int q g m b c)
  whole_alike (NumIs.digit i) s = Alike.takes (whole (pushed_sums _ _ _ i s))
  whole_alike NumIs.point s = Alike.takes (fraction s)
  whole_alike (NumIs.e_is x) s = Alike.takes (exponent s)
  whole_alike (NumIs.x_is x) s = settled_alike 0 0 0 s
  whole_alike NumIs.colon s = settled_alike 0 0 0 s
  whole_alike NumIs.minus s = settled_alike 0 0 0 s
  whole_alike NumIs.other s = settled_alike 0 0 0 s

  fraction_alike : (f : ℕ) {m : ℕ} {a : Acc} {b : ℕ} {c : Num} → NumIs b c → Sums m a
      → Same base (C.on_fraction (decimal (base + q) a f) b c) (M.on_frac q g m f b c)
  fraction_alike f (NumIs.digit i) s = rw add-one (Alike.takes (fraction (pushed_sums _ _ _ i s)))
  fraction_alike f (NumIs.e_is x) s = Alike.takes (exponent s)
  fraction_alike f NumIs.point s = settled_alike f 0 f s
  fraction_alike f (NumIs.x_is x) s = settled_alike f 0 f s
  fraction_alike f NumIs.colon s = settled_alike f 0 f s
  fraction_alike f NumIs.minus s = settled_alike f 0 f s
  fraction_alike f NumIs.other s = settled_alike f 0 f s

  module _ (p : ℕ) where
    sign_alike : {b : ℕ} {c : M.Fst} → FstIs b c → Same base (C.on_sign (base + p) (base + q) b c) (M.on_sign p q g b c)
    sign_alike FstIs.nought = Alike.takes nought
    sign_alike (FstIs.digit i) = Alike.takes (whole (pushed_sums _ _ _ (record { low = omega arith; high = i.high }) no_sum))
    sign_alike FstIs.point = Alike.takes point
    sign_alike FstIs.n_is = Alike.takes (spelling nan_spelt)
    sign_alike FstIs.i_is = Alike.takes (spelling infinity_spelt)
    sign_alike FstIs.plus = Alike.breaks refl
    sign_alike FstIs.minus = Alike.breaks refl
    sign_alike FstIs.other = Alike.breaks refl

    point_alike : {b : ℕ} {c : M.Dg} → DgIs b c → Same base (C.on_point (base + p) (base + q) b c) (M.on_point p q g b c)
    point_alike (DgIs.digit i) = Alike.takes (fraction (pushed_sums _ _ _ i no_sum))
    point_alike DgIs.other = Alike.breaks refl

    exponent_alike : (f : ℕ) {m : ℕ} {a : Acc} {b : ℕ} {c : M.ExpB} → ExpIs b c → Sums m a
        → Same base (C.on_exponent (base + p) (decimal (base + q) a f) b c) (M.on_exp p q g m f b c)
    exponent_alike f {b = b} (ExpIs.digit i) s = Alike.takes (exponent_digits s (first_capped b))
    exponent_alike f ExpIs.plus s = Alike.takes (exponent_sign s)
    exponent_alike f ExpIs.minus s = Alike.takes (exponent_sign s)
    exponent_alike f ExpIs.other s = Alike.breaks refl

    exponent_sign_alike : (f : ℕ) (t : Bool) {m : ℕ} {a : Acc} {b : ℕ} {c : M.Dg} → DgIs b c → Sums m a
        → Same base (C.on_exponent_sign (base + p) (decimal (base + q) a f) t b c) (M.on_exp_sign p q g m f t b c)
    exponent_sign_alike f t {b = b} (DgIs.digit i) s = Alike.takes (exponent_digits s (first_capped b))
    exponent_sign_alike f t DgIs.other s = Alike.breaks refl

    -- ---- hexadecimal numbers

    hex_mark_alike : {b : ℕ} {c : M.HexB} → HexIs b c → Same base (C.on_hex_mark (base + p) (base + q) c) (M.on_hex_mark p q g c)
    hex_mark_alike (HexIs.value {d = x} i) = Alike.takes (hex (first_sixteen x (hex_small i)))
    hex_mark_alike HexIs.other = Alike.breaks refl

  exponent_digits_alike : (f : ℕ) (t : Bool) {m : ℕ} {a : Acc} {w e b : ℕ} {c : M.Dg} → a.z ≤ text_limit → f ≤ text_limit → DgIs b c → Sums m a → Capped w e
      → Same base (C.on_exponent_digits (decimal (base + q) a f) t e b c) (M.on_exp_digits q g m f t w b c)
  exponent_digits_alike f t {w = w} {e = e} {b = b} y z (DgIs.digit i) s k = Alike.takes (exponent_digits s (raised_capped w e b i k))
  exponent_digits_alike f t {w = w} {e = e} y z DgIs.other s k = scaled_alike f t w e y z k s

  hex_more_alike : (w v : ℕ) (o : Bool) (x : ℕ) → x < 16 → Sixteens w v o → (t : Bool) → leb v C.sixteenth ≡ t
      → Same base (cond t (C.counts (Figure.Hex (base + q) (16 * v + x) o)) (C.counts (Figure.Hex (base + q) v true))) (Scan.takes (M.hex q g (16 * w + x)))
  hex_more_alike w v o x l s true e = Alike.takes (hex (sixteen_more w v o x l (leb-true v C.sixteenth e) s))
  hex_more_alike w v o x l s false e = Alike.takes (hex (sixteen_over w v o x (leb-false v C.sixteenth e) s))

  hex_end_alike : (w v : ℕ) (o : Bool) → Sixteens w v o
      → Same base (cond o (Breaks (BadNumber (base + q))) Stops) (cond (ltb w coefficient_limit) (settle q g w 0 0) (Scan.breaks (BadNumber q)))
  hex_end_alike w v true s = rw (le-ltb w coefficient_limit s.kept) (Alike.breaks refl)
  hex_end_alike w v false s =
      let l : w < coefficient_limit = omega (arith, s.kept, s.small) in
      let r = small_settles q g w l in
      rw (lt-ltb w coefficient_limit l, r.1) (Alike.stops (number_gives r.0))

  hex_alike : {w v : ℕ} {o : Bool} {b : ℕ} {c : M.HexB} → HexIs b c → Sixteens w v o → Same base (C.on_hex (base + q) v o c) (M.on_hex q g w c)
  hex_alike {w} {v} {o} (HexIs.value {d = x} i) s = hex_more_alike w v o x (hex_small i) s (leb v C.sixteenth) refl
  hex_alike {w} {v} {o} HexIs.other s = hex_end_alike w v o s

-- ---- digits with no sign

module _ (base p q : ℕ) where
  number_alike : {n : ℕ} {k : Len} {v : ℕ} {a : Acc} {b : ℕ} {c : Num} (z : Bool) → Count n k v → Sums v a → NumIs b c
      → Same base (C.as_number (base + p) (unsigned (base + q) n z v a) b c) (M.as_number p q k z v b c)
  number_alike false (one l) s i = whole_alike base q false i s
  number_alike false (two l) s i = whole_alike base q false i s
  number_alike false (three l) s i = whole_alike base q false i s
  number_alike false (four l) s i = whole_alike base q false i s
  number_alike {c = c} true (one l) s i = nought_alike base q false c
  number_alike true (two l) s i = Alike.breaks refl
  number_alike true (three l) s i = Alike.breaks refl
  number_alike true (four l) s i = Alike.breaks refl

  digit_alike : {n : ℕ} {k : Len} {v : ℕ} {a : Acc} {b : ℕ} (z : Bool) → Count n k v → Sums v a → IsDigit b
      → Same base (C.on_digit (base + p) (unsigned (base + q) n z v a) b) (M.on_digit p q k z v b)
  digit_alike {v = v} {b = b} z (one l) s i =
      let e : v % 1000 ≡ v = omega arith in
      rw e (Alike.takes (digits (two {v = dig v b} (omega (arith, i.low, i.high))) (pushed_sums _ _ _ i s)))
  digit_alike {v = v} {b = b} z (two l) s i =
      let e : v % 1000 ≡ v = omega arith in
      rw e (Alike.takes (digits (three {v = dig v b} (omega (arith, i.low, i.high))) (pushed_sums _ _ _ i s)))
  digit_alike {v = v} {b = b} z (three l) s i =
      let e : v % 1000 ≡ v = omega arith in
      rw e (Alike.takes (digits (four {v = dig v b} (omega (arith, i.low, i.high))) (pushed_sums _ _ _ i s)))
  digit_alike z (four l) s i = number_alike z (four l) s (NumIs.digit i)

  colon_alike : {n : ℕ} {k : Len} {v : ℕ} {a : Acc} (z : Bool) → Count n k v → Sums v a
      → Same base (C.on_colon (base + p) (unsigned (base + q) n z v a) (ch ":")) (M.on_colon p q k z v (ch ":"))
  colon_alike z (one l) s = number_alike z (one l) s NumIs.colon
  colon_alike z (two l) s = Alike.takes (timing (hour_stands l))
  colon_alike z (three l) s = number_alike z (three l) s NumIs.colon
  colon_alike z (four l) s = number_alike z (four l) s NumIs.colon

  minus_alike : {n : ℕ} {k : Len} {v : ℕ} {a : Acc} (z : Bool) → Count n k v → Sums v a
      → Same base (C.on_minus (base + p) (unsigned (base + q) n z v a) (ch "-")) (M.on_minus p q k z v (ch "-"))
  minus_alike z (one l) s = number_alike z (one l) s NumIs.minus
  minus_alike z (two l) s = number_alike z (two l) s NumIs.minus
  minus_alike z (three l) s = number_alike z (three l) s NumIs.minus
  minus_alike z (four l) s = Alike.takes (timing (year_stands l))

  open_alike : {n : ℕ} {k : Len} {v : ℕ} {a : Acc} {b : ℕ} {c : Num} (z : Bool) → Count n k v → Sums v a → NumIs b c
      → Same base (C.on_open (base + p) (unsigned (base + q) n z v a) b c) (M.on_both p q k z v b c)
  open_alike z l s (NumIs.digit i) = digit_alike z l s i
  open_alike z l s NumIs.colon = colon_alike z l s
  open_alike z l s NumIs.minus = minus_alike z l s
  open_alike z l s NumIs.point = number_alike z l s NumIs.point
  open_alike z l s (NumIs.e_is x) = number_alike z l s (NumIs.e_is x)
  open_alike z l s (NumIs.x_is x) = number_alike z l s (NumIs.x_is x)
  open_alike z l s NumIs.other = number_alike z l s NumIs.other

-- ---- the byte b at the place p

begin_alike : (base p : ℕ) {b : ℕ} {c : M.Fst} → FstIs b c → Same base (C.on_begin (base + p) b c) (M.on_begin p b c)
begin_alike base p FstIs.nought =
    Alike.takes (digits (one {v = 0} (omega arith)) (pushed_sums 0 (ch "0") _ (record { low = omega arith; high = omega arith }) no_sum))
begin_alike base p {b} (FstIs.digit i) =
    let e : dig 0 b ≡ b - ch "0" = omega arith in
    let s : Sums (dig 0 b) (pushed C.no_digits b) = pushed_sums 0 b _ (record { low = omega arith; high = i.high }) no_sum in
    rw zero-add (Alike.takes (digits (one {v = b - ch "0"} (omega (arith, i.low, i.high))) (rw e at s)))
begin_alike base p FstIs.point = Alike.takes point
begin_alike base p FstIs.n_is = Alike.takes (spelling nan_spelt)
begin_alike base p FstIs.i_is = Alike.takes (spelling infinity_spelt)
begin_alike base p FstIs.plus = Alike.takes sign
begin_alike base p FstIs.minus = Alike.takes sign
begin_alike base p FstIs.other = Alike.breaks refl

pub numeric_begin : (base p b : ℕ) → b < 256 → Alike (NumericIs base) MeaningGives base 0 (begin_figure (base + p) b) (scan p M.begin b)
unfolding begin_figure
numeric_begin base p b l = begin_alike base p (fst_class b)

-- the bounds of an exponent's digits
bounds : (n z f : ℕ) (x : Bool) → ((leb z n && leb f n) && x) ≡ true → (z ≤ n) × (f ≤ n)
bounds n z f x e = go (leb z n) refl (leb f n) refl x e
  where
    go : (y : Bool) → leb z n ≡ y → (w : Bool) → leb f n ≡ w → (x : Bool) → ((y && w) && x) ≡ true → (z ≤ n) × (f ≤ n)
    go true h true k x e = (leb-true z n h, leb-true f n k)
    go true h false k x e = let z : ◌≡◌ {A = ℕ} 0 1 = cc in absurd (omega arith)
    go false h w k x e = let z : ◌≡◌ {A = ℕ} 0 1 = cc in absurd (omega arith)

-- An exponent that is too large to keep is too large for zeros and a fraction within the state's bounds: so these are asked for.
pub figures_alike : (base : ℕ) (f : Figure) (st : St) (n p b : ℕ) → NumericIs base (Counting f) st n → b < 256 → sane_figure (base + p) f ≡ true
    → base + p ≤ text_limit → Alike (NumericIs base) MeaningGives base n (next_figure f (base + p) b) (scan p st b)
unfolding next_figure sane_figure
figures_alike base f st n p b (sign {q} {g}) l t u = sign_alike base q g p (fst_class b)
figures_alike base f st n p b (nought {q} {g}) l t u = nought_alike base q g (num_of b)
figures_alike base f st n p b (point {q} {g}) l t u = point_alike base q g p (dg_class b)
figures_alike base f st n p b (hex_mark {q} {g}) l t u = hex_mark_alike base q g p (hex_class b)
figures_alike base f st n p b (hex {q} {g} s) l t u = hex_alike base q g (hex_class b) s
figures_alike base f st n p b (digits {q} {z = z} k s) l t u = open_alike base p q z k s (num_class b)
figures_alike base f st n p b (whole {q} {g} s) l t u = whole_alike base q g (num_class b) s
figures_alike base f st n p b (fraction {q} {g} {f = k} s) l t u = fraction_alike base q g k (num_class b) s
figures_alike base f st n p b (exponent {q} {g} {f = k} s) l t u = exponent_alike base q g p k (exp_class b) s
figures_alike base f st n p b (exponent_sign {q} {g} {f = k} {s = d} s) l t u = exponent_sign_alike base q g p k d (dg_class b) s
figures_alike base f st n p b (exponent_digits {q} {g} {f = k} {a = a} {s = d} {e = e} s h) l t u =
    let y = bounds (base + p) a.z k (ltb e 10000000000) t in
    exponent_digits_alike base q g k d (omega (arith, y.0)) (omega (arith, y.1)) (dg_class b) s h

pub timing_alike : (base : ℕ) (s : Stamp) (m : Moment) (st : St) (n p b : ℕ) → NumericIs base (Timing s m) st n → b < 256
    → Alike (NumericIs base) MeaningGives base n (next_moment s m (base + p) b) (scan p st b)
timing_alike base s m st n p b (timing h) l = times_alike (NumericIs base) MeaningGives base (λ s' m' st' x. timing x) time_gives s m st p b h

pub spelling_alike : (base i : ℕ) (st : St) (n p b : ℕ) → NumericIs base (Spelling i) st n → b < 256
    → Alike (NumericIs base) MeaningGives base n (next_word i (base + p) b) (scan p st b)
spelling_alike base i st n p b (spelling {ls = ls} {n = w} h) l =
    number_word (NumericIs base) MeaningGives base w (λ j ls' x. spelling x) (number_gives w) i ls p b h

-- ---- the text's end does what a zero byte does

digits_end : (p q : ℕ) (k : Len) (z : Bool) (v : ℕ) → M.as_number p q k z v over other_n ≡ M.as_number p q k z v 0 other_n
digits_end p q k false v = refl
digits_end p q d1 true v = refl
digits_end p q d2 true v = refl
digits_end p q d3 true v = refl
digits_end p q d4 true v = refl

pub numeric_end : (base : ℕ) (m : Mode) (st : St) (n p : ℕ) → NumericIs base m st n → scan p st over ≡ scan p st 0
numeric_end base m st n p sign = refl
numeric_end base m st n p nought = refl
numeric_end base m st n p point = refl
numeric_end base m st n p hex_mark = refl
numeric_end base m st n p (hex s) = refl
numeric_end base m st n p (digits {q} {k = k} {z = z} {v = v} c s) = digits_end p q k z v
numeric_end base m st n p (whole s) = refl
numeric_end base m st n p (fraction s) = refl
numeric_end base m st n p (exponent s) = refl
numeric_end base m st n p (exponent_sign s) = refl
numeric_end base m st n p (exponent_digits s h) = refl
numeric_end base m st n p (timing h) = time_end p h
numeric_end base m st n p (spelling {i} {ls} {n = w} h) = number_word_end w i ls p h
