-- What a byte of a number may bring: sums that stay within their bounds, and no store bytes. Assumes nothing.
use Prim.Native.Nat.{ℕ, suc, ◌+◌, ◌*◌, ◌-◌, ◌^◌, ◌≤◌, ◌<◌}
use mathlib.Core.Path.{◌≡◌, refl}
use mathlib.Core.Bool.{Bool, true, false, cond, ◌&&◌}
use native.Mathlib.Omega.{arith}
use lib.Dec.{eqb, ltb, leb}
use borrow.Author.Tests.{leb-true, ltb-true, lt-ltb, le-leb}
use Rattle.meaning.specs.Letters.{ch}
use Rattle.meaning.specs.Limits.{coefficient_limit}
use Rattle.meaning.specs.declared.Refusal.TheVariants.{BadNumber}
use Rattle.machine.specs.Numeric.{Num, num_of, digit_n, point_n, e_n, x_n, colon_n, minus_n, other_n}
use Rattle.machine.specs.Numeric.{Fst, fst_of, nought_f, digit_f, plus_f, minus_f, point_f, n_f, i_f, other_f, ExpB, exp_of, Dg, dg_of, HexB, hex_of, value}
use Rattle.machine.specs.Numeric.{no_hex}
use Rattle.machine.proofs.Numeric.Rows.{DgIs, dg_class, ExpIs, exp_class}
use Rattle.items.specs.declared.number.Acc.{Acc}
use Rattle.items.specs.Between.NumberOrTime.{IsDigit, acc_of, pushed, raised_by}
use Rattle.arriving.specs.declared.states.Decimal.{Decimal}
use Rattle.arriving.specs.declared.states.Open.{Open}
use Rattle.arriving.specs.declared.states.Figure.{Figure}
use Rattle.arriving.specs.declared.states.Moment.{Moment}
use Rattle.arriving.specs.declared.states.Mode.TheVariants.{Timing}
use Rattle.arriving.specs.declared.states.Out.{Out}
use Rattle.arriving.specs.declared.states.Out.TheVariants.{Takes, Stops, Breaks}
use Rattle.arriving.specs.Between.Figures as Spec
use Rattle.arriving.specs.Between.Figures.{begin_figure, next_figure, sane_figure, sane_decimal, settled, counts}
use Rattle.arriving.specs.Between.Arriving.{sane_mode}
use Rattle.arriving.proofs.Bounds.{Bounded}
use Rattle.arriving.proofs.FiguresLaws.{both_true}

-- ---- sums

pushed_zeros : (a : Acc) (b : ℕ) → (pushed a b).z ≤ a.z + 1
unfolding pushed
pushed_zeros a b = go (eqb b (ch "0")) a.over (ltb (a.c * 10 ^ (a.z + 1) + (b - ch "0")) coefficient_limit)
  where
    go : (x y w : Bool) → (cond x (acc_of a.c a.over (a.z + 1))
        (cond y (acc_of 0 true 0) (cond w (acc_of (a.c * 10 ^ (a.z + 1) + (b - ch "0")) false 0) (acc_of 0 true 0)))).z ≤ a.z + 1
    go true y w = omega arith
    go false true w = omega arith
    go false false true = omega arith
    go false false false = omega arith

raised_small : (e b : ℕ) → IsDigit b → e < 10000000000 → raised_by e b < 10000000000
unfolding raised_by
raised_small e b i h = go (ltb e 1000000000) refl
  where
    go : (x : Bool) → ltb e 1000000000 ≡ x → cond x (10 * e + (b - ch "0")) e < 10000000000
    go true q = omega (arith, ltb-true e 1000000000 q, i.low, i.high)
    go false q = h

both : (x y : Bool) → x ≡ true → y ≡ true → (x && y) ≡ true
both x y e f = rw (e, f)

module _ (p : ℕ) where
  both_kept : (d d' : Decimal) → (d.acc.z ≤ p → d'.acc.z ≤ suc p) → (d.fraction ≤ p → d'.fraction ≤ suc p) → sane_decimal p d ≡ true
      → sane_decimal (suc p) d' ≡ true
  both_kept d d' f g s =
      let k = both_true (leb d.acc.z p) (leb d.fraction p) s in
      both _ _ (le-leb _ _ (f (leb-true d.acc.z p k.0))) (le-leb _ _ (g (leb-true d.fraction p k.1)))

  kept : (d : Decimal) → sane_decimal p d ≡ true → sane_decimal (suc p) d ≡ true
  kept d s = both_kept d d (λ h. omega arith) (λ h. omega arith) s

  grown : (d : Decimal) (b n : ℕ) → n ≤ 1 → sane_decimal p d ≡ true → sane_decimal (suc p) (Spec.digited d b n) ≡ true
  grown d b n l s = both_kept d (Spec.digited d b n) (λ h. omega (arith, pushed_zeros d.acc b)) (λ h. omega arith) s

  bare_sane : (q : ℕ) → sane_decimal p (Spec.bare q) ≡ true
  bare_sane q = both _ _ (le-leb 0 p (omega arith)) (le-leb 0 p (omega arith))

  -- ---- each kind of state

  abbrev Kept : Out → Type 0
  Kept o = Bounded (suc p) o

  goes : (f : Figure) → sane_figure (suc p) f ≡ true → Kept (counts f)
  unfolding sane_mode
  goes f s = (s, omega arith)

  fraction_goes : (d : Decimal) → sane_decimal (suc p) d ≡ true → Kept (counts (Figure.Fraction d))
  unfolding sane_figure
  fraction_goes d s = goes (Figure.Fraction d) s

  whole_goes : (d : Decimal) → sane_decimal (suc p) d ≡ true → Kept (counts (Figure.Whole d))
  unfolding sane_figure
  whole_goes d s = goes (Figure.Whole d) s

  exponent_goes : (d : Decimal) → sane_decimal (suc p) d ≡ true → Kept (counts (Figure.Exponent d))
  unfolding sane_figure
  exponent_goes d s = goes (Figure.Exponent d) s

  sign_goes : (d : Decimal) (down : Bool) → sane_decimal (suc p) d ≡ true → Kept (counts (Figure.ExponentSign d down))
  unfolding sane_figure
  sign_goes d down s = goes (Figure.ExponentSign d down) s

  digits_go : (d : Decimal) (down : Bool) (e : ℕ) → sane_decimal (suc p) d ≡ true → e < 10000000000 → Kept (counts (Figure.ExponentDigits d down e))
  unfolding sane_figure
  digits_go d down e s h = goes (Figure.ExponentDigits d down e) (both _ _ s (lt-ltb e 10000000000 h))

  open_goes : (o : Open) → o.acc.z ≤ suc p → Kept (counts (Figure.Open o))
  unfolding sane_figure
  open_goes o h = goes (Figure.Open o) (le-leb _ _ h)

  module _ (q : ℕ) where
    -- the states that hold no sum
    sign_is : Kept (counts (Figure.Sign q))
    unfolding sane_figure
    sign_is = goes (Figure.Sign q) refl

    nought_is : Kept (counts (Figure.Nought q))
    unfolding sane_figure
    nought_is = goes (Figure.Nought q) refl

    point_is : Kept (counts (Figure.Point q))
    unfolding sane_figure
    point_is = goes (Figure.Point q) refl

    mark_is : Kept (counts (Figure.HexMark q))
    unfolding sane_figure
    mark_is = goes (Figure.HexMark q) refl

    hex_goes : (v : ℕ) (o : Bool) → Kept (counts (Figure.Hex q v o))
    unfolding sane_figure
    hex_goes v o = goes (Figure.Hex q v o) refl

  word_is : (i : ℕ) → Kept (Spec.spells i)
  unfolding sane_mode
  word_is i = (refl, omega arith)

  chosen : (x : Bool) (o o' : Out) → Kept o → Kept o' → Kept (cond x o o')
  chosen true o o' h k = h
  chosen false o o' h k = k

  settles : (d : Decimal) (up down : ℕ) → Kept (settled d up down)
  unfolding settled
  settles d up down = chosen (Spec.fits d.acc up down) Stops (Breaks (BadNumber d.first)) tt tt

  scales : (d : Decimal) (down : Bool) (e : ℕ) → Kept (Spec.scaled d down e)
  unfolding Spec.scaled
  scales d false e = settles d e d.fraction
  scales d true e = settles d 0 (d.fraction + e)

  on_sign_lem : (q b : ℕ) (c : Fst) → Kept (Spec.on_sign p q b c)
  on_sign_lem q b nought_f = nought_is q
  on_sign_lem q b digit_f = whole_goes _ (grown (Spec.bare q) b 0 (omega arith) (bare_sane q))
  on_sign_lem q b point_f = point_is q
  on_sign_lem q b n_f = word_is _
  on_sign_lem q b i_f = word_is _
  on_sign_lem q b plus_f = tt
  on_sign_lem q b minus_f = tt
  on_sign_lem q b other_f = tt

  on_begin_lem : (b : ℕ) (c : Fst) → Kept (Spec.on_begin p b c)
  on_begin_lem b nought_f = open_goes (Spec.unsigned p 1 true (b - ch "0") (pushed Spec.no_digits b)) (omega (arith, pushed_zeros Spec.no_digits b))
  on_begin_lem b digit_f = open_goes (Spec.unsigned p 1 false (b - ch "0") (pushed Spec.no_digits b)) (omega (arith, pushed_zeros Spec.no_digits b))
  on_begin_lem b point_f = point_is p
  on_begin_lem b n_f = word_is _
  on_begin_lem b i_f = word_is _
  on_begin_lem b plus_f = sign_is p
  on_begin_lem b minus_f = sign_is p
  on_begin_lem b other_f = tt

  on_nought_lem : (q : ℕ) (c : Num) → Kept (Spec.on_nought q c)
  on_nought_lem q point_n = fraction_goes _ (kept (Spec.bare q) (bare_sane q))
  on_nought_lem q e_n = exponent_goes _ (kept (Spec.bare q) (bare_sane q))
  on_nought_lem q x_n = mark_is q
  on_nought_lem q digit_n = tt
  on_nought_lem q colon_n = tt
  on_nought_lem q minus_n = tt
  on_nought_lem q other_n = tt

  on_whole_lem : (d : Decimal) (b : ℕ) (c : Num) → sane_decimal p d ≡ true → Kept (Spec.on_whole d b c)
  on_whole_lem d b digit_n s = whole_goes _ (grown d b 0 (omega arith) s)
  on_whole_lem d b point_n s = fraction_goes d (kept d s)
  on_whole_lem d b e_n s = exponent_goes d (kept d s)
  on_whole_lem d b x_n s = settles d 0 0
  on_whole_lem d b colon_n s = settles d 0 0
  on_whole_lem d b minus_n s = settles d 0 0
  on_whole_lem d b other_n s = settles d 0 0

  on_fraction_lem : (d : Decimal) (b : ℕ) (c : Num) → sane_decimal p d ≡ true → Kept (Spec.on_fraction d b c)
  on_fraction_lem d b digit_n s = fraction_goes _ (grown d b 1 (omega arith) s)
  on_fraction_lem d b e_n s = exponent_goes d (kept d s)
  on_fraction_lem d b point_n s = settles d 0 d.fraction
  on_fraction_lem d b x_n s = settles d 0 d.fraction
  on_fraction_lem d b colon_n s = settles d 0 d.fraction
  on_fraction_lem d b minus_n s = settles d 0 d.fraction
  on_fraction_lem d b other_n s = settles d 0 d.fraction

  on_point_lem : {b : ℕ} (q : ℕ) (c : Dg) → DgIs b c → Kept (Spec.on_point p q b c)
  on_point_lem {b} q c (DgIs.digit i) = fraction_goes _ (grown (Spec.bare q) b 1 (omega arith) (bare_sane q))
  on_point_lem q c DgIs.other = tt

  on_exponent_sign_lem : {b : ℕ} (d : Decimal) (down : Bool) (c : Dg) → DgIs b c → sane_decimal p d ≡ true → Kept (Spec.on_exponent_sign p d down b c)
  on_exponent_sign_lem {b} d down c (DgIs.digit i) s = digits_go d down (b - ch "0") (kept d s) (omega (arith, i.low, i.high))
  on_exponent_sign_lem d down c DgIs.other s = tt

  on_exponent_lem : {b : ℕ} (d : Decimal) (c : ExpB) → ExpIs b c → sane_decimal p d ≡ true → Kept (Spec.on_exponent p d b c)
  on_exponent_lem {b} d c (ExpIs.digit i) s = digits_go d false (b - ch "0") (kept d s) (omega (arith, i.low, i.high))
  on_exponent_lem d c ExpIs.plus s = sign_goes d false (kept d s)
  on_exponent_lem d c ExpIs.minus s = sign_goes d true (kept d s)
  on_exponent_lem d c ExpIs.other s = tt

  on_digits : {b : ℕ} (d : Decimal) (down : Bool) (e : ℕ) (c : Dg) → DgIs b c → sane_decimal p d ≡ true → e < 10000000000
      → Kept (Spec.on_exponent_digits d down e b c)
  on_digits {b} d down e c (DgIs.digit i) s h = digits_go d down _ (kept d s) (raised_small e b i h)
  on_digits d down e c DgIs.other s h = scales d down e

  on_mark : (q : ℕ) (c : HexB) → Kept (Spec.on_hex_mark p q c)
  on_mark q (value x) = hex_goes q x false
  on_mark q no_hex = tt

  on_hex_lem : (q v : ℕ) (o : Bool) (c : HexB) → Kept (Spec.on_hex q v o c)
  on_hex_lem q v o (value x) = chosen (leb v Spec.sixteenth) _ _ (hex_goes q (16 * v + x) o) (hex_goes q v true)
  on_hex_lem q v o no_hex = chosen o (Breaks (BadNumber q)) Stops tt tt

  -- ---- digits with no sign

  module _ (o : Open) (b : ℕ) (h : o.acc.z ≤ p) where
    as_number_lem : (c : Num) → Kept (Spec.as_number p o b c)
    as_number_lem c =
        chosen o.nought (cond (leb o.count 1) (Spec.on_nought o.first c) (Spec.odd_at p)) (Spec.on_whole (Spec.decimal o.first o.acc 0) b c)
        (chosen (leb o.count 1) (Spec.on_nought o.first c) (Spec.odd_at p) (on_nought_lem o.first c) tt)
        (on_whole_lem (Spec.decimal o.first o.acc 0) b c (both _ _ (le-leb _ _ h) (le-leb 0 p (omega arith))))

    timed : (dated good : Bool) (m : Moment) → Kept (Takes (Timing (Spec.stamp o.first dated good) m) 0)
    unfolding sane_mode
    timed dated good m = (refl, omega arith)

    on_open_lem : (c : Num) → Kept (Spec.on_open p o b c)
    on_open_lem digit_n = chosen (ltb o.count 4) _ _ (open_goes _ (omega (arith, pushed_zeros o.acc b))) (as_number_lem digit_n)
    on_open_lem colon_n = chosen (eqb o.count 2) _ _ (timed false (leb o.value 23) _) (as_number_lem colon_n)
    on_open_lem minus_n = chosen (eqb o.count 4) _ _ (timed true true _) (as_number_lem minus_n)
    on_open_lem point_n = as_number_lem point_n
    on_open_lem e_n = as_number_lem e_n
    on_open_lem x_n = as_number_lem x_n
    on_open_lem other_n = as_number_lem other_n

-- ---- any state

pub begin_bounded : (p b : ℕ) → Bounded (suc p) (begin_figure p b)
unfolding begin_figure
begin_bounded p b = on_begin_lem p b (fst_of b)

pub figures_bounded : (f : Figure) (p b : ℕ) → sane_figure p f ≡ true → Bounded (suc p) (next_figure f p b)
unfolding next_figure sane_figure
figures_bounded (Figure.Sign q) p b s = on_sign_lem p q b (fst_of b)
figures_bounded (Figure.Nought q) p b s = on_nought_lem p q (num_of b)
figures_bounded (Figure.Point q) p b s = on_point_lem p q (dg_of b) (dg_class b)
figures_bounded (Figure.HexMark q) p b s = on_mark p q (hex_of b)
figures_bounded (Figure.Hex q v o) p b s = on_hex_lem p q v o (hex_of b)
figures_bounded (Figure.Open o) p b s = on_open_lem p o b (leb-true o.acc.z p s) (num_of b)
figures_bounded (Figure.Whole d) p b s = on_whole_lem p d b (num_of b) s
figures_bounded (Figure.Fraction d) p b s = on_fraction_lem p d b (num_of b) s
figures_bounded (Figure.Exponent d) p b s = on_exponent_lem p d (exp_of b) (exp_class b) s
figures_bounded (Figure.ExponentSign d down) p b s = on_exponent_sign_lem p d down (dg_of b) (dg_class b) s
figures_bounded (Figure.ExponentDigits d down e) p b s =
    let k = both_true (sane_decimal p d) (ltb e 10000000000) s in
    on_digits p d down e (dg_of b) (dg_class b) k.0 (ltb-true e 10000000000 k.1)
