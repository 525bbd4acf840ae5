-- The canonical texts of the four time types are derived. Assumes nothing.
use Prim.Native.Nat.{ℕ, zero, suc, ◌+◌, ◌*◌, ◌/◌, ◌%◌, ◌≤◌, ◌<◌, ◌^◌}
use mathlib.Core.Path.{◌≡◌, refl, sym, ap, ◌∙◌, subst}
use mathlib.Core.Bool.{Bool, true, false, cond}
use mathlib.Core.List.{List, [], ◌∷◌, ◌++◌, append_assoc}
use native.Mathlib.Nat.{div-div-eq-div-mul, zero-add, suc-add, mul_assoc, mul-one, pow-suc, pow-succ'}
use native.Mathlib.Omega.{arith}
use lib.Dec.{eqb, lit≤}
use lib.IntN.{ℤ, pos, negsuc, nat_abs}
use borrow.Author.Tests.{eqb-true, eqb-false}
use Rattle.rules.specs.Rfc3339 as Calendar
use Rattle.meaning.specs.declared.Date.{Date as DateMeant}
use Rattle.meaning.specs.declared.Time.{Time as TimeMeant}
use Rattle.meaning.specs.declared.Time.TheVariants.{LocalDate, LocalTime, LocalDateTime, OffsetDateTime}
use Rattle.meaning.specs.Letters.{letters, ch}
use Rattle.meaning.specs.Limits.{fraction_digits, second, day, offset_limit}
use Rattle.meaning.specs.Clock.{time_of_day}
use Rattle.meaning.specs.Good.{GoodDate, GoodTime}
use Rattle.meaning.specs.Canonical.{fixed, trimmed, date_text, fraction_text, clock_text, minutes_text, offset_text, time_text}
use Rattle.grammar.specs.Characters.{Digits, Decimal}
use Rattle.grammar.specs.Times.{Fraction, TimeSecfrac, TimeHour, TimeMinute, LocalTimeText, LocalDateText, Separator, Zulu, signed, PlusMinus, TimeOffset}
use Rattle.grammar.specs.Times.{TimeValue}
use Rattle.grammar.proofs.Canonical.Digits.{fixed_is}

-- ---- dates

month_least : {y m n : ℕ} → Calendar.Days y m n → (m ≤ 12) × (n ≤ 31)
month_least Calendar.Days.january = (lit≤ tt, lit≤ tt)
month_least (Calendar.Days.february_normal l) = (lit≤ tt, lit≤ tt)
month_least (Calendar.Days.february_leap l) = (lit≤ tt, lit≤ tt)
month_least Calendar.Days.march = (lit≤ tt, lit≤ tt)
month_least Calendar.Days.april = (lit≤ tt, lit≤ tt)
month_least Calendar.Days.may = (lit≤ tt, lit≤ tt)
month_least Calendar.Days.june = (lit≤ tt, lit≤ tt)
month_least Calendar.Days.july = (lit≤ tt, lit≤ tt)
month_least Calendar.Days.august = (lit≤ tt, lit≤ tt)
month_least Calendar.Days.september = (lit≤ tt, lit≤ tt)
month_least Calendar.Days.october = (lit≤ tt, lit≤ tt)
month_least Calendar.Days.november = (lit≤ tt, lit≤ tt)
month_least Calendar.Days.december = (lit≤ tt, lit≤ tt)

pub date_derived : (d : DateMeant) → GoodDate d → LocalDateText true (date_text d) d
unfolding date_text
date_derived d g =
    let h = month_least g.month in
    simp append_assoc (LocalDateText.local_date (fixed_is 4 d.year (omega (arith, g.year))) (fixed_is 2 d.month (omega (arith, h.0)))
    (fixed_is 2 d.day (omega (arith, h.1, g.to))) g)

-- ---- clocks

-- digits before j more that could count
counted : {w v m : ℕ} {a : List ℕ} (j : ℕ) → Decimal w v a m → Fraction (w + j) v a (m * 10 ^ j)
counted {v = v} j Digits.over = subst (λ (n : ℕ). Fraction n v [] (v * 10 ^ j)) (sym (zero-add j)) Fraction.over
counted {v = v} {m = m} j (Digits.next {n = n} {b = b} {a = a} d r) = subst (λ (k : ℕ). Fraction k v (b ∷ a) (m * 10 ^ j)) (sym (suc-add n j))
    (Fraction.counts d (counted j r))

-- without the zeros at the end
trimmed_is : (w n j : ℕ) → n < 10 ^ w → 0 < n → Fraction (w + j) 0 (trimmed w n) (n * 10 ^ j)
unfolding trimmed
trimmed_is zero n j h l = absurd (omega arith)
trimmed_is (suc w) n j h l = go (λ p q. trimmed_is w (n / 10) (suc j) p q) (eqb (n % 10) 0) refl
  where
    go : (n / 10 < 10 ^ w → 0 < n / 10 → Fraction (w + suc j) 0 (trimmed w (n / 10)) (n / 10 * 10 ^ suc j)) → (t : Bool) → eqb (n % 10) 0 ≡ t
        → Fraction (suc w + j) 0 (cond t (trimmed w (n / 10)) (fixed (suc w) n)) (n * 10 ^ j)
    go f true e =
        let z : n / 10 * 10 ≡ n = omega (arith, eqb-true (n % 10) 0 e) in
        let p : n / 10 * 10 ^ suc j ≡ n * 10 ^ j = ap (λ (x : ℕ). n / 10 * x) (pow-succ' 10 j) ∙ sym (mul_assoc (n / 10) 10 (10 ^ j))
        ∙ ap (λ (x : ℕ). x * 10 ^ j) z in
        let k : w + suc j ≡ suc w + j = omega arith in
        subst (λ (x : ℕ). Fraction x 0 (trimmed w (n / 10)) (n * 10 ^ j)) k (subst (Fraction (w + suc j) 0 (trimmed w (n / 10))) p
        (f (omega (arith, pow-suc 10 w)) (omega arith)))
    go f false e = counted j (fixed_is (suc w) n h)

-- a fraction that is not 0 has a digit
given : (a : List ℕ) {n : ℕ} → Fraction fraction_digits 0 a n → 0 < n → TimeSecfrac (ch "." ∷ a) n
given [] Fraction.over h = absurd (omega arith)
given (b ∷ a) f h = TimeSecfrac.given f

secfrac : (n : ℕ) → n < second → TimeSecfrac (fraction_text n) n
unfolding fraction_text
secfrac n h = go (eqb n 0) refl
  where
    go : (t : Bool) → eqb n 0 ≡ t → TimeSecfrac (cond t [] (letters "." ++ trimmed fraction_digits n)) n
    go true e = subst (TimeSecfrac []) (sym (eqb-true n 0 e)) TimeSecfrac.absent
    go false e = let l : 0 < n = omega (arith, eqb-false n 0 e) in given (trimmed 9 n) (subst (Fraction 9 0 (trimmed 9 n)) (mul-one n) (trimmed_is 9 n 0 h l)) l

hour : (n : ℕ) → n ≤ 23 → TimeHour true (fixed 2 n) n
hour n h = TimeHour.hour (fixed_is 2 n (omega arith)) h

minute : (n : ℕ) → n ≤ 59 → TimeMinute true (fixed 2 n) n
minute n h = TimeMinute.sixtieth (fixed_is 2 n (omega arith)) h

clock_is : (t : ℕ) → time_of_day (t / (60 * 60 * second)) (t / (60 * second) % 60) (t / second % 60) (t % second) ≡ t
clock_is t =
    let m : t / second / 60 ≡ t / (60 * second) = div-div-eq-div-mul t second 60 in
    let h : t / (60 * second) / 60 ≡ t / (60 * 60 * second) = div-div-eq-div-mul t (60 * second) 60 in
    omega arith

pub clock_derived : (t : ℕ) → t < day → LocalTimeText true (clock_text t) t
unfolding clock_text
clock_derived t h =
    subst (LocalTimeText true _) (clock_is t)
    (simp append_assoc (LocalTimeText.local_time (hour (t / (60 * 60 * second)) (omega arith)) (minute (t / (60 * second) % 60) (omega arith))
    (minute (t / second % 60) (omega arith)) (secfrac (t % second) (omega arith))))

-- ---- offsets

minutes : {x : ℕ} {g : Bool} (n : ℕ) → n ≤ offset_limit → PlusMinus x g → TimeOffset true (x ∷ minutes_text n) (signed g n)
minutes {x} {g} n h p =
    let e : n / 60 * 60 + n % 60 ≡ n = omega arith in
    subst (λ (m : ℕ). TimeOffset true (x ∷ minutes_text n) (signed g m)) e
    (simp append_assoc (TimeOffset.numoffset p (hour (n / 60) (omega arith)) (minute (n % 60) (omega arith))))

pub offset_derived : (o : ℤ) → nat_abs o ≤ offset_limit → TimeOffset true (offset_text o) o
unfolding offset_text
offset_derived (pos zero) h = TimeOffset.zulu Zulu.letter
offset_derived (pos (suc n)) h = minutes (suc n) h PlusMinus.plus
offset_derived (negsuc n) h = minutes (suc n) h PlusMinus.minus

pub time_derived : (t : TimeMeant) → GoodTime t → TimeValue true (time_text t) t
unfolding time_text
time_derived (LocalDate d) g = TimeValue.local_date (date_derived d g)
time_derived (LocalTime t) g = TimeValue.local_time (clock_derived t g)
time_derived (LocalDateTime d t) g = simp append_assoc (TimeValue.local_date_time (date_derived d g.0) Separator.letter (clock_derived t g.1))
time_derived (OffsetDateTime d t o) g = simp append_assoc (TimeValue.offset_date_time (date_derived d g.0) Separator.letter (clock_derived t g.1)
    (offset_derived o g.2))
