-- Leap years, the days of a month, and that the test of a date that computes is right. Assumes nothing.
use mathlib.Core.Path.{◌≡◌, refl, sym, ◌∙◌, subst}
use mathlib.Core.Bool.{Bool, true, false, cond, not}
use Prim.Native.Nat.{ℕ, zero, suc, ◌%◌, ◌≤◌}
use native.Mathlib.Decide.{ℕ_discrete, dec_le}
use native.Mathlib.Omega.{arith}
use lib.Dec.{eqb, leb}
use borrow.Author.Tests.{eq-eqb, ne_eqb, le-leb, lt-leb, leb-true}
use Rattle.rules.specs.Rfc3339.{Leap, fourth, fourth_hundred, Days, january, february_normal, february_leap, march, april, may, june, july, august}
use Rattle.rules.specs.Rfc3339.{september, october, november, december, Date, Dated, done}
use Rattle.rules.specs.Rfc3339
use Rattle.rules.specs.Between.Decided.{is_leap, long_or_short, days_of, day_of, is_date}
use Rattle.rules.specs.Between.Posts.{Lasts, month, no_month}
use Rattle.rules.specs.Between.Tests.{Decides, holds, fails}
use Rattle.std.specs.declared.option.Option.{Option}
use Rattle.std.specs.declared.option.Option.TheVariants.{Some, None}
use Rattle.std.specs.declared.result.Result.TheVariants.{Err}
use Rattle.rules.specs.declared.NoDate.{NoDate}

-- ---- leap years, as the code tests them

no_leap : (y : ℕ) → (y % 4 ≡ 0 → ⊥) → Leap y → ⊥
no_leap y f (fourth e g) = f e
no_leap y f (fourth_hundred e g) = f e

no_hundred : (y : ℕ) → y % 100 ≡ 0 → (y % 400 ≡ 0 → ⊥) → Leap y → ⊥
no_hundred y e f (fourth g h) = h e
no_hundred y e f (fourth_hundred g h) = f h

pub leap_fourth : (y : ℕ) → y % 4 ≡ 0 → (y % 100 ≡ 0 → ⊥) → Decides (Leap y) (not (eqb (y % 100) 0))
leap_fourth y e f = rw (ne_eqb (y % 100) 0 f) (holds (fourth e f))

pub leap_hundred : (y : ℕ) → y % 4 ≡ 0 → y % 100 ≡ 0 → Decides (Leap y) (eqb (y % 400) 0)
leap_hundred y e h = go (ℕ_discrete (y % 400) 0)
  where
    go : Dec (y % 400 ≡ 0) → Decides (Leap y) (eqb (y % 400) 0)
    go (yes q) = rw (eq-eqb (y % 400) 0 q) (holds (fourth_hundred e q))
    go (no q) = rw (ne_eqb (y % 400) 0 q) (fails (no_hundred y h q))

pub leap_none : (y : ℕ) → (y % 4 ≡ 0 → ⊥) → Decides (Leap y) (eqb (y % 4) 0)
leap_none y f = rw (ne_eqb (y % 4) 0 f) (fails (no_leap y f))

-- ---- the days of a month

pub is_month : {y m n : ℕ} → Days y m n → (1 ≤ m) × (m ≤ 12)
is_month january = omega arith
is_month (february_normal f) = omega arith
is_month (february_leap x) = omega arith
is_month march = omega arith
is_month april = omega arith
is_month may = omega arith
is_month june = omega arith
is_month july = omega arith
is_month august = omega arith
is_month september = omega arith
is_month october = omega arith
is_month november = omega arith
is_month december = omega arith

pub february_is : (y m : ℕ) (l : Bool) → m ≡ 2 → Decides (Leap y) l → Lasts y m (Some (cond l 29 28))
february_is y m true e (holds x) = rw e (month (february_leap x))
february_is y m false e (fails f) = rw e (month (february_normal f))

-- each month but February
pub by_rule : (y m : ℕ) → 1 ≤ m → m ≤ 12 → (m ≡ 2 → ⊥) → Lasts y m (Some (long_or_short m))
by_rule y zero l h f = absurd (omega arith)
by_rule y (suc zero) l h f = month january
by_rule y (suc (suc zero)) l h f = absurd (f refl)
by_rule y (suc (suc (suc zero))) l h f = month march
by_rule y (suc (suc (suc (suc zero)))) l h f = month april
by_rule y (suc (suc (suc (suc (suc zero))))) l h f = month may
by_rule y (suc (suc (suc (suc (suc (suc zero)))))) l h f = month june
by_rule y (suc (suc (suc (suc (suc (suc (suc zero))))))) l h f = month july
by_rule y (suc (suc (suc (suc (suc (suc (suc (suc zero)))))))) l h f = month august
by_rule y (suc (suc (suc (suc (suc (suc (suc (suc (suc zero))))))))) l h f = month september
by_rule y (suc (suc (suc (suc (suc (suc (suc (suc (suc (suc zero)))))))))) l h f = month october
by_rule y (suc (suc (suc (suc (suc (suc (suc (suc (suc (suc (suc zero))))))))))) l h f = month november
by_rule y (suc (suc (suc (suc (suc (suc (suc (suc (suc (suc (suc (suc zero)))))))))))) l h f = month december
by_rule y (suc (suc (suc (suc (suc (suc (suc (suc (suc (suc (suc (suc (suc m))))))))))))) l h f = absurd (omega arith)

-- what `days` answers, arm by arm
pub leap_february : (y m : ℕ) → m ≡ 2 → Decides (Leap y) true → Lasts y m (Some 29)
leap_february y m e x = february_is y m true e x

pub normal_february : (y m : ℕ) → m ≡ 2 → Decides (Leap y) false → Lasts y m (Some 28)
normal_february y m e x = february_is y m false e x

pub out_of_year : (y m : ℕ) → ((1 ≤ m) × (m ≤ 12) → ⊥) → Lasts y m None
out_of_year y m f = no_month (λ n x. f (is_month x))

pub ruleset arms = (leap_february, normal_february, by_rule, out_of_year)

-- ---- one answer

days_are : {y m n : ℕ} {l : Bool} → Decides (Leap y) l → Days y m n → Some n ≡ days_of l m
days_are i january = refl
days_are (holds x) (february_normal f) = absurd (f x)
days_are (fails g) (february_normal f) = refl
days_are (holds y) (february_leap x) = refl
days_are (fails g) (february_leap x) = absurd (g x)
days_are i march = refl
days_are i april = refl
days_are i may = refl
days_are i june = refl
days_are i july = refl
days_are i august = refl
days_are i september = refl
days_are i october = refl
days_are i november = refl
days_are i december = refl

pub leap_is : (y : ℕ) → Decides (Leap y) (is_leap y)
unfolding is_leap
leap_is y = go (ℕ_discrete (y % 4) 0) (ℕ_discrete (y % 100) 0)
  where
    go : Dec (y % 4 ≡ 0) → Dec (y % 100 ≡ 0) → Decides (Leap y) (cond (eqb (y % 4) 0) (cond (eqb (y % 100) 0) (eqb (y % 400) 0) true) false)
    go (no f) q = rw (ne_eqb (y % 4) 0 f) (fails (no_leap y f))
    go (yes e) (no f) = rw (eq-eqb (y % 4) 0 e, ne_eqb (y % 100) 0 f) (holds (fourth e f))
    go (yes e) (yes f) = rw (eq-eqb (y % 4) 0 e, eq-eqb (y % 100) 0 f) (leap_hundred y e f)

pub same_days : {y m a b : ℕ} → Days y m a → Days y m b → a ≡ b
same_days {y} p q = let e = days_are (leap_is y) p ∙ sym (days_are (leap_is y) q) in cc

-- what the days of a month decide of a day
pub no_day : (y m d n : ℕ) → Lasts y m (Some n) → ((1 ≤ d) × (d ≤ n) → ⊥) → {e : NoDate} → Dated y m d (Err e)
no_day y m d n (month x) f = Rfc3339.none (λ t. f (t.from, omega (arith, same_days x t.month))) refl

-- ---- whether three numbers are a date, as a test that computes

pub date_is : {y m d : ℕ} → Date y m d → is_date y m d ≡ true
unfolding is_date
date_is {y} {m} {d} t =
    rw (le-leb y 9999 t.year, le-leb 1 d t.from, ← days_are (leap_is y) t.month) (le-leb d t.days t.to)

pub days_stand : (y m : ℕ) → Lasts y m (days_of (is_leap y) m)
days_stand y m = go (ℕ_discrete m 2) (dec_le 1 m) (dec_le m 12)
  where
    go : Dec (m ≡ 2) → Dec (1 ≤ m) → Dec (m ≤ 12) → Lasts y m (days_of (is_leap y) m)
    go (yes e) q p = rw (eq-eqb m 2 e) (february_is y m (is_leap y) e (leap_is y))
    go (no f) (no l) p = rw (ne_eqb m 2 f, lt-leb 1 m (omega arith)) (out_of_year y m (λ p. omega arith))
    go (no f) (yes l) (no h) = rw (ne_eqb m 2 f, le-leb 1 m l, lt-leb m 12 (omega arith)) (out_of_year y m (λ p. omega arith))
    go (no f) (yes l) (yes h) = rw (ne_eqb m 2 f, le-leb 1 m l, le-leb m 12 h) (by_rule y m l h f)

both : (a b : Bool) → cond a b false ≡ true → (a ≡ true) × (b ≡ true)
both true b e = (refl, e)
both false b e = absurd (subst (λ (x : Bool). cond x ⊥ Unit) e tt)

-- a day of a month that has so many
by_days : {y m d : ℕ} (o : Option ℕ) → Lasts y m o → day_of d o ≡ true → y ≤ 9999 → 1 ≤ d → Date y m d
by_days {d = d} (Some n) (month x) e h f = record { year = h; days = n; month = x; from = f; to = leb-true d n e }
by_days None l e h f = absurd (subst (λ (x : Bool). cond x ⊥ Unit) e tt)

pub is_date_lem : {y m d : ℕ} → is_date y m d ≡ true → Date y m d
unfolding is_date
is_date_lem {y} {m} {d} e =
    let p = both (leb y 9999) _ e in
    let q = both (leb 1 d) _ p.1 in
    by_days (days_of (is_leap y) m) (days_stand y m) q.1 (leb-true y 9999 p.0) (leb-true 1 d q.0)
