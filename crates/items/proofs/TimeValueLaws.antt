-- The fields of a time value, and its check. Assumes nothing.
use Rattle.std.specs.Prelude.{Result, Ok, Err, Option, None, is_ok}
use Prim.Native.Nat.{ℕ, zero, suc, ◌+◌, ◌*◌, ◌/◌, ◌-◌, ◌≤◌, ◌<◌, ◌^◌}
use mathlib.Core.Path.{◌≡◌, refl, sym, ◌∙◌, ap, subst}
use mathlib.Core.Bool.{Bool, true, false, ◌&&◌}
use mathlib.Core.List.{List}
use mathlib.Core.Logic.{◌⊎◌, inl, inr, ⊎_elim}
use native.Mathlib.Omega.{arith}
use native.Mathlib.Nat.{pow-suc, mul-le-mul_right, mul-le-mul_left, pow-le-pow_right}
use lib.Dec.{eqb, leb}
use lib.ListN.{length, get_or}
use lib.IntN.{ℤ, pos}
use borrow.Author.Tests.{eq-eqb, ne_eqb, eqb-true, eqb-false, le-leb, lt-leb}
use Rattle.rules.specs.Rfc3339.{Dated}
use Rattle.rules.specs.Between.Tests.{Decides}
use Rattle.rules.proofs.TestsLaws.{by_test}
use Rattle.rules.proofs.Outcomes.{date_done_lem, date_none}
use Rattle.rules.specs.declared.NoDate.{NoDate}
use Rattle.rules.specs.Between.Decided.{is_date}
use Rattle.rules.proofs.Months.{date_is, is_date_lem}
use Rattle.meaning.specs.Letters.{ch}
use Rattle.meaning.specs.Limits.{fraction_digits}
use Rattle.meaning.specs.Limits as Limits
use Rattle.meaning.specs.Clock.{time_of_day}
use Rattle.meaning.specs.declared.Date.{Date}
use Rattle.meaning.specs.declared.Time.{Time}
use Rattle.meaning.specs.declared.Time.TheVariants.{LocalDate, LocalTime, LocalDateTime, OffsetDateTime}
use Rattle.meaning.specs.declared.Refusal.TheVariants.{NotGrammar, BadTime}
use Rattle.grammar.specs.Times as G
use Rattle.grammar.specs.Times.{signed}
use Rattle.machine.specs.Scan.{takes, over as textEnd}
use Rattle.machine.specs.Numeric as S
use Rattle.machine.specs.Numeric.{St, Slot, scan, dig, field, ok_date, ok_clock, tested, date_done, clock_done, on_zone, sec_of, nanos, sec_point, zulu, spaced}
use Rattle.machine.proofs.Runs.{NoDigit}
use Rattle.machine.proofs.Numeric.Rows.{dg_digit, dg_none, sec_digit, sec_class, SecIs, day_class, DayIs}
use Rattle.items.specs.Between.Places.{byte_at}
use Rattle.items.specs.Between.Fractions.{Fractioned, FractionSays}
use Rattle.items.specs.Between.NumberOrTime.{Scanned, taken, Means, Tells, Reads, Closes, IsDigit, Edge, Onto, TwoSays, ThenSays, when_of, clock_test, Zoned}
use Rattle.items.specs.Between.NumberOrTime.{NanosSays, Digit}
use Rattle.items.specs.declared.Item.TheVariants as Item
use Rattle.items.specs.declared.NotGrammar as NotGrammarOf
use Rattle.items.specs.declared.Taken.{Taken}
use Rattle.items.specs.declared.clock.Clock.{Clock}
use Rattle.items.proofs.PlacesLaws.{byte_in, byte_out}
use Rattle.items.proofs.NumberOrTimeLaws.{edge_none, no_digit_lem, took, halts, breaks_at, same, closes_by}

-- ---- fields of two digits

module _ (s : List ℕ) (q : ℕ) (l : Slot) (n v i : ℕ) where
  no_more : Edge s i → Reads s i (field q l (suc n) v) (Err (NotGrammar i))
  no_more e = breaks_at (rw (dg_none (edge_none e)))

  one_digit : i < length s → IsDigit (get_or s i 0) → Onto s i (field q l (suc n) v) (i + 1) (field q l n (dig v (get_or s i 0)))
  one_digit h d = λ r k. took (field q l n (dig v (get_or s i 0))) h (rw (dg_digit (get_or s i 0) d)) k

module _ (s : List ℕ) (i : ℕ) where
  pub bad_first : (e : NotGrammarOf.NotGrammar) → (e.place ≡ i) × Edge s i → TwoSays s i (Err e)
  bad_first e h q l = rw h.0 (no_more s q l 1 0 i h.1)

  module _ {d : ℕ} (a : Digit s i d) where
    pub bad_second : (e : NotGrammarOf.NotGrammar) → (e.place ≡ i + 1) × Edge s (i + 1) → TwoSays s i (Err e)
    bad_second e h q l = rw h.0 (one_digit s q l 1 0 i a.inside a.digit _ (no_more s q l 0 (dig 0 (get_or s i 0)) (i + 1) h.1))

    pub got_two : {n : ℕ} → Digit s (i + 1) n → TwoSays s i (Ok (taken (10 * d + n) (i + 1 + 1)))
    got_two {n} b = (
      omega (arith, b.inside),
      omega (arith, a.value, b.value, a.digit.high, b.digit.high),
      λ q l r t. one_digit s q l 1 0 i a.inside a.digit r (one_digit s q l 0 (dig 0 (get_or s i 0)) (i + 1) b.inside b.digit r
          (subst (λ (x : ℕ). Reads s (i + 1 + 1) (field q l 0 x) r) (omega (arith, a.value, b.value)) t)),
    )

module _ (s : List ℕ) (i mark : ℕ) where
  module _ (t : Taken ℕ) (u : TwoSays s i (Ok t)) where
    pub then_end : mark < textEnd → length s ≤ t.end → ThenSays s i mark (Err (record { place = t.end }))
    then_end l h q k to g = u.2 q k _ (breaks_at (rw (byte_out s t.end h) (g t.end q t.value textEnd ∙ rw (ne_eqb textEnd mark (λ x. omega arith)))))

    pub then_wrong : t.end < length s → (get_or s t.end 0 ≡ mark → ⊥) → ThenSays s i mark (Err (record { place = t.end }))
    then_wrong h n q l to g = u.2 q l _
        (breaks_at (rw (byte_in s t.end h) (g t.end q t.value (get_or s t.end 0) ∙ rw (ne_eqb (get_or s t.end 0) mark n))))

    pub then_got : t.end < length s → get_or s t.end 0 ≡ mark → ThenSays s i mark (Ok (taken t.value (t.end + 1)))
    then_got h n = (
      omega arith,
      u.1,
      λ q l to g r x. u.2 q l r
          (took (field q (to t.value) 2 0) h (g t.end q t.value (get_or s t.end 0) ∙ rw (eq-eqb (get_or s t.end 0) mark n)) x),
    )

-- ---- the check

-- what the calendar answers is what the test that computes answers
pub date_tested : {y m d : ℕ} (r : Result (Unit {0}) NoDate) → Dated y m d r → is_ok r ≡ is_date y m d
date_tested (Ok v) x = sym (date_is (date_done_lem x))
date_tested {y} {m} {d} (Err e) x = go (is_date y m d) refl
  where
    go : (b : Bool) → is_date y m d ≡ b → false ≡ is_date y m d
    go true f = absurd (date_none x (is_date_lem f))
    go false f = sym f

both_true : (a b : Bool) → a ≡ true → b ≡ true → (a && b) ≡ true
both_true a b e f = rw (e, f)

first_false : (a b : Bool) → a ≡ false → (a && b) ≡ false
first_false a b e = rw e

second_false : (a b : Bool) → b ≡ false → (a && b) ≡ false
second_false true b e = e
second_false false b e = refl

module _ (q at : ℕ) (ok : Bool) (t : Time) where
  test_yes : (r : Scanned) → ok ≡ true → r ≡ Ok (taken (Item.Time t) at) → Closes at (tested q ok t) r
  test_yes r e f = rw (e, f) (record { tells = Tells.item Means.time })

  test_no : ok ≡ false → Closes at (tested q ok t) (Err (BadTime q))
  test_no e = rw e (record { tells = Tells.refused })

module _ (q : ℕ) (d : Date) (at : ℕ) (x : Bool) (e : x ≡ ok_date d) where
  pub date_good : x ≡ true → (r : Scanned) → r ≡ Ok (taken (Item.Time (LocalDate d)) at) → Closes at (date_done q d) r
  date_good f r k = test_yes q at (ok_date d) (LocalDate d) r (sym e ∙ f) k

  pub date_bad : x ≡ false → Closes at (date_done q d) (Err (BadTime q))
  date_bad f = test_no q at (ok_date d) (LocalDate d) (sym e ∙ f)

module _ (q : ℕ) (c : Clock) (at : ℕ) (y : Bool) (f : y ≡ clock_test c) where
  abbrev clock_of : ℕ
  clock_of = time_of_day c.hour c.minute c.second c.nanos

  pub time_good : y ≡ true → (n : ℕ) → n ≡ clock_of → (r : Scanned) → r ≡ Ok (taken (Item.Time (LocalTime n)) at)
      → Closes at (clock_done q S.alone c.hour c.minute c.second c.nanos) r
  time_good g n k r j = test_yes q at (clock_test c) (LocalTime clock_of) r (sym f ∙ g) (j ∙ ap (λ (z : ℕ). Ok (taken (Item.Time (LocalTime z)) at)) k)

  pub time_bad : y ≡ false → Closes at (clock_done q S.alone c.hour c.minute c.second c.nanos) (Err (BadTime q))
  time_bad g = test_no q at (clock_test c) (LocalTime clock_of) (sym f ∙ g)

  module _ (d : Date) (x : Bool) (e : x ≡ ok_date d) where
    pub stamp_good : x ≡ true → y ≡ true → (n : ℕ) → n ≡ clock_of → (r : Scanned) → r ≡ Ok (taken (Item.Time (LocalDateTime d n)) at)
        → Closes at (clock_done q (S.on d) c.hour c.minute c.second c.nanos) r
    stamp_good g h n k r j = test_yes q at (ok_date d && clock_test c) (LocalDateTime d clock_of) r
        (both_true (ok_date d) (clock_test c) (sym e ∙ g) (sym f ∙ h))
        (j ∙ ap (λ (z : ℕ). Ok (taken (Item.Time (LocalDateTime d z)) at)) k)

    pub stamp_clock : y ≡ false → Closes at (clock_done q (S.on d) c.hour c.minute c.second c.nanos) (Err (BadTime q))
    stamp_clock h = test_no q at (ok_date d && clock_test c) (LocalDateTime d clock_of) (second_false (ok_date d) (clock_test c) (sym f ∙ h))

    module _ (o : ℤ) where
      pub offset_good : x ≡ true → y ≡ true → (n : ℕ) → n ≡ clock_of → (p : ℤ) → p ≡ o → (r : Scanned) → r ≡ Ok (taken (Item.Time (OffsetDateTime d n p)) at)
          → Closes at (tested q (ok_date d && clock_test c) (OffsetDateTime d clock_of o)) r
      offset_good g h n k p v r j = test_yes q at (ok_date d && clock_test c) (OffsetDateTime d clock_of o) r
          (both_true (ok_date d) (clock_test c) (sym e ∙ g) (sym f ∙ h)) (j ∙ ap (λ (z : ℤ). Ok (taken (Item.Time (OffsetDateTime d n z)) at)) v
          ∙ ap (λ (z : ℕ). Ok (taken (Item.Time (OffsetDateTime d z o)) at)) k)

      pub offset_clock : y ≡ false → Closes at (tested q (ok_date d && clock_test c) (OffsetDateTime d clock_of o)) (Err (BadTime q))
      offset_clock h = test_no q at (ok_date d && clock_test c) (OffsetDateTime d clock_of o) (second_false (ok_date d) (clock_test c) (sym f ∙ h))

module _ (q : ℕ) (c : Clock) (at : ℕ) (d : Date) (x : Bool) (e : x ≡ ok_date d) (g : x ≡ false) where
  pub stamp_date : Closes at (clock_done q (S.on d) c.hour c.minute c.second c.nanos) (Err (BadTime q))
  stamp_date = test_no q at (ok_date d && clock_test c) (LocalDateTime d (time_of_day c.hour c.minute c.second c.nanos))
      (first_false (ok_date d) (clock_test c) (sym e ∙ g))

  pub offset_date : (o : ℤ) → Closes at (tested q (ok_date d && clock_test c) (OffsetDateTime d (time_of_day c.hour c.minute c.second c.nanos) o))
      (Err (BadTime q))
  offset_date o = test_no q at (ok_date d && clock_test c) (OffsetDateTime d (time_of_day c.hour c.minute c.second c.nanos) o)
      (first_false (ok_date d) (clock_test c) (sym e ∙ g))

-- ---- an offset

module _ (s : List ℕ) (q : ℕ) (d : Date) (c : Clock) (g : Bool) (i : ℕ) where
  abbrev offset_at : Slot
  offset_at = S.offset_hour d c.hour c.minute c.second c.nanos g

  pub offset_bad : (e : NotGrammarOf.NotGrammar) → ThenSays s i (ch ":") (Err e) → Reads s i (field q offset_at 2 0) (Err (NotGrammar e.place))
  offset_bad e t = t q offset_at (λ v. S.offset_minute d c.hour c.minute c.second c.nanos g v) (λ p q v b. refl)

  pub offset_got : (h : Taken ℕ) → ThenSays s i (ch ":") (Ok h) → Onto s i (field q offset_at 2 0) h.end
      (field q (S.offset_minute d c.hour c.minute c.second c.nanos g h.value) 2 0)
  offset_got h t = t.2 q offset_at (λ v. S.offset_minute d c.hour c.minute c.second c.nanos g v) (λ p q v b. refl)

module _ (s : List ℕ) (q : ℕ) (d : Date) (c : Clock) (g : Bool) (h i : ℕ) where
  abbrev minute_at : Slot
  minute_at = S.offset_minute d c.hour c.minute c.second c.nanos g h

  module _ (t : Taken ℕ) (u : TwoSays s i (Ok t)) where
    abbrev m : ℕ
    m = t.value

    abbrev offset_test : Bool
    offset_test = (ok_date d && ok_clock c.hour c.minute c.second) && (leb h 23 && leb m 59)

    abbrev offset_time : Time
    offset_time = OffsetDateTime d (time_of_day c.hour c.minute c.second c.nanos) (signed g (h * 60 + m))

    ends : (r : Scanned) → Closes t.end (tested q offset_test offset_time) r → Reads s i (field q minute_at 2 0) r
    ends r x = u.2 q minute_at r (halts (tested q offset_test offset_time) refl x)

    pub offset_hour_lem : 23 < h → Reads s i (field q minute_at 2 0) (Err (BadTime q))
    offset_hour_lem l = ends _ (test_no q t.end offset_test offset_time (second_false (ok_date d && clock_test c) (leb h 23 && leb m 59)
        (first_false (leb h 23) (leb m 59) (lt-leb h 23 l))))

    pub offset_minute_lem : 59 < m → Reads s i (field q minute_at 2 0) (Err (BadTime q))
    offset_minute_lem l = ends _ (test_no q t.end offset_test offset_time (second_false (ok_date d && clock_test c) (leb h 23 && leb m 59)
        (second_false (leb h 23) (leb m 59) (lt-leb m 59 l))))

    pub offset_ends : h ≤ 23 → m ≤ 59 → (o : ℤ) → o ≡ signed g (h * 60 + m) → (r : Scanned)
        → Closes t.end (tested q (ok_date d && clock_test c) (OffsetDateTime d (time_of_day c.hour c.minute c.second c.nanos) o)) r
        → Reads s i (field q minute_at 2 0) r
    offset_ends l n o v r x = ends r (closes_by _ _ (same_test (ok_date d && clock_test c) (leb h 23) (leb m 59) (le-leb h 23 l) (le-leb m 59 n)) (rw v at x))
      where
        same_test : (a b c : Bool) → b ≡ true → c ≡ true → tested q (a && (b && c)) offset_time ≡ tested q a offset_time
        same_test true b c y z = rw (y, z)
        same_test false b c y z = refl

-- ---- the letters, each in two cases

-- the second half of a test whose first half has failed
pub second_case : (b x y : ℕ) → (b ≡ x → ⊥) → Decides ((b ≡ x) ⊎ (b ≡ y)) (eqb b y)
second_case b x y f = by_test (eqb b y) (λ e. inr (eqb-true b y e)) (λ e. ⊎_elim f (eqb-false b y e))

zulu_class : {b : ℕ} → (b ≡ ch "Z") ⊎ (b ≡ ch "z") → sec_of b ≡ S.zulu_s
zulu_class (inl e) = rw e
zulu_class (inr e) = rw e

letter_class : {b : ℕ} → (b ≡ ch "T") ⊎ (b ≡ ch "t") → S.day_of b ≡ S.letter_d
letter_class (inl e) = rw e
letter_class (inr e) = rw e

-- ---- after a clock

module _ (q : ℕ) (d : Date) (h m s n : ℕ) where
  zone_other : {b : ℕ} {k : S.Sec} → SecIs b k → ((b ≡ ch "Z") ⊎ (b ≡ ch "z") → ⊥) → (b ≡ ch "+" → ⊥) → (b ≡ ch "-" → ⊥) → on_zone q (S.on d) h m s n k
      ≡ clock_done q (S.on d) h m s n
  zone_other (SecIs.digit i) x y z = refl
  zone_other SecIs.point x y z = refl
  zone_other (SecIs.z_is G.Zulu.letter) x y z = absurd (x (inl refl))
  zone_other (SecIs.z_is G.Zulu.small_letter) x y z = absurd (x (inr refl))
  zone_other SecIs.plus x y z = absurd (y refl)
  zone_other SecIs.minus x y z = absurd (z refl)
  zone_other SecIs.other x y z = refl

module _ (s : List ℕ) (q : ℕ) (d : Date) (c : Clock) (at : ℕ) (r : Scanned) where
  abbrev Stamped : Type 0
  Stamped = Closes at (clock_done q (S.on d) c.hour c.minute c.second c.nanos) r

  pub zone_end : length s ≤ at → Stamped → Zoned s q (S.on d) c at r
  zone_end h x st e = halts _ (e ∙ rw (byte_out s at h)) x

  module _ (h : at < length s) where
    pub zone_none : ((get_or s at 0 ≡ ch "Z") ⊎ (get_or s at 0 ≡ ch "z") → ⊥) → (get_or s at 0 ≡ ch "+" → ⊥) → (get_or s at 0 ≡ ch "-" → ⊥) → Stamped
        → Zoned s q (S.on d) c at r
    zone_none x y z k st e =
        let p = byte_in s at h in
        halts _ (e ∙ zone_other q d c.hour c.minute c.second c.nanos (sec_class (byte_at s at)) (λ j. x (rw p at j)) (λ j. y (sym p ∙ j))
        (λ j. z (sym p ∙ j))) k

    zone_takes : (t : St) (st : St) → scan at st (byte_at s at) ≡ takes t → Reads s (at + 1) t r → Reads s at st r
    zone_takes t st e k = took t h (ap (scan at st) (sym (byte_in s at h)) ∙ e) k

    pub zone_zulu : (get_or s at 0 ≡ ch "Z") ⊎ (get_or s at 0 ≡ ch "z") → (o : ℤ) → o ≡ pos 0 → Closes (at + 1)
        (tested q (ok_date d && clock_test c) (OffsetDateTime d (time_of_day c.hour c.minute c.second c.nanos) o)) r → Zoned s q (S.on d) c at r
    zone_zulu b o v x st e =
        zone_takes (zulu q d c.hour c.minute c.second c.nanos) st (e ∙ rw (byte_in s at h, zulu_class b)) (halts _ refl (rw v at x))

    pub zone_plus : get_or s at 0 ≡ ch "+" → Reads s (at + 1) (field q (S.offset_hour d c.hour c.minute c.second c.nanos false) 2 0) r
        → Zoned s q (S.on d) c at r
    zone_plus b k st e = zone_takes _ st (e ∙ rw (byte_in s at h, b)) k

    pub zone_minus : get_or s at 0 ≡ ch "-" → Reads s (at + 1) (field q (S.offset_hour d c.hour c.minute c.second c.nanos true) 2 0) r
        → Zoned s q (S.on d) c at r
    zone_minus b k st e = zone_takes _ st (e ∙ rw (byte_in s at h, b)) k

module _ (s : List ℕ) (q : ℕ) (w : Option Date) (c : Clock) (at : ℕ) (r : Scanned) where
  pub clocked_alone : w ≡ None → Closes at (clock_done q S.alone c.hour c.minute c.second c.nanos) r → Zoned s q (when_of w) c at r
  clocked_alone e x st k = halts _ (k ∙ rw e) x

-- ---- a fraction of a second

-- a fraction is less than a second
part_small : (v j : ℕ) → (v + 1) * 10 ^ j ≤ Limits.second → v * 10 ^ j < Limits.second
part_small v j h = omega (arith, pow-le-pow_right {n = 10} (omega arith) {i = 0} {j = j} (omega arith))

-- the weight of the next digit, where `left` more count
abbrev pub Weighs : ℕ → ℕ → Type 0
Weighs zero w = w ≡ 0
Weighs (suc j) w = w ≡ 10 ^ j

-- the digits so far that count are the number v, and `left` more would count
pub record NanoLoop (s : List ℕ) (from nanos weight i : ℕ) : Type 0 where
  pub within : i ≤ length s
  pub left : ℕ
  pub v : ℕ
  pub few : left ≤ fraction_digits
  pub weighs : Weighs left weight
  pub scaled : nanos ≡ v * 10 ^ left
  pub small : (v + 1) * 10 ^ left ≤ Limits.second
  pub goes : (q : ℕ) (w : S.When) (h m c : ℕ) → Onto s from (S.nanos q w h m c fraction_digits 0) i (S.nanos q w h m c left v)

pub nano_start : (s : List ℕ) (from : ℕ) → from ≤ length s → NanoLoop s from 0 100000000 from
nano_start s from h = record {
  within = h;
  left = 9;
  v = 0;
  few = omega arith;
  weighs = refl;
  scaled = refl;
  small = omega arith;
  goes = λ q w h m c r k. k;
}

-- a weight is at most that of the first digit, and the next one is a tenth
light : (n w : ℕ) → n ≤ 9 → Weighs n w → w ≤ 100000000
light zero w h e = omega arith
light (suc j) w h e = omega (arith, pow-le-pow_right {n = 10} (omega arith) {i = j} {j = 8} (omega arith))

tenth : (j w : ℕ) → Weighs (suc j) w → Weighs j (w / 10)
tenth zero w e = omega arith
tenth (suc i) w e = omega (arith, pow-suc 10 i)

scaled_next : (x v j w d : ℕ) → w ≡ 10 ^ j → x ≡ v * 10 ^ suc j → x + w * d ≡ (10 * v + d) * 10 ^ j
scaled_next x v j w d e c = rw e (omega (arith, c, ap (λ (x : ℕ). v * x) (pow-suc 10 j)))

smaller : (v j d : ℕ) → d ≤ 9 → (v + 1) * 10 ^ suc j ≤ Limits.second → (10 * v + d + 1) * 10 ^ j ≤ Limits.second
smaller v j d h u =
    let o : 10 * v + d + 1 ≤ (v + 1) * 10 = omega arith in
    omega (arith, mul-le-mul_right (10 ^ j) o, ap (λ (x : ℕ). (v + 1) * x) (pow-suc 10 j))

module _ (s : List ℕ) (from nanos weight i : ℕ) (k : NanoLoop s from nanos weight i) where
  pub nano_room : get_or s i 0 ≤ ch "9" → (nanos < Limits.second) × (weight * (get_or s i 0 - ch "0") ≤ 900000000)
  nano_room h =
      let d : get_or s i 0 - ch "0" ≤ 9 = omega arith in (
        omega (arith, k.scaled, part_small k.v k.left k.small),
        omega (arith, mul-le-mul_left weight d, light k.left weight k.few k.weighs),
      )

  pub nano_says : Edge s i → NanosSays s from (record { value = nanos; end = i })
  nano_says e = record {
    within = k.within;
    small = omega (arith, k.scaled, part_small k.v k.left k.small);
    edge = e;
    left = k.left;
    v = k.v;
    few = k.few;
    scaled = k.scaled;
    goes = k.goes;
  }

  module _ (h : i < length s) (a : ch "0" ≤ get_or s i 0) (b : get_or s i 0 ≤ ch "9") where
    pub nano_next : NanoLoop s from (nanos + weight * (get_or s i 0 - ch "0")) (weight / 10) (i + 1)
    nano_next = go k.left k.few k.weighs k.scaled k.small k.goes
      where
        go : (n : ℕ) → n ≤ fraction_digits → Weighs n weight → nanos ≡ k.v * 10 ^ n → (k.v + 1) * 10 ^ n ≤ Limits.second
            → ((q : ℕ) (w : S.When) (h m c : ℕ) → Onto s from (S.nanos q w h m c fraction_digits 0) i (S.nanos q w h m c n k.v))
            → NanoLoop s from (nanos + weight * (get_or s i 0 - ch "0")) (weight / 10) (i + 1)
        go zero f e c l g = record {
          within = omega arith;
          left = zero;
          v = k.v;
          few = f;
          weighs = omega arith;
          scaled = rw e (omega (arith, c));
          small = l;
          goes = λ q w x m c r t. g q w x m c r (took (S.nanos q w x m c zero k.v) h (rw (sec_digit (get_or s i 0) (omega arith))) t);
        }
        go (suc j) f e c l g = record {
          within = omega arith;
          left = j;
          v = dig k.v (get_or s i 0);
          few = omega arith;
          weighs = tenth j weight e;
          scaled = scaled_next nanos k.v j weight (get_or s i 0 - ch "0") e c;
          small = smaller k.v j (get_or s i 0 - ch "0") (omega arith) l;
          goes = λ q w x m c r t. g q w x m c r (took (S.nanos q w x m c j (dig k.v (get_or s i 0))) h (rw (sec_digit (get_or s i 0) (omega arith))) t);
        }

    -- a digit that weighs nothing
    pub nano_kept : weight ≡ 0 → NanoLoop s from nanos weight (i + 1)
    nano_kept e =
        let n : nanos + weight * (get_or s i 0 - ch "0") ≡ nanos = rw e (omega arith) in
        let z : weight / 10 ≡ weight = rw e in
        rw (n, z) at nano_next

module _ (q : ℕ) (w : S.When) (h m c : ℕ) where
  sec_other : {b : ℕ} {k : S.Sec} → SecIs b k → (b ≡ ch "." → ⊥) → S.on_sec q w h m c k ≡ on_zone q w h m c 0 k
  sec_other (SecIs.digit i) x = refl
  sec_other SecIs.point x = absurd (x refl)
  sec_other (SecIs.z_is z) x = refl
  sec_other SecIs.plus x = refl
  sec_other SecIs.minus x = refl
  sec_other SecIs.other x = refl

  nano_other : (j v : ℕ) {b : ℕ} {k : S.Sec} → SecIs b k → NoDigit b → S.on_nanos q w h m c j v b k ≡ on_zone q w h m c (v * 10 ^ j) k
  nano_other j v (SecIs.digit i) n = absurd (no_digit_lem n i)
  nano_other j v SecIs.point n = refl
  nano_other j v (SecIs.z_is z) n = refl
  nano_other j v SecIs.plus n = refl
  nano_other j v SecIs.minus n = refl
  nano_other j v SecIs.other n = refl

-- ---- after a second's digits

module _ (s : List ℕ) (q : ℕ) (w : S.When) (h m c at : ℕ) where
  abbrev second_at : St
  second_at = field q (S.second w h m) 0 c

  second_end : (r : Scanned) → length s ≤ at → ((st : St) → scan at st (byte_at s at) ≡ on_zone q w h m c 0 (sec_of (byte_at s at)) → Reads s at st r)
      → Reads s at second_at r
  second_end r l k = k second_at (rw (byte_out s at l))

  module _ (l : at < length s) where
    second_none : (r : Scanned) → (get_or s at 0 ≡ ch "." → ⊥) → ((st : St) → scan at st (byte_at s at) ≡ on_zone q w h m c 0 (sec_of (byte_at s at))
        → Reads s at st r) → Reads s at second_at r
    second_none r x k = let p = byte_in s at l in k second_at (sec_other q w h m c (sec_class (byte_at s at)) (λ j. x (sym p ∙ j)))

    second_point : (r : Scanned) → get_or s at 0 ≡ ch "." → Reads s (at + 1) (sec_point q w h m c) r → Reads s at second_at r
    second_point r e k = took (sec_point q w h m c) l (rw e) k

-- ---- a second's fraction

module _ (s : List ℕ) (at : ℕ) where
  pub part_end : at ≤ length s → length s ≤ at → Fractioned s at 0 at
  part_end i l = record { within = i; small = omega arith; reads = λ q w h m c r k. second_end s q w h m c at r l k }

  module _ (l : at < length s) where
    pub part_none : (get_or s at 0 ≡ ch "." → ⊥) → Fractioned s at 0 at
    part_none x = record { within = omega arith; small = omega arith; reads = λ q w h m c r k. second_none s q w h m c at l r x k }

    module _ (e : get_or s at 0 ≡ ch ".") where
      pub part_bare : (r : NotGrammarOf.NotGrammar) → (r.place ≡ at + 1) × Edge s (at + 1) → FractionSays s at (Err r)
      part_bare r d = λ q w h m c. rw d.0 (second_point s q w h m c at l _ e (breaks_at (rw (dg_none (edge_none d.1)))))

      pub part_nanos : {d : ℕ} → Digit s (at + 1) d → (n : Taken ℕ) → NanosSays s (at + 1) n → Fractioned s at n.value n.end
      part_nanos u n p =
          let o = byte_in s (at + 1) u.inside in
          record {
            within = p.within;
            small = p.small;
            reads = λ q w h m c r k.
                second_point s q w h m c at l r e (same (nanos q w h m c fraction_digits 0)
                (rw (o, dg_digit (get_or s (at + 1) 0) u.digit, sec_digit (get_or s (at + 1) 0) u.digit))
                (p.goes q w h m c r (k (nanos q w h m c p.left p.v) (nano_other q w h m c p.left p.v (sec_class (byte_at s n.end))
                (edge_none p.edge) ∙ ap (λ (z : ℕ). on_zone q w h m c z (sec_of (byte_at s n.end))) (sym p.scaled)))));
          }

-- ---- after an hour, after a date, after a year

module _ (s : List ℕ) (q : ℕ) (w : S.When) (h i : ℕ) where
  pub minute_bad : (e : NotGrammarOf.NotGrammar) → ThenSays s i (ch ":") (Err e) → Reads s i (field q (S.minute w h) 2 0) (Err (NotGrammar e.place))
  minute_bad e t = t q (S.minute w h) (λ v. S.second w h v) (λ p q v b. refl)

  module _ (m : Taken ℕ) (t : ThenSays s i (ch ":") (Ok m)) where
    on_second : Onto s i (field q (S.minute w h) 2 0) m.end (field q (S.second w h m.value) 2 0)
    on_second = t.2 q (S.minute w h) (λ v. S.second w h v) (λ p q v b. refl)

    pub second_bad : (e : NotGrammarOf.NotGrammar) → TwoSays s m.end (Err e) → Reads s i (field q (S.minute w h) 2 0) (Err (NotGrammar e.place))
    second_bad e u = on_second _ (u q (S.second w h m.value))

    pub second_got : (c : Taken ℕ) → TwoSays s m.end (Ok c) → Onto s i (field q (S.minute w h) 2 0) c.end (field q (S.second w h m.value) 0 c.value)
    second_got c u = λ r x. on_second r (u.2 q (S.second w h m.value) r x)

module _ (s : List ℕ) (q : ℕ) (d : Date) (i : ℕ) where
  pub hour_bad : (e : NotGrammarOf.NotGrammar) → ThenSays s i (ch ":") (Err e) → Reads s i (field q (S.hour d) 2 0) (Err (NotGrammar e.place))
  hour_bad e t = t q (S.hour d) (λ v. S.minute (S.on d) v) (λ p q v b. refl)

  pub hour_got : (h : Taken ℕ) → ThenSays s i (ch ":") (Ok h) → Onto s i (field q (S.hour d) 2 0) h.end (field q (S.minute (S.on d) h.value) 2 0)
  hour_got h t = t.2 q (S.hour d) (λ v. S.minute (S.on d) v) (λ p q v b. refl)

module _ (s : List ℕ) (q y i : ℕ) where
  pub month_bad : (e : NotGrammarOf.NotGrammar) → ThenSays s i (ch "-") (Err e) → Reads s i (field q (S.month y) 2 0) (Err (NotGrammar e.place))
  month_bad e t = t q (S.month y) (λ v. S.day y v) (λ p q v b. refl)

  module _ (m : Taken ℕ) (t : ThenSays s i (ch "-") (Ok m)) where
    on_day_lem : Onto s i (field q (S.month y) 2 0) m.end (field q (S.day y m.value) 2 0)
    on_day_lem = t.2 q (S.month y) (λ v. S.day y v) (λ p q v b. refl)

    pub day_bad : (e : NotGrammarOf.NotGrammar) → TwoSays s m.end (Err e) → Reads s i (field q (S.month y) 2 0) (Err (NotGrammar e.place))
    day_bad e u = on_day_lem _ (u q (S.day y m.value))

    pub day_got : (d : Taken ℕ) → TwoSays s m.end (Ok d) → Onto s i (field q (S.month y) 2 0) d.end (field q (S.day y m.value) 0 d.value)
    day_got d u = λ r x. on_day_lem r (u.2 q (S.day y m.value) r x)

module _ (s : List ℕ) (q : ℕ) (d : Date) (i : ℕ) (r : Scanned) where
  pub spaced_done : Edge s i → Closes i (date_done q d) r → Reads s i (spaced q d) r
  spaced_done e k = halts (date_done q d) (rw (dg_none (edge_none e))) k

  pub spaced_clock : {n : ℕ} → Digit s i n → Reads s i (field q (S.hour d) 2 0) r → Reads s i (spaced q d) r
  spaced_clock o k = let p = byte_in s i o.inside in same (field q (S.hour d) 2 0) (rw (p, dg_digit (get_or s i 0) o.digit)) k

  abbrev day_at : St
  day_at = field q (S.day d.year d.month) 0 d.day

  pub day_end : length s ≤ i → Closes i (date_done q d) r → Reads s i day_at r
  day_end h k = halts (date_done q d) (rw (byte_out s i h)) k

  module _ (h : i < length s) where
    pub day_letter : (get_or s i 0 ≡ ch "T") ⊎ (get_or s i 0 ≡ ch "t") → Reads s (i + 1) (field q (S.hour d) 2 0) r → Reads s i day_at r
    day_letter e k = took (field q (S.hour d) 2 0) h (rw (letter_class e)) k

    pub day_space : get_or s i 0 ≡ ch " " → Reads s (i + 1) (spaced q d) r → Reads s i day_at r
    day_space e k = took (spaced q d) h (rw e) k

    day_is : {b : ℕ} {k : S.Day} → DayIs b k → ((b ≡ ch "T") ⊎ (b ≡ ch "t") → ⊥) → (b ≡ ch " " → ⊥) → S.on_day q d k ≡ date_done q d
    day_is (DayIs.letter G.Separator.letter) x y = absurd (x (inl refl))
    day_is (DayIs.letter G.Separator.small_letter) x y = absurd (x (inr refl))
    day_is (DayIs.letter G.Separator.space) x y = absurd (y refl)
    day_is DayIs.space x y = absurd (y refl)
    day_is DayIs.other x y = refl

    pub day_other : ((get_or s i 0 ≡ ch "T") ⊎ (get_or s i 0 ≡ ch "t") → ⊥) → (get_or s i 0 ≡ ch " " → ⊥) → Closes i (date_done q d) r → Reads s i day_at r
    day_other x y k = let p = byte_in s i h in halts (date_done q d) (day_is (day_class (byte_at s i)) (λ j. x (rw p at j)) (λ j. y (sym p ∙ j))) k
