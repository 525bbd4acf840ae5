-- What the rules for time values derive, the scanner takes. Assumes nothing.
use Prim.Native.Nat.{ℕ, zero, suc, ◌+◌, ◌*◌, ◌≤◌, ◌^◌}
use mathlib.Core.Path.{◌≡◌, refl}
use mathlib.Core.Bool.{Bool, true, false, ◌&&◌}
use mathlib.Core.List.{List, [], ◌∷◌, ◌++◌, append_assoc, append-nil}
use native.Mathlib.Omega.{arith}
use lib.Dec.{eqb, leb}
use lib.IntN.{ℤ}
use borrow.Author.Tests.{le-leb, eqb-true, eqb-false}
use Rattle.rules.proofs.Months.{date_is}
use Rattle.meaning.specs.declared.Date as D
use Rattle.meaning.specs.declared.Time as M
use Rattle.meaning.specs.declared.Time.TheVariants.{LocalTime, LocalDateTime, OffsetDateTime}
use Rattle.meaning.specs.Letters.{ch}
use Rattle.meaning.specs.Clock.{time_of_day}
use Rattle.meaning.specs.Meaning.{Meaning}
use Rattle.grammar.specs.Checks.{Checked}
use Rattle.grammar.specs.Characters.{Digit, Digits, Decimal}
use Rattle.grammar.specs.Comments.{Blank}
use Rattle.grammar.specs.Times.{Fraction, TimeSecfrac, TimeHour, TimeMinute, LocalTimeText, LocalDateText, Separator, Zulu, PlusMinus, TimeOffset, TimeValue}
use Rattle.grammar.specs.Times.{signed}
use Rattle.machine.specs.Numeric.{St, Res, begin, both, field, spaced, nanos, d1, d2, d3, d4, When, alone, on, Slot, month, day, hour, minute, second}
use Rattle.machine.specs.Numeric.{offset_hour, offset_minute, scan, dig, on_zone, ok_date, ok_clock, dated}
use Rattle.machine.specs.Numeric as S
use Rattle.machine.proofs.Runs.{EndsItem, HaltTo, Goes, GoesTo, goes_value}
use Rattle.machine.proofs.Numeric.Rows.{DecimalDigit, num_digit, dg_digit, fst_digit, sec_digit, dg_none, zulu_is, ending}
use Rattle.machine.proofs.Numeric.Complete.{Run, took, halts}

module _ {q : ℕ} (l : Slot) where
  field_run : {n v w : ℕ} {a r : List ℕ} {Q : Res → Type 0} → Decimal n v a w → ((p : ℕ) → Run Q p (field q l zero w) r) → (p : ℕ)
      → Run Q p (field q l n v) (a ++ r)
  field_run Digits.over k p = k p
  field_run (Digits.next {b = b} (Digit.digit i) d) k p = took (field_run d k (suc p)) (rw (dg_digit b i))

  last_field : {n v w : ℕ} {a : List ℕ} {Q : Res → Type 0} → Decimal n v a w → ((p b : ℕ) → EndsItem b → Q (scan p (field q l zero w) b)) → (p : ℕ)
      → Run Q p (field q l n v) a
  last_field Digits.over k p = halts (k p)
  last_field (Digits.next {b = b} (Digit.digit i) d) k p = took (last_field d k (suc p)) (rw (dg_digit b i))

-- the first digit: 0 or another
first : {r : List ℕ} {Q : Res → Type 0} (p b : ℕ) → DecimalDigit b → ((z : Bool) → Run Q (suc p) (both p d1 z (dig 0 b)) r) → Run Q p begin (b ∷ r)
first {r} {Q} p b i k = go (eqb b (ch "0")) refl
  where
    go : (z : Bool) → eqb b (ch "0") ≡ z → Run Q p begin (b ∷ r)
    go true e = let f : b ≡ ch "0" = eqb-true b (ch "0") e in took (k true) (rw f)
    go false e = let f = eqb-false b (ch "0") e in took (k false) (rw (fst_digit b (omega arith)))

module _ {p q b v : ℕ} {z : Bool} {r : List ℕ} {Q : Res → Type 0} (i : DecimalDigit b) where
  to_2 : Run Q (suc p) (both q d2 z (dig v b)) r → Run Q p (both q d1 z v) (b ∷ r)
  to_2 k = took k (rw (num_digit b i))

  to_3 : Run Q (suc p) (both q d3 z (dig v b)) r → Run Q p (both q d2 z v) (b ∷ r)
  to_3 k = took k (rw (num_digit b i))

  to_4 : Run Q (suc p) (both q d4 z (dig v b)) r → Run Q p (both q d3 z v) (b ∷ r)
  to_4 k = took k (rw (num_digit b i))

hour_first : {a r : List ℕ} {h : ℕ} {Q : Res → Type 0} → Decimal 2 0 a h → (p : ℕ) → ((z : Bool) (s : ℕ) → Run Q s (both p d2 z h) r) → Run Q p begin (a ++ r)
hour_first (Digits.next {b = b} (Digit.digit i) (Digits.next (Digit.digit j) Digits.over)) p k = first p b i (λ z. to_2 j (k z (suc (suc p))))

year_first : {a r : List ℕ} {y : ℕ} {Q : Res → Type 0} → Decimal 4 0 a y → (p : ℕ) → ((z : Bool) (s : ℕ) → Run Q s (both p d4 z y) r) → Run Q p begin (a ++ r)
year_first (Digits.next {b = b} (Digit.digit i) (Digits.next (Digit.digit j) (Digits.next (Digit.digit o) (Digits.next (Digit.digit x) Digits.over)))) p k =
    first p b i (λ z. to_2 j (to_3 o (to_4 x (k z _))))

-- a state after a clock
record Clocked (q : ℕ) (w : When) (h m s n : ℕ) (st : St) : Type 0 where
  at_zulu : {b : ℕ} → Zulu b → (p : ℕ) → scan p st b ≡ on_zone q w h m s n S.zulu_s
  at_plus : (p : ℕ) → scan p st (ch "+") ≡ on_zone q w h m s n S.plus_s
  at_minus : (p : ℕ) → scan p st (ch "-") ≡ on_zone q w h m s n S.minus_s
  at_end : {b : ℕ} → EndsItem b → (p : ℕ) → scan p st b ≡ on_zone q w h m s n S.other_s

module _ (q : ℕ) (w : When) (h : ℕ) where
  module _ (m s : ℕ) where
    nanos_clocked : (j v : ℕ) → Clocked q w h m s (v * 10 ^ j) (nanos q w h m s j v)
    nanos_clocked j v = record { at_zulu = λ z p. rw (zulu_is z); at_plus = λ p. refl; at_minus = λ p. refl; at_end = λ e p. rw (ending e).no_sec }

    second_clocked : Clocked q w h m s 0 (field q (second w h m) zero s)
    second_clocked = record { at_zulu = λ z p. rw (zulu_is z); at_plus = λ p. refl; at_minus = λ p. refl; at_end = λ e p. rw (ending e).no_sec }

    module _ {z : List ℕ} {Q : Res → Type 0} where
      nanos_run : {j v n : ℕ} {a : List ℕ} → Fraction j v a n → ((st : St) → Clocked q w h m s n st → (p : ℕ) → Run Q p st z) → (p : ℕ)
          → Run Q p (nanos q w h m s j v) (a ++ z)
      nanos_run {j = j} {v = v} Fraction.over k p = k _ (nanos_clocked j v) p
      nanos_run (Fraction.counts {b = b} (Digit.digit i) d) k p = took (nanos_run d k (suc p)) (rw (sec_digit b i))
      nanos_run (Fraction.cut {b = b} (Digit.digit i) d) k p = took (nanos_run d k (suc p)) (rw (sec_digit b i))

      secfrac_run : {n : ℕ} {f : List ℕ} → TimeSecfrac f n → ((st : St) → Clocked q w h m s n st → (p : ℕ) → Run Q p st z) → (p : ℕ)
          → Run Q p (field q (second w h m) zero s) (f ++ z)
      secfrac_run TimeSecfrac.absent k p = k _ second_clocked p
      secfrac_run (TimeSecfrac.given (Fraction.counts {b = b} (Digit.digit i) d)) k p = took (took (nanos_run d k (suc (suc p))) (rw (dg_digit b i))) refl

  clock_run : {m s n : ℕ} {b c f z : List ℕ} {Q : Res → Type 0} → Decimal 2 0 b m → Decimal 2 0 c s → TimeSecfrac f n
      → ((st : St) → Clocked q w h m s n st → (p : ℕ) → Run Q p st z) → (p : ℕ) → Run Q p (field q (minute w h) 2 0) (b ++ (ch ":" ∷ (c ++ (f ++ z))))
  clock_run {m = m} {s = s} i j o k p = field_run (minute w h) i (λ p. took (field_run (second w h m) j (secfrac_run m s o k) (suc p)) refl) p

-- a check that is on, by one that follows from it
pub by_check : (k : Bool) {A B : Type 0} → (A → B) → Checked k A → Checked k B
by_check true f x = f x
by_check false f x = tt

by_checks : (k : Bool) {A B C : Type 0} → (A → B → C) → Checked k A → Checked k B → Checked k C
by_checks true f x y = f x y
by_checks false f x y = tt

both_ok : (a b : Bool) → a ≡ true → b ≡ true → a && b ≡ true
both_ok a b e f = rw (e, f)

ok_clock_lem : (k : Bool) (h m s : ℕ) → Checked k (h ≤ 23) → Checked k (m ≤ 59) → Checked k (s ≤ 59) → Checked k (ok_clock h m s ≡ true)
ok_clock_lem true h m s i j o = rw (le-leb h 23 i, le-leb m 59 j, le-leb s 59 o)
ok_clock_lem false h m s i j o = tt

ok_offset : (k : Bool) (i j : ℕ) → Checked k (i ≤ 23) → Checked k (j ≤ 59) → Checked k (leb i 23 && leb j 59 ≡ true)
ok_offset true i j l r = rw (le-leb i 23 l, le-leb j 59 r)
ok_offset false i j l r = tt

-- a date, and what follows it
date_run : {a b c r : List ℕ} {y m d : ℕ} {Q : Res → Type 0} → Decimal 4 0 a y → Decimal 2 0 b m → Decimal 2 0 c d → (p : ℕ)
    → ((s : ℕ) → Run Q s (field p (day y m) zero d) r) → Run Q p begin (a ++ (ch "-" ∷ (b ++ (ch "-" ∷ (c ++ r)))))
date_run {y = y} {m = m} i j o p k = year_first i p (λ z s. took (field_run (month y) j (λ s. took (field_run (day y m) o k (suc s)) refl) (suc s)) refl)

module _ (Q : Res → Type 0) (y m d p q : ℕ) (h : Q (S.date_done q (dated y m d))) where
  abbrev DateHalt : ℕ → Type 0
  DateHalt b = HaltTo scan Q p (field q (day y m) zero d) b

  date_here : (b : ℕ) → S.day_of b ≡ S.other_d → DateHalt b
  date_here b e = HaltTo.here {b = b} (rw e h)

  date_halt : (b : ℕ) → EndsItem b → DateHalt b
  date_halt b (EndsItem.blank Blank.space) = HaltTo.spaced {s' = spaced q (dated y m d)} refl (λ s c n. rw (dg_none n) h)
  date_halt b (EndsItem.blank Blank.tab) = date_here _ refl
  date_halt b (EndsItem.blank Blank.line_feed) = date_here _ refl
  date_halt b (EndsItem.blank Blank.carriage_return) = date_here _ refl
  date_halt b EndsItem.hash = date_here _ refl
  date_halt b EndsItem.slash = date_here _ refl
  date_halt b EndsItem.comma = date_here _ refl
  date_halt b EndsItem.bracket = date_here _ refl
  date_halt b EndsItem.brace = date_here _ refl
  date_halt b EndsItem.end = date_here _ refl

-- what is left of an hour, the clock, and what follows
hour_run : {v e h m s n : ℕ} {a b c f z : List ℕ} {Q : Res → Type 0} (q : ℕ) (d : D.Date) → Decimal e v a h → Decimal 2 0 b m → Decimal 2 0 c s
    → TimeSecfrac f n → ((st : St) → Clocked q (on d) h m s n st → (p : ℕ) → Run Q p st z) → (p : ℕ)
    → Run Q p (field q (hour d) e v) (a ++ (ch ":" ∷ (b ++ (ch ":" ∷ (c ++ (f ++ z))))))
hour_run {h = h} q d i j o u k p = field_run (hour d) i (λ p. took (clock_run q (on d) h j o u k (suc p)) refl) p

-- the separator, and all of that
sep_run : {x y mo d h m s n : ℕ} {a b c f z : List ℕ} {Q : Res → Type 0} → Separator x → Decimal 2 0 a h → Decimal 2 0 b m → Decimal 2 0 c s → TimeSecfrac f n
    → (q : ℕ) → ((st : St) → Clocked q (on (dated y mo d)) h m s n st → (p : ℕ) → Run Q p st z) → (p : ℕ)
    → Run Q p (field q (day y mo) zero d) (x ∷ (a ++ (ch ":" ∷ (b ++ (ch ":" ∷ (c ++ (f ++ z)))))))
sep_run {y = y} {mo = mo} {d = d} Separator.letter i j o u q k p = took (hour_run q (dated y mo d) i j o u k (suc p)) refl
sep_run {y = y} {mo = mo} {d = d} Separator.small_letter i j o u q k p = took (hour_run q (dated y mo d) i j o u k (suc p)) refl
sep_run {y = y} {mo = mo} {d = d} Separator.space (Digits.next {b = b} (Digit.digit v) i) j o u q k p =
    took (took (hour_run q (dated y mo d) i j o u k (suc (suc p))) (rw (dg_digit b v))) refl

-- what the check of the time t, at its first place q, comes to, has Q: where the checks are on, and where they are off
abbrev pub Judged : Bool → (Res → Type 0) → ℕ → M.Time → Type 0
Judged k Q q t = (ok : Bool) → Checked k (ok ≡ true) → Q (S.tested q ok t)

module _ (k : Bool) (q : ℕ) (d : D.Date) (h m s n : ℕ) {Q : Res → Type 0} (e : Checked k (ok_date d && ok_clock h m s ≡ true)) where
  offset_run : (g : Bool) {a b : List ℕ} {i j : ℕ} → TimeHour k a i → TimeMinute k b j
      → Judged k Q q (OffsetDateTime d (time_of_day h m s n) (signed g (i * 60 + j))) → (p : ℕ)
      → Run Q p (field q (offset_hour d h m s n g) 2 0) (a ++ (ch ":" ∷ b))
  offset_run g {i = i} {j = j} (TimeHour.hour u l) (TimeMinute.sixtieth v r) y p =
      field_run (offset_hour d h m s n g) u (λ p. took (last_field (offset_minute d h m s n g i) v
      (λ p b w. y _ (by_checks k (both_ok _ _) e (ok_offset k i j l r))) (suc p)) refl) p

  zone_run : {c : List ℕ} {o : ℤ} → TimeOffset k c o → Judged k Q q (OffsetDateTime d (time_of_day h m s n) o) → (st : St) → Clocked q (on d) h m s n st
      → (p : ℕ) → Run Q p st c
  zone_run (TimeOffset.zulu z) y st c p = took (halts (λ b i. y _ e)) (c.at_zulu z p)
  zone_run (TimeOffset.numoffset PlusMinus.plus u v) y st c p = took (offset_run false u v y (suc p)) (c.at_plus p)
  zone_run (TimeOffset.numoffset PlusMinus.minus u v) y st c p = took (offset_run true u v y (suc p)) (c.at_minus p)

  stamp_end : Judged k Q q (LocalDateTime d (time_of_day h m s n)) → (st : St) → Clocked q (on d) h m s n st → (p : ℕ) → Run Q p st []
  stamp_end y st c p = halts (λ b i. rw (c.at_end i p) (y _ e))

time_end : (k : Bool) (q h m s n : ℕ) {Q : Res → Type 0} → Checked k (ok_clock h m s ≡ true) → Judged k Q q (LocalTime (time_of_day h m s n)) → (st : St)
    → Clocked q alone h m s n st → (p : ℕ) → Run Q p st []
time_end k q h m s n e y st c p = halts (λ b i. rw (c.at_end i p) (y _ e))

-- a time value, with its checks or without
pub time_goes_to : {k : Bool} {a : List ℕ} {t : M.Time} {Q : Res → Type 0} (p : ℕ) → TimeValue k a t → Judged k Q p t → Run Q p begin a
time_goes_to {k} {Q = Q} p (TimeValue.local_date (LocalDateText.local_date {y = y} {m = m} {d = d} i j o x)) w =
    rw append-nil at (date_run {Q = Q} i j o p (λ s. GoesTo.ends (date_halt Q y m d s p (w _ (by_check k date_is x)))))
time_goes_to {k} {Q = Q} p (TimeValue.local_time (LocalTimeText.local_time {h = h} {m = m} {s = s} {n = n} (TimeHour.hour i l) (TimeMinute.sixtieth j v)
    (TimeMinute.sixtieth o w) u)) y =
    rw append-nil at (hour_first {Q = Q} i p (λ z t. took {c = ch ":"} (clock_run p alone h j o u (time_end k p h m s n (ok_clock_lem k h m s l v w) y) (suc t))
    refl))
time_goes_to {k} {Q = Q} p (TimeValue.local_date_time (LocalDateText.local_date {y = y} {m = mo} {d = d} i j o t) x
    (LocalTimeText.local_time {h = h} {m = m} {s = s} {n = n} (TimeHour.hour a l) (TimeMinute.sixtieth b v) (TimeMinute.sixtieth c w) f)) z =
    simp append_assoc (rw append-nil at (date_run {Q = Q} i j o p (sep_run x a b c f p
    (stamp_end k p (dated y mo d) h m s n (by_checks k (both_ok _ _) (by_check k date_is t) (ok_clock_lem k h m s l v w)) z))))
time_goes_to {k} {Q = Q} p (TimeValue.offset_date_time (LocalDateText.local_date {y = y} {m = mo} {d = d} i j o t) x
    (LocalTimeText.local_time {h = h} {m = m} {s = s} {n = n} (TimeHour.hour a l) (TimeMinute.sixtieth b v) (TimeMinute.sixtieth c w) f) e) z =
    simp append_assoc (date_run i j o p (sep_run x a b c f p (zone_run k p (dated y mo d) h m s n
    (by_checks k (both_ok _ _) (by_check k date_is t) (ok_clock_lem k h m s l v w)) e z)))

pub time_goes : {a : List ℕ} {t : M.Time} → TimeValue true a t → (p : ℕ) → Goes scan EndsItem p begin a (Meaning.time t)
time_goes x p = goes_value scan (time_goes_to p x (λ ok e. rw e))
