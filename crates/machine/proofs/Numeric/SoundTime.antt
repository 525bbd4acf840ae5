-- What may still come from each state of a time value, by the rules, and the value that it makes. Assumes nothing.
use Prim.Native.Nat.{ℕ, zero, suc, ◌+◌, ◌*◌, ◌≤◌}
use mathlib.Core.Path.{◌≡◌, refl, ◌∙◌, ap}
use mathlib.Core.Bool.{Bool, true, false, ◌&&◌}
use mathlib.Core.Logic.{◌⊎◌, inl, inr}
use mathlib.Core.List.{List, [], ◌∷◌, ◌++◌, append_assoc, append-nil}
use native.Mathlib.Omega.{arith}
use lib.IntN.{ℤ}
use borrow.Author.Tests.{leb-true}
use Rattle.rules.proofs.Months.{is_date_lem}
use Rattle.meaning.specs.declared.Date as D
use Rattle.meaning.specs.declared.Time as M
use Rattle.meaning.specs.declared.Time.TheVariants.{LocalDate, LocalTime, LocalDateTime, OffsetDateTime}
use Rattle.meaning.specs.Letters.{ch}
use Rattle.meaning.specs.Clock.{time_of_day}
use Rattle.meaning.specs.Meaning.{Meaning}
use Rattle.grammar.specs.Checks.{Checked}
use Rattle.grammar.specs.Characters.{Digit, Digits, Decimal}
use Rattle.grammar.specs.Times.{Fraction, TimeSecfrac, TimeHour, TimeMinute, LocalTimeText, LocalDateText, Separator, TimeOffset, TimeValue, signed}
use Rattle.machine.specs.Numeric.{When, alone, on, Slot, month, day, hour, minute, second, offset_hour, offset_minute, dig, ok_date, ok_clock, dated}
use Rattle.machine.proofs.Numeric.Rows.{DecimalDigit}
use Rattle.machine.proofs.Numeric.CompleteTime.{by_check}
use Rattle.machine.proofs.Numeric.Items.{NumericItem, Taken}

-- after a field of the value v
abbrev pub Cont : Type 1
Cont = ℕ → List ℕ → Meaning → Type 0

abbrev pub FieldRest : ℕ → ℕ → Cont → List ℕ → Meaning → Type 0
FieldRest n v K a w = (d : List ℕ) × (r : List ℕ) × (x : ℕ) × (a ≡ d ++ r) × Decimal n v d x × K x r w

abbrev pub Then : ℕ → (List ℕ → Meaning → Type 0) → List ℕ → Meaning → Type 0
Then b R a w = (r : List ℕ) × (a ≡ b ∷ r) × R r w

pub field_digit : (n v b : ℕ) (K : Cont) (a : List ℕ) (w : Meaning) → DecimalDigit b → FieldRest n (dig v b) K a w → FieldRest (suc n) v K (b ∷ a) w
field_digit n v b K a w i h = (b ∷ h.0, h.1, h.2, rw h.3, Digits.next (Digit.digit i) h.4, h.5)

pub field_full : (v : ℕ) (K : Cont) (a : List ℕ) (w : Meaning) → K v a w → FieldRest zero v K a w
field_full v K a w h = ([], a, v, refl, Digits.over, h)

-- `&&` taken apart
pub and_both : (a b : Bool) → a && b ≡ true → (a ≡ true) × (b ≡ true)
and_both true true e = (refl, refl)
and_both true false e = let z : ◌≡◌ {A = ℕ} 0 1 = cc in absurd (omega arith)
and_both false b e = let z : ◌≡◌ {A = ℕ} 0 1 = cc in absurd (omega arith)

clock_ok : (h m s : ℕ) → ok_clock h m s ≡ true → (h ≤ 23) × (m ≤ 59) × (s ≤ 59)
clock_ok h m s e = let x = and_both _ _ e in let y = and_both _ _ x.1 in (leb-true h 23 x.0, leb-true m 59 y.0, leb-true s 59 y.1)

clock_checked : (c : Bool) (h m s : ℕ) → Checked c (ok_clock h m s ≡ true) → Checked c (h ≤ 23) × Checked c (m ≤ 59) × Checked c (s ≤ 59)
clock_checked true h m s e = clock_ok h m s e
clock_checked false h m s e = (tt, tt, tt)

module _ (ck : Bool) where
  -- ---- what may still come: a is the bytes, w the meaning at their end

  abbrev pub OffsetMinute : D.Date → ℕ → ℕ → ℕ → ℕ → Bool → ℕ → Cont
  OffsetMinute d h m s n g i v r w = (r ≡ []) × Checked ck (ok_date d ≡ true) × Checked ck (ok_clock h m s ≡ true) × Checked ck (i ≤ 23) × Checked ck (v ≤ 59)
      × (Meaning.time (OffsetDateTime d (time_of_day h m s n) (signed g (i * 60 + v))) ≡ w)

  abbrev pub OffsetHour : D.Date → ℕ → ℕ → ℕ → ℕ → Bool → Cont
  OffsetHour d h m s n g i r w = Then (ch ":") (FieldRest 2 0 (OffsetMinute d h m s n g i)) r w

  -- after a clock
  abbrev pub EndRest : When → ℕ → ℕ → ℕ → ℕ → List ℕ → Meaning → Type 0
  EndRest alone h m s n a w = Checked ck (ok_clock h m s ≡ true) × (a ≡ []) × (Meaning.time (LocalTime (time_of_day h m s n)) ≡ w)
  EndRest (on d) h m s n a w = Checked ck (ok_date d ≡ true) × Checked ck (ok_clock h m s ≡ true)
      × (((a ≡ []) × (Meaning.time (LocalDateTime d (time_of_day h m s n)) ≡ w)) ⊎
      ((o : ℤ) × TimeOffset ck a o × (Meaning.time (OffsetDateTime d (time_of_day h m s n) o) ≡ w)))

  abbrev pub NanosRest : When → ℕ → ℕ → ℕ → ℕ → ℕ → List ℕ → Meaning → Type 0
  NanosRest c h m s k v a w = (d : List ℕ) × (e : List ℕ) × (n : ℕ) × (a ≡ d ++ e) × Fraction k v d n × EndRest c h m s n e w

  abbrev pub SecPointRest : When → ℕ → ℕ → ℕ → List ℕ → Meaning → Type 0
  SecPointRest c h m s a w = (b : ℕ) × (r : List ℕ) × (a ≡ b ∷ r) × DecimalDigit b × NanosRest c h m s 8 (dig 0 b) r w

  abbrev pub Second : When → ℕ → ℕ → Cont
  Second c h m s a w = (f : List ℕ) × (e : List ℕ) × (n : ℕ) × (a ≡ f ++ e) × TimeSecfrac f n × EndRest c h m s n e w

  abbrev pub Minute : When → ℕ → Cont
  Minute c h m a w = Then (ch ":") (FieldRest 2 0 (Second c h m)) a w

  abbrev pub Hour : When → Cont
  Hour c h a w = Then (ch ":") (FieldRest 2 0 (Minute c h)) a w

  abbrev pub DateRest : D.Date → List ℕ → Meaning → Type 0
  DateRest d a w = (Checked ck (ok_date d ≡ true) × ((a ≡ []) ⊎ (a ≡ ch " " ∷ [])) × (Meaning.time (LocalDate d) ≡ w))
      ⊎ ((x : ℕ) × (r : List ℕ) × (a ≡ x ∷ r) × Separator x × FieldRest 2 0 (Hour (on d)) r w)

  abbrev pub SpacedRest : D.Date → List ℕ → Meaning → Type 0
  SpacedRest d a w = (Checked ck (ok_date d ≡ true) × (a ≡ []) × (Meaning.time (LocalDate d) ≡ w)) ⊎ FieldRest 2 0 (Hour (on d)) a w

  abbrev pub Day : ℕ → ℕ → Cont
  Day y m d a w = DateRest (dated y m d) a w

  abbrev pub Month : ℕ → Cont
  Month y m a w = Then (ch "-") (FieldRest 2 0 (Day y m)) a w

  abbrev pub Year : Cont
  Year y a w = Then (ch "-") (FieldRest 2 0 (Month y)) a w

  abbrev pub SlotRest : Slot → Cont
  SlotRest (month y) = Month y
  SlotRest (day y m) = Day y m
  SlotRest (hour d) = Hour (on d)
  SlotRest (minute c h) = Minute c h
  SlotRest (second c h m) = Second c h m
  SlotRest (offset_hour d h m s n g) = OffsetHour d h m s n g
  SlotRest (offset_minute d h m s n g i) = OffsetMinute d h m s n g i

  -- ---- the whole value

  -- a clock, and what follows it
  clock_of_lem : (c : When) (a : List ℕ) (w : Meaning) → FieldRest 2 0 (Hour c) a w → (b : List ℕ) × (e : List ℕ) × (h : ℕ) × (m : ℕ) × (s : ℕ) × (n : ℕ)
      × (a ≡ b ++ e) × (Checked ck (ok_clock h m s ≡ true) → LocalTimeText ck b (time_of_day h m s n)) × EndRest c h m s n e w
  clock_of_lem c a w x =
      let y = x.5.2 in
      let z = y.5.2 in
      let f = z.5 in (
        x.0 ++ (ch ":" ∷ (y.0 ++ (ch ":" ∷ (z.0 ++ f.0)))),
        f.1,
        x.2,
        y.2,
        z.2,
        f.2,
        simp append_assoc (cc (x.3, x.5.1, y.3, y.5.1, z.3, f.3)),
        (λ e. let k = clock_checked ck x.2 y.2 z.2 e in LocalTimeText.local_time (TimeHour.hour x.4 k.0) (TimeMinute.sixtieth y.4 k.1)
            (TimeMinute.sixtieth z.4 k.2) f.4),
        f.5,
      )

  taken_by : {a b : List ℕ} {v w : Meaning} → a ≡ b → v ≡ w → Taken ck b v → Taken ck a w
  taken_by e f t = rw (e, ← f) t

  time_by : {a b : List ℕ} {t : M.Time} {w : Meaning} → a ≡ b → Meaning.time t ≡ w → TimeValue ck b t → Taken ck a w
  time_by e f t = taken_by e f (Taken.item (NumericItem.time_value t))

  pub hour_taken : (a : List ℕ) (w : Meaning) → FieldRest 2 0 (Hour alone) a w → Taken ck a w
  hour_taken a w x =
      let c = clock_of_lem alone a w x in
      let e = c.8 in
      time_by (c.6 ∙ ap (λ (l : List ℕ). c.0 ++ l) e.1 ∙ append-nil c.0) e.2 (TimeValue.local_time (c.7 e.0))

  -- after a date
  module _ (b : List ℕ) (d : D.Date) (w : Meaning) (made : Checked ck (ok_date d ≡ true) → LocalDateText ck b d) where
    stamp_taken : (x : ℕ) (r : List ℕ) → Separator x → FieldRest 2 0 (Hour (on d)) r w → Taken ck (b ++ (x ∷ r)) w
    stamp_taken x r p k = let c = clock_of_lem (on d) r w k in go c.0 c.1 c.2 c.3 c.4 c.5 c.6 c.7 c.8.0 c.8.1 c.8.2
      where
        go : (a e : List ℕ) (h m s n : ℕ) → r ≡ a ++ e → (Checked ck (ok_clock h m s ≡ true) → LocalTimeText ck a (time_of_day h m s n))
            → Checked ck (ok_date d ≡ true) → Checked ck (ok_clock h m s ≡ true) → ((e ≡ []) × (Meaning.time (LocalDateTime d (time_of_day h m s n)) ≡ w))
            ⊎ ((o : ℤ) × TimeOffset ck e o × (Meaning.time (OffsetDateTime d (time_of_day h m s n) o) ≡ w)) → Taken ck (b ++ (x ∷ r)) w
        go a e h m s n q k i j (inl z) = time_by (ap (λ (l : List ℕ). b ++ (x ∷ l)) (q ∙ ap (λ (l : List ℕ). a ++ l) z.0 ∙ append-nil a)) z.1
            (TimeValue.local_date_time (made i) p (k j))
        go a e h m s n q k i j (inr z) = time_by (ap (λ (l : List ℕ). b ++ (x ∷ l)) q) z.2 (TimeValue.offset_date_time (made i) p (k j) z.1)

    date_taken : (a : List ℕ) → DateRest d a w → Taken ck (b ++ a) w
    date_taken a (inl h) = go h.1
      where
        go : (a ≡ []) ⊎ (a ≡ ch " " ∷ []) → Taken ck (b ++ a) w
        go (inl e) = time_by (ap (λ (l : List ℕ). b ++ l) e ∙ append-nil b) h.2 (TimeValue.local_date (made h.0))
        go (inr e) = taken_by (ap (λ (l : List ℕ). b ++ l) e) h.2 (Taken.trailed (made h.0))
    date_taken a (inr h) = taken_by (ap (λ (l : List ℕ). b ++ l) h.2) refl (stamp_taken h.0 h.1 h.3 h.4)

  pub year_taken : (a : List ℕ) (w : Meaning) → FieldRest 4 0 Year a w → Taken ck a w
  year_taken a w x =
      let y = x.5.2 in
      let z = y.5.2 in
      taken_by (simp append_assoc (cc (x.3, x.5.1, y.3, y.5.1, z.3))) refl
      (date_taken (x.0 ++ (ch "-" ∷ (y.0 ++ (ch "-" ∷ z.0)))) (dated x.2 y.2 z.2) w
      (λ e. LocalDateText.local_date x.4 y.4 z.4 (by_check ck is_date_lem e)) z.1 z.5)
