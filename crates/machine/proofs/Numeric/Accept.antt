-- What the scanner takes, the rules derive: each state, and the whole. Assumes nothing.
use Prim.Native.Nat.{ℕ, zero, suc, ◌+◌, ◌*◌, ◌^◌}
use mathlib.Core.Path.{◌≡◌, refl, ◌∙◌, ap, subst}
use mathlib.Core.Bool.{Bool, true, false, cond, ◌&&◌}
use mathlib.Core.Logic.{◌⊎◌, inl, inr}
use mathlib.Core.List.{List, [], ◌∷◌, ◌++◌, append-nil}
use native.Mathlib.Omega.{arith}
use lib.Dec.{ltb, leb, eqb}
use lib.IntN.{pos}
use borrow.Author.Tests.{ltb-true, eqb-true, leb-true}
use Rattle.rules.specs.Rfc3629.{In}
use Rattle.meaning.specs.declared.Number as N
use Rattle.meaning.specs.declared.Date as D
use Rattle.meaning.specs.declared.Time as T
use Rattle.meaning.specs.declared.Time.TheVariants.{LocalDate, LocalTime, LocalDateTime, OffsetDateTime}
use Rattle.meaning.specs.declared.Refusal.{Refusal}
use Rattle.meaning.specs.declared.Refusal.TheVariants.{NotGrammar, BadNumber}
use Rattle.meaning.specs.Limits.{coefficient_limit}
use Rattle.meaning.specs.Letters.{ch}
use Rattle.meaning.specs.Clock.{time_of_day}
use Rattle.meaning.specs.Meaning.{Meaning}
use Rattle.grammar.specs.Checks.{Checked}
use Rattle.grammar.specs.Characters.{Digit, Digits}
use Rattle.grammar.specs.Numbers.{Sign, Unsigned, Number, raised, lowered}
use Rattle.grammar.specs.Times.{Fraction, TimeSecfrac, TimeHour, TimeMinute, Separator, PlusMinus, TimeOffset, signed}
use Rattle.machine.specs.Scan.{takes, stops, breaks}
use Rattle.machine.specs.Numeric.{St, Res, begin, sign, word, nought, int, point, frac, exp, exp_sign, exp_digits, hex_mark, hex, both, field, spaced}
use Rattle.machine.specs.Numeric.{sec_point, nanos, zulu, Len, d1, d2, d3, d4, When, alone, on, Slot, month, day, hour, minute, second, offset_hour}
use Rattle.machine.specs.Numeric.{offset_minute, scan, settle, dig, ok_date, ok_clock, on_zone, tested, only, dated}
use Rattle.machine.specs.Numeric as S
use Rattle.machine.proofs.Runs.{OutIs}
use Rattle.machine.proofs.Numeric.Rows.{DecimalDigit, NumIs, num_class, DgIs, dg_class, ExpIs, exp_class, FstIs, fst_class, HexIs, hex_class, SecIs}
use Rattle.machine.proofs.Numeric.Rows.{sec_class, DayIs, day_class}
use Rattle.machine.proofs.Numeric.Value.{settle_is, some_finite, finite_by}
use Rattle.machine.proofs.Numeric.CompleteTime.{by_check}
use Rattle.machine.proofs.Numeric.Items.{NumericItem, Taken}
use Rattle.machine.proofs.Numeric.Sound.{Fin, Bare, ExpDigitsRest, SignRest, PowerRest, FracRest, PointRest, IntRest, HexRest, MarkRest, NoughtRest}
use Rattle.machine.proofs.Numeric.Sound as Sound
use Rattle.machine.proofs.Numeric.SoundTime.{FieldRest, Then, OffsetMinute, OffsetHour, EndRest, NanosRest, SecPointRest, Second, Hour, DateRest}
use Rattle.machine.proofs.Numeric.SoundTime.{SpacedRest, Year, SlotRest, field_digit, field_full, hour_taken, year_taken, and_both}

check : (k : Bool) {P : Type 0} → P → Checked k P
check true x = x
check false x = tt

and_checked : (k : Bool) (a b : Bool) → Checked k (a && b ≡ true) → Checked k (a ≡ true) × Checked k (b ≡ true)
and_checked true a b e = and_both a b e
and_checked false a b e = (tt, tt)

module _ (ck : Bool) where
  abbrev NumRest : Len → Bool → ℕ → List ℕ → Meaning → Type 0
  NumRest k false v a w = IntRest ck false v a w
  NumRest d1 true v a w = NoughtRest ck false a w
  NumRest d2 true v a w = ⊥
  NumRest d3 true v a w = ⊥
  NumRest d4 true v a w = ⊥

  abbrev TimeRest : Len → ℕ → List ℕ → Meaning → Type 0
  TimeRest d1 v a w = FieldRest 1 v (Hour ck alone) a w ⊎ FieldRest 3 v (Year ck) a w
  TimeRest d2 v a w = FieldRest 0 v (Hour ck alone) a w ⊎ FieldRest 2 v (Year ck) a w
  TimeRest d3 v a w = FieldRest 1 v (Year ck) a w
  TimeRest d4 v a w = FieldRest 0 v (Year ck) a w

  -- from the state, the bytes a end the item with the meaning w
  abbrev pub NumericRest : St → List ℕ → Meaning → Type 0
  NumericRest begin a w = Taken ck a w
  NumericRest (sign q g) a w = Bare ck g a w
  NumericRest (word l n) a w = (a ≡ l) × (Meaning.number n ≡ w)
  NumericRest (nought q g) a w = NoughtRest ck g a w
  NumericRest (int q g m) a w = IntRest ck g m a w
  NumericRest (point q g) a w = PointRest ck g a w
  NumericRest (frac q g m f) a w = FracRest ck g m f a w
  NumericRest (exp q g m f) a w = PowerRest ck g m f a w
  NumericRest (exp_sign q g m f s) a w = SignRest ck g m f s a w
  NumericRest (exp_digits q g m f s e) a w = ExpDigitsRest ck g m f s e a w
  NumericRest (hex_mark q g) a w = MarkRest ck g a w
  NumericRest (hex q g v) a w = HexRest ck g v a w
  NumericRest (both q k z v) a w = NumRest k z v a w ⊎ TimeRest k v a w
  NumericRest (field q l n v) a w = FieldRest n v (SlotRest ck l) a w
  NumericRest (spaced q d) a w = SpacedRest ck d a w
  NumericRest (sec_point q c h m s) a w = SecPointRest ck c h m s a w
  NumericRest (nanos q c h m s k v) a w = NanosRest ck c h m s k v a w
  NumericRest (zulu q d h m s n) a w = (a ≡ []) × Checked ck (ok_date d ≡ true) × Checked ck (ok_clock h m s ≡ true)
      × (Meaning.time (OffsetDateTime d (time_of_day h m s n) (pos 0)) ≡ w)

  -- a check that fails: without checks, the item may end here
  abbrev pub Loose : Bool → Type 0 → Type 0
  Loose true P = Unit
  Loose false P = P

  -- where the item breaks: with 3, or where it may end without checks
  abbrev pub Broke : Refusal → (List ℕ → Meaning → Type 0) → Type 0
  Broke r R = ((q : ℕ) × (r ≡ NotGrammar q)) ⊎ Loose ck ((w : Meaning) × R [] w)

  loose_map : (k : Bool) {P Q : Type 0} → (P → Q) → Loose k P → Loose k Q
  loose_map true f h = tt
  loose_map false f h = f h

  broke_map : (r : Refusal) (R Q : List ℕ → Meaning → Type 0) → ((a : List ℕ) (w : Meaning) → R a w → Q a w) → Broke r R → Broke r Q
  broke_map r R Q f (inl h) = inl h
  broke_map r R Q f (inr h) = inr (loose_map ck (λ x. (x.0, f [] x.0 x.1)) h)

  -- what an outcome says, where R is what may still come before it
  abbrev From : (List ℕ → Meaning → Type 0) → ℕ → Res → Type 0
  From R b (takes s) = (a : List ℕ) (w : Meaning) → NumericRest s a w → R (b ∷ a) w
  From R b (stops m) = R [] m
  From R b (breaks r) = Broke r R

  widen : (R Q : List ℕ → Meaning → Type 0) → ((a : List ℕ) (w : Meaning) → R a w → Q a w) → (b : ℕ) (o : Res) → From R b o → From Q b o
  widen R Q f b (takes s) h = λ a w k. f (b ∷ a) w (h a w k)
  widen R Q f b (stops m) h = f [] m h
  widen R Q f b (breaks r) h = broke_map r R Q f h

  settled : (R : List ℕ → Meaning → Type 0) (q : ℕ) (g : Bool) (m up dn b : ℕ) → ((w : Meaning) → Fin ck g m up dn w → R [] w) → From R b (settle q g m up dn)
  settled R q g m up dn b f = settle_is q g m up dn (λ o. From R b o) (λ n h. f (Meaning.number n) (Fin.number (finite_by ck h))) (inr (out_of ck f))
    where
      out_of : (k : Bool) → ((w : Meaning) → Fin k g m up dn w → R [] w) → Loose k ((w : Meaning) × R [] w)
      out_of true f = tt
      out_of false f = let x = some_finite g m up dn in (Meaning.number x.0, f (Meaning.number x.0) (Fin.number x.1))

  test_is : (R : List ℕ → Meaning → Type 0) (q b : ℕ) (ok : Bool) (t : T.Time) → (Checked ck (ok ≡ true) → R [] (Meaning.time t)) → From R b (tested q ok t)
  test_is R q b true t f = f (check ck refl)
  test_is R q b false t f = inr (out_of ck f)
    where
      out_of : (k : Bool) → (Checked k (false ≡ true) → R [] (Meaning.time t)) → Loose k ((w : Meaning) × R [] w)
      out_of true f = tt
      out_of false f = (Meaning.time t, f tt)

  -- one byte, and then the state s
  only_is : (p b c : ℕ) (s : St) → From (Then c (NumericRest s)) b (only p c s b)
  only_is p b c s = go (eqb b c) refl
    where
      go : (t : Bool) → eqb b c ≡ t → From (Then c (NumericRest s)) b (cond t (takes s) (breaks (NotGrammar p)))
      go true e = λ a w k. (a, cc (eqb-true b c e), k)
      go false e = inl (p, refl)

  -- ---- numbers

  module _ (q : ℕ) (g : Bool) where
    int_stop : (m b : ℕ) → From (IntRest ck g m) b (settle q g m 0 0)
    int_stop m b = settled (IntRest ck g m) q g m 0 0 b (λ w h. Sound.int_of ck g m [] w (Sound.whole_none ck g m w h))

    int_step : (m : ℕ) {b : ℕ} {c : S.Num} → NumIs b c → From (IntRest ck g m) b (S.on_int q g m b c)
    int_step m {b} (NumIs.digit i) = λ a w h. Sound.int_digit ck g m b a w i h
    int_step m NumIs.point = λ a w h. Sound.int_of ck g m (ch "." ∷ a) w (Sound.whole_point ck g m a w h)
    int_step m {b} (NumIs.e_is e) = λ a w h. Sound.int_of ck g m (b ∷ a) w (Sound.whole_e ck g m b a w e h)
    int_step m {b} (NumIs.x_is x) = int_stop m b
    int_step m NumIs.colon = int_stop m (ch ":")
    int_step m NumIs.minus = int_stop m (ch "-")
    int_step m {b} NumIs.other = int_stop m b

    nought_stop : (b : ℕ) → From (NoughtRest ck g) b (settle q g 0 0 0)
    nought_stop b = settled (NoughtRest ck g) q g 0 0 0 b (λ w h. inl (Sound.whole_none ck g 0 w h))

    nought_step : {b : ℕ} {c : S.Num} → NumIs b c → From (NoughtRest ck g) b (S.on_nought q g c)
    nought_step {b} (NumIs.digit i) = nought_stop b
    nought_step NumIs.point = λ a w h. inl (Sound.whole_point ck g 0 a w h)
    nought_step {b} (NumIs.e_is e) = λ a w h. inl (Sound.whole_e ck g 0 b a w e h)
    nought_step {b} (NumIs.x_is x) = λ a w h. inr (b, a, refl, x, h)
    nought_step NumIs.colon = nought_stop (ch ":")
    nought_step NumIs.minus = nought_stop (ch "-")
    nought_step {b} NumIs.other = nought_stop b

    frac_stop : (m f b : ℕ) → From (FracRest ck g m f) b (settle q g m 0 f)
    frac_stop m f b = settled (FracRest ck g m f) q g m 0 f b (λ w h. Sound.frac_none ck g m f w h)

    frac_step : (m f : ℕ) {b : ℕ} {c : S.Num} → NumIs b c → From (FracRest ck g m f) b (S.on_frac q g m f b c)
    frac_step m f {b} (NumIs.digit i) = λ a w h. Sound.frac_digit ck g m f b a w i h
    frac_step m f NumIs.point = frac_stop m f (ch ".")
    frac_step m f {b} (NumIs.e_is e) = λ a w h. Sound.frac_e ck g m f b a w e h
    frac_step m f {b} (NumIs.x_is x) = frac_stop m f b
    frac_step m f NumIs.colon = frac_stop m f (ch ":")
    frac_step m f NumIs.minus = frac_stop m f (ch "-")
    frac_step m f {b} NumIs.other = frac_stop m f b

    point_step : (p : ℕ) {b : ℕ} {c : S.Dg} → DgIs b c → From (PointRest ck g) b (S.on_point p q g b c)
    point_step p {b} (DgIs.digit i) = λ a w h. Sound.point_digit ck g b a w i h
    point_step p DgIs.other = inl (p, refl)

    exp_step : (p m f : ℕ) {b : ℕ} {c : S.ExpB} → ExpIs b c → From (PowerRest ck g m f) b (S.on_exp p q g m f b c)
    exp_step p m f {b} (ExpIs.digit i) = λ a w h. ([], b ∷ a, false, refl, Sign.unsigned, (h.0, h.1, Digits.next (Digit.digit i) h.2, h.3))
    exp_step p m f ExpIs.plus = λ a w h. (ch "+" ∷ [], a, false, refl, Sign.plus, h)
    exp_step p m f ExpIs.minus = λ a w h. (ch "-" ∷ [], a, true, refl, Sign.minus, h)
    exp_step p m f ExpIs.other = inl (p, refl)

    sign_step : (p m f : ℕ) (s : Bool) {b : ℕ} {c : S.Dg} → DgIs b c → From (SignRest ck g m f s) b (S.on_exp_sign p q g m f s b c)
    sign_step p m f s (DgIs.digit i) = λ a w h. (h.0, h.1, Digits.next (Digit.digit i) h.2, h.3)
    sign_step p m f s DgIs.other = inl (p, refl)

    digits_step : (m f : ℕ) (s : Bool) (e : ℕ) {b : ℕ} {c : S.Dg} → DgIs b c → From (ExpDigitsRest ck g m f s e) b (S.on_exp_digits q g m f s e b c)
    digits_step m f s e (DgIs.digit i) = λ a w h. (h.0, suc h.1, Digits.next (Digit.digit i) h.2, h.3)
    digits_step m f s e {b} DgIs.other = settled (ExpDigitsRest ck g m f s e) q g m (raised s e) (f + lowered s e) b (λ w h. (e, 0, Digits.over, h))

    mark_step : (p : ℕ) {b : ℕ} {c : S.HexB} → HexIs b c → From (MarkRest ck g) b (S.on_hex_mark p q g c)
    mark_step p (HexIs.value x) = λ a w h. (h.0, h.1, Digits.next x h.2, h.3, h.4)
    mark_step p HexIs.other = inl (p, refl)

    hex_step : (v : ℕ) {b : ℕ} {c : S.HexB} → HexIs b c → From (HexRest ck g v) b (S.on_hex q g v c)
    hex_step v (HexIs.value x) = λ a w h. (h.0, suc h.1, Digits.next x h.2, h.3, h.4)
    hex_step v {b} HexIs.other = go (ltb v coefficient_limit) refl
      where
        go : (t : Bool) → ltb v coefficient_limit ≡ t → From (HexRest ck g v) b (cond t (settle q g v 0 0) (breaks (BadNumber q)))
        go true e = settled (HexRest ck g v) q g v 0 0 b (λ w h. (v, 0, Digits.over, check ck (ltb-true v coefficient_limit e), h))
        go false e = inr (too_large ck)
          where
            too_large : (k : Bool) → Loose k ((w : Meaning) × HexRest k g v [] w)
            too_large true = tt
            too_large false = let x = some_finite g v 0 0 in (Meaning.number x.0, (v, 0, Digits.over, tt, Fin.number x.1))

    after_sign : (p : ℕ) {b : ℕ} {c : S.Fst} → FstIs b c → From (Bare ck g) b (S.on_sign p q g b c)
    after_sign p {b} (FstIs.digit i) = λ a w h. Sound.int_dec ck g b a w i h
    after_sign p FstIs.nought = λ a w h. Sound.nought_dec ck g a w h
    after_sign p FstIs.plus = inl (p, refl)
    after_sign p FstIs.minus = inl (p, refl)
    after_sign p FstIs.point = λ a w h. Sound.point_dec ck g a w h
    after_sign p FstIs.n_is = λ a w h. rw (h.0, ← h.1) (Bare.number Unsigned.nan)
    after_sign p FstIs.i_is = λ a w h. rw (h.0, ← h.1) (Bare.number Unsigned.inf)
    after_sign p FstIs.other = inl (p, refl)

  word_step : (p : ℕ) (l : List ℕ) (n : N.Number) (b : ℕ) → From (λ a w. (a ≡ l) × (Meaning.number n ≡ w)) b (scan p (word l n) b)
  word_step p [] n b = (refl, refl)
  word_step p (c ∷ l) n b = go (eqb b c) refl
    where
      go : (t : Bool) → eqb b c ≡ t → From (λ a w. (a ≡ c ∷ l) × (Meaning.number n ≡ w)) b (cond t (takes (word l n)) (breaks (NotGrammar p)))
      go true e = λ a w h. (cc (eqb-true b c e, h.0), h.1)
      go false e = inl (p, refl)

  -- ---- times

  module _ (q : ℕ) where
    -- after a clock
    offset_of : (d : D.Date) (h m s n x : ℕ) (g : Bool) → PlusMinus x g → (a : List ℕ) (w : Meaning) → FieldRest 2 0 (OffsetHour ck d h m s n g) a w
        → EndRest ck (on d) h m s n (x ∷ a) w
    offset_of d h m s n x g p a w k =
        let i = k.5.2 in
        let j = i.5 in
        let e : a ≡ k.0 ++ (ch ":" ∷ i.0) = k.3 ∙ ap (λ (l : List ℕ). k.0 ++ l)
        (k.5.1 ∙ ap (λ (l : List ℕ). ch ":" ∷ l) (i.3 ∙ ap (λ (l : List ℕ). i.0 ++ l) j.0 ∙ append-nil i.0)) in (
          j.1,
          j.2,
          inr (
            signed g (k.2 * 60 + i.2),
            rw e (TimeOffset.numoffset p (TimeHour.hour k.4 j.3) (TimeMinute.sixtieth i.4 j.4)),
            j.5,
          ),
        )

    done_step : (c : When) (h m s n b : ℕ) → From (EndRest ck c h m s n) b (S.clock_done q c h m s n)
    done_step alone h m s n b = test_is (EndRest ck alone h m s n) q b (ok_clock h m s) (LocalTime (time_of_day h m s n)) (λ e. (e, refl, refl))
    done_step (on d) h m s n b = test_is (EndRest ck (on d) h m s n) q b (ok_date d && ok_clock h m s) (LocalDateTime d (time_of_day h m s n))
        (λ e. let k = and_checked ck _ _ e in (k.0, k.1, inl (refl, refl)))

    zone_step : (c : When) (h m s n : ℕ) {b : ℕ} {k : S.Sec} → SecIs b k → From (EndRest ck c h m s n) b (on_zone q c h m s n k)
    zone_step alone h m s n {b} i = done_step alone h m s n b
    zone_step (on d) h m s n {b} (SecIs.digit i) = done_step (on d) h m s n b
    zone_step (on d) h m s n SecIs.point = done_step (on d) h m s n (ch ".")
    zone_step (on d) h m s n (SecIs.z_is z) = λ a w k. (k.1, k.2, inr (pos 0, rw k.0 (TimeOffset.zulu z), k.3))
    zone_step (on d) h m s n SecIs.plus = offset_of d h m s n (ch "+") false PlusMinus.plus
    zone_step (on d) h m s n SecIs.minus = offset_of d h m s n (ch "-") true PlusMinus.minus
    zone_step (on d) h m s n {b} SecIs.other = done_step (on d) h m s n b

    module _ (c : When) (h m s : ℕ) where
      second_zone : {b : ℕ} {k : S.Sec} → SecIs b k → From (Second ck c h m s) b (on_zone q c h m s 0 k)
      second_zone {b} {k} i = widen (EndRest ck c h m s 0) (Second ck c h m s) (λ a w e. ([], a, 0, refl, TimeSecfrac.absent, e)) b (on_zone q c h m s 0 k)
          (zone_step c h m s 0 i)

      second_step : {b : ℕ} {k : S.Sec} → SecIs b k → From (Second ck c h m s) b (S.on_sec q c h m s k)
      second_step {b} (SecIs.digit i) = second_zone (SecIs.digit i)
      second_step SecIs.point = λ a w k. (
        ch "." ∷ (k.0 ∷ k.4.0),
        k.4.1,
        k.4.2,
        cc (k.2, k.4.3),
        TimeSecfrac.given (Fraction.counts (Digit.digit k.3) k.4.4),
        k.4.5,
      )
      second_step (SecIs.z_is z) = second_zone (SecIs.z_is z)
      second_step SecIs.plus = second_zone SecIs.plus
      second_step SecIs.minus = second_zone SecIs.minus
      second_step {b} SecIs.other = second_zone (SecIs.other {b = b})

      sec_point_step : (p : ℕ) {b : ℕ} {k : S.Dg} → DgIs b k → From (SecPointRest ck c h m s) b (S.on_sec_point p q c h m s b k)
      sec_point_step p {b} (DgIs.digit i) = λ a w k. (b, a, refl, i, k)
      sec_point_step p DgIs.other = inl (p, refl)

      nanos_zone : (j v : ℕ) {b : ℕ} {k : S.Sec} → SecIs b k → From (NanosRest ck c h m s j v) b (on_zone q c h m s (v * 10 ^ j) k)
      nanos_zone j v {b} {k} i = widen (EndRest ck c h m s (v * 10 ^ j)) (NanosRest ck c h m s j v) (λ a w e. ([], a, v * 10 ^ j, refl, Fraction.over, e)) b
          (on_zone q c h m s (v * 10 ^ j) k) (zone_step c h m s (v * 10 ^ j) i)

      nanos_step : (j v : ℕ) {b : ℕ} {k : S.Sec} → SecIs b k → From (NanosRest ck c h m s j v) b (S.on_nanos q c h m s j v b k)
      nanos_step zero v {b} (SecIs.digit i) = λ a w k. (b ∷ k.0, k.1, k.2, rw k.3, Fraction.cut (Digit.digit i) k.4, k.5)
      nanos_step (suc j) v {b} (SecIs.digit i) = λ a w k. (b ∷ k.0, k.1, k.2, rw k.3, Fraction.counts (Digit.digit i) k.4, k.5)
      nanos_step j v SecIs.point = nanos_zone j v SecIs.point
      nanos_step j v (SecIs.z_is z) = nanos_zone j v (SecIs.z_is z)
      nanos_step j v SecIs.plus = nanos_zone j v SecIs.plus
      nanos_step j v SecIs.minus = nanos_zone j v SecIs.minus
      nanos_step j v {b} SecIs.other = nanos_zone j v (SecIs.other {b = b})

    day_step : (d : D.Date) {b : ℕ} {k : S.Day} → DayIs b k → From (DateRest ck d) b (S.on_day q d k)
    day_step d {b} (DayIs.letter x) = λ a w k. inr (b, a, refl, x, k)
    day_step d DayIs.space = go
      where
        go : (a : List ℕ) (w : Meaning) → SpacedRest ck d a w → DateRest ck d (ch " " ∷ a) w
        go a w (inl k) = inl (k.0, inr (rw k.1), k.2)
        go a w (inr k) = inr (ch " ", a, refl, Separator.space, k)
    day_step d {b} DayIs.other = test_is (DateRest ck d) q b (ok_date d) (LocalDate d) (λ e. inl (e, inl refl, refl))

    spaced_step : (d : D.Date) {b : ℕ} {k : S.Dg} → DgIs b k → From (SpacedRest ck d) b (S.on_spaced q d b k)
    spaced_step d {b} (DgIs.digit i) = λ a w k. inr (field_digit 1 0 b (Hour ck (on d)) a w i k)
    spaced_step d {b} DgIs.other = test_is (SpacedRest ck d) q b (ok_date d) (LocalDate d) (λ e. inl (e, refl, refl))

    full_step : (p : ℕ) (l : Slot) (v b : ℕ) → From (SlotRest ck l v) b (S.on_full p q l v b)
    full_step p (month y) v b = only_is p b (ch "-") (field q (day y v) 2 0)
    full_step p (day y m) v b = day_step (dated y m v) (day_class b)
    full_step p (hour d) v b = only_is p b (ch ":") (field q (minute (on d) v) 2 0)
    full_step p (minute c h) v b = only_is p b (ch ":") (field q (second c h v) 2 0)
    full_step p (second c h m) v b = second_step c h m v (sec_class b)
    full_step p (offset_hour d h m s n g) v b = only_is p b (ch ":") (field q (offset_minute d h m s n g v) 2 0)
    full_step p (offset_minute d h m s n g i) v b =
        test_is (OffsetMinute ck d h m s n g i v) q b ((ok_date d && ok_clock h m s) && (leb i 23 && leb v 59))
        (OffsetDateTime d (time_of_day h m s n) (signed g (i * 60 + v)))
        (λ e. let k = and_checked ck _ _ e in let j = and_checked ck _ _ k.0 in let o = and_checked ck _ _ k.1 in
        (refl, j.0, j.1, by_check ck (leb-true i 23) o.0, by_check ck (leb-true v 59) o.1, refl))

    field_step : (p : ℕ) (l : Slot) (n v : ℕ) {b : ℕ} {k : S.Dg} → DgIs b k → From (FieldRest (suc n) v (SlotRest ck l)) b (S.on_field p q l n v b k)
    field_step p l n v {b} (DgIs.digit i) = λ a w k. field_digit n v b (SlotRest ck l) a w i k
    field_step p l n v DgIs.other = inl (p, refl)

    zulu_step : (d : D.Date) (h m s n b : ℕ) → From (NumericRest (zulu q d h m s n)) b
        (tested q (ok_date d && ok_clock h m s) (OffsetDateTime d (time_of_day h m s n) (pos 0)))
    zulu_step d h m s n b = test_is (NumericRest (zulu q d h m s n)) q b (ok_date d && ok_clock h m s) (OffsetDateTime d (time_of_day h m s n) (pos 0))
        (λ e. let k = and_checked ck _ _ e in (refl, k.0, k.1, refl))

    -- ---- digits with no sign

    as_number_lem : (p : ℕ) (k : Len) (z : Bool) (v : ℕ) {b : ℕ} {c : S.Num} → NumIs b c → From (NumericRest (both q k z v)) b (S.as_number p q k z v b c)
    as_number_lem p k false v {b} {c} i = widen (IntRest ck false v) (NumericRest (both q k false v)) (λ a w h. inl h) b (S.on_int q false v b c)
        (int_step q false v i)
    as_number_lem p d1 true v {b} {c} i = widen (NoughtRest ck false) (NumericRest (both q d1 true v)) (λ a w h. inl h) b (S.on_nought q false c)
        (nought_step q false i)
    as_number_lem p d2 true v i = inl (p, refl)
    as_number_lem p d3 true v i = inl (p, refl)
    as_number_lem p d4 true v i = inl (p, refl)

    digit_2 : (z : Bool) (v b : ℕ) → DecimalDigit b → (a : List ℕ) (w : Meaning) → NumericRest (both q d2 z (dig v b)) a w
        → NumericRest (both q d1 z v) (b ∷ a) w
    digit_2 false v b i a w (inl h) = inl (Sound.int_digit ck false v b a w i h)
    digit_2 true v b i a w (inl h) = absurd h
    digit_2 z v b i a w (inr (inl h)) = inr (inl (field_digit 0 v b (Hour ck alone) a w i h))
    digit_2 z v b i a w (inr (inr h)) = inr (inr (field_digit 2 v b (Year ck) a w i h))

    digit_3 : (z : Bool) (v b : ℕ) → DecimalDigit b → (a : List ℕ) (w : Meaning) → NumericRest (both q d3 z (dig v b)) a w
        → NumericRest (both q d2 z v) (b ∷ a) w
    digit_3 false v b i a w (inl h) = inl (Sound.int_digit ck false v b a w i h)
    digit_3 true v b i a w (inl h) = absurd h
    digit_3 z v b i a w (inr h) = inr (inr (field_digit 1 v b (Year ck) a w i h))

    digit_4 : (z : Bool) (v b : ℕ) → DecimalDigit b → (a : List ℕ) (w : Meaning) → NumericRest (both q d4 z (dig v b)) a w
        → NumericRest (both q d3 z v) (b ∷ a) w
    digit_4 false v b i a w (inl h) = inl (Sound.int_digit ck false v b a w i h)
    digit_4 true v b i a w (inl h) = absurd h
    digit_4 z v b i a w (inr h) = inr (field_digit 0 v b (Year ck) a w i h)

    digit_step : (p : ℕ) (k : Len) (z : Bool) (v b : ℕ) → DecimalDigit b → From (NumericRest (both q k z v)) b (S.on_digit p q k z v b)
    digit_step p d1 z v b i = digit_2 z v b i
    digit_step p d2 z v b i = digit_3 z v b i
    digit_step p d3 z v b i = digit_4 z v b i
    digit_step p d4 z v b i = as_number_lem p d4 z v (NumIs.digit i)

    colon_step : (p : ℕ) (k : Len) (z : Bool) (v : ℕ) → From (NumericRest (both q k z v)) (ch ":") (S.on_colon p q k z v (ch ":"))
    colon_step p d1 z v = as_number_lem p d1 z v NumIs.colon
    colon_step p d2 z v = λ a w h. inr (inl (field_full v (Hour ck alone) (ch ":" ∷ a) w (a, refl, h)))
    colon_step p d3 z v = as_number_lem p d3 z v NumIs.colon
    colon_step p d4 z v = as_number_lem p d4 z v NumIs.colon

    minus_step : (p : ℕ) (k : Len) (z : Bool) (v : ℕ) → From (NumericRest (both q k z v)) (ch "-") (S.on_minus p q k z v (ch "-"))
    minus_step p d1 z v = as_number_lem p d1 z v NumIs.minus
    minus_step p d2 z v = as_number_lem p d2 z v NumIs.minus
    minus_step p d3 z v = as_number_lem p d3 z v NumIs.minus
    minus_step p d4 z v = λ a w h. inr (field_full v (Year ck) (ch "-" ∷ a) w (a, refl, h))

    both_step : (p : ℕ) (k : Len) (z : Bool) (v : ℕ) {b : ℕ} {c : S.Num} → NumIs b c → From (NumericRest (both q k z v)) b (S.on_both p q k z v b c)
    both_step p k z v {b} (NumIs.digit i) = digit_step p k z v b i
    both_step p k z v NumIs.point = as_number_lem p k z v NumIs.point
    both_step p k z v (NumIs.e_is e) = as_number_lem p k z v (NumIs.e_is e)
    both_step p k z v (NumIs.x_is x) = as_number_lem p k z v (NumIs.x_is x)
    both_step p k z v NumIs.colon = colon_step p k z v
    both_step p k z v NumIs.minus = minus_step p k z v
    both_step p k z v NumIs.other = as_number_lem p k z v NumIs.other

  -- ---- the whole

  signed_taken : {s a : List ℕ} {g : Bool} {w : Meaning} → Sign s g → Bare ck g a w → Taken ck (s ++ a) w
  signed_taken s (Bare.number u) = Taken.item (NumericItem.number (Number.number s u))

  bare : {a : List ℕ} {w : Meaning} → Bare ck false a w → Taken ck a w
  bare u = signed_taken Sign.unsigned u

  -- after the first digit, as a time
  first_time : (b v : ℕ) → DecimalDigit b → v ≡ dig 0 b → (a : List ℕ) (w : Meaning) → TimeRest d1 v a w → Taken ck (b ∷ a) w
  first_time b v i e a w (inl h) = hour_taken ck (b ∷ a) w (field_digit 1 0 b (Hour ck alone) a w i (rw e at h))
  first_time b v i e a w (inr h) = year_taken ck (b ∷ a) w (field_digit 3 0 b (Year ck) a w i (rw e at h))

  begin_digit : (p b : ℕ) → In (ch "1") (ch "9") b → (a : List ℕ) (w : Meaning) → NumericRest (both p d1 false (dig 0 b)) a w → Taken ck (b ∷ a) w
  begin_digit p b i a w (inl h) = bare (Sound.int_dec ck false b a w i h)
  begin_digit p b i a w (inr h) = first_time b (dig 0 b) (omega arith) refl a w h

  begin_nought : (p : ℕ) (a : List ℕ) (w : Meaning) → NumericRest (both p d1 true 0) a w → Taken ck (ch "0" ∷ a) w
  begin_nought p a w (inl h) = bare (Sound.nought_dec ck false a w h)
  begin_nought p a w (inr h) = first_time (ch "0") 0 (omega arith) refl a w h

  begin_step : (p : ℕ) {b : ℕ} {c : S.Fst} → FstIs b c → From (Taken ck) b (S.on_begin p b c)
  begin_step p {b} (FstIs.digit i) = begin_digit p b i
  begin_step p FstIs.nought = begin_nought p
  begin_step p FstIs.plus = λ a w h. signed_taken Sign.plus h
  begin_step p FstIs.minus = λ a w h. signed_taken Sign.minus h
  begin_step p FstIs.point = λ a w h. bare (Sound.point_dec ck false a w h)
  begin_step p FstIs.n_is = λ a w h. rw (h.0, ← h.1) (bare (Bare.number Unsigned.nan))
  begin_step p FstIs.i_is = λ a w h. rw (h.0, ← h.1) (bare (Bare.number Unsigned.inf))
  begin_step p FstIs.other = inl (p, refl)

  scan_is : (p : ℕ) (s : St) (b : ℕ) → From (NumericRest s) b (scan p s b)
  scan_is p begin b = begin_step p (fst_class b)
  scan_is p (sign q g) b = after_sign q g p (fst_class b)
  scan_is p (word l n) b = word_step p l n b
  scan_is p (nought q g) b = nought_step q g (num_class b)
  scan_is p (int q g m) b = int_step q g m (num_class b)
  scan_is p (point q g) b = point_step q g p (dg_class b)
  scan_is p (frac q g m f) b = frac_step q g m f (num_class b)
  scan_is p (exp q g m f) b = exp_step q g p m f (exp_class b)
  scan_is p (exp_sign q g m f s) b = sign_step q g p m f s (dg_class b)
  scan_is p (exp_digits q g m f s e) b = digits_step q g m f s e (dg_class b)
  scan_is p (hex_mark q g) b = mark_step q g p (hex_class b)
  scan_is p (hex q g v) b = hex_step q g v (hex_class b)
  scan_is p (both q k z v) b = both_step q p k z v (num_class b)
  scan_is p (field q l zero v) b = widen (SlotRest ck l v) (FieldRest zero v (SlotRest ck l)) (field_full v (SlotRest ck l)) b (S.on_full p q l v b)
      (full_step q p l v b)
  scan_is p (field q l (suc n) v) b = field_step q p l n v (dg_class b)
  scan_is p (spaced q d) b = spaced_step q d (dg_class b)
  scan_is p (sec_point q c h m s) b = sec_point_step q c h m s p (dg_class b)
  scan_is p (nanos q c h m s k v) b = nanos_step q c h m s k v (sec_class b)
  scan_is p (zulu q d h m s n) b = zulu_step q d h m s n b

  told : (s : St) (b : ℕ) (o : Res) → From (NumericRest s) b o → OutIs NumericRest s b o
  told s b (takes t) h = h
  told s b (stops m) h = h
  told s b (breaks r) h = tt

  pub numeric_is : (p : ℕ) (s : St) (b : ℕ) → OutIs NumericRest s b (scan p s b)
  numeric_is p s b = told s b (scan p s b) (scan_is p s b)

  -- where a check fails the item is one without checks
  pub numeric_broke : (p : ℕ) (s : St) (b : ℕ) (r : Refusal) → scan p s b ≡ breaks r → Broke r (NumericRest s)
  numeric_broke p s b r e = subst (λ (o : Res). From (NumericRest s) b o) e (scan_is p s b)
