-- A refusal's place is no later than the byte that gives it. Assumes nothing.
use Prim.Native.Nat.{ℕ, zero, suc, ◌+◌, ◌*◌, ◌^◌, ◌≤◌}
use mathlib.Core.Path.{◌≡◌, refl, subst}
use mathlib.Core.Bool.{Bool, true, false, cond, ◌&&◌}
use mathlib.Core.List.{[], ◌∷◌}
use native.Mathlib.Omega.{arith}
use lib.Dec.{ltb, leb, eqb}
use lib.IntN.{pos}
use Rattle.meaning.specs.declared.Date as D
use Rattle.meaning.specs.declared.Time as T
use Rattle.meaning.specs.declared.Time.TheVariants.{LocalDate, LocalTime, LocalDateTime, OffsetDateTime}
use Rattle.meaning.specs.declared.Refusal.{Refusal}
use Rattle.meaning.specs.declared.Refusal.TheVariants.{TextTooLong, NotUtf8, NotGrammar, BadEscape, BadTime, BadNumber, TooDeep, TapeTooShort, StoreTooShort}
use Rattle.meaning.specs.declared.Refusal.TheVariants.{NotWellFormed, NoJsonForm, OutputTooShort, WrittenTooLong, NoSuchRecord}
use Rattle.meaning.specs.declared.Refusal.TheVariants.{RepeatedKey}
use Rattle.meaning.specs.Limits.{coefficient_limit}
use Rattle.meaning.specs.Letters.{ch}
use Rattle.meaning.specs.Clock.{time_of_day}
use Rattle.grammar.specs.Numbers.{raised, lowered}
use Rattle.grammar.specs.Times.{signed}
use Rattle.machine.specs.Scan.{takes, stops, breaks}
use Rattle.machine.specs.Numeric.{St, Res, begin, sign, word, nought, int, point, frac, exp, exp_sign, exp_digits, hex_mark, hex, both, field, spaced}
use Rattle.machine.specs.Numeric.{sec_point, nanos, zulu, Len, d1, d2, d3, d4, When, alone, on, Slot, month, day, hour, minute, second, offset_hour}
use Rattle.machine.specs.Numeric.{offset_minute, scan, settle, only, dated, tested, ok_date, ok_clock}
use Rattle.machine.specs.Numeric as S
use Rattle.machine.proofs.Numeric.Value.{settle_is}

-- the item's first place, where the state keeps it
unfoldable pub first_of : St → ℕ
first_of begin = 0
first_of (sign q g) = q
first_of (word l n) = 0
first_of (nought q g) = q
first_of (int q g m) = q
first_of (point q g) = q
first_of (frac q g m f) = q
first_of (exp q g m f) = q
first_of (exp_sign q g m f s) = q
first_of (exp_digits q g m f s e) = q
first_of (hex_mark q g) = q
first_of (hex q g v) = q
first_of (both q k z v) = q
first_of (field q l n v) = q
first_of (spaced q d) = q
first_of (sec_point q w h m s) = q
first_of (nanos q w h m s k v) = q
first_of (zulu q d h m s n) = q

-- what a refusal at the byte p says of its place: 3 names that byte, and no other a later one
abbrev pub Blame : ℕ → Refusal → Type 0
Blame p TextTooLong = ⊥
Blame p (NotUtf8 q) = ⊥
Blame p (NotGrammar q) = q ≡ p
Blame p (BadEscape q) = q ≤ p
Blame p (BadTime q) = q ≤ p
Blame p (BadNumber q) = q ≤ p
Blame p (TooDeep q) = q ≤ p
Blame p (TapeTooShort n) = ⊥
Blame p (StoreTooShort n) = ⊥
Blame p (NotWellFormed q) = ⊥
Blame p (NoJsonForm i) = ⊥
Blame p (OutputTooShort n) = ⊥
Blame p (WrittenTooLong n) = ⊥
Blame p (NoSuchRecord i) = ⊥
Blame p (RepeatedKey q) = ⊥

-- an outcome at the place p: the next state began no later, a refusal's place is as above
abbrev Placed : ℕ → Res → Type 0
Placed p (takes s) = first_of s ≤ suc p
Placed p (stops m) = Unit {0}
Placed p (breaks r) = Blame p r

refused_here : (p : ℕ) → Blame p (NotGrammar p)
refused_here p = refl

only_placed : (p c : ℕ) (s : St) (b : ℕ) → first_of s ≤ suc p → Placed p (only p c s b)
only_placed p c s b h = go (eqb b c)
  where
    go : (t : Bool) → Placed p (cond t (takes s) (breaks (NotGrammar p)))
    go true = h
    go false = refused_here p

module _ (p q : ℕ) (l : q ≤ p) where
  next : q ≤ suc p
  next = omega arith

  tested_placed : (ok : Bool) (t : T.Time) → Placed p (tested q ok t)
  tested_placed true t = tt
  tested_placed false t = l

  bad_number : Blame p (BadNumber q)
  bad_number = l

  settled : (g : Bool) (m up dn : ℕ) → Placed p (settle q g m up dn)
  settled g m up dn = settle_is q g m up dn (Placed p) (λ x f. tt) bad_number

  module _ (g : Bool) where
    sign_placed : (b : ℕ) (c : S.Fst) → Placed p (S.on_sign p q g b c)
    unfolding first_of
    sign_placed b S.nought_f = next
    sign_placed b S.digit_f = next
    sign_placed b S.point_f = next
    sign_placed b S.n_f = omega arith
    sign_placed b S.i_f = omega arith
    sign_placed b S.plus_f = refused_here p
    sign_placed b S.minus_f = refused_here p
    sign_placed b S.other_f = refused_here p

    nought_placed : (c : S.Num) → Placed p (S.on_nought q g c)
    unfolding first_of
    nought_placed S.point_n = next
    nought_placed S.e_n = next
    nought_placed S.x_n = next
    nought_placed S.digit_n = settled g 0 0 0
    nought_placed S.colon_n = settled g 0 0 0
    nought_placed S.minus_n = settled g 0 0 0
    nought_placed S.other_n = settled g 0 0 0

    int_placed : (m b : ℕ) (c : S.Num) → Placed p (S.on_int q g m b c)
    unfolding first_of
    int_placed m b S.digit_n = next
    int_placed m b S.point_n = next
    int_placed m b S.e_n = next
    int_placed m b S.x_n = settled g m 0 0
    int_placed m b S.colon_n = settled g m 0 0
    int_placed m b S.minus_n = settled g m 0 0
    int_placed m b S.other_n = settled g m 0 0

    frac_placed : (m f b : ℕ) (c : S.Num) → Placed p (S.on_frac q g m f b c)
    unfolding first_of
    frac_placed m f b S.digit_n = next
    frac_placed m f b S.e_n = next
    frac_placed m f b S.point_n = settled g m 0 f
    frac_placed m f b S.x_n = settled g m 0 f
    frac_placed m f b S.colon_n = settled g m 0 f
    frac_placed m f b S.minus_n = settled g m 0 f
    frac_placed m f b S.other_n = settled g m 0 f

    point_placed : (b : ℕ) (c : S.Dg) → Placed p (S.on_point p q g b c)
    unfolding first_of
    point_placed b S.digit = next
    point_placed b S.other = refused_here p

    exp_placed : (m f b : ℕ) (c : S.ExpB) → Placed p (S.on_exp p q g m f b c)
    unfolding first_of
    exp_placed m f b S.digit_e = next
    exp_placed m f b S.plus_e = next
    exp_placed m f b S.minus_e = next
    exp_placed m f b S.other_e = refused_here p

    exp_sign_placed : (m f : ℕ) (s : Bool) (b : ℕ) (c : S.Dg) → Placed p (S.on_exp_sign p q g m f s b c)
    unfolding first_of
    exp_sign_placed m f s b S.digit = next
    exp_sign_placed m f s b S.other = refused_here p

    exp_digits_placed : (m f : ℕ) (s : Bool) (e b : ℕ) (c : S.Dg) → Placed p (S.on_exp_digits q g m f s e b c)
    unfolding first_of
    exp_digits_placed m f s e b S.digit = next
    exp_digits_placed m f s e b S.other = settled g m (raised s e) (f + lowered s e)

    hex_mark_placed : (c : S.HexB) → Placed p (S.on_hex_mark p q g c)
    unfolding first_of
    hex_mark_placed (S.value d) = next
    hex_mark_placed S.no_hex = refused_here p

    hex_placed : (v : ℕ) (c : S.HexB) → Placed p (S.on_hex q g v c)
    unfolding first_of
    hex_placed v (S.value d) = next
    hex_placed v S.no_hex = go (ltb v coefficient_limit)
      where
        go : (t : Bool) → Placed p (cond t (settle q g v 0 0) (breaks (BadNumber q)))
        go true = settled g v 0 0
        go false = bad_number

  day_placed : (d : D.Date) (c : S.Day) → Placed p (S.on_day q d c)
  unfolding first_of
  day_placed d S.letter_d = next
  day_placed d S.space_d = next
  day_placed d S.other_d = tested_placed (ok_date d) (LocalDate d)

  clock_placed : (w : When) (h m s n : ℕ) → Placed p (S.clock_done q w h m s n)
  clock_placed alone h m s n = tested_placed (ok_clock h m s) (LocalTime (time_of_day h m s n))
  clock_placed (on d) h m s n = tested_placed (ok_date d && ok_clock h m s) (LocalDateTime d (time_of_day h m s n))

  zone_placed : (w : When) (h m s n : ℕ) (c : S.Sec) → Placed p (S.on_zone q w h m s n c)
  unfolding first_of
  zone_placed alone h m s n c = clock_placed alone h m s n
  zone_placed (on d) h m s n S.zulu_s = next
  zone_placed (on d) h m s n S.plus_s = next
  zone_placed (on d) h m s n S.minus_s = next
  zone_placed (on d) h m s n S.digit_s = clock_placed (on d) h m s n
  zone_placed (on d) h m s n S.point_s = clock_placed (on d) h m s n
  zone_placed (on d) h m s n S.other_s = clock_placed (on d) h m s n

  module _ (w : When) (h m s : ℕ) where
    second_placed : (c : S.Sec) → Placed p (S.on_sec q w h m s c)
    unfolding first_of
    second_placed S.point_s = next
    second_placed S.digit_s = zone_placed w h m s 0 S.digit_s
    second_placed S.zulu_s = zone_placed w h m s 0 S.zulu_s
    second_placed S.plus_s = zone_placed w h m s 0 S.plus_s
    second_placed S.minus_s = zone_placed w h m s 0 S.minus_s
    second_placed S.other_s = zone_placed w h m s 0 S.other_s

    nanos_placed : (k v b : ℕ) (c : S.Sec) → Placed p (S.on_nanos q w h m s k v b c)
    unfolding first_of
    nanos_placed zero v b S.digit_s = next
    nanos_placed (suc k) v b S.digit_s = next
    nanos_placed k v b S.point_s = zone_placed w h m s (v * 10 ^ k) S.point_s
    nanos_placed k v b S.zulu_s = zone_placed w h m s (v * 10 ^ k) S.zulu_s
    nanos_placed k v b S.plus_s = zone_placed w h m s (v * 10 ^ k) S.plus_s
    nanos_placed k v b S.minus_s = zone_placed w h m s (v * 10 ^ k) S.minus_s
    nanos_placed k v b S.other_s = zone_placed w h m s (v * 10 ^ k) S.other_s

    sec_point_placed : (b : ℕ) (c : S.Dg) → Placed p (S.on_sec_point p q w h m s b c)
    unfolding first_of
    sec_point_placed b S.digit = next
    sec_point_placed b S.other = refused_here p

  full_placed : (k : Slot) (v b : ℕ) → Placed p (S.on_full p q k v b)
  unfolding first_of
  full_placed (month y) v b = only_placed p (ch "-") (field q (day y v) 2 0) b next
  full_placed (day y m) v b = day_placed (dated y m v) (S.day_of b)
  full_placed (hour d) v b = only_placed p (ch ":") (field q (minute (on d) v) 2 0) b next
  full_placed (minute w h) v b = only_placed p (ch ":") (field q (second w h v) 2 0) b next
  full_placed (second w h m) v b = second_placed w h m v (S.sec_of b)
  full_placed (offset_hour d h m s n g) v b = only_placed p (ch ":") (field q (offset_minute d h m s n g v) 2 0) b next
  full_placed (offset_minute d h m s n g i) v b = tested_placed ((ok_date d && ok_clock h m s) && (leb i 23 && leb v 59))
      (OffsetDateTime d (time_of_day h m s n) (signed g (i * 60 + v)))

  field_placed : (k : Slot) (n v b : ℕ) (c : S.Dg) → Placed p (S.on_field p q k n v b c)
  unfolding first_of
  field_placed k n v b S.digit = next
  field_placed k n v b S.other = refused_here p

  spaced_placed : (d : D.Date) (b : ℕ) (c : S.Dg) → Placed p (S.on_spaced q d b c)
  unfolding first_of
  spaced_placed d b S.digit = next
  spaced_placed d b S.other = tested_placed (ok_date d) (LocalDate d)

  as_number_placed : (k : Len) (z : Bool) (v b : ℕ) (c : S.Num) → Placed p (S.as_number p q k z v b c)
  as_number_placed k false v b c = int_placed false v b c
  as_number_placed d1 true v b c = nought_placed false c
  as_number_placed d2 true v b c = refused_here p
  as_number_placed d3 true v b c = refused_here p
  as_number_placed d4 true v b c = refused_here p

  digit_placed : (k : Len) (z : Bool) (v b : ℕ) → Placed p (S.on_digit p q k z v b)
  unfolding first_of
  digit_placed d1 z v b = next
  digit_placed d2 z v b = next
  digit_placed d3 z v b = next
  digit_placed d4 z v b = as_number_placed d4 z v b S.digit_n

  colon_placed : (k : Len) (z : Bool) (v b : ℕ) → Placed p (S.on_colon p q k z v b)
  unfolding first_of
  colon_placed d1 z v b = as_number_placed d1 z v b S.colon_n
  colon_placed d2 z v b = next
  colon_placed d3 z v b = as_number_placed d3 z v b S.colon_n
  colon_placed d4 z v b = as_number_placed d4 z v b S.colon_n

  minus_placed : (k : Len) (z : Bool) (v b : ℕ) → Placed p (S.on_minus p q k z v b)
  unfolding first_of
  minus_placed d1 z v b = as_number_placed d1 z v b S.minus_n
  minus_placed d2 z v b = as_number_placed d2 z v b S.minus_n
  minus_placed d3 z v b = as_number_placed d3 z v b S.minus_n
  minus_placed d4 z v b = next

  both_placed : (k : Len) (z : Bool) (v b : ℕ) (c : S.Num) → Placed p (S.on_both p q k z v b c)
  both_placed k z v b S.digit_n = digit_placed k z v b
  both_placed k z v b S.colon_n = colon_placed k z v b
  both_placed k z v b S.minus_n = minus_placed k z v b
  both_placed k z v b S.point_n = as_number_placed k z v b S.point_n
  both_placed k z v b S.e_n = as_number_placed k z v b S.e_n
  both_placed k z v b S.x_n = as_number_placed k z v b S.x_n
  both_placed k z v b S.other_n = as_number_placed k z v b S.other_n

begin_placed : (p b : ℕ) (c : S.Fst) → Placed p (S.on_begin p b c)
unfolding first_of
begin_placed p b S.nought_f = omega arith
begin_placed p b S.digit_f = omega arith
begin_placed p b S.point_f = omega arith
begin_placed p b S.n_f = omega arith
begin_placed p b S.i_f = omega arith
begin_placed p b S.plus_f = omega arith
begin_placed p b S.minus_f = omega arith
begin_placed p b S.other_f = refused_here p

scan_placed : (p : ℕ) (s : St) (b : ℕ) → first_of s ≤ p → Placed p (scan p s b)
unfolding first_of
scan_placed p begin b l = begin_placed p b (S.fst_of b)
scan_placed p (sign q g) b l = sign_placed p q l g b (S.fst_of b)
scan_placed p (word [] n) b l = tt
scan_placed p (word (c ∷ a) n) b l = only_placed p c (word a n) b (omega arith)
scan_placed p (nought q g) b l = nought_placed p q l g (S.num_of b)
scan_placed p (int q g m) b l = int_placed p q l g m b (S.num_of b)
scan_placed p (point q g) b l = point_placed p q l g b (S.dg_of b)
scan_placed p (frac q g m f) b l = frac_placed p q l g m f b (S.num_of b)
scan_placed p (exp q g m f) b l = exp_placed p q l g m f b (S.exp_of b)
scan_placed p (exp_sign q g m f s) b l = exp_sign_placed p q l g m f s b (S.dg_of b)
scan_placed p (exp_digits q g m f s e) b l = exp_digits_placed p q l g m f s e b (S.dg_of b)
scan_placed p (hex_mark q g) b l = hex_mark_placed p q l g (S.hex_of b)
scan_placed p (hex q g v) b l = hex_placed p q l g v (S.hex_of b)
scan_placed p (both q k z v) b l = both_placed p q l k z v b (S.num_of b)
scan_placed p (field q k zero v) b l = full_placed p q l k v b
scan_placed p (field q k (suc n) v) b l = field_placed p q l k n v b (S.dg_of b)
scan_placed p (spaced q d) b l = spaced_placed p q l d b (S.dg_of b)
scan_placed p (sec_point q w h m s) b l = sec_point_placed p q l w h m s b (S.dg_of b)
scan_placed p (nanos q w h m s k v) b l = nanos_placed p q l w h m s k v b (S.sec_of b)
scan_placed p (zulu q d h m s n) b l = tested_placed p q l (ok_date d && ok_clock h m s) (OffsetDateTime d (time_of_day h m s n) (pos 0))

-- a state reached at p began no later
pub numeric_first : (p : ℕ) (s : St) (b : ℕ) (s' : St) → first_of s ≤ p → scan p s b ≡ takes s' → first_of s' ≤ suc p
numeric_first p s b s' l e = subst (λ (o : Res). Placed p o) e (scan_placed p s b l)

pub numeric_place : (p : ℕ) (s : St) (b : ℕ) (r : Refusal) → first_of s ≤ p → scan p s b ≡ breaks r → Blame p r
numeric_place p s b r l e = subst (λ (o : Res). Placed p o) e (scan_placed p s b l)

pub first_begin : (p : ℕ) → first_of begin ≤ p
unfolding first_of
first_begin p = omega arith
