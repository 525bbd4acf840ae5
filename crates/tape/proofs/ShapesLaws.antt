-- A record's four numbers: they make its bytes, and they are of no other record. Assumes nothing.
use mathlib.Core.Path.{◌≡◌, refl, sym, ap, ap₂, ◌∙◌, subst}
use mathlib.Core.Bool.{Bool, true, false, cond, ◌&&◌}
use Rattle.std.proofs.Common.{Some, None}
use Prim.Native.Nat.{ℕ, ◌+◌, ◌*◌, ◌/◌, ◌%◌, ◌^◌, ◌≤◌, ◌<◌}
use native.Mathlib.Decide.{dec_le}
use native.Mathlib.Omega.{arith}
use lib.Dec.{eqb, leb}
use lib.IntN.{ℤ}
use mir.Syntax.{w16, w32}
use mir.Val.{of_z, to_z, bool_byte}
use mir.ValLaws.{to_z-of_z, of_z-to_z, to_z-Fits}
use borrow.Author.Tests.{eq-eqb, ne_eqb, eqb-true, eqb-false, leb-true}
use Rattle.meaning.specs.declared.Number.{Number}
use Rattle.meaning.specs.declared.Number.TheVariants.{Finite, NotANumber, Infinite}
use Rattle.meaning.specs.declared.Date.{Date}
use Rattle.meaning.specs.declared.Time.TheVariants.{LocalDate, LocalTime, LocalDateTime, OffsetDateTime}
use Rattle.meaning.specs.declared.Record.{Record}
use Rattle.meaning.specs.Bytes.{le, flag}
use Rattle.meaning.specs.Tape.{record_bytes}
use Rattle.meaning.specs.Between.Words.{mark, mark_of, low_of, mid_of, high_of, month_day, four_words, FitDate, Fit}
use Rattle.meaning.proofs.Records.{record_words}
use Rattle.tape.specs.declared.Words.{Words}
use Rattle.tape.specs.Between.Shapes.{Worded, Holds, Loaded, Written, not_finite, date_of, record_of, only_record, Common, Shaped, shaped, junk}

pub flag_small : (b : Bool) → flag b ≤ 1
flag_small true = omega arith
flag_small false = omega arith

-- ---- from a record to its numbers

pub bool_flag : (b : Bool) (n : ℕ) → n ≡ bool_byte b → n ≡ flag b
bool_flag true n e = e
bool_flag false n e = e

-- what the types of the fields say of a date
abbrev pub DateFits : Record → Type 0
DateFits Record.Null = Unit {0}
DateFits (Record.Bool b) = Unit {0}
DateFits (Record.Number n) = Unit {0}
DateFits (Record.Str size start) = Unit {0}
DateFits (Record.Key size start) = Unit {0}
DateFits (Record.Bin size start) = Unit {0}
DateFits (Record.Time t) = Fit (Record.Time t)
DateFits (Record.Array count end) = Unit {0}
DateFits (Record.Object count end) = Unit {0}

words_bytes : (r : Record) → DateFits r → record_bytes r ≡ four_words (mark_of r) (low_of r) (mid_of r) (high_of r)
unfolding record_bytes four_words mark_of low_of mid_of high_of le
words_bytes Record.Null f = refl
words_bytes (Record.Bool true) f = refl
words_bytes (Record.Bool false) f = refl
words_bytes (Record.Number (Finite true coefficient power)) f = refl
words_bytes (Record.Number (Finite false coefficient power)) f = refl
words_bytes (Record.Number NotANumber) f = refl
words_bytes (Record.Number (Infinite false)) f = refl
words_bytes (Record.Number (Infinite true)) f = refl
words_bytes (Record.Str size start) f = refl
words_bytes (Record.Key size start) f = refl
words_bytes (Record.Bin size start) f = refl
words_bytes (Record.Time t) f = record_words (Record.Time t) f
words_bytes (Record.Array count end) f = refl
words_bytes (Record.Object count end) f = refl

pub written : (r : Record) (w : Words) → DateFits r → Worded r w → Written r w
written r w f e = record {
  worded = e;
  bytes_are = words_bytes r f ∙ sym (ap₂ (λ (a b : ℕ). four_words a b w.mid w.high) e.mark_is e.low_is
      ∙ ap₂ (four_words (mark_of r) (low_of r)) e.mid_is e.high_is);
}

pub written_as : (r : Record) (w : Words) → DateFits r → Holds w (mark_of r) (low_of r) (mid_of r) (high_of r) → Written r w
written_as r w f e = written r w f (record { mark_is = e.mark_held; low_is = e.low_held; mid_is = e.mid_held; high_is = e.high_held })

pub infinite_mid : (b : Bool) (f : ℕ) → f ≡ flag b → 1 + f ≡ mid_of (Record.Number (Infinite b))
unfolding mid_of
infinite_mid true f e = omega arith
infinite_mid false f e = omega arith

-- ---- from the numbers to the record

-- a mark that is not this one
pub past : (a k : ℕ) (x : Record) {y z : Record} → (a ≡ k → ⊥) → y ≡ z → y ≡ cond (eqb a k) x z
past a k x {z = z} n e = e ∙ sym (ap (λ (b : Bool). cond b x z) (ne_eqb a k n))

date_back : (d : Date) (o : ℕ) → FitDate d → date_of d.year (month_day d o) ≡ d
date_back d o f =
    let m : month_day d o % 256 ≡ d.month = omega arith in
    let q : month_day d o / 256 ≡ d.day + o * 256 = omega arith in
    let e : month_day d o / 256 % 256 ≡ d.day = ap (λ (x : ℕ). x % 256) q ∙ omega arith in
    λ i. record { year = d.year; month = m i; day = e i }

record_back : (r : Record) → Fit r → record_of (mark_of r) (low_of r) (mid_of r) (high_of r) ≡ r
unfolding record_of not_finite mark_of low_of mid_of high_of
record_back Record.Null f = refl
record_back (Record.Bool true) f = refl
record_back (Record.Bool false) f = refl
record_back (Record.Number (Finite true coefficient power)) f = ap (λ (z : ℤ). Record.Number (Finite true coefficient z)) (to_z-of_z w32 power f.1)
record_back (Record.Number (Finite false coefficient power)) f = ap (λ (z : ℤ). Record.Number (Finite false coefficient z)) (to_z-of_z w32 power f.1)
record_back (Record.Number NotANumber) f = refl
record_back (Record.Number (Infinite false)) f = refl
record_back (Record.Number (Infinite true)) f = refl
record_back (Record.Str size start) f = refl
record_back (Record.Key size start) f = refl
record_back (Record.Bin size start) f = refl
record_back (Record.Time (LocalDate d)) f = ap (λ (x : Date). Record.Time (LocalDate x)) (date_back d 0 f)
record_back (Record.Time (LocalTime t)) f = refl
record_back (Record.Time (LocalDateTime d t)) f = ap (λ (x : Date). Record.Time (LocalDateTime x t)) (date_back d 0 f.0)
record_back (Record.Time (OffsetDateTime d t offset)) f =
    let o = of_z w16 offset in
    let e : month_day d o / 65536 ≡ o = omega arith in
    ap₂ (λ (x : Date) (z : ℤ). Record.Time (OffsetDateTime x t z)) (date_back d o f.0) (ap (to_z w16) e ∙ to_z-of_z w16 offset f.2)
record_back (Record.Array count end) f = refl
record_back (Record.Object count end) f = refl

-- the record with these numbers, if there is one, is the one that `record_of` gives
pub only : (w : Words) (r : Record) → Fit r → Worded r w → record_of w.mark w.low w.mid w.high ≡ r
only w r f e =
    ap₂ (λ (a b : ℕ). record_of a b w.mid w.high) e.mark_is e.low_is
    ∙ ap₂ (record_of (mark_of r) (low_of r)) e.mid_is e.high_is
    ∙ record_back r f

-- which it is, by the mark
module _ (a low mid high : ℕ) where
  pub only_key : a ≡ mark "k" "y" → record_of a low mid high ≡ Record.Key mid high
  unfolding record_of
  only_key e = ap (λ (x : ℕ). record_of x low mid high) e

  pub only_text : a ≡ mark "s" "t" → record_of a low mid high ≡ Record.Str mid high
  unfolding record_of
  only_text e = ap (λ (x : ℕ). record_of x low mid high) e

  pub only_finite : a ≡ mark "n" "b" → record_of a low mid high ≡ Record.Number (Finite (eqb low 1) high (to_z w32 mid))
  unfolding record_of
  only_finite e = ap (λ (x : ℕ). record_of x low mid high) e

  pub only_array : a ≡ mark "a" "r" → record_of a low mid high ≡ Record.Array mid high
  unfolding record_of
  only_array e = ap (λ (x : ℕ). record_of x low mid high) e

  pub only_object : a ≡ mark "o" "b" → record_of a low mid high ≡ Record.Object mid high
  unfolding record_of
  only_object e = ap (λ (x : ℕ). record_of x low mid high) e

-- a number that is 0 or 1 is a sign's
flag_back : (n : ℕ) → n ≤ 1 → n ≡ flag (eqb n 1)
flag_back n h =
    elim (dec_le 1 n) [
      | yes g ↦ let e : n ≡ 1 = omega arith in e ∙ ap flag (sym (eq-eqb n 1 e))
      | no g ↦ let e : n ≡ 0 = omega arith in e ∙ ap flag (sym (ne_eqb n 1 (λ q. omega arith)))
    ]

-- and where its unnamed bytes are zero, it has these numbers
module _ (w : Words) where
  pub key_words : w.mark ≡ mark "k" "y" → w.low ≡ 0 → Worded (Record.Key w.mid w.high) w
  unfolding mark_of low_of mid_of high_of
  key_words m l = record { mark_is = m; low_is = l; mid_is = refl; high_is = refl }

  pub text_words : w.mark ≡ mark "s" "t" → w.low ≡ 0 → Worded (Record.Str w.mid w.high) w
  unfolding mark_of low_of mid_of high_of
  text_words m l = record { mark_is = m; low_is = l; mid_is = refl; high_is = refl }

  pub finite_words : w.mark ≡ mark "n" "b" → w.low ≤ 1 → w.mid < 2 ^ 32 → Worded (Record.Number (Finite (eqb w.low 1) w.high (to_z w32 w.mid))) w
  unfolding mark_of low_of mid_of high_of
  finite_words m l f = record {
    mark_is = m;
    low_is = flag_back w.low l;
    mid_is = sym (of_z-to_z w32 w.mid (record { fits = f }));
    high_is = refl;
  }

  pub array_words : w.mark ≡ mark "a" "r" → w.low ≡ 0 → Worded (Record.Array w.mid w.high) w
  unfolding mark_of low_of mid_of high_of
  array_words m l = record { mark_is = m; low_is = l; mid_is = refl; high_is = refl }

  pub object_words : w.mark ≡ mark "o" "b" → w.low ≡ 0 → Worded (Record.Object w.mid w.high) w
  unfolding mark_of low_of mid_of high_of
  object_words m l = record { mark_is = m; low_is = l; mid_is = refl; high_is = refl }

  pub common_finite : w.mark ≡ mark "n" "b" → w.mid < 2 ^ 32 → Common w (leb w.low 1)
  common_finite m f = record { worded = λ e. subst (λ (x : Record). Worded x w) (sym (only_finite _ _ _ _ m)) (finite_words m (leb-true _ _ e) f) }

  pub common_zero : {r : Record} → only_record w ≡ r → (w.low ≡ 0 → Worded r w) → Common w (eqb w.low 0)
  common_zero o g = record { worded = λ e. subst (λ (x : Record). Worded x w) (sym o) (g (eqb-true _ _ e)) }

-- two have the same numbers, by a test
abbrev pub alike : Words → Words → Bool
alike v w = eqb v.mark w.mark && (eqb v.low w.low && (eqb v.mid w.mid && eqb v.high w.high))

-- so where that one has other numbers, there is none
module _ (w v : Words) (r : Record) (is : r ≡ record_of w.mark w.low w.mid w.high) (g : Worded r v) where
  junk_by : ((s : Record) → Fit s → Worded s w → Worded s v → ⊥) → Shaped w None
  junk_by n = junk (λ s f e. let q : r ≡ s = is ∙ only w s f e in n s f e (rw q at g))

  pub other_mark : (v.mark ≡ w.mark → ⊥) → Shaped w None
  other_mark n = junk_by (λ s f e h. n (h.mark_is ∙ sym e.mark_is))

  pub other_low : (v.low ≡ w.low → ⊥) → Shaped w None
  other_low n = junk_by (λ s f e h. n (h.low_is ∙ sym e.low_is))

  pub other_mid : (v.mid ≡ w.mid → ⊥) → Shaped w None
  other_mid n = junk_by (λ s f e h. n (h.mid_is ∙ sym e.mid_is))

  pub other_high : (v.high ≡ w.high → ⊥) → Shaped w None
  other_high n = junk_by (λ s f e h. n (h.high_is ∙ sym e.high_is))

  pub other_words : false ≡ alike v w → Shaped w None
  other_words e = by (eqb v.mark w.mark) (eqb v.low w.low) (eqb v.mid w.mid) (eqb v.high w.high) refl refl refl refl (sym e)
    where
      by : (a b c d : Bool) → eqb v.mark w.mark ≡ a → eqb v.low w.low ≡ b → eqb v.mid w.mid ≡ c → eqb v.high w.high ≡ d
          → a && (b && (c && d)) ≡ false → Shaped w None
      by false b c d h i j k e = other_mark (eqb-false _ _ h)
      by true false c d h i j k e = other_low (eqb-false _ _ i)
      by true true false d h i j k e = other_mid (eqb-false _ _ j)
      by true true true false h i j k e = other_high (eqb-false _ _ k)
      by true true true true h i j k e = let z : ◌≡◌ {A = ℕ} 0 1 = cc in absurd (omega arith)

-- ---- the record that may have these numbers fits its places

by_cond : {A : Type 0} (P : A → Type 0) (b : Bool) (x y : A) → P x → P y → P (cond b x y)
by_cond P true x y p q = p
by_cond P false x y p q = q

date_fits : (low mid : ℕ) → low < 2 ^ 16 → FitDate (date_of low mid)
date_fits low mid h = omega arith

pub record_of_fits : (w : Words) → Loaded w → Fit (record_of w.mark w.low w.mid w.high)
unfolding record_of not_finite
record_of_fits w l =
    let high = l.high_small in
    let mid = l.mid_small in
    let date = date_fits w.low w.mid l.low_small in
    let offset : w.mid / 65536 < 2 ^ 16 = omega arith in
    by_cond Fit (eqb w.mark (mark "b" "o")) _ _ tt
    (by_cond Fit (eqb w.mark (mark "n" "b")) _ _ (high, to_z-Fits w32 w.mid (record { fits = mid }))
    (by_cond Fit (eqb w.mark (mark "n" "x")) _ _
    (by_cond (λ (n : Number). Fit (Record.Number n)) (eqb w.mid 0) _ _ tt (by_cond (λ (n : Number). Fit (Record.Number n)) (eqb w.mid 2) _ _ tt tt))
    (by_cond Fit (eqb w.mark (mark "s" "t")) _ _ (mid, high)
    (by_cond Fit (eqb w.mark (mark "k" "y")) _ _ (mid, high)
    (by_cond Fit (eqb w.mark (mark "b" "y")) _ _ (mid, high)
    (by_cond Fit (eqb w.mark (mark "l" "d")) _ _ date
    (by_cond Fit (eqb w.mark (mark "l" "t")) _ _ high
    (by_cond Fit (eqb w.mark (mark "d" "t")) _ _ (date, high)
    (by_cond Fit (eqb w.mark (mark "o" "d")) _ _ (date, high, to_z-Fits w16 (w.mid / 65536) (record { fits = offset }))
    (by_cond Fit (eqb w.mark (mark "a" "r")) _ _ (mid, high)
    (by_cond Fit (eqb w.mark (mark "o" "b")) _ _ (mid, high) tt)))))))))))

-- the numbers agree: there is a record
pub same_words : (w v : Words) (r : Record) → Loaded w → r ≡ record_of w.mark w.low w.mid w.high → Worded r v → true ≡ alike v w → Shaped w (Some r)
same_words w v r l is g e =
    let a = both_true _ _ (sym e) in
    let b = both_true _ _ a.1 in
    let c = both_true _ _ b.1 in
    shaped (subst Fit (sym is) (record_of_fits w l)) (record {
      mark_is = sym (eqb-true _ _ a.0) ∙ g.mark_is;
      low_is = sym (eqb-true _ _ b.0) ∙ g.low_is;
      mid_is = sym (eqb-true _ _ c.0) ∙ g.mid_is;
      high_is = sym (eqb-true _ _ c.1) ∙ g.high_is;
    })
  where
    both_true : (p q : Bool) → p && q ≡ true → (p ≡ true) × (q ≡ true)
    both_true true q e = (refl, e)
    both_true false q e = let z : ◌≡◌ {A = ℕ} 0 1 = cc in absurd (omega arith)

pub common_shape : (w : Words) (r : Record) {b : Bool} → Loaded w → Common w b → b ≡ true → r ≡ only_record w → Shaped w (Some r)
common_shape w r l c t e = shaped (subst Fit (sym e) (record_of_fits w l)) (subst (λ (x : Record). Worded x w) (sym e) (c.worded t))
