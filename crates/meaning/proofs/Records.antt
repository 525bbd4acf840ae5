-- The bytes of a record: sixteen of them, the same as its four numbers, and of no other record. Assumes nothing.
use mathlib.Core.Path.{◌≡◌, refl, sym, ap, ap₂, ◌∙◌, subst}
use mathlib.Core.Bool.{Bool, true, false, cond}
use mathlib.Core.List.{List, [], ◌∷◌, ◌++◌, append_assoc}
use Prim.Native.Nat.{ℕ, zero, suc, ◌+◌, ◌*◌, ◌/◌, ◌%◌, ◌^◌, ◌≤◌, ◌<◌}
use native.Mathlib.Omega.{arith}
use lib.Dec.{eqb}
use lib.IntN.{ℤ}
use lib.ListN.{length, get_or, take, drop, length-append, take-append-drop, drop_of_length-le}
use lib.Seq.{take_at, drop_at, drop-append-add, length-take-le}
use mir.Syntax.{w16, w32}
use mir.Val.{of_z, to_z}
use mir.ValLaws.{to_z-of_z, of_z_fits}
use Rattle.meaning.specs.declared.Number.TheVariants.{Finite, NotANumber, Infinite}
use Rattle.meaning.specs.declared.Date.{Date}
use Rattle.meaning.specs.declared.Time.TheVariants.{LocalDate, LocalTime, LocalDateTime, OffsetDateTime}
use Rattle.meaning.specs.declared.Record.{Record}
use Rattle.meaning.specs.Letters.{letters}
use Rattle.meaning.specs.Good.{Bytes}
use Rattle.meaning.specs.Bytes.{le, flag}
use Rattle.meaning.specs.Tape.{record_bytes, records_bytes}
use Rattle.meaning.specs.Between.Words.{get, mark, mark_of, low_of, month_day, mid_of, high_of, four_words, FitDate, Fit}
use Rattle.meaning.proofs.Bytes.{bytes_append, le_length, le_join, get_le, get_at, le_drop}

-- ---- sixteen bytes

pub record_length : (r : Record) → length (record_bytes r) ≡ 16
unfolding record_bytes le
record_length Record.Null = refl
record_length (Record.Bool b) = refl
record_length (Record.Number (Finite minus coefficient power)) = refl
record_length (Record.Number NotANumber) = refl
record_length (Record.Number (Infinite false)) = refl
record_length (Record.Number (Infinite true)) = refl
record_length (Record.Str size start) = refl
record_length (Record.Key size start) = refl
record_length (Record.Bin size start) = refl
record_length (Record.Time (LocalDate d)) = refl
record_length (Record.Time (LocalTime t)) = refl
record_length (Record.Time (LocalDateTime d t)) = refl
record_length (Record.Time (OffsetDateTime d t offset)) = refl
record_length (Record.Array count end) = refl
record_length (Record.Object count end) = refl

pub record_bytes_lem : (r : Record) → Bytes (record_bytes r)
unfolding record_bytes le
record_bytes_lem Record.Null = omega arith
record_bytes_lem (Record.Bool b) = omega arith
record_bytes_lem (Record.Number (Finite minus coefficient power)) = omega arith
record_bytes_lem (Record.Number NotANumber) = omega arith
record_bytes_lem (Record.Number (Infinite false)) = omega arith
record_bytes_lem (Record.Number (Infinite true)) = omega arith
record_bytes_lem (Record.Str size start) = omega arith
record_bytes_lem (Record.Key size start) = omega arith
record_bytes_lem (Record.Bin size start) = omega arith
record_bytes_lem (Record.Time (LocalDate d)) = omega arith
record_bytes_lem (Record.Time (LocalTime t)) = omega arith
record_bytes_lem (Record.Time (LocalDateTime d t)) = omega arith
record_bytes_lem (Record.Time (OffsetDateTime d t offset)) = omega arith
record_bytes_lem (Record.Array count end) = omega arith
record_bytes_lem (Record.Object count end) = omega arith

-- ---- four numbers

month_day_lem : (m d o : ℕ) → m < 2 ^ 8 → d < 2 ^ 8 → le 1 m ++ (le 1 d ++ le 2 o) ≡ le 4 (m + d * 256 + o * 65536)
month_day_lem m d o f g =
    let e : m + (d + o * 256) * 256 ≡ m + d * 256 + o * 65536 = omega arith in
    ap (λ (l : List ℕ). le 1 m ++ l) (le_join 1 2 d o g) ∙ le_join 1 3 m (d + o * 256) f ∙ ap (le 4) e

pub record_words : (r : Record) → Fit r → record_bytes r ≡ four_words (mark_of r) (low_of r) (mid_of r) (high_of r)
unfolding record_bytes four_words mark_of low_of mid_of high_of le
record_words Record.Null f = refl
record_words (Record.Bool true) f = refl
record_words (Record.Bool false) f = refl
record_words (Record.Number (Finite true coefficient power)) f = refl
record_words (Record.Number (Finite false coefficient power)) f = refl
record_words (Record.Number NotANumber) f = refl
record_words (Record.Number (Infinite false)) f = refl
record_words (Record.Number (Infinite true)) f = refl
record_words (Record.Str size start) f = refl
record_words (Record.Key size start) f = refl
record_words (Record.Bin size start) f = refl
record_words (Record.Time (LocalDate d)) f =
    ap (λ (l : List ℕ). letters "ld" ++ (le 2 d.year ++ (l ++ le 8 0))) (month_day_lem d.month d.day 0 f.1 f.2)
record_words (Record.Time (LocalTime t)) f = refl
record_words (Record.Time (LocalDateTime d t)) f =
    ap (λ (l : List ℕ). letters "dt" ++ (le 2 d.year ++ (l ++ le 8 t))) (month_day_lem d.month d.day 0 f.0.1 f.0.2)
record_words (Record.Time (OffsetDateTime d t offset)) f =
    ap (λ (l : List ℕ). letters "od" ++ (le 2 d.year ++ (l ++ le 8 t)))
    (month_day_lem d.month d.day (of_z w16 offset) f.0.1 f.0.2)
record_words (Record.Array count end) f = refl
record_words (Record.Object count end) f = refl

-- each of the four fits its place
pub record Small (a b c d : ℕ) : Type 0 where
  pub mark_fits : a < 256 ^ 2
  pub low_fits : b < 256 ^ 2
  pub mid_fits : c < 256 ^ 4
  pub high_fits : d < 256 ^ 8

pub flag_small : (b : Bool) → flag b < 2
flag_small true = omega arith
flag_small false = omega arith

pub record_small : (r : Record) → Fit r → Small (mark_of r) (low_of r) (mid_of r) (high_of r)
unfolding mark_of low_of mid_of high_of
record_small Record.Null f = omega arith
record_small (Record.Bool b) f = omega (arith, flag_small b)
record_small (Record.Number (Finite minus coefficient power)) f = omega (arith, flag_small minus, (of_z_fits w32 power f.1).fits)
record_small (Record.Number NotANumber) f = omega arith
record_small (Record.Number (Infinite false)) f = omega arith
record_small (Record.Number (Infinite true)) f = omega arith
record_small (Record.Str size start) f = omega arith
record_small (Record.Key size start) f = omega arith
record_small (Record.Bin size start) f = omega arith
record_small (Record.Time (LocalDate d)) f = omega arith
record_small (Record.Time (LocalTime t)) f = omega arith
record_small (Record.Time (LocalDateTime d t)) f = omega arith
record_small (Record.Time (OffsetDateTime d t offset)) f = omega (arith, (of_z_fits w16 offset f.2).fits)
record_small (Record.Array count end) f = omega arith
record_small (Record.Object count end) f = omega arith

-- ---- four numbers, wherever they stand

-- the four numbers at place p
pub record At (s : List ℕ) (p a b c d : ℕ) : Type 0 where
  pub mark_at : get 2 s p ≡ a
  pub low_at : get 2 s (p + 2) ≡ b
  pub mid_at : get 4 s (p + 4) ≡ c
  pub high_at : get 8 s (p + 8) ≡ d

pub four_at : (pre rest : List ℕ) (p a b c d : ℕ) → length pre ≡ p → Small a b c d → At (pre ++ (four_words a b c d ++ rest)) p a b c d
unfolding four_words
four_at pre rest p a b c d e f =
    let s8 = le 8 d ++ rest in
    let s4 = le 4 c ++ s8 in
    let s2 = le 2 b ++ s4 in
    let l2 = le_length 2 a in
    let l2' = le_length 2 b in
    let l4 = le_length 4 c in
    let q : pre ++ ((le 2 a ++ (le 2 b ++ (le 4 c ++ le 8 d))) ++ rest) ≡ pre ++ (le 2 a ++ s2) = simp append_assoc in
    rw q
    (record {
      mark_at = get_at 2 pre (le 2 a ++ s2) 0 p (omega arith) ∙ get_le 2 a s2 f.mark_fits;
      low_at = get_at 2 pre (le 2 a ++ s2) 2 (p + 2) (omega arith) ∙ get_at 2 (le 2 a) s2 0 2 (omega arith) ∙ get_le 2 b s4 f.low_fits;
      mid_at =
          get_at 4 pre (le 2 a ++ s2) 4 (p + 4) (omega arith) ∙ get_at 4 (le 2 a) s2 2 4 (omega arith) ∙ get_at 4 (le 2 b) s4 0 2 (omega arith)
          ∙ get_le 4 c s8 f.mid_fits;
      high_at =
          get_at 8 pre (le 2 a ++ s2) 8 (p + 8) (omega arith) ∙ get_at 8 (le 2 a) s2 6 8 (omega arith) ∙ get_at 8 (le 2 b) s4 4 6 (omega arith)
          ∙ get_at 8 (le 4 c) s8 0 4 (omega arith) ∙ get_le 8 d rest f.high_fits;
    })

-- and back: the bytes of the numbers that are got are the bytes that lie there
pub four_drop : (s : List ℕ) (p a b c d : ℕ) → ((j : ℕ) → get_or s j 0 < 256) → p + 16 ≤ length s → At s p a b c d
    → four_words a b c d ++ drop (p + 16) s ≡ drop p s
unfolding four_words
four_drop s p a b c d h l e =
    let n2 : p + 2 + 2 ≡ p + 4 = omega arith in
    let n4 : p + 4 + 4 ≡ p + 8 = omega arith in
    let n8 : p + 8 + 8 ≡ p + 16 = omega arith in
    let e2 : le 2 a ++ drop (p + 2) s ≡ drop p s = rw e.mark_at at (le_drop 2 s p h (omega arith)) in
    let e4 : le 2 b ++ drop (p + 4) s ≡ drop (p + 2) s = rw (e.low_at, n2) at (le_drop 2 s (p + 2) h (omega arith)) in
    let e8 : le 4 c ++ drop (p + 8) s ≡ drop (p + 4) s = rw (e.mid_at, n4) at (le_drop 4 s (p + 4) h (omega arith)) in
    let e16 : le 8 d ++ drop (p + 16) s ≡ drop (p + 8) s = rw (e.high_at, n8) at (le_drop 8 s (p + 8) h (omega arith)) in
    (simp append_assoc)
    ∙ ap (λ (l : List ℕ). le 2 a ++ (le 2 b ++ (le 4 c ++ l))) e16
    ∙ ap (λ (l : List ℕ). le 2 a ++ (le 2 b ++ l)) e8
    ∙ ap (λ (l : List ℕ). le 2 a ++ l) e4
    ∙ e2

-- ---- one record, one row of bytes

-- the record with these four numbers
decode : ℕ → ℕ → ℕ → ℕ → Record
decode a b c d =
    let date : Date = record { year = b; month = c % 256; day = c / 256 % 256 } in
    cond (eqb a (mark "b" "o")) (Record.Bool (eqb c 1))
    (cond (eqb a (mark "n" "b")) (Record.Number (Finite (eqb b 1) d (to_z w32 c)))
    (cond (eqb a (mark "n" "x")) (Record.Number (cond (eqb c 0) NotANumber (Infinite (eqb c 2))))
    (cond (eqb a (mark "s" "t")) (Record.Str c d)
    (cond (eqb a (mark "k" "y")) (Record.Key c d)
    (cond (eqb a (mark "b" "y")) (Record.Bin c d)
    (cond (eqb a (mark "l" "d")) (Record.Time (LocalDate date))
    (cond (eqb a (mark "l" "t")) (Record.Time (LocalTime d))
    (cond (eqb a (mark "d" "t")) (Record.Time (LocalDateTime date d))
    (cond (eqb a (mark "o" "d")) (Record.Time (OffsetDateTime date d (to_z w16 (c / 65536))))
    (cond (eqb a (mark "a" "r")) (Record.Array c d)
    (cond (eqb a (mark "o" "b")) (Record.Object c d)
    Record.Null)))))))))))

date_back : (d : Date) (o : ℕ) → FitDate d → record { year = d.year; month = month_day d o % 256; day = month_day d o / 256 % 256 } ≡ d
date_back d o f =
    let m : month_day d o % 256 ≡ d.month = omega arith in
    let q : month_day d o / 256 ≡ d.day + o * 256 = omega arith in
    let e : month_day d o / 256 % 256 ≡ d.day = ap (λ (x : ℕ). x % 256) q ∙ omega arith in
    λ i. record { year = d.year; month = m i; day = e i }

decode_words : (r : Record) → Fit r → decode (mark_of r) (low_of r) (mid_of r) (high_of r) ≡ r
unfolding decode mark_of low_of mid_of high_of
decode_words Record.Null f = refl
decode_words (Record.Bool true) f = refl
decode_words (Record.Bool false) f = refl
decode_words (Record.Number (Finite true coefficient power)) f = ap (λ (z : ℤ). Record.Number (Finite true coefficient z)) (to_z-of_z w32 power f.1)
decode_words (Record.Number (Finite false coefficient power)) f = ap (λ (z : ℤ). Record.Number (Finite false coefficient z)) (to_z-of_z w32 power f.1)
decode_words (Record.Number NotANumber) f = refl
decode_words (Record.Number (Infinite false)) f = refl
decode_words (Record.Number (Infinite true)) f = refl
decode_words (Record.Str size start) f = refl
decode_words (Record.Key size start) f = refl
decode_words (Record.Bin size start) f = refl
decode_words (Record.Time (LocalDate d)) f = ap (λ (x : Date). Record.Time (LocalDate x)) (date_back d 0 f)
decode_words (Record.Time (LocalTime t)) f = refl
decode_words (Record.Time (LocalDateTime d t)) f = ap (λ (x : Date). Record.Time (LocalDateTime x t)) (date_back d 0 f.0)
decode_words (Record.Time (OffsetDateTime d t offset)) f =
    let o = of_z w16 offset in
    let e : month_day d o / 65536 ≡ o = omega arith in
    ap₂ (λ (x : Date) (z : ℤ). Record.Time (OffsetDateTime x t z)) (date_back d o f.0) (ap (to_z w16) e ∙ to_z-of_z w16 offset f.2)
decode_words (Record.Array count end) f = refl
decode_words (Record.Object count end) f = refl

-- what stands at the start of these bytes, if it is a record's
start : (r : Record) (rest : List ℕ) → Fit r
    → At (record_bytes r ++ rest) 0 (mark_of r) (low_of r) (mid_of r) (high_of r)
start r rest f = rw (record_words r f) (four_at [] rest 0 (mark_of r) (low_of r) (mid_of r) (high_of r) refl (record_small r f))

pub record_injective : (r s : Record) → Fit r → Fit s → record_bytes r ≡ record_bytes s → r ≡ s
record_injective r s f g e =
    let a = start r [] f in
    let b : At (record_bytes r ++ []) 0 (mark_of s) (low_of s) (mid_of s) (high_of s) = rw e (start s [] g) in
    let p = decode_words r f in
    let q = decode_words s g in
    cc (a.mark_at, a.low_at, a.mid_at, a.high_at, b.mark_at, b.low_at, b.mid_at, b.high_at)

-- ---- records one after the other

abbrev pub Fits : List Record → Type 0
Fits [] = Unit {0}
Fits (r ∷ rs) = Fit r × Fits rs

pub fits_append : (a b : List Record) → Fits a → Fits b → Fits (a ++ b)
fits_append [] b f g = g
fits_append (r ∷ rs) b f g = (f.0, fits_append rs b f.1 g)

pub fit_at : (rs : List Record) (k : ℕ) → Fits rs → k < length rs → Fit (get_or rs k Record.Null)
fit_at [] k f h = absurd (omega arith)
fit_at (r ∷ rs) zero f h = f.0
fit_at (r ∷ rs) (suc k) f h = fit_at rs k f.1 (omega arith)

pub records_bytes_length : (rs : List Record) → length (records_bytes rs) ≡ length rs * 16
unfolding records_bytes
records_bytes_length [] = refl
records_bytes_length (r ∷ rs) = length-append (record_bytes r) (records_bytes rs) ∙ omega (arith, record_length r, records_bytes_length rs)

pub records_are_bytes : (rs : List Record) → Bytes (records_bytes rs)
unfolding records_bytes
records_are_bytes [] = tt
records_are_bytes (r ∷ rs) = bytes_append (record_bytes r) (records_bytes rs) (record_bytes_lem r) (records_are_bytes rs)

pub records_append : (a b : List Record) → records_bytes (a ++ b) ≡ records_bytes a ++ records_bytes b
unfolding records_bytes
records_append [] b = refl
records_append (r ∷ rs) b = ap (λ (l : List ℕ). record_bytes r ++ l) (records_append rs b)
    ∙ sym (append_assoc (record_bytes r) (records_bytes rs) (records_bytes b))

pub records_injective : (rs ss : List Record) → Fits rs → Fits ss → records_bytes rs ≡ records_bytes ss → rs ≡ ss
unfolding records_bytes
records_injective [] [] f g e = refl
records_injective [] (s ∷ ss) f g e =
    absurd (omega (arith, ap length e, length-append (record_bytes s) (records_bytes ss), record_length s))
records_injective (r ∷ rs) [] f g e =
    absurd (omega (arith, ap length e, length-append (record_bytes r) (records_bytes rs), record_length r))
records_injective (r ∷ rs) (s ∷ ss) f g e =
    let h = record_length r in
    let k = record_length s in
    let a : record_bytes r ≡ record_bytes s = sym (take_at (record_bytes r) (records_bytes rs) 16 h) ∙ ap (take 16) e
    ∙ take_at (record_bytes s) (records_bytes ss) 16 k in
    let b : records_bytes rs ≡ records_bytes ss = sym (drop_at (record_bytes r) (records_bytes rs) 16 h) ∙ ap (drop 16) e
    ∙ drop_at (record_bytes s) (records_bytes ss) 16 k in
    ap₂ (λ (x : Record) (y : List Record). x ∷ y) (record_injective r s f.0 g.0 a) (records_injective rs ss f.1 g.1 b)

past : (r : Record) (l : List ℕ) (n i : ℕ) → 16 + n ≡ i → drop i (record_bytes r ++ l) ≡ drop n l
past r l n i e =
    let h : length (record_bytes r) + n ≡ i = omega (arith, record_length r) in
    ap (λ (k : ℕ). drop k (record_bytes r ++ l)) (sym h) ∙ drop-append-add (record_bytes r) l n

-- the k-th record stands at place k * 16
pub record_at : (rs : List Record) (k : ℕ) → k < length rs
    → drop (k * 16) (records_bytes rs) ≡ record_bytes (get_or rs k Record.Null) ++ drop ((k + 1) * 16) (records_bytes rs)
unfolding records_bytes
record_at [] k h = absurd (omega arith)
record_at (r ∷ rs) zero h = ap (λ (l : List ℕ). record_bytes r ++ l) (sym (drop_at (record_bytes r) (records_bytes rs) 16 (record_length r)))
record_at (r ∷ rs) (suc k) h =
    let n = (k + 1) * 16 in
    past r (records_bytes rs) (k * 16) (suc k * 16) (omega arith)
    ∙ record_at rs k (omega arith)
    ∙ ap (λ (l : List ℕ). record_bytes (get_or rs k Record.Null) ++ l) (sym (past r (records_bytes rs) n ((suc k + 1) * 16) (omega arith)))

-- the four numbers of r stand at place p
abbrev pub Stands : List ℕ → ℕ → Record → Type 0
Stands s p r = At s p (mark_of r) (low_of r) (mid_of r) (high_of r)

pub stands : (s rest : List ℕ) (p : ℕ) (r : Record) → Fit r → p ≤ length s → drop p s ≡ record_bytes r ++ rest → Stands s p r
stands s rest p r f l e =
    subst (λ (x : List ℕ). Stands x p r)
    (ap (λ (x : List ℕ). take p s ++ x) (ap (λ (x : List ℕ). x ++ rest) (sym (record_words r f)) ∙ sym e) ∙ take-append-drop p s)
    (four_at (take p s) rest p (mark_of r) (low_of r) (mid_of r) (high_of r) (length-take-le p s l) (record_small r f))

pub stands_drop : (s : List ℕ) (p : ℕ) (r : Record) → Fit r → ((j : ℕ) → get_or s j 0 < 256) → p + 16 ≤ length s → Stands s p r
    → drop p s ≡ record_bytes r ++ drop (p + 16) s
stands_drop s p r f b l e =
    sym (four_drop s p (mark_of r) (low_of r) (mid_of r) (high_of r) b l e) ∙ ap (λ (x : List ℕ). x ++ drop (p + 16) s) (sym (record_words r f))

-- and back: where the numbers of all these records stand, their bytes do
pub all_stand : (rs : List Record) (s : List ℕ) (p : ℕ) → Fits rs → ((j : ℕ) → get_or s j 0 < 256) → p + length rs * 16 ≡ length s
    → ((k : ℕ) → k < length rs → Stands s (p + k * 16) (get_or rs k Record.Null)) → drop p s ≡ records_bytes rs
unfolding records_bytes
all_stand [] s p f b l h = drop_of_length-le s {i = p} (omega arith)
all_stand (r ∷ rs) s p f b l h =
    let z : p + 0 * 16 ≡ p = omega arith in
    let c : Stands s p r = rw z at (h 0 (omega arith)) in
    stands_drop s p r f.0 b (omega arith) c
    ∙ ap (λ (x : List ℕ). record_bytes r ++ x)
    (all_stand rs s (p + 16) f.1 b (omega arith)
    (λ k i. let e : p + suc k * 16 ≡ p + 16 + k * 16 = omega arith in rw e at (h (suc k) (omega arith))))
