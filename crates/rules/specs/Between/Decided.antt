-- The first fault of any bytes, and whether three numbers are a date (docs/FORMAT.md, 1.1 and 6), as functions that
-- compute. That they answer what Rfc3629 and Rfc3339 allow is proved (`judged_is` of proofs/Decided.antt; `date_is`,
-- `is_date_lem` of proofs/Months.antt). Assumes nothing.
use Rattle.std.specs.Prelude.{Bool, true, false, cond, List, [], ◌∷◌, ℕ, zero, suc, ◌+◌, ◌-◌, ◌/◌, ◌%◌, eqb, leb, ltb}
use Rattle.std.specs.Prelude.{length, get_or, Option, Some, None, Result, Ok, Err}
use Rattle.std.specs.Int.Count.{count_leading_zeros}
use Rattle.rules.specs.Between.Posts.{low_of, high_of}
use Rattle.rules.specs.declared.IllFormed.{IllFormed}

-- the count of leading ones of a byte
abbrev pub ones : ℕ → ℕ
ones a = count_leading_zeros 8 (255 - a)

-- all of them
abbrev pub conj : List Bool → Bool
conj [] = true
conj (b ∷ bs) = cond b (conj bs) false

-- what holds of a character of n bytes at the place i, as a list of tests
abbrev pub bounds : List ℕ → ℕ → ℕ → List Bool
bounds s i n =
    leb 2 n ∷ leb n 4 ∷ leb (i + n) (length s) ∷ leb 0xC2 (get_or s i 0) ∷ leb (get_or s i 0) 0xF4
    ∷ leb (low_of (get_or s i 0)) (get_or s (i + 1) 0) ∷ leb (get_or s (i + 1) 0) (high_of (get_or s i 0))
    ∷ cond (ltb n 3) true (leb 0x80 (get_or s (i + 2) 0)) ∷ cond (ltb n 3) true (leb (get_or s (i + 2) 0) 0xBF)
    ∷ cond (ltb n 4) true (leb 0x80 (get_or s (i + 3) 0)) ∷ cond (ltb n 4) true (leb (get_or s (i + 3) 0) 0xBF) ∷ []

unfoldable pub is_wide : List ℕ → ℕ → ℕ → Bool
is_wide s i n = conj (bounds s i n)

-- the length of the character at the place i, or none
unfoldable pub length_at : List ℕ → ℕ → Option ℕ
length_at s i = let n = ones (get_or s i 0) in cond (eqb n 0) (Some 1) (cond (is_wide s i n) (Some n) None)

-- from the place i on, in at most so many characters
unfoldable pub fault_from : ℕ → List ℕ → ℕ → Result (Unit {0}) IllFormed
fault_from zero s i = Ok tt
fault_from (suc f) s i =
    cond (leb (length s) i) (Ok tt)
    (elim (length_at s i) [ None ↦ Err (record { place = i }) | Some n ↦ fault_from f s (i + n) ])

-- what `utf8` answers
unfoldable pub judged : List ℕ → Result (Unit {0}) IllFormed
judged s = fault_from (length s) s 0

-- ---- a date

unfoldable pub is_leap : ℕ → Bool
is_leap y = cond (eqb (y % 4) 0) (cond (eqb (y % 100) 0) (eqb (y % 400) 0) true) false

-- the days of a month other than February: up to July the odd months have 31, from August on the even ones
abbrev pub long_or_short : ℕ → ℕ
long_or_short m = 30 + (m + m / 8) % 2

-- the days of a month, in a leap year or not; none where the number is no month
abbrev pub days_of : Bool → ℕ → Option ℕ
days_of leap m =
    cond (eqb m 2) (Some (cond leap 29 28)) (cond (leb 1 m) (cond (leb m 12) (Some (long_or_short m)) None) None)

-- a day is one of so many
abbrev pub day_of : ℕ → Option ℕ → Bool
day_of d None = false
day_of d (Some n) = leb d n

unfoldable pub is_date : ℕ → ℕ → ℕ → Bool
is_date y m d = cond (leb y 9999) (cond (leb 1 d) (day_of d (days_of (is_leap y) m)) false) false
