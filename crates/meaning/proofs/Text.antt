-- The canonical text: it is UTF-8, and how long it can be. Assumes nothing.
use mathlib.Core.Path.{◌≡◌, refl, ap}
use mathlib.Core.Bool.{Bool, true, false, cond}
use mathlib.Core.List.{List, [], ◌∷◌, ◌++◌}
use Prim.Native.Nat.{ℕ, zero, suc, ◌+◌, ◌*◌, ◌/◌, ◌%◌, ◌^◌, ◌≤◌, ◌<◌}
use native.Mathlib.Decide.{dec_le}
use native.Mathlib.Nat.{lt_of_not-le}
use native.Mathlib.Omega.{arith}
use lib.Dec.{eqb, leb}
use lib.IntN.{ℤ, pos, negsuc, nat_abs}
use lib.ListN.{length, length-append}
use borrow.Author.Tests.{leb-true}
use Rattle.rules.specs.Rfc3629.{Octets}
use Rattle.meaning.specs.declared.Number.{Number}
use Rattle.meaning.specs.declared.Number.TheVariants.{Finite, NotANumber, Infinite}
use Rattle.meaning.specs.declared.Date.{Date}
use Rattle.meaning.specs.declared.Time.{Time}
use Rattle.meaning.specs.declared.Time.TheVariants.{LocalDate, LocalTime, LocalDateTime, OffsetDateTime}
use Rattle.meaning.specs.Letters.{letters, ch}
use Rattle.meaning.specs.Limits.{power_limit, plain_digits, second, fraction_digits, record_limit, store_limit}
use Rattle.meaning.specs.Meaning.{Meaning, Meanings, Members, null, bool, number, string, binary, time, array, object, none, more, bare, member}
use Rattle.meaning.specs.Good.{GoodNumber, GoodParts, GoodElements, GoodMembers}
use Rattle.meaning.specs.Tape.{records, elements_records, members_records, store_of, elements_store, members_store, bytes}
use Rattle.meaning.specs.Canonical.{decimal, fixed, trimmed, quoted, binary_text, minus_text, power_text, zeros, pointed, finite_text, number_text}
use Rattle.meaning.specs.Canonical.{date_text, fraction_text, clock_text, minutes_text, offset_text, time_text, elements_comma, members_comma}
use Rattle.meaning.specs.Canonical.{text_with, canonical, elements_text, members_text}
use Rattle.meaning.proofs.Digits.{Ascii, ascii_append, decimal_ascii, count_small, cut_count, cut_none, decimal_length, fixed_ascii, fixed_length}
use Rattle.meaning.proofs.Digits.{trimmed_ascii, trimmed_length}
use Rattle.meaning.proofs.Fitting.{finite_below, finite_power}
use Rattle.meaning.proofs.Quotes.{octets_append, ascii_octets, quoted_octets, quoted_length, escapes_length, pairs_length, binary_ascii}

-- two texts with one character between
between : (a b : List ℕ) (c : ℕ) → Ascii a → c < 128 → Ascii b → Ascii (a ++ (c ∷ []) ++ b)
between a b c f h g = ascii_append (a ++ (c ∷ [])) b (ascii_append a (c ∷ []) f (h, tt)) g

between_length : (a b : List ℕ) (c : ℕ) → length (a ++ (c ∷ []) ++ b) ≡ length a + 1 + length b
between_length a b c = simp length-append

-- ---- numbers

pub minus_ascii : (b : Bool) → Ascii (minus_text b)
minus_ascii true = omega arith
minus_ascii false = tt

minus_length : (b : Bool) → length (minus_text b) ≤ 1
minus_length true = omega arith
minus_length false = omega arith

pub power_ascii : (p : ℤ) → Ascii (power_text p)
unfolding power_text
power_ascii (pos zero) = tt
power_ascii (pos (suc n)) = ascii_append (letters "e") (decimal (suc n)) (omega arith) (decimal_ascii (suc n))
power_ascii (negsuc n) = ascii_append (letters "e-") (decimal (suc n)) (omega arith) (decimal_ascii (suc n))

pub power_length : (p : ℤ) → nat_abs p ≤ power_limit → length (power_text p) ≤ 6
unfolding power_text
power_length (pos zero) h = omega arith
power_length (pos (suc n)) h = omega (arith, decimal_length 3 (suc n) (omega arith))
power_length (negsuc n) h = omega (arith, decimal_length 3 (suc n) (omega arith))

zeros_ascii : (n : ℕ) → Ascii (zeros n)
unfolding zeros
zeros_ascii zero = tt
zeros_ascii (suc n) = (omega arith, zeros_ascii n)

pub zeros_length : (n : ℕ) → length (zeros n) ≡ n
unfolding zeros
zeros_length zero = refl
zeros_length (suc n) = omega (arith, zeros_length n)

pointed_ascii : (n c : ℕ) → Ascii (pointed n c)
unfolding pointed
pointed_ascii n c = between (decimal (c / 10 ^ n)) (fixed n c) (ch ".") (decimal_ascii (c / 10 ^ n)) (omega arith) (fixed_ascii n c)

pointed_length : (n c : ℕ) → length (pointed n c) ≡ length (decimal (c / 10 ^ n)) + 1 + n
unfolding pointed
pointed_length n c = omega (arith, between_length (decimal (c / 10 ^ n)) (fixed n c) (ch "."), fixed_length n c)

-- with no digit in front but 0, and with some
pub pointed_few : (n c : ℕ) → length (decimal c) ≤ n → length (pointed n c) ≡ n + 2
pointed_few n c h =
    let z = ap (λ (m : ℕ). length (decimal m)) (cut_none n c h) in
    omega (arith, pointed_length n c, z, count_small 0 (omega arith))

pub pointed_more : (n c : ℕ) → n < length (decimal c) → length (pointed n c) ≡ length (decimal c) + 1
pointed_more n c h = omega (arith, pointed_length n c, cut_count n c h)

pointed_short : (n c : ℕ) → length (decimal c) ≤ 20 → n ≤ 20 → length (pointed n c) ≤ 22
pointed_short n c h l =
    elim (dec_le (length (decimal c)) n) [
      | yes g ↦ omega (arith, pointed_few n c g)
      | no g ↦ omega (arith, pointed_more n c (lt_of_not-le g))
    ]

finite_ascii : (c : ℕ) (p : ℤ) → Ascii (finite_text c p)
unfolding finite_text
finite_ascii c (pos p) = ascii_append (decimal c) _ (decimal_ascii c) (go (leb (length (decimal c) + p) plain_digits))
  where
    go : (b : Bool) → Ascii (cond b (zeros p) (power_text (pos p)))
    go true = zeros_ascii p
    go false = power_ascii (pos p)
finite_ascii c (negsuc n) = go (leb (suc n) plain_digits)
  where
    go : (b : Bool) → Ascii (cond b (pointed (suc n) c) (decimal c ++ power_text (negsuc n)))
    go true = pointed_ascii (suc n) c
    go false = ascii_append (decimal c) (power_text (negsuc n)) (decimal_ascii c) (power_ascii (negsuc n))

finite_length : (c : ℕ) (p : ℤ) → c < 10 ^ 20 → nat_abs p ≤ power_limit → length (finite_text c p) ≤ 26
unfolding finite_text
finite_length c (pos p) h k = go (leb (length (decimal c) + p) plain_digits) refl
  where
    go : (b : Bool) → leb (length (decimal c) + p) plain_digits ≡ b → length (decimal c ++ cond b (zeros p) (power_text (pos p))) ≤ 26
    go true e = omega (arith, leb-true (length (decimal c) + p) plain_digits e, length-append (decimal c) (zeros p), zeros_length p)
    go false e = omega (arith, length-append (decimal c) (power_text (pos p)), decimal_length 19 c h, power_length (pos p) k)
finite_length c (negsuc n) h k = go (leb (suc n) plain_digits) refl
  where
    go : (b : Bool) → leb (suc n) plain_digits ≡ b → length (cond b (pointed (suc n) c) (decimal c ++ power_text (negsuc n))) ≤ 26
    go true e = omega (arith, leb-true (suc n) plain_digits e, pointed_short (suc n) c (decimal_length 19 c h) (leb-true (suc n) plain_digits e))
    go false e = omega (arith, length-append (decimal c) (power_text (negsuc n)), decimal_length 19 c h, power_length (negsuc n) k)

pub number_ascii : (n : Number) → Ascii (number_text n)
unfolding number_text
number_ascii (Finite minus c p) = ascii_append (minus_text minus) (finite_text c p) (minus_ascii minus) (finite_ascii c p)
number_ascii NotANumber = omega arith
number_ascii (Infinite minus) = ascii_append (minus_text minus) (letters "Infinity") (minus_ascii minus) (omega arith)

pub number_length : (n : Number) → GoodNumber n → length (number_text n) ≤ 27
unfolding number_text
number_length (Finite minus c p) g =
    omega (
      arith,
      length-append (minus_text minus) (finite_text c p),
      minus_length minus,
      finite_length c p (omega (arith, finite_below g)) (finite_power g),
    )
number_length NotANumber g = omega arith
number_length (Infinite minus) g = omega (arith, length-append (minus_text minus) (letters "Infinity"), minus_length minus)

-- ---- times

pub date_ascii : (d : Date) → Ascii (date_text d)
unfolding date_text
date_ascii d =
    between (fixed 4 d.year ++ letters "-" ++ fixed 2 d.month) (fixed 2 d.day) (ch "-")
    (between (fixed 4 d.year) (fixed 2 d.month) (ch "-") (fixed_ascii 4 d.year) (omega arith) (fixed_ascii 2 d.month)) (omega arith)
    (fixed_ascii 2 d.day)

pub date_length : (d : Date) → length (date_text d) ≡ 10
unfolding date_text
date_length d = simp (length-append, fixed_length)

pub fraction_ascii : (n : ℕ) → Ascii (fraction_text n)
unfolding fraction_text
fraction_ascii n = go (eqb n 0)
  where
    go : (t : Bool) → Ascii (cond t [] (letters "." ++ trimmed fraction_digits n))
    go true = tt
    go false = (omega arith, trimmed_ascii fraction_digits n)

pub fraction_length : (n : ℕ) → length (fraction_text n) ≤ 10
unfolding fraction_text
fraction_length n = go (eqb n 0)
  where
    go : (t : Bool) → length (cond t [] (letters "." ++ trimmed fraction_digits n)) ≤ 10
    go true = omega arith
    go false = omega (arith, trimmed_length 9 n)

pub clock_ascii : (t : ℕ) → Ascii (clock_text t)
unfolding clock_text
clock_ascii t =
    let h = fixed 2 (t / (60 * 60 * second)) in
    let m = fixed 2 (t / (60 * second) % 60) in
    let s = fixed 2 (t / second % 60) in
    ascii_append (h ++ letters ":" ++ m ++ letters ":" ++ s) (fraction_text (t % second))
    (between (h ++ letters ":" ++ m) s (ch ":")
    (between h m (ch ":") (fixed_ascii 2 (t / (60 * 60 * second))) (omega arith) (fixed_ascii 2 (t / (60 * second) % 60))) (omega arith)
    (fixed_ascii 2 (t / second % 60)))
    (fraction_ascii (t % second))

pub clock_length : (t : ℕ) → length (clock_text t) ≡ 8 + length (fraction_text (t % second))
unfolding clock_text
clock_length t = simp (length-append, fixed_length)

minutes_ascii : (n : ℕ) → Ascii (minutes_text n)
minutes_ascii n = between (fixed 2 (n / 60)) (fixed 2 (n % 60)) (ch ":") (fixed_ascii 2 (n / 60)) (omega arith) (fixed_ascii 2 (n % 60))

minutes_length : (n : ℕ) → length (minutes_text n) ≡ 5
minutes_length n = simp (length-append, fixed_length)

pub offset_ascii : (z : ℤ) → Ascii (offset_text z)
unfolding offset_text
offset_ascii (pos zero) = omega arith
offset_ascii (pos (suc n)) = (omega arith, minutes_ascii (suc n))
offset_ascii (negsuc n) = (omega arith, minutes_ascii (suc n))

pub offset_length : (z : ℤ) → length (offset_text z) ≤ 6
unfolding offset_text
offset_length (pos zero) = omega arith
offset_length (pos (suc n)) = omega (arith, minutes_length (suc n))
offset_length (negsuc n) = omega (arith, minutes_length (suc n))

pub time_ascii : (t : Time) → Ascii (time_text t)
unfolding time_text
time_ascii (LocalDate d) = date_ascii d
time_ascii (LocalTime t) = clock_ascii t
time_ascii (LocalDateTime d t) = between (date_text d) (clock_text t) (ch "T") (date_ascii d) (omega arith) (clock_ascii t)
time_ascii (OffsetDateTime d t o) =
    ascii_append (date_text d ++ letters "T" ++ clock_text t) (offset_text o) (between (date_text d) (clock_text t) (ch "T") (date_ascii d) (omega arith)
    (clock_ascii t))
    (offset_ascii o)

pub time_length : (t : Time) → length (time_text t) ≤ 35
unfolding time_text
time_length (LocalDate d) = omega (arith, date_length d)
time_length (LocalTime t) = omega (arith, clock_length t, fraction_length (t % second))
time_length (LocalDateTime d t) =
    omega (arith, between_length (date_text d) (clock_text t) (ch "T"), date_length d, clock_length t, fraction_length (t % second))
time_length (OffsetDateTime d t o) =
    omega (
      arith,
      length-append (date_text d ++ letters "T" ++ clock_text t) (offset_text o),
      between_length (date_text d) (clock_text t) (ch "T"),
      date_length d,
      clock_length t,
      fraction_length (t % second),
      offset_length o,
    )

-- ---- the whole text is UTF-8

plain : (s : List ℕ) → Ascii s → Octets s
plain s h = ascii_octets s h

elements_comma_lem : (ms : Meanings) → Ascii (elements_comma ms)
elements_comma_lem none = tt
elements_comma_lem (more ms m) = omega arith

members_comma_lem : (ms : Members) → Ascii (members_comma ms)
members_comma_lem bare = tt
members_comma_lem (member ms k m) = omega arith

mutual
  unfolding text_with

  pub canonical_octets : (m : Meaning) → GoodParts m → Octets (canonical m)
  canonical_octets null p = plain (letters "null") (omega arith)
  canonical_octets (bool true) p = plain (letters "true") (omega arith)
  canonical_octets (bool false) p = plain (letters "false") (omega arith)
  canonical_octets (number n) p = plain (number_text n) (number_ascii n)
  canonical_octets (string s) p = quoted_octets p
  canonical_octets (binary s) p = plain (binary_text s) (binary_ascii s p)
  canonical_octets (time t) p = plain (time_text t) (time_ascii t)
  canonical_octets (array ms) p =
      octets_append (letters "]") (octets_append (elements_text ms) (plain (letters "[") (omega arith)) (elements_octets ms p))
      (plain (letters "]") (omega arith))
  canonical_octets (object ms) p =
      octets_append (letters "}") (octets_append (members_text ms) (plain (letters "{") (omega arith)) (members_octets ms p))
      (plain (letters "}") (omega arith))

  pub elements_octets : (ms : Meanings) → GoodElements ms → Octets (elements_text ms)
  elements_octets none p = plain [] tt
  elements_octets (more ms m) p =
      octets_append (canonical m) (octets_append (elements_comma ms) (elements_octets ms p.0) (plain (elements_comma ms) (elements_comma_lem ms)))
      (canonical_octets m p.1)

  pub members_octets : (ms : Members) → GoodMembers ms → Octets (members_text ms)
  members_octets bare p = plain [] tt
  members_octets (member ms k m) p =
      octets_append (canonical m)
      (octets_append (letters ":")
      (octets_append (quoted k) (octets_append (members_comma ms) (members_octets ms p.0) (plain (members_comma ms) (members_comma_lem ms)))
      (quoted_octets p.1))
      (plain (letters ":") (omega arith)))
      (canonical_octets m p.2)

-- ---- how long it can be: at most 40 for a record and 6 for a store byte, a comma included

elements_comma_length : (ms : Meanings) → length (elements_comma ms) ≤ 1
elements_comma_length none = omega arith
elements_comma_length (more ms m) = omega arith

members_comma_length : (ms : Members) → length (members_comma ms) ≤ 1
members_comma_length bare = omega arith
members_comma_length (member ms k m) = omega arith

mutual
  unfolding text_with records store_of binary_text

  pub canonical_short : (m : Meaning) → GoodParts m → length (canonical m) + 1 ≤ 40 * records m + 6 * length (store_of m)
  canonical_short null p = omega arith
  canonical_short (bool true) p = omega arith
  canonical_short (bool false) p = omega arith
  canonical_short (number n) p = omega (arith, number_length n p)
  canonical_short (string s) p = omega (arith, quoted_length s, escapes_length s)
  canonical_short (binary s) p = omega (arith, pairs_length s)
  canonical_short (time t) p = omega (arith, time_length t)
  canonical_short (array ms) p =
      let h = elements_short ms p in
      simp length-append (omega arith)
  canonical_short (object ms) p =
      let h = members_short ms p in
      simp length-append (omega arith)

  elements_short : (ms : Meanings) → GoodElements ms → length (elements_text ms) ≤ 40 * elements_records ms + 6 * length (elements_store ms)
  elements_short none p = omega arith
  elements_short (more ms m) p =
      let h = elements_short ms p.0 in
      let k = canonical_short m p.1 in
      let c = elements_comma_length ms in
      simp length-append (omega arith)

  members_short : (ms : Members) → GoodMembers ms → length (members_text ms) ≤ 40 * members_records ms + 6 * length (members_store ms)
  members_short bare p = omega arith
  members_short (member ms s m) p =
      let h = members_short ms p.0 in
      let k = canonical_short m p.2 in
      let c = members_comma_length ms in
      let q = quoted_length s in
      let e = escapes_length s in
      simp length-append (omega arith)

-- no sum of lengths can overflow
pub canonical_below : (m : Meaning) → GoodParts m → records m ≤ record_limit → bytes m ≤ store_limit → length (canonical m) < 2 ^ 30
canonical_below m p h k = omega (arith, canonical_short m p)
