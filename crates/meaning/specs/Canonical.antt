-- The canonical text of a meaning (docs/FORMAT.md, 12). Assumes nothing.
use Rattle.std.specs.Prelude.{Bool, true, false, cond, List, [], ◌∷◌, ◌++◌, ℕ, zero, suc, ◌+◌, ◌-◌, ◌*◌, ◌/◌, ◌%◌, ◌^◌}
use Rattle.std.specs.Prelude.{eqb, ltb, leb, ℤ, pos, negsuc, length}
use Rattle.meaning.specs.declared.Number.{Number}
use Rattle.meaning.specs.declared.Number.TheVariants.{Finite, NotANumber, Infinite}
use Rattle.meaning.specs.declared.Date.{Date}
use Rattle.meaning.specs.declared.Time.{Time}
use Rattle.meaning.specs.declared.Time.TheVariants.{LocalDate, LocalTime, LocalDateTime, OffsetDateTime}
use Rattle.meaning.specs.Letters.{letters, ch}
use Rattle.meaning.specs.Limits.{plain_digits, fraction_digits, second}
use Rattle.meaning.specs.Meaning.{Meaning, Meanings, Members, null, bool, number, string, binary, time, array}
use Rattle.meaning.specs.Meaning.{object, none, more, bare, member}

-- ---- digits

abbrev pub digit : ℕ → ℕ
digit d = ch "0" + d

-- the decimal digits of n, at most `count` + 1 of them
unfoldable pub decimal_in : ℕ → ℕ → List ℕ
decimal_in zero n = digit n ∷ []
decimal_in (suc count) n =
    let longer = decimal_in count (n / 10) ++ (digit (n % 10) ∷ []) in
    cond (ltb n 10) (digit n ∷ []) longer

-- the decimal digits of n, with no zero in front
unfoldable pub decimal : ℕ → List ℕ
decimal n = decimal_in n n

-- the last w decimal digits of n, with the zeros in front
unfoldable pub fixed : ℕ → ℕ → List ℕ
fixed zero n = []
fixed (suc w) n = fixed w (n / 10) ++ (digit (n % 10) ∷ [])

-- the last w decimal digits of n, without closing zeros
unfoldable pub trimmed : ℕ → ℕ → List ℕ
trimmed zero n = []
trimmed (suc w) n = cond (eqb (n % 10) 0) (trimmed w (n / 10)) (fixed (suc w) n)

-- a lower-case hex digit
abbrev pub hex_digit : ℕ → ℕ
hex_digit d = cond (ltb d 10) (ch "0" + d) (ch "a" + (d - 10))

-- a byte in two of them
abbrev pub hex_pair : ℕ → List ℕ
hex_pair b = hex_digit (b / 16) ∷ hex_digit (b % 16) ∷ []

-- ---- strings, keys and binary

-- `\"`, `\\`, `\b`, `\f`, `\n`, `\r`, `\t`; other characters below U+0020 as `\u00` and two lower-case hex digits; all
-- else plain
unfoldable pub escaped : ℕ → List ℕ
escaped b =
    cond (eqb b (ch "\"")) (letters "\\\"")
    (cond (eqb b (ch "\\")) (letters "\\\\")
    (cond (eqb b (ch "\u{8}")) (letters "\\b")
    (cond (eqb b (ch "\u{c}")) (letters "\\f")
    (cond (eqb b (ch "\n")) (letters "\\n")
    (cond (eqb b (ch "\r")) (letters "\\r")
    (cond (eqb b (ch "\t")) (letters "\\t")
    (cond (ltb b (ch " ")) (letters "\\u00" ++ hex_pair b)
    (b ∷ []))))))))

unfoldable pub escapes : List ℕ → List ℕ
escapes [] = []
escapes (b ∷ s) = escaped b ++ escapes s

-- strings and keys in double quotes
unfoldable pub quoted : List ℕ → List ℕ
quoted s = letters "\"" ++ escapes s ++ letters "\""

unfoldable pub hex_pairs : List ℕ → List ℕ
hex_pairs [] = []
hex_pairs (b ∷ s) = hex_pair b ++ hex_pairs s

-- binary: `$` and lower-case hex
unfoldable pub binary_text : List ℕ → List ℕ
binary_text s = letters "$" ++ hex_pairs s

-- ---- numbers

-- minus if set
abbrev pub minus_text : Bool → List ℕ
minus_text true = letters "-"
minus_text false = []

-- `e` and the power where it isn't 0
unfoldable pub power_text : ℤ → List ℕ
power_text (pos zero) = []
power_text (pos (suc n)) = letters "e" ++ decimal (suc n)
power_text (negsuc n) = letters "e-" ++ decimal (suc n)

-- so many zeros
unfoldable pub zeros : ℕ → List ℕ
zeros zero = []
zeros (suc n) = digit 0 ∷ zeros n

-- the digits of c with the last n of them after a decimal point, with `0.` and zeros in front where needed
unfoldable pub pointed : ℕ → ℕ → List ℕ
pointed n c = decimal (c / 10 ^ n) ++ letters "." ++ fixed n c

-- Of a coefficient of d digits and the power p: where p is 0 or more and d + p is at most 20, the digits and p zeros;
-- where p is from -20 to -1, the digits with the last -p of them after a decimal point; otherwise the `e` form.
unfoldable pub finite_text : ℕ → ℤ → List ℕ
finite_text c (pos p) = decimal c ++ cond (leb (length (decimal c) + p) plain_digits) (zeros p) (power_text (pos p))
finite_text c (negsuc n) = cond (leb (suc n) plain_digits) (pointed (suc n) c) (decimal c ++ power_text (negsuc n))

-- minus if set, then the coefficient and the power; words `NaN`, `Infinity`, `-Infinity`
unfoldable pub number_text : Number → List ℕ
number_text (Finite minus coefficient power) = minus_text minus ++ finite_text coefficient power
number_text NotANumber = letters "NaN"
number_text (Infinite minus) = minus_text minus ++ letters "Infinity"

-- ---- times

unfoldable pub date_text : Date → List ℕ
date_text d = fixed 4 d.year ++ letters "-" ++ fixed 2 d.month ++ letters "-" ++ fixed 2 d.day

-- fraction only if not 0, without closing zeros
unfoldable pub fraction_text : ℕ → List ℕ
fraction_text n = cond (eqb n 0) [] (letters "." ++ trimmed fraction_digits n)

-- a time of day is ((hour x 60 + minute) x 60 + second) x 10^9 + nanoseconds
unfoldable pub clock_text : ℕ → List ℕ
clock_text t =
    fixed 2 (t / (60 * 60 * second)) ++ letters ":" ++ fixed 2 (t / (60 * second) % 60) ++ letters ":"
    ++ fixed 2 (t / second % 60)
    ++ fraction_text (t % second)

-- hh:mm
abbrev pub minutes_text : ℕ → List ℕ
minutes_text n = fixed 2 (n / 60) ++ letters ":" ++ fixed 2 (n % 60)

-- offset 0 as `Z`, otherwise sign and hh:mm
unfoldable pub offset_text : ℤ → List ℕ
offset_text (pos zero) = letters "Z"
offset_text (pos (suc n)) = letters "+" ++ minutes_text (suc n)
offset_text (negsuc n) = letters "-" ++ minutes_text (suc n)

unfoldable pub time_text : Time → List ℕ
time_text (LocalDate d) = date_text d
time_text (LocalTime t) = clock_text t
time_text (LocalDateTime d t) = date_text d ++ letters "T" ++ clock_text t
time_text (OffsetDateTime d t offset) = date_text d ++ letters "T" ++ clock_text t ++ offset_text offset

-- ---- the whole text, no layout

-- a comma after all that stands before
abbrev pub elements_comma : Meanings → List ℕ
elements_comma none = []
elements_comma (more ms m) = letters ","

abbrev pub members_comma : Members → List ℕ
members_comma bare = []
members_comma (member ms k m) = letters ","

-- with f for the text of a number
unfoldable mutual
  pub text_with : (Number → List ℕ) → Meaning → List ℕ
  text_with f null = letters "null"
  text_with f (bool b) = cond b (letters "true") (letters "false")
  text_with f (number n) = f n
  text_with f (string s) = quoted s
  text_with f (binary s) = binary_text s
  text_with f (time t) = time_text t
  text_with f (array ms) = letters "[" ++ elements_with f ms ++ letters "]"
  text_with f (object ms) = letters "{" ++ members_with f ms ++ letters "}"

  pub elements_with : (Number → List ℕ) → Meanings → List ℕ
  elements_with f none = []
  elements_with f (more ms m) = elements_with f ms ++ elements_comma ms ++ text_with f m

  pub members_with : (Number → List ℕ) → Members → List ℕ
  members_with f bare = []
  members_with f (member ms k m) =
      members_with f ms ++ members_comma ms ++ quoted k ++ letters ":" ++ text_with f m

abbrev pub canonical : Meaning → List ℕ
canonical m = text_with number_text m

abbrev pub elements_text : Meanings → List ℕ
elements_text ms = elements_with number_text ms

abbrev pub members_text : Members → List ℕ
members_text ms = members_with number_text ms
