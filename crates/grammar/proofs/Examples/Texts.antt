-- Texts of the JAXN specification and of docs/FORMAT.md with their meanings. Assumes nothing.
use Prim.Native.Nat.{ℕ}
use Prim.Native.String.{String}
use mathlib.Core.Bool.{true, false}
use mathlib.Core.List.{List, [], ◌∷◌, ◌++◌}
use lib.IntN.{ℤ, pos, negsuc}
use Rattle.meaning.specs.declared.Number.TheVariants.{Finite, NotANumber, Infinite}
use Rattle.meaning.specs.declared.Date.{Date}
use Rattle.meaning.specs.declared.Time.TheVariants.{LocalDate, LocalTime, LocalDateTime, OffsetDateTime}
use Rattle.meaning.specs.Letters.{letters}
use Rattle.meaning.specs.Clock.{time_of_day}
use Rattle.meaning.specs.Meaning.{Meaning, null, number, string, binary, time, array, object, none, more, bare, member}
use Rattle.grammar.specs.Values.{Text}

-- coefficient and power of ten, plus and minus
abbrev pub plus : ℕ → ℤ → Meaning
plus c p = number (Finite false c p)

abbrev pub minus : ℕ → ℤ → Meaning
minus c p = number (Finite true c p)

abbrev pub text : String → Meaning
text s = string (letters s)

abbrev pub date : ℕ → ℕ → ℕ → Date
date y m d = record { year = y; month = m; day = d }

-- U+1D11E
abbrev pub clef : List ℕ
clef = 0xF0 ∷ 0x9D ∷ 0x84 ∷ 0x9E ∷ []

abbrev pub examples : List (List ℕ × Meaning)
examples =
    -- layout: `[ # 1` LF `2]` does not hold 1
    (letters "# single-line comment\nnull", null)
    ∷ (letters "null// single-line comment", null)
    ∷ (letters "/* block comment */null", null)
    ∷ (letters "[ # 1\n2]", array (more none (plus 2 (pos 0))))
    -- numbers
    ∷ (letters "42.", plus 42 (pos 0))
    ∷ (letters "+.5", plus 5 (negsuc 0))
    ∷ (letters "NaN", number NotANumber)
    ∷ (letters "-Infinity", number (Infinite true))
    ∷ (letters "0xDEADBEEF", plus 3735928559 (pos 0))
    ∷ (letters "18446744073709551615", plus 18446744073709551615 (pos 0))
    ∷ (letters "10000000000000000000000", plus 1 (pos 22))
    ∷ (letters "-0x0", minus 0 (pos 0))
    ∷ (letters "1e5", plus 1 (pos 5))
    ∷ (letters "100000", plus 1 (pos 5))
    -- strings
    ∷ (letters "\"Add \\0 or \\v, even \\' is allowed in a string.\"", text "Add \0 or \u{b}, even ' is allowed in a string.")
    ∷ (letters "\"\\u{1D11E} was my first love \" + \"and it will be my last.\"", string (clef ++ letters " was my first love and it will be my last."))
    ∷ (
      letters "\"\"\"String with a \\ and \" characters - no escape sequences,\nmay contain line breaks\"\"\"",
      text "String with a \\ and \" characters - no escape sequences,\nmay contain line breaks",
    )
    ∷ (letters "\"\\ud834\\udd1e\"", string clef)
    ∷ (letters "\"\"\"\"\"\"", text "")
    -- times, with a tenth fraction digit
    ∷ (letters "2000-02-29", time (LocalDate (date 2000 2 29)))
    ∷ (letters "10:23:54.345678", time (LocalTime (time_of_day 10 23 54 345678000)))
    ∷ (letters "2017-09-05 10:23:54.345678", time (LocalDateTime (date 2017 9 5) (time_of_day 10 23 54 345678000)))
    ∷ (letters "2017-09-05T10:23:54.345678+02:00", time (OffsetDateTime (date 2017 9 5) (time_of_day 10 23 54 345678000) (pos 120)))
    ∷ (letters "12:00:00.0000000009", time (LocalTime (time_of_day 12 0 0 0)))
    -- binary
    ∷ (letters "$\"Hello, \\x77orld!\"", binary (letters "Hello, world!"))
    ∷ (letters "$48656c6c6f.2c20.776f726c64.21", binary (letters "Hello, world!"))
    ∷ (letters "$", binary [])
    -- keys and closing commas
    ∷ (letters "{ foo: \"Hello\", bar: 42, }", object (member (member bare (letters "foo") (text "Hello")) (letters "bar") (plus 42 (pos 0))))
    ∷ (letters "[ 1, 2, 3, ]", array (more (more (more none (plus 1 (pos 0))) (plus 2 (pos 0))) (plus 3 (pos 0))))
    ∷ []

-- each of these texts has that meaning
abbrev pub Derived : List (List ℕ × Meaning) → Type 0
Derived [] = Unit
Derived (e ∷ l) = Text e.0 e.1 × Derived l
