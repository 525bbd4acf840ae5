-- A record's sixteen bytes (docs/FORMAT.md, 11.1) as four numbers of 2, 2, 4 and 8 bytes, as code reads and writes
-- them; that they are the bytes of `Tape.record_bytes` is proved (`proofs/Records.antt`), not believed. Assumes
-- nothing.
pub use Rattle.meaning.specs.Look.{FitDate, Fit}
use Rattle.std.specs.Prelude.{true, false, List, ◌++◌, get_or, ℕ, zero, suc, ◌+◌, ◌*◌}
use Prim.Native.Char.{Char}
use Rattle.std.specs.Int.{w16, w32}
use Rattle.std.proofs.Common.{of_z}
use Rattle.meaning.specs.declared.Number.TheVariants.{Finite, NotANumber, Infinite}
use Rattle.meaning.specs.declared.Date.{Date}
use Rattle.meaning.specs.declared.Time.TheVariants.{LocalDate, LocalTime, LocalDateTime, OffsetDateTime}
use Rattle.meaning.specs.declared.Record.{Record}
use Rattle.meaning.specs.Letters.{ch}
use Rattle.meaning.specs.Bytes.{le, flag}

-- the number in the w bytes from place i
unfoldable pub get : ℕ → List ℕ → ℕ → ℕ
get zero s i = 0
get (suc w) s i = get w s (i + 1) * 256 + get_or s i 0

abbrev pub mark : Char → Char → ℕ
mark a b = ch a + ch b * 256

-- bytes 0-1
unfoldable pub mark_of : Record → ℕ
mark_of Record.Null = mark "n" "u"
mark_of (Record.Bool b) = mark "b" "o"
mark_of (Record.Number (Finite minus coefficient power)) = mark "n" "b"
mark_of (Record.Number NotANumber) = mark "n" "x"
mark_of (Record.Number (Infinite minus)) = mark "n" "x"
mark_of (Record.Str size start) = mark "s" "t"
mark_of (Record.Key size start) = mark "k" "y"
mark_of (Record.Bin size start) = mark "b" "y"
mark_of (Record.Time (LocalDate d)) = mark "l" "d"
mark_of (Record.Time (LocalTime t)) = mark "l" "t"
mark_of (Record.Time (LocalDateTime d t)) = mark "d" "t"
mark_of (Record.Time (OffsetDateTime d t offset)) = mark "o" "d"
mark_of (Record.Array count end) = mark "a" "r"
mark_of (Record.Object count end) = mark "o" "b"

-- bytes 2-3: a sign or a year
unfoldable pub low_of : Record → ℕ
low_of Record.Null = 0
low_of (Record.Bool b) = 0
low_of (Record.Number (Finite minus coefficient power)) = flag minus
low_of (Record.Number NotANumber) = 0
low_of (Record.Number (Infinite minus)) = 0
low_of (Record.Str size start) = 0
low_of (Record.Key size start) = 0
low_of (Record.Bin size start) = 0
low_of (Record.Time (LocalDate d)) = d.year
low_of (Record.Time (LocalTime t)) = 0
low_of (Record.Time (LocalDateTime d t)) = d.year
low_of (Record.Time (OffsetDateTime d t offset)) = d.year
low_of (Record.Array count end) = 0
low_of (Record.Object count end) = 0

-- month, day and offset in bytes 4-7
abbrev pub month_day : Date → ℕ → ℕ
month_day d offset = d.month + d.day * 256 + offset * 65536

-- bytes 4-7
unfoldable pub mid_of : Record → ℕ
mid_of Record.Null = 0
mid_of (Record.Bool b) = flag b
mid_of (Record.Number (Finite minus coefficient power)) = of_z w32 power
mid_of (Record.Number NotANumber) = 0
mid_of (Record.Number (Infinite false)) = 1
mid_of (Record.Number (Infinite true)) = 2
mid_of (Record.Str size start) = size
mid_of (Record.Key size start) = size
mid_of (Record.Bin size start) = size
mid_of (Record.Time (LocalDate d)) = month_day d 0
mid_of (Record.Time (LocalTime t)) = 0
mid_of (Record.Time (LocalDateTime d t)) = month_day d 0
mid_of (Record.Time (OffsetDateTime d t offset)) = month_day d (of_z w16 offset)
mid_of (Record.Array count end) = count
mid_of (Record.Object count end) = count

-- bytes 8-15
unfoldable pub high_of : Record → ℕ
high_of Record.Null = 0
high_of (Record.Bool b) = 0
high_of (Record.Number (Finite minus coefficient power)) = coefficient
high_of (Record.Number NotANumber) = 0
high_of (Record.Number (Infinite minus)) = 0
high_of (Record.Str size start) = start
high_of (Record.Key size start) = start
high_of (Record.Bin size start) = start
high_of (Record.Time (LocalDate d)) = 0
high_of (Record.Time (LocalTime t)) = t
high_of (Record.Time (LocalDateTime d t)) = t
high_of (Record.Time (OffsetDateTime d t offset)) = t
high_of (Record.Array count end) = end
high_of (Record.Object count end) = end

-- the bytes of four numbers
unfoldable pub four_words : ℕ → ℕ → ℕ → ℕ → List ℕ
four_words a b c d = le 2 a ++ (le 2 b ++ (le 4 c ++ le 8 d))
