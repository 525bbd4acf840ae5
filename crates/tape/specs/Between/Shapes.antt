-- What the functions between sixteen bytes and a record (docs/FORMAT.md, 11.1) promise their callers. Assumes nothing.
use Rattle.std.specs.Prelude.{◌≡◌, Bool, true, false, cond, Option, Some, None, List, ℕ, ◌+◌, ◌/◌, ◌%◌, ◌<◌, ◌^◌, eqb}
use Rattle.std.specs.Int.{w16, w32}
use Rattle.std.proofs.Common.{to_z}
use Rattle.meaning.specs.declared.Number.{Number}
use Rattle.meaning.specs.declared.Number.TheVariants.{Finite, NotANumber, Infinite}
use Rattle.meaning.specs.declared.Date.{Date}
use Rattle.meaning.specs.declared.Time.TheVariants.{LocalDate, LocalTime, LocalDateTime, OffsetDateTime}
use Rattle.meaning.specs.declared.Record.{Record}
use Rattle.meaning.specs.Between.Words.{get}
use Rattle.meaning.specs.Tape.{record_bytes}
use Rattle.meaning.specs.Between.Words.{mark, mark_of, low_of, mid_of, high_of, four_words, Fit}
use Rattle.tape.specs.declared.Words.{Words}

-- these are the four numbers of r
pub record Worded (r : Record) (w : Words) : Type 0 where
  pub mark_is : w.mark ≡ mark_of r
  pub low_is : w.low ≡ low_of r
  pub mid_is : w.mid ≡ mid_of r
  pub high_is : w.high ≡ high_of r

-- these are the four numbers
pub record Holds (w : Words) (mark low mid high : ℕ) : Type 0 where
  pub mark_held : w.mark ≡ mark
  pub low_held : w.low ≡ low
  pub mid_held : w.mid ≡ mid
  pub high_held : w.high ≡ high

-- and they make its bytes
pub record Written (r : Record) (w : Words) : Type 0 where
  pub worded : Worded r w
  pub bytes_are : record_bytes r ≡ four_words w.mark w.low w.mid w.high

-- numbers of 2, 2, 4 and 8 bytes
pub record Loaded (w : Words) : Type 0 where
  pub mark_small : w.mark < 2 ^ 16
  pub low_small : w.low < 2 ^ 16
  pub mid_small : w.mid < 2 ^ 32
  pub high_small : w.high < 2 ^ 64

-- byte 4 of `nx`
unfoldable pub not_finite : ℕ → Number
not_finite mid = cond (eqb mid 0) NotANumber (cond (eqb mid 2) (Infinite true) (Infinite false))

abbrev pub finite : ℕ → ℕ → ℕ → Number
finite low mid high = Finite (eqb low 1) high (to_z w32 mid)

abbrev pub date_of : ℕ → ℕ → Date
date_of low mid = record { year = low; month = mid % 256; day = mid / 256 % 256 }

-- the one record that may have these four numbers; null where the mark is no record's
unfoldable pub record_of : ℕ → ℕ → ℕ → ℕ → Record
record_of a low mid high =
    cond (eqb a (mark "b" "o")) (Record.Bool (eqb mid 1))
    (cond (eqb a (mark "n" "b")) (Record.Number (finite low mid high))
    (cond (eqb a (mark "n" "x")) (Record.Number (not_finite mid))
    (cond (eqb a (mark "s" "t")) (Record.Str mid high)
    (cond (eqb a (mark "k" "y")) (Record.Key mid high)
    (cond (eqb a (mark "b" "y")) (Record.Bin mid high)
    (cond (eqb a (mark "l" "d")) (Record.Time (LocalDate (date_of low mid)))
    (cond (eqb a (mark "l" "t")) (Record.Time (LocalTime high))
    (cond (eqb a (mark "d" "t")) (Record.Time (LocalDateTime (date_of low mid) high))
    (cond (eqb a (mark "o" "d")) (Record.Time (OffsetDateTime (date_of low mid) high (to_z w16 (mid / 65536))))
    (cond (eqb a (mark "a" "r")) (Record.Array mid high)
    (cond (eqb a (mark "o" "b")) (Record.Object mid high) Record.Null)))))))))))

-- the mark is no flag's and no number's
pub record NoNumber (a : ℕ) : Type 0 where
  pub no_flag : a ≡ mark "b" "o" → ⊥
  pub no_finite : a ≡ mark "n" "b" → ⊥
  pub no_other : a ≡ mark "n" "x" → ⊥

abbrev pub only_record : Words → Record
only_record w = record_of w.mark w.low w.mid w.high

-- true only where it has them
pub record Common (w : Words) (b : Bool) : Type 0 where
  pub worded : b ≡ true → Worded (only_record w) w

-- a record whose numbers are these, or no record has them
pub data Shaped (w : Words) : Option Record → Type 0 where
  shaped : {r : Record} → Fit r → Worded r w → Shaped w (Some r)
  junk : ((r : Record) → Fit r → Worded r w → ⊥) → Shaped w None

-- the four numbers in the sixteen bytes from the place p
abbrev pub words_at : List ℕ → ℕ → Words
words_at s p = record { mark = get 2 s p; low = get 2 s (p + 2); mid = get 4 s (p + 4); high = get 8 s (p + 8) }
