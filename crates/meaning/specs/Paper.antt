-- The table of refusals (docs/FORMAT.md, 10.1): the number and the place of each. Assumes nothing.
use Rattle.std.specs.Prelude.{ℕ}
use Rattle.meaning.specs.declared.Refusal.{Refusal}
use Rattle.meaning.specs.declared.Refusal.TheVariants.{TextTooLong, NotUtf8, NotGrammar, BadEscape, BadTime}
use Rattle.meaning.specs.declared.Refusal.TheVariants.{BadNumber, TooDeep, TapeTooShort, StoreTooShort}
use Rattle.meaning.specs.declared.Refusal.TheVariants.{NotWellFormed, NoJsonForm, OutputTooShort}
use Rattle.meaning.specs.declared.Refusal.TheVariants.{WrittenTooLong, NoSuchRecord, RepeatedKey}
use Rattle.rules.specs.Paper.{Said, refused}
use Rattle.meaning.specs.Limits.{text_limit}

abbrev pub row : Refusal → ℕ × ℕ
-- text over 16,777,216 bytes
row TextTooLong = (1, text_limit)
-- not UTF-8: first byte of the first ill-formed sequence
row (NotUtf8 place) = (2, place)
-- not the grammar: first byte no rule allows there, or the text's length
row (NotGrammar place) = (3, place)
-- lone surrogate, surrogate in `\u{}`, above 10FFFF: its backslash
row (BadEscape place) = (4, place)
-- time field outside its range or calendar: first byte of the time value
row (BadTime place) = (5, place)
-- number outside the range: its first byte, sign included
row (BadNumber place) = (6, place)
-- more than 64 arrays and objects open: the opening bracket
row (TooDeep place) = (7, place)
-- tape too short: tape bytes needed
row (TapeTooShort needed) = (8, needed)
-- store too short: store bytes needed
row (StoreTooShort needed) = (9, needed)
-- not a well-formed tape: 0; for look, the index
row (NotWellFormed place) = (10, place)
-- no JSON form: index of the first such record
row (NoJsonForm index) = (11, index)
-- output too short: bytes needed
row (OutputTooShort needed) = (12, needed)
-- written text over 16,777,216 bytes: length it would have
row (WrittenTooLong size) = (13, size)
-- index not below the number of whole records: the index
row (NoSuchRecord index) = (14, index)
-- repeated key: first byte of the first key in the text that repeats an earlier one of its object
row (RepeatedKey place) = (15, place)

abbrev pub number_of : Refusal → ℕ
number_of why = (row why).0

abbrev pub place_of : Refusal → ℕ
place_of why = (row why).1

-- a refusal, in the table's terms
abbrev pub refusal_said : {X : Type 0} → Refusal → Said X
refusal_said why = refused (number_of why) (place_of why)
