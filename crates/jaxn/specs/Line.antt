-- What the program prints for an input (docs/FORMAT.md, 13.1). Assumes nothing.
use Rattle.std.specs.Prelude.{◌≡◌, List, ◌++◌, ℕ, ◌≤◌, ◌<◌, length}
use Rattle.meaning.specs.declared.Refusal.{Refusal}
use Rattle.meaning.specs.Bytes.{laid}
use Rattle.meaning.specs.Letters.{letters}
use Rattle.meaning.specs.Meaning.{Meaning}
use Rattle.meaning.specs.Paper.{number_of, place_of}
use Rattle.meaning.specs.Canonical.{decimal, canonical}
use Rattle.grammar.specs.Values.{Text}
use Rattle.grammar.specs.Refused.{TextRefused}
use Rattle.reader.specs.Answers.{tape_bytes}

-- the longest input, and the bytes that are lent for tape, store and output each
abbrev pub room : ℕ
room = 65536

-- `refused N at P` and a line feed
abbrev pub refused_line : ℕ → ℕ → List ℕ
refused_line number place =
    letters "refused " ++ (decimal number ++ (letters " at " ++ (decimal place ++ letters "\n")))

-- What may be printed for this input. There is no 9 and no 13: an input of 65,536 bytes needs no longer store, and the
-- text of what fits the tape and the store is below 16,777,216 bytes.
pub data Line (input : List ℕ) : List ℕ → Type 0 where
  -- longer input
  longer : room < length input → Line input (refused_line 1 room)
  -- 2 to 7, 15
  no_text : {why : Refusal} → length input ≤ room → TextRefused input why
      → Line input (refused_line (number_of why) (place_of why))
  -- 8, with the tape bytes needed
  tape_short : {m : Meaning} → length input ≤ room → Text input m → room < tape_bytes m
      → Line input (refused_line 8 (tape_bytes m))
  -- 12, with the bytes needed
  output_short : {m : Meaning} → length input ≤ room → Text input m → tape_bytes m ≤ room
      → room < length (canonical m)
      → Line input (refused_line 12 (length (canonical m)))
  -- the canonical text of the input's meaning and a line feed
  printed : {m : Meaning} → length input ≤ room → Text input m → tape_bytes m ≤ room
      → length (canonical m) ≤ room
      → Line input (canonical m ++ letters "\n")

-- a line that may be printed was laid over the start of `out`, which is now out', and n is its length
pub record Tells (input out : List ℕ) (n : ℕ) (out' : List ℕ) : Type 0 where
  pub text : List ℕ
  pub allowed : Line input text
  pub size : n ≡ length text
  pub left : out' ≡ laid text out
