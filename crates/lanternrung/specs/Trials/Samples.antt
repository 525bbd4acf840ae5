-- The cases marked P, one list; the slips to rule out (docs/FORMAT.md, 14); and what it is for a case to hold. Assumes
-- nothing.
use Rattle.std.specs.Prelude.{◌≡◌, true, false, List, [], ◌∷◌, ◌++◌, ℕ, ◌≤◌, pos, negsuc, length, Ok, Err}
use Rattle.rules.specs.Rfc3629.{encode}
use Rattle.meaning.specs.declared.Number.TheVariants.{Finite}
use Rattle.meaning.specs.declared.Time.TheVariants.{LocalDate, LocalTime}
use Rattle.meaning.specs.Clock.{time_of_day}
use Rattle.meaning.specs.Letters.{letters}
use Rattle.meaning.specs.Meaning.{Meaning, number, string, binary, time, array, none, more}
use Rattle.meaning.specs.Paper.{number_of, place_of}
use Rattle.meaning.specs.Tape.{records, bytes}
use Rattle.meaning.specs.Canonical.{canonical}
use Rattle.grammar.specs.Values.{Text}
use Rattle.reader.specs.Answers.{Answer, counts, tape_bytes, Measures, Reads}

pub data Outcome : Type 0 where
  -- taken, with this meaning and this canonical text
  taken : Meaning → List ℕ → Outcome
  -- refused, with this number and place
  refused : ℕ → ℕ → Outcome

-- ---- the cases marked P, in their order there

-- U+1D11E
abbrev pub clef : List ℕ
clef = encode 0x1D11E

abbrev pub samples : List (List ℕ × Outcome)
samples =
    -- empty text
    (letters "", refused 3 0)
    ∷ (letters "[,]", refused 3 1)
    ∷ (letters "[1,]", taken (array (more none (number (Finite false 1 (pos 0))))) (letters "[1]"))
    ∷ (letters "007", refused 3 3)
    ∷ (letters "1:", refused 3 1)
    ∷ (
      letters "18446744073709551615",
      taken (number (Finite false 18446744073709551615 (pos 0)))
          (letters "18446744073709551615"),
    )
    -- the digit 1 and 22 zeros
    ∷ (letters "10000000000000000000000", taken (number (Finite false 1 (pos 22))) (letters "1e22"))
    -- minus zero
    ∷ (letters "-0x0", taken (number (Finite true 0 (pos 0))) (letters "-0"))
    ∷ (
      letters "2000-02-29",
      taken (time (LocalDate (record { year = 2000; month = 2; day = 29 })))
          (letters "2000-02-29"),
    )
    ∷ (letters "2000-02-30", refused 5 0)
    ∷ (letters "\"\\ud834\\udd1e\"", taken (string clef) (letters "\"" ++ clef ++ letters "\""))
    ∷ (letters "\"\\ud834\"+\"\\udd1e\"", refused 4 1)
    -- empty binary
    ∷ (letters "$", taken (binary []) (letters "$"))
    -- two keys that repeat an earlier one: at the first
    ∷ (letters "{\"a\":1,b:2,a:3,b:4}", refused 15 11)
    -- one in an object within
    ∷ (letters "{a:{b:1,b:2},a:3}", refused 15 8)
    -- 1 to 7 come before 15
    ∷ (letters "{a:1,a:1e99999}", refused 6 7)
    ∷ []

-- ---- the slips to rule out that are a text read amiss

-- a time of day of twelve hours and this many nanoseconds
abbrev pub noon_and : ℕ → Meaning
noon_and nanoseconds = time (LocalTime (time_of_day 12 0 0 nanoseconds))

abbrev pub slips : List (List ℕ × Outcome)
slips =
    -- a comment's 1 is no element
    (letters "[ # 1\n2]", taken (array (more none (number (Finite false 2 (pos 0))))) (letters "[2]"))
    -- surrogates are not joined across a plus
    ∷ (letters "\"\\ud834\"+\"\\udd1e\"", refused 4 1)
    -- a tenth fraction digit is cut off
    ∷ (letters "12:00:00.9999999999", taken (noon_and 999999999) (letters "12:00:00.999999999"))
    -- one meaning, one text
    ∷ (letters "1e5", taken (number (Finite false 1 (pos 5))) (letters "100000"))
    ∷ (letters "100000", taken (number (Finite false 1 (pos 5))) (letters "100000"))
    -- as it was filed before; every digit behind the point; one place too many
    ∷ (letters "12505e-1", taken (number (Finite false 12505 (negsuc 0))) (letters "1250.5"))
    ∷ (
      letters "18446744073709551615e-20",
      taken (number (Finite false 18446744073709551615 (negsuc 19)))
          (letters "0.18446744073709551615"),
    )
    ∷ (letters "12e-21", taken (number (Finite false 12 (negsuc 20))) (letters "12e-21"))
    ∷ []

-- ---- what it is for a case to hold

-- The grammar gives the text this meaning and no other, and this is the meaning's canonical text. `measure` answers the
-- meaning's sizes, and so does `read` where there is room.
pub record IsTaken (text : List ℕ) (m : Meaning) (printed : List ℕ) : Type 0 where
  pub means : Text text m
  pub only : (n : Meaning) → Text text n → n ≡ m
  pub prints : canonical m ≡ printed
  pub measured : (a : Answer) → Measures text a → a ≡ counts (records m) (bytes m)
  pub read : (tape store : List ℕ) (a : Answer) (tape' store' : List ℕ) → tape_bytes m ≤ length tape
      → bytes m ≤ length store → Reads text tape store a tape' store' → a ≡ counts (records m) (bytes m)

-- a refusal with the number n, at the place p
abbrev pub Says : ℕ → ℕ → Answer → Type 0
Says n p (Ok sizes) = ⊥
Says n p (Err why) = (number_of why ≡ n) × (place_of why ≡ p)

-- The grammar gives the text no meaning. Whatever `measure` and `read` may answer is the refusal n at p.
pub record IsRefused (text : List ℕ) (n p : ℕ) : Type 0 where
  pub meaningless : (m : Meaning) → Text text m → ⊥
  pub measured : (a : Answer) → Measures text a → Says n p a
  pub read : (tape store : List ℕ) (a : Answer) (tape' store' : List ℕ) → Reads text tape store a tape' store'
      → Says n p a

abbrev pub Case : List ℕ → Outcome → Type 0
Case text (taken m printed) = IsTaken text m printed
Case text (refused n p) = IsRefused text n p

infixr 20 ◌&◌
-- each case of a list holds
pub data All : List (List ℕ × Outcome) → Type 0 where
  done : All []
  ◌&◌ : {text : List ℕ} {outcome : Outcome} {rest : List (List ℕ × Outcome)} → Case text outcome → All rest
      → All ((text, outcome) ∷ rest)
