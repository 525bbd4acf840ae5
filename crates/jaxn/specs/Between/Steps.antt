-- What the program's parts promise each other, on the way to Line (docs/FORMAT.md, 13.1). Assumes nothing.
use Rattle.std.specs.Prelude.{List, ◌++◌, ℕ, ◌≤◌, length, Result, Ok, Err}
use Rattle.meaning.specs.declared.Refusal.{Refusal}
use Rattle.meaning.specs.Bytes.{laid}
use Rattle.meaning.specs.Letters.{letters}
use Rattle.meaning.specs.Paper.{number_of, place_of}
use Rattle.jaxn.specs.Line.{refused_line, Line}

-- the refusal that is printed, and the output is as it was; or the text that is printed stands at its start
pub data Rewrites (text out : List ℕ) : Result ℕ Refusal → List ℕ → Type 0 where
  refusing : {why : Refusal} → Line text (refused_line (number_of why) (place_of why))
      → Rewrites text out (Err why) out
  printing : (t : List ℕ) → Line text (t ++ letters "\n") → length t ≤ length out
      → Rewrites text out (Ok (length t)) (laid t out)
