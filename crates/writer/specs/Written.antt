-- What the writers may answer, and the bytes that they leave (docs/FORMAT.md, 13): 10, 11
-- (JSON only), 13, 12. Assumes nothing.
use Rattle.std.specs.Prelude.{◌≡◌, List, ℕ, ◌≤◌, ◌<◌, length, Result}
use Rattle.std.proofs.Math.Option.{none, some}
use Rattle.rules.specs.Paper.{done, refused}
use Rattle.meaning.specs.Bytes.{laid}
use Rattle.meaning.specs.Limits.{text_limit}
use Rattle.meaning.specs.Tape.{WellFormed}
use Rattle.meaning.specs.Canonical.{canonical}
use Rattle.meaning.specs.Json.{no_json, json}
use Rattle.meaning.specs.declared.Refusal.{Refusal}
use Rattle.writer.specs.Paper.{write_said}

-- a text t over an output o
pub data Writes (t o : List ℕ) (a : Result ℕ Refusal) : List ℕ → Type 0 where
  -- 13: over 16,777,216 bytes, with the length it would have
  too_long : text_limit < length t → write_said a ≡ refused 13 (length t) → Writes t o a o
  -- 12: output too short, with the bytes needed
  too_short : length t ≤ text_limit → length o < length t → write_said a ≡ refused 12 (length t) → Writes t o a o
  -- the text from the start; what lies past it is unchanged
  written : length t ≤ text_limit → length t ≤ length o → write_said a ≡ done (length t) → Writes t o a (laid t o)

pub data WritesJaxn (tape store o : List ℕ) (a : Result ℕ Refusal) : List ℕ → Type 0 where
  -- 10 at 0
  ill : (WellFormed tape store → ⊥) → write_said a ≡ refused 10 0 → WritesJaxn tape store o a o
  text : {out : List ℕ} (w : WellFormed tape store) → Writes (canonical w.meaning) o a out
      → WritesJaxn tape store o a out

pub data WritesJson (tape store o : List ℕ) (a : Result ℕ Refusal) : List ℕ → Type 0 where
  ill : (WellFormed tape store → ⊥) → write_said a ≡ refused 10 0 → WritesJson tape store o a o
  -- 11 at the index of the first record with no JSON form
  formless : {index : ℕ} (w : WellFormed tape store) → no_json w.meaning ≡ some index → write_said a ≡ refused 11 index
      → WritesJson tape store o a o
  text : {out : List ℕ} (w : WellFormed tape store) → no_json w.meaning ≡ none → Writes (json w.meaning) o a out
      → WritesJson tape store o a out
