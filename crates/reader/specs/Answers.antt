-- What `measure` and `read` promise (docs/FORMAT.md, 13), by the grammar alone. Assumes nothing.
use Rattle.std.specs.Prelude.{◌≡◌, true, List, ℕ, ◌*◌, ◌≤◌, ◌<◌, length, Result, Ok, Err}
use Rattle.rules.specs.Paper.{Said, done, refused}
use Rattle.meaning.specs.declared.Refusal.{Refusal}
use Rattle.meaning.specs.Bytes.{laid}
use Rattle.meaning.specs.Meaning.{Meaning}
use Rattle.meaning.specs.Paper.{refusal_said}
use Rattle.meaning.specs.Tape.{records, bytes, tape_of, store_of}
use Rattle.grammar.specs.Values.{Loose, Text}
use Rattle.grammar.specs.Refused.{LooseRefused, TextRefused}
use Rattle.reader.specs.declared.Counts.{Counts}

-- what `measure` and `read` answer
abbrev pub Answer : Type 0
Answer = Result Counts Refusal

-- so many records and store bytes
abbrev pub counts : ℕ → ℕ → Answer
counts r s = Ok (record { records = r; bytes = s })

-- in the terms of docs/FORMAT.md, 10.1: the number of records and of store bytes, or a refusal
abbrev pub answer_said : Answer → Said (ℕ × ℕ)
answer_said (Ok n) = done (n.records, n.bytes)
answer_said (Err why) = refusal_said why

-- what `measure` may answer for this text
pub data Measures (text : List ℕ) (a : Answer) : Type 0 where
  -- the sizes of its meaning
  sizes : {m : Meaning} → Text text m → answer_said a ≡ done (records m, bytes m) → Measures text a
  -- 1 to 7, 15
  no_text : {why : Refusal} → TextRefused text why → answer_said a ≡ refusal_said why → Measures text a

-- what a check in parts may answer: what `measure` may, with 15 left out
pub data Loosely (text : List ℕ) (a : Answer) : Type 0 where
  sizes : {m : Meaning} → Loose true text m → answer_said a ≡ done (records m, bytes m) → Loosely text a
  no_text : {why : Refusal} → LooseRefused text why → answer_said a ≡ refusal_said why → Loosely text a

-- the tape bytes that a meaning needs
abbrev pub tape_bytes : Meaning → ℕ
tape_bytes m = records m * 16

-- what `read` may answer, and leave in the tape and the store that it was lent
pub data Reads (text tape store : List ℕ) (a : Answer) : List ℕ → List ℕ → Type 0 where
  -- the tape and the store of the text's meaning from their start; what lies past them is unchanged
  filled : {m : Meaning} → Text text m → tape_bytes m ≤ length tape → bytes m ≤ length store
      → answer_said a ≡ done (records m, bytes m)
      → Reads text tape store a (laid (tape_of m) tape) (laid (store_of m) store)
  -- 8, with the tape bytes needed; then 9, with the store bytes needed
  tape_short : {m : Meaning} → Text text m → length tape < tape_bytes m
      → answer_said a ≡ refused 8 (tape_bytes m) → Reads text tape store a tape store
  store_short : {m : Meaning} → Text text m → tape_bytes m ≤ length tape → length store < bytes m
      → answer_said a ≡ refused 9 (bytes m) → Reads text tape store a tape store
  -- 1 to 7, 15
  no_text : {why : Refusal} → TextRefused text why → answer_said a ≡ refusal_said why
      → Reads text tape store a tape store
