-- What one walk over a text (docs/FORMAT.md, 1.2) promises `measure` and `read`, and its end the walk; and what the
-- windows of the search for a repeated key (7.2) promise. Assumes nothing.
use Rattle.std.specs.Prelude.{◌≡◌, List, [], ℕ, ◌≤◌, ◌<◌, ◌^◌, length, drop, Option, Some, None, Result}
use Rattle.std.proofs.lemmas.List.Edits.{sets}
use Rattle.meaning.specs.declared.Refusal.TheVariants.{RepeatedKey}
use Rattle.meaning.specs.Limits.{text_limit}
use Rattle.meaning.specs.Meaning.{Meaning}
use Rattle.meaning.specs.Tape.{records, bytes, tape_of, store_of}
use Rattle.meaning.specs.Between.Events.{Event}
use Rattle.machine.specs.Machine.{got, value, base, at, Ok, No, reading}
use Rattle.machine.specs.Heard.{tell, telling, heard_of}
use Rattle.once.specs.Windows.{Kept, SearchedTo, NoneOrLater}
use Rattle.meaning.specs.declared.Refusal.{Refusal}
use Rattle.reader.specs.declared.Counts.{Counts}
use Rattle.reader.specs.declared.Found.{Found}
use Rattle.reader.specs.declared.cursor.Cursor.{Cursor}
use Rattle.reader.specs.Answers.{Answer, tape_bytes}
use Rattle.reader.specs.Between.Scanning.{Refuses}
use Rattle.reader.specs.Between.Repeat.{Keeping, Led}

-- the text's one value has been read: from p on there is layout alone
abbrev pub Finishes : List ℕ → ℕ → Type 0
Finishes text p = (m : Meaning) (d : ℕ)
    → tell p (at (base (got (value m))) d []) (drop p text) ≡ record { verdict = Ok m; heard = [] }

abbrev pub EndedSays : List ℕ → Cursor → Answer → Type 0
EndedSays text c (Result.Ok n) = Finishes text c.at × (n.records ≡ c.records) × (n.bytes ≡ c.stored)
EndedSays text c (Result.Err why) = (m : Meaning) (d : ℕ) → Refuses text (at (base (got (value m))) d []) c.at why

pub record Walked (text tape tape' store store' seen seen' : List ℕ) (m : Meaning) : Type 0 where
  pub keys : List Event
  pub told : telling text ≡ record { verdict = Ok m; heard = heard_of keys }
  pub reads : reading text ≡ Ok m
  -- they are noted in a table that stands at the text's first byte
  pub noted : (f : ℕ) (s : Kept) → Keeping text seen 0 f s → Led text seen' (length text) f s keys
  pub taped : tape_bytes m ≤ length tape → tape' ≡ sets tape 0 (tape_of m)
  pub filled : store' ≡ sets store 0 (store_of m)
  pub few : records m ≤ length text
  pub short : bytes m ≤ length text

abbrev pub WalkSays : List ℕ → List ℕ → List ℕ → List ℕ → List ℕ → List ℕ → List ℕ → Answer → Type 0
WalkSays text tape tape' store store' seen seen' (Result.Ok n) =
    (m : Meaning) × Walked text tape tape' store store' seen seen' m × (n.records ≡ records m) × (n.bytes ≡ bytes m)
WalkSays text tape tape' store store' seen seen' (Result.Err why) = reading text ≡ No why

-- ---- windows

-- the search among the text's keys, as far as `from`
pub record Searching (text : List ℕ) (best from : Option ℕ) : Type 0 where
  pub keys : List Event
  pub told : (telling text).heard ≡ heard_of keys
  pub windows : SearchedTo (length text) keys best from
  pub short : length text ≤ text_limit

-- a further window, by this table
pub record AtWindow (text seen : List ℕ) (best : Option ℕ) (from : ℕ) : Type 0 where
  pub searching : Searching text best (Some from)
  pub roomy : 16 ≤ length seen
  pub small : length seen < 2 ^ 32

abbrev pub WindowSays : List ℕ → ℕ → Result Found Refusal → Type 0
WindowSays text from (Result.Ok f) = Searching text f.best f.from × NoneOrLater from f.from
WindowSays text from (Result.Err why) = reading text ≡ No why

abbrev pub SearchSays : List ℕ → Result (Option ℕ) Refusal → Type 0
SearchSays text (Result.Ok best) = Searching text best None
SearchSays text (Result.Err why) = reading text ≡ No why

-- 15 where a key repeats one, else the counts
abbrev pub AnsweredSays : Option ℕ → Counts → Answer → Type 0
AnsweredSays None n a = a ≡ Result.Ok n
AnsweredSays (Some p) n a = a ≡ Result.Err (RepeatedKey p)
