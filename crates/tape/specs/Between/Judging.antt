-- What `judge` may answer: yes exactly for a well-formed tape and store (docs/FORMAT.md, 11.3). Assumes nothing.
use Rattle.std.specs.Prelude.{◌≡◌, Bool, false, cond, Result, Ok, Err, List, ℕ, ◌*◌, ◌≤◌, ◌<◌, eqb, length, get_or}
use Rattle.meaning.specs.declared.Record.{Record}
use Rattle.meaning.specs.Limits.{record_limit, store_limit, depth_limit}
use Rattle.meaning.specs.Meaning.{Meaning}
use Rattle.meaning.specs.Good.{GoodParts, depth}
use Rattle.meaning.specs.Look.{whole_records, RecordAt}
use Rattle.meaning.specs.Tape.{records, bytes, records_of, tape_of, store_of, WellFormed}
use Rattle.meaning.specs.declared.Refusal.{Refusal}

pub data Judges (tape store : List ℕ) : Result (Unit {0}) Refusal → Type 0 where
  well : WellFormed tape store → Judges tape store (Ok tt)
  ill : (WellFormed tape store → ⊥) → Judges tape store (Err (Refusal.NotWellFormed 0))

-- well formed but for keys that repeat an earlier one of their object; each record stands by itself
pub record Formed (tape store : List ℕ) : Type 0 where
  pub meaning : Meaning
  pub parts : GoodParts meaning
  pub shallow : depth meaning ≤ depth_limit
  pub few : records meaning ≤ record_limit
  pub short : bytes meaning ≤ store_limit
  pub taped : tape ≡ tape_of meaning
  pub stored : store ≡ store_of meaning
  pub each : (k : ℕ) → k < records meaning → RecordAt tape store k (get_or (records_of meaning 0 0) k Record.Null)

-- whole records, and both within their limits
pub record Sized (tape store : List ℕ) : Type 0 where
  pub whole : length tape ≡ whole_records tape * 16
  pub few : whole_records tape ≤ record_limit
  pub short : length store ≤ store_limit

-- after the last record: the root is there, and no byte of the store is left over
abbrev pub ended_of : ℕ → ℕ → ℕ → Bool
ended_of rest at room = cond (eqb rest 0) (eqb at room) false
