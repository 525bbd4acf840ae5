-- What `look` may answer (docs/FORMAT.md, 11.4): 14, then 10. Assumes nothing.
use Rattle.std.specs.Prelude.{◌≡◌, List, ℕ, ◌≤◌, ◌<◌, Result}
use Rattle.rules.specs.Paper.{done, refused}
use Rattle.meaning.specs.declared.Record.{Record}
use Rattle.meaning.specs.Look.{whole_records, RecordAt}
use Rattle.meaning.specs.declared.Refusal.{Refusal}
use Rattle.tape.specs.Paper.{look_said}

pub data Looks (tape store : List ℕ) (index : ℕ) (a : Result Record Refusal) : Type 0 where
  -- that record with its fields
  found : {r : Record} → RecordAt tape store index r → look_said a ≡ done r → Looks tape store index a
  -- 14: index not below the number of whole records
  past_end : whole_records tape ≤ index → look_said a ≡ refused 14 index → Looks tape store index a
  -- 10: no record stands there
  not_one : index < whole_records tape → ((r : Record) → RecordAt tape store index r → ⊥) → look_said a
      ≡ refused 10 index
      → Looks tape store index a
