-- What is put (docs/FORMAT.md, 11): where there is no room, nothing. Assumes nothing.
use Rattle.std.specs.Prelude.{cond, List, ℕ, ◌*◌, ltb}
use Rattle.std.proofs.lemmas.List.Edits.{sets}
use Rattle.meaning.specs.declared.Record.{Record}
use Rattle.meaning.specs.Tape.{record_bytes}
use Rattle.meaning.specs.Look.{whole_records}

-- the tape with this record at this index, where it has sixteen bytes for it
unfoldable pub put_record : List ℕ → ℕ → Record → List ℕ
put_record tape index r = cond (ltb index (whole_records tape)) (sets tape (index * 16) (record_bytes r)) tape
