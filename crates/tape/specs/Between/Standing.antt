-- What `record_at` promises (docs/FORMAT.md, 11.1), and the records that may stand on a tape. Assumes nothing.
use Rattle.std.specs.Prelude.{◌≡◌, List, [], ◌∷◌, ℕ, zero, suc, ◌+◌, ◌*◌}
use Rattle.meaning.specs.declared.Record.{Record}
use Rattle.meaning.specs.Look.{RecordAt}
use Rattle.tape.specs.Between.Shapes.{record_of, words_at}

-- where a record stands at this index, it is r
pub record RecordIs (tape : List ℕ) (index : ℕ) (r : Record) : Type 0 where
  pub is : (store : List ℕ) (s : Record) → RecordAt tape store index s → r ≡ s

-- the record that may stand at index k
unfoldable pub read_at : List ℕ → ℕ → Record
read_at tape k = let w = words_at tape (k * 16) in record_of w.mark w.low w.mid w.high

-- n of them from index i on
unfoldable pub records_from : ℕ → List ℕ → ℕ → List Record
records_from zero tape i = []
records_from (suc n) tape i = read_at tape i ∷ records_from n tape (i + 1)
