-- JSON text, and which records have none (docs/FORMAT.md, 12). Assumes nothing.
use Rattle.std.specs.Prelude.{Bool, true, false, cond, List, [], ◌∷◌, ℕ, suc}
use Rattle.std.proofs.Math.Option.{Option, none, some}
use Rattle.meaning.specs.declared.Number.TheVariants.{Finite, NotANumber, Infinite}
use Rattle.meaning.specs.declared.Record.{Record}
use Rattle.meaning.specs.Meaning.{Meaning}
use Rattle.meaning.specs.Tape.{records_of}
use Rattle.meaning.specs.Canonical.{canonical}

-- no JSON form: non-finite, binary, time
abbrev pub json_form : Record → Bool
json_form Record.Null = true
json_form (Record.Bool b) = true
json_form (Record.Number (Finite minus coefficient power)) = true
json_form (Record.Number NotANumber) = false
json_form (Record.Number (Infinite minus)) = false
json_form (Record.Str size start) = true
json_form (Record.Key size start) = true
json_form (Record.Bin size start) = false
json_form (Record.Time t) = false
json_form (Record.Array count end) = true
json_form (Record.Object count end) = true

-- the index of the first such record, where the first of these has this index
unfoldable pub first_without : List Record → ℕ → Option ℕ
first_without [] index = none
first_without (r ∷ rs) index = cond (json_form r) (first_without rs (suc index)) (some index)

-- the index of the first record of a meaning that has no JSON form: refusal 11's place
unfoldable pub no_json : Meaning → Option ℕ
no_json m = first_without (records_of m 0 0) 0

-- JSON text is the same where 11 doesn't apply
abbrev pub json : Meaning → List ℕ
json = canonical
