-- The first record with no JSON form, record by record. Assumes nothing.
use mathlib.Core.Path.{◌≡◌, refl, ap, ◌∙◌}
use mathlib.Core.Bool.{true, false, cond}
use mathlib.Core.List.{List}
use mathlib.Core.Option.{none, some}
use Prim.Native.Nat.{ℕ, ◌+◌, ◌≤◌, ◌<◌}
use native.Mathlib.Numerals.{add-one}
use lib.ListN.{length, get_or, drop, drop_of_length-le}
use lib.Seq.{drop-cons}
use Rattle.meaning.specs.declared.Record.{Record}
use Rattle.meaning.specs.Meaning.{Meaning}
use Rattle.meaning.specs.Tape.{records_of}
use Rattle.meaning.specs.Json.{json_form, first_without, no_json}

abbrev record_of_lem : List Record → ℕ → Record
record_of_lem rs k = get_or rs k Record.Null

module _ (rs : List Record) (k : ℕ) where
  step : k < length rs → first_without (drop k rs) k ≡ cond (json_form (record_of_lem rs k)) (first_without (drop (k + 1) rs) (k + 1)) (some k)
  unfolding first_without
  step h = rw (add-one, drop-cons rs k Record.Null) refl

  -- record k has a JSON form: the search goes on
  pub json_on : k < length rs → json_form (record_of_lem rs k) ≡ true → first_without (drop k rs) k ≡ first_without (drop (k + 1) rs) (k + 1)
  json_on h e = step h ∙ rw e

  -- it has none: the search ends
  pub json_stop : k < length rs → json_form (record_of_lem rs k) ≡ false → first_without (drop k rs) k ≡ some k
  json_stop h e = step h ∙ rw e

  pub json_end : length rs ≤ k → first_without (drop k rs) k ≡ none
  unfolding first_without
  json_end h = ap (λ (l : List Record). first_without l k) (drop_of_length-le rs h)

pub json_whole : (m : Meaning) → no_json m ≡ first_without (drop 0 (records_of m 0 0)) 0
unfolding no_json
json_whole m = refl
