-- The answers of the public calls, from what their parts promise. Assumes nothing.
use mathlib.Core.Path.{◌≡◌, refl, sym, ap, subst}
use mathlib.Core.List.{List}
use mathlib.Core.Option.{none, some}
use Prim.Native.Nat.{ℕ, ◌≤◌, ◌<◌}
use native.Mathlib.Omega.{arith}
use Rattle.std.specs.Prelude.{Some, None, Result, Ok, Err}
use lib.ListN.{length}
use Rattle.rules.specs.Paper.{done, refused}
use Rattle.meaning.specs.declared.Refusal.{Refusal}
use Rattle.meaning.specs.declared.Refusal.TheVariants.{NoJsonForm, OutputTooShort, WrittenTooLong}
use Rattle.meaning.specs.Limits.{text_limit}
use Rattle.meaning.specs.Meaning.{Meaning}
use Rattle.meaning.specs.Tape.{WellFormed}
use Rattle.meaning.specs.Canonical.{canonical}
use Rattle.meaning.specs.Json.{no_json}
use Rattle.tape.specs.Between.Judging.{Judges, well, ill}
use Rattle.writer.specs.Between.Walk.{TextFits, TextLength, TextPut, Finds, at, nowhere, WritesText, FirstFormless}
use Rattle.writer.specs.Written.{Writes, too_long, too_short, written, WritesJaxn, WritesJson}

-- ---- the search's answer

found : {m : Meaning} {index : ℕ} → Finds m (Some index) → no_json m ≡ some index
found (at e) = e

not_found : {m : Meaning} → Finds m None → no_json m ≡ none
not_found (nowhere e) = e

-- ---- 13, 12, the text

module _ {tape store : List ℕ} (o : List ℕ) {needed : ℕ} (l : TextLength tape store needed) where
  pub text_too_long : text_limit < needed → WritesText tape store o (Err (WrittenTooLong needed)) o
  text_too_long h =
      record { is = λ w. too_long (omega (arith, l.is w)) (ap (refused 13) (l.is w)) }

  pub text_too_short : needed ≤ text_limit → length o < needed → WritesText tape store o (Err (OutputTooShort needed)) o
  text_too_short h k =
      record { is = λ w. too_short (omega (arith, l.is w)) (omega (arith, l.is w)) (ap (refused 12) (l.is w)) }

  pub text_fits : needed ≤ length o → WellFormed tape store → TextFits tape store (length o)
  text_fits h w = record { well = w; fits = omega (arith, l.is w) }

  pub text_written : {out : List ℕ} {r : ℕ} → needed ≤ text_limit → needed ≤ length o → TextPut tape store o out r → WritesText tape store o (Ok r) out
  text_written {out} {r} h k p =
      record {
        is = λ w.
            let t = canonical w.meaning in
            let q = p.is w in
            subst (Writes t o (Ok r)) (sym q.text) (written (omega (arith, l.is w)) (omega (arith, l.is w)) (ap done q.size));
      }

-- ---- the public calls, by what the judge and the search say

module _ {tape store : List ℕ} where
  pub jaxn_ill : {why : Refusal} → Judges tape store (Err why) → (o : List ℕ) → WritesJaxn tape store o (Err why) o
  jaxn_ill (ill n) o = WritesJaxn.ill n refl

  pub json_ill : {why : Refusal} → Judges tape store (Err why) → (o : List ℕ) → WritesJson tape store o (Err why) o
  json_ill (ill n) o = WritesJson.ill n refl

  module _ {v : Unit {0}} where
    pub jaxn_text : Judges tape store (Ok v) → {o out : List ℕ} {answer : Result ℕ Refusal} → WritesText tape store o answer out
        → WritesJaxn tape store o answer out
    jaxn_text (well w) t = WritesJaxn.text w (t.is w)

    pub json_formless : Judges tape store (Ok v) → {index : ℕ} → FirstFormless tape store (Some index) → (o : List ℕ)
        → WritesJson tape store o (Err (NoJsonForm index)) o
    json_formless (well w) f o = WritesJson.formless w (found (f.is w)) refl

    pub json_text : Judges tape store (Ok v) → FirstFormless tape store None → {o out : List ℕ} {answer : Result ℕ Refusal}
        → WritesText tape store o answer out → WritesJson tape store o answer out
    json_text (well w) f t = WritesJson.text w (not_found (f.is w)) (t.is w)
