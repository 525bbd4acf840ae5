-- The record at an index, by its four numbers. Assumes nothing.
use mathlib.Core.Path.{◌≡◌, refl, sym, ap, ◌∙◌, subst}
use mathlib.Core.Bool.{true, false}
use mathlib.Core.List.{List, ◌++◌}
use Rattle.std.proofs.Common.{Option, Some, None, Result, Ok, Err}
use Prim.Native.Nat.{ℕ, ◌+◌, ◌*◌, ◌<◌}
use native.Mathlib.Omega.{arith}
use lib.ListN.{get_or, take, drop, take-append-drop}
use lib.Seq.{take_at}
use Rattle.meaning.specs.declared.Record.{Record}
use Rattle.meaning.specs.declared.Refusal.{Refusal}
use Rattle.meaning.specs.Tape.{record_bytes}
use Rattle.meaning.specs.Between.Words.{Fit}
use Rattle.meaning.specs.Look.{OwnFields, whole_records, RecordAt}
use Rattle.rules.proofs.Outcomes.{done_apart}
use Rattle.meaning.proofs.Paper.{same_refusal}
use Rattle.meaning.proofs.Bytes.{get_lt}
use Rattle.meaning.proofs.Records.{record_length, Stands, stands, stands_drop}
use Rattle.tape.specs.declared.Words.{Words}
use Rattle.tape.specs.Between.Shapes.{Worded, Loaded, only_record, Shaped, shaped, junk, words_at}
use Rattle.rules.specs.Between.Tests.{Decides}
use Rattle.tape.specs.Paper.{look_said}
use Rattle.tape.specs.Looking.{Looks, found, past_end, not_one}
use Rattle.rules.proofs.TestsLaws.{held, failed}
use Rattle.tape.proofs.ShapesLaws.{only}

-- ---- four numbers that were loaded

pub loaded : (s : List ℕ) (p : ℕ) → ((j : ℕ) → get_or s j 0 < 256) → Loaded (words_at s p)
loaded s p h = record {
  mark_small = omega (arith, get_lt 2 s p h);
  low_small = omega (arith, get_lt 2 s (p + 2) h);
  mid_small = omega (arith, get_lt 4 s (p + 4) h);
  high_small = omega (arith, get_lt 8 s (p + 8) h);
}

pub loaded_as : {w : Words} (s : List ℕ) (p : ℕ) → w ≡ words_at s p → ((j : ℕ) → get_or s j 0 < 256) → Loaded w
loaded_as s p e h = subst Loaded (sym e) (loaded s p h)

pub shaped_as : {w v : Words} {x : Option Record} → w ≡ v → Shaped w x → Shaped v x
shaped_as {x = x} e h = subst (λ (y : Words). Shaped y x) e h

shape_record : {w : Words} {r : Record} → Shaped w (Some r) → Fit r × Worded r w
shape_record (shaped f e) = (f, e)

shape_none : {w : Words} → Shaped w None → (r : Record) → Fit r → Worded r w → ⊥
shape_none (junk n) = n

-- ---- the record at an index

module _ (tape store : List ℕ) (index : ℕ) where
  -- it has the numbers that stand there
  pub record_numbers : (r : Record) → RecordAt tape store index r → Worded r (words_at tape (index * 16))
  record_numbers r a =
      let p = index * 16 in
      let h = a.within in
      let e : drop p tape ≡ record_bytes r ++ drop 16 (drop p tape) = sym (take-append-drop 16 (drop p tape))
      ∙ ap (λ (l : List ℕ). l ++ drop 16 (drop p tape)) a.lies in
      let s = stands tape (drop 16 (drop p tape)) p r a.fits (omega arith) e in
      record { mark_is = s.mark_at; low_is = s.low_at; mid_is = s.mid_at; high_is = s.high_at }

  -- so it is the only one that may stand there
  pub record_only : (r : Record) → RecordAt tape store index r → only_record (words_at tape (index * 16)) ≡ r
  record_only r a = only (words_at tape (index * 16)) r a.fits (record_numbers r a)

  module _ (bytes : (j : ℕ) → get_or tape j 0 < 256) (within : index < whole_records tape) where
    pub record_there : (r : Record) → Fit r → Worded r (words_at tape (index * 16)) → OwnFields r index (whole_records tape) store → RecordAt tape store index r
    record_there r f e o =
        let p = index * 16 in
        let s : Stands tape p r = record { mark_at = e.mark_is; low_at = e.low_is; mid_at = e.mid_is; high_at = e.high_is } in
        record {
          within = within;
          lies = ap (take 16) (stands_drop tape p r f bytes (omega arith) s) ∙ take_at (record_bytes r) (drop (p + 16) tape) 16 (record_length r);
          fits = f;
          own = o;
        }

    pub look_none : Shaped (words_at tape (index * 16)) None → Looks tape store index (Err (Refusal.NotWellFormed index))
    look_none d = not_one within (λ r a. shape_none d r a.fits (record_numbers r a)) refl

    module _ {r : Record} (d : Shaped (words_at tape (index * 16)) (Some r)) where
      pub look_found : Decides (OwnFields r index (whole_records tape) store) true → Looks tape store index (Ok r)
      look_found own = let q = shape_record d in found (record_there r q.0 q.1 (held own refl)) refl

      pub look_fault : Decides (OwnFields r index (whole_records tape) store) false → Looks tape store index (Err (Refusal.NotWellFormed index))
      look_fault own =
          let q = shape_record d in
          let w = words_at tape (index * 16) in
          not_one within
          (λ x a.
          let z : x ≡ r = sym (record_only x a) ∙ only w r q.0 q.1 in
          failed own refl (subst (λ (y : Record). OwnFields y index (whole_records tape) store) z a.own))
          refl

-- ---- what `look` answered

-- what is said tells the answer
pub same_looked : (a b : Result Record Refusal) → look_said a ≡ look_said b → a ≡ b
same_looked (Ok r) (Ok s) e = cc
same_looked (Ok r) (Err w) e = absurd (done_apart e)
same_looked (Err v) (Ok s) e = absurd (done_apart (sym e))
same_looked (Err v) (Err w) e = ap Err (same_refusal v w e)

pub looked_record : {tape store : List ℕ} {index : ℕ} {r : Record} → Looks tape store index (Ok r) → RecordAt tape store index r
looked_record {tape} {store} {index} {r} (found {r = x} g s) = let z : x ≡ r = cc in subst (RecordAt tape store index) z g
looked_record (past_end h s) = absurd (done_apart s)
looked_record (not_one h n s) = absurd (done_apart s)

pub refused : {tape store : List ℕ} {index : ℕ} {why : Refusal} → Looks tape store index (Err why) → (r : Record) → RecordAt tape store index r → ⊥
refused (found g s) r t = done_apart (sym s)
refused (past_end h s) r t = omega (arith, t.within)
refused (not_one h n s) r t = n r t
