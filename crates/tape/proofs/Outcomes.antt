-- Two outcomes that a promise allows are equal; and what the calls answer of each other. Assumes nothing.
use mathlib.Core.Path.{◌≡◌, refl, sym, ap, ◌∙◌}
use mathlib.Core.List.{List}
use Rattle.std.proofs.Common.{Result, Ok}
use Prim.Native.Nat.{ℕ, ◌<◌}
use native.Mathlib.Omega.{arith}
use lib.ListN.{get_or}
use Rattle.rules.specs.Paper.{done}
use Rattle.meaning.specs.declared.Record.{Record}
use Rattle.meaning.specs.Tape.{records, records_of, WellFormed}
use Rattle.meaning.proofs.Look.{one_record, well_formed_record}
use Rattle.meaning.specs.declared.Refusal.{Refusal}
use Rattle.tape.specs.Between.Putting.{put_record}
use Rattle.tape.specs.Looking.{Looks, found, past_end, not_one}
use Rattle.tape.specs.Between.Judging.{Judges, well, ill}
use Rattle.tape.specs.Paper.{look_said}
use Rattle.tape.proofs.LookingLaws.{same_looked}

-- ---- one outcome

pub one_outcome_put_record : (tape : List ℕ) (index : ℕ) (r : Record) {a b : List ℕ} → a ≡ put_record tape index r → b ≡ put_record tape index r → a ≡ b
one_outcome_put_record tape index r p q = p ∙ sym q

pub one_outcome_look : {tape store : List ℕ} {index : ℕ} {a b : Result Record Refusal} → Looks tape store index a → Looks tape store index b → a ≡ b
one_outcome_look {tape} {store} {index} {a} {b} p q = same_looked a b (said p q)
  where
    said : Looks tape store index a → Looks tape store index b → look_said a ≡ look_said b
    said (found {r = r} p e) (found {r = s} q g) = e ∙ ap done (one_record tape store index r s p q) ∙ sym g
    said (found p e) (past_end h g) = absurd (omega (arith, p.within))
    said (found {r = r} p e) (not_one h n g) = absurd (n r p)
    said (past_end h e) (found q g) = absurd (omega (arith, q.within))
    said (past_end h e) (past_end k g) = e ∙ sym g
    said (past_end h e) (not_one k n g) = absurd (omega arith)
    said (not_one h n e) (found {r = s} q g) = absurd (n s q)
    said (not_one h n e) (past_end k g) = absurd (omega arith)
    said (not_one h n e) (not_one k m g) = e ∙ sym g

pub one_outcome_judge : {tape store : List ℕ} {a b : Result (Unit {0}) Refusal} → Judges tape store a → Judges tape store b → a ≡ b
one_outcome_judge (well p) (well q) = refl
one_outcome_judge (well p) (ill n) = absurd (n p)
one_outcome_judge (ill n) (well q) = absurd (n q)
one_outcome_judge (ill n) (ill m) = refl

-- ---- look at a well-formed tape: the records of its meaning

pub look_well_formed : {tape store : List ℕ} {k : ℕ} {a : Result Record Refusal} (w : WellFormed tape store) → k < records w.meaning → Looks tape store k a
    → a ≡ Ok (get_or (records_of w.meaning 0 0) k Record.Null)
look_well_formed {tape} {store} {k} w h l = one_outcome_look l (found (well_formed_record tape store w k h) refl)
