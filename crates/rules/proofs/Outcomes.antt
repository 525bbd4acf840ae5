-- Two outcomes that a promise allows for one input are equal. Assumes nothing.
use mathlib.Core.Path.{◌≡◌, refl, sym, ap, ◌∙◌, subst}
use mathlib.Core.Logic.{⊎_elim}
use mathlib.Core.List.{List, ◌++◌, append_assoc}
use Prim.Native.Nat.{ℕ}
use native.Mathlib.Omega.{arith}
use lib.ListN.{length, length-append}
use Rattle.rules.specs.Rfc3629.{Octets, none, more, NoChar, Fault, Judged, done, ill}
use Rattle.rules.specs.Rfc3339
use Rattle.rules.specs.Rfc3339.{Date, Dated}
use Rattle.rules.specs.Paper as paper
use Rattle.rules.specs.Paper.{Said, refused, utf8_said, date_said, number_said, place_said}
use Rattle.rules.specs.Told.{Utf8Told, DateTold}
use Rattle.std.specs.declared.result.Result.{Result}
use Rattle.std.specs.declared.result.Result.TheVariants.{Ok, Err}
use Rattle.rules.specs.declared.IllFormed.{IllFormed}
use Rattle.rules.specs.declared.NoDate.{NoDate}
use Rattle.rules.proofs.Characters.{Within, cuts, after, begins}

-- UTF-8 goes on past no fault
past_fault : {mid : List ℕ} → Octets mid → (s rest : List ℕ) → NoChar s → s ≡ mid ++ rest → length mid ≡ 0
past_fault none s rest f e = refl
past_fault (more {c = c} {t = t} x r) s rest f e = absurd (f c (t ++ rest) x (e ∙ append_assoc c t rest))

-- one cut lies within the other: then they are one
same_place : {a r b q : List ℕ} → Octets a → NoChar r → Octets b → Within b q a r → length a ≡ length b
same_place {a} {r} {b} {q} oa f ob w =
    let m : Octets w.mid = after oa w.mid (subst Octets w.front ob) in
    omega (arith, past_fault m r q f w.back, simp length-append at (ap length w.front))

same_fault : {s : List ℕ} {j k : ℕ} → Fault s j → Fault s k → j ≡ k
same_fault f g =
    f.place
    ∙ ⊎_elim (λ w. same_place f.good f.bad g.good w) (λ w. sym (same_place g.good g.bad f.good w))
    (cuts f.before f.rest g.before g.rest (sym f.split ∙ g.split))
    ∙ sym g.place

pub no_fault : {s : List ℕ} {k : ℕ} → Octets s → Fault s k → ⊥
no_fault o f = begins (after f.good f.rest (subst Octets f.split o)) f.left f.bad

-- ---- what is said tells the answer

pub done_apart : {X : Type 0} {v : X} {n p : ℕ} → paper.done v ≡ refused n p → ⊥
done_apart e = let z : ◌≡◌ {A = ℕ} 0 1 = cc in omega arith

pub same_place_said : {X : Type 0} {n p m q : ℕ} → ◌≡◌ {A = Said X} (refused n p) (refused m q) → p ≡ q
same_place_said e = ap place_said e

pub same_utf8_answer : (a b : Result (Unit {0}) IllFormed) → utf8_said a ≡ utf8_said b → a ≡ b
same_utf8_answer (Ok u) (Ok v) e = refl
same_utf8_answer (Ok u) (Err k) e = absurd (done_apart e)
same_utf8_answer (Err j) (Ok v) e = absurd (done_apart (sym e))
same_utf8_answer (Err j) (Err k) e = ap (λ (p : ℕ). Err (record { place = p })) (same_place_said e)

pub same_date_answer : (a b : Result (Unit {0}) NoDate) → date_said a ≡ date_said b → a ≡ b
same_date_answer (Ok u) (Ok v) e = refl
same_date_answer (Ok u) (Err k) e = absurd (done_apart e)
same_date_answer (Err j) (Ok v) e = absurd (done_apart (sym e))
same_date_answer (Err j) (Err k) e = refl

-- ---- what an answer says of what was given

pub utf8_done : {s : List ℕ} {u : Unit {0}} → Judged s (Ok u) → Octets s
utf8_done (done o e) = o
utf8_done (ill f e) = absurd (done_apart e)

pub utf8_fault : {s : List ℕ} {e : IllFormed} → Judged s (Err e) → Fault s e.place
utf8_fault (done o e) = absurd (done_apart (sym e))
utf8_fault {s} (ill f e) = subst (Fault s) (sym (same_place_said e)) f

pub date_done_lem : {y m d : ℕ} {u : Unit {0}} → Dated y m d (Ok u) → Date y m d
date_done_lem (Rfc3339.done p e) = p
date_done_lem (Rfc3339.none f e) = absurd (done_apart e)

pub date_none : {y m d : ℕ} {e : NoDate} → Dated y m d (Err e) → Date y m d → ⊥
date_none (Rfc3339.done p e) = absurd (done_apart (sym e))
date_none (Rfc3339.none f e) = f

-- ---- one outcome

pub one_outcome_utf8 : {s : List ℕ} {a b : Result (Unit {0}) IllFormed} → Judged s a → Judged s b → a ≡ b
one_outcome_utf8 {s} {a} {b} p q = same_utf8_answer a b (said p q)
  where
    said : Judged s a → Judged s b → utf8_said a ≡ utf8_said b
    said (done p e) (done q g) = e ∙ sym g
    said (done p e) (ill g h) = absurd (no_fault p g)
    said (ill f e) (done q g) = absurd (no_fault q f)
    said (ill f e) (ill g h) = e ∙ ap (refused 2) (same_fault f g) ∙ sym h

pub one_outcome_date : {y m d : ℕ} {a b : Result (Unit {0}) NoDate} → Dated y m d a → Dated y m d b → a ≡ b
one_outcome_date {y} {m} {d} {a} {b} p q = same_date_answer a b (said p q)
  where
    said : Dated y m d a → Dated y m d b → date_said a ≡ date_said b
    said (Rfc3339.done p e) (Rfc3339.done q g) = e ∙ sym g
    said (Rfc3339.done p e) (Rfc3339.none g h) = absurd (g p)
    said (Rfc3339.none f e) (Rfc3339.done q g) = absurd (f q)
    said (Rfc3339.none f e) (Rfc3339.none g h) = e ∙ sym h

-- ---- the calls for C

pub one_outcome_utf8_told : {s : List ℕ} {n p m q : ℕ} → Utf8Told s n p → Utf8Told s m q → (n ≡ m) × (p ≡ q)
one_outcome_utf8_told t u =
    let e = ap utf8_said (one_outcome_utf8 t.judged u.judged) in
    (t.number_is ∙ ap number_said e ∙ sym u.number_is, t.place_is ∙ ap place_said e ∙ sym u.place_is)

pub one_outcome_date_told : {year month day n p m q : ℕ} → DateTold year month day n p → DateTold year month day m q → (n ≡ m) × (p ≡ q)
one_outcome_date_told t u =
    let e = ap date_said (one_outcome_date t.dated u.dated) in
    (t.number_is ∙ ap number_said e ∙ sym u.number_is, t.place_is ∙ ap place_said e ∙ sym u.place_is)
