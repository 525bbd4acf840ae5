-- The machine refuses a text exactly as the grammar does: the same refusal of 1 to 7, at the same place. Assumes nothing.
use Prim.Native.Nat.{ℕ, ◌≤◌}
use mathlib.Core.Path.{◌≡◌, refl, sym, ap, ◌∙◌, subst}
use mathlib.Core.Logic.{◌↔◌, inl, inr}
use mathlib.Core.Bool.{Bool, true, false, cond}
use mathlib.Core.List.{List}
use native.Mathlib.Omega.{arith}
use lib.Dec.{leb}
use lib.ListN.{length}
use borrow.Author.Tests.{le-leb, lt-leb, leb-true, leb-false}
use Rattle.rules.specs.Rfc3629.{Octets, Judged, ill}
use Rattle.std.specs.Prelude.{Result}
use Rattle.std.specs.Prelude as Std
use Rattle.rules.specs.declared.IllFormed.{IllFormed}
use Rattle.rules.specs.Between.Decided.{judged}
use Rattle.rules.proofs.Decided.{judged_is, judged_done, done_judged}
use Rattle.rules.proofs.Outcomes.{one_outcome_utf8, utf8_fault}
use Rattle.meaning.specs.Limits.{text_limit}
use Rattle.meaning.specs.Meaning.{Meaning}
use Rattle.meaning.specs.declared.Refusal.{Refusal}
use Rattle.meaning.specs.declared.Refusal.TheVariants.{TextTooLong, NotGrammar}
use Rattle.grammar.specs.Values.{Loose}
use Rattle.grammar.specs.Refused.{Stuck, ItemFault, Refused, LooseRefused, too_long, not_utf8}
use Rattle.machine.specs.Machine.{Verdict, Ok, No, reading}
use Rattle.machine.specs.Verdict.{decoded, verdict}
use Rattle.machine.proofs.Whole.{complete}
use Rattle.machine.proofs.Refusals.Reason.{Other, Faulty, Reason}
use Rattle.machine.proofs.Refusals.Stuck.{stuck}
use Rattle.machine.proofs.Refusals.Once.{stuck_once, accepted}
use Rattle.machine.proofs.Refusals.Given.{given}
use Rattle.machine.proofs.Refusals.AtEnd.{reason}

-- ---- 3 to 7, of UTF-8

abbrev pub Refusals : Type 0
Refusals = (t : List ℕ) → Octets t → (r : Refusal) → (reading t ≡ No r) ↔ Refused t r

same_no : {r s : Refusal} → No r ≡ No s → r ≡ s
same_no e = cc

-- no fault is a 3
fault_other : {t : List ℕ} {r : Refusal} → ItemFault t r → Other r
fault_other (ItemFault.escape r x y z n) = omega arith
fault_other (ItemFault.time x y n h) = omega arith
fault_other (ItemFault.number x y n h) = omega arith
fault_other (ItemFault.depth r x y) = omega arith

module _ (t : List ℕ) (o : Octets t) where
  -- the fault is the one that the machine gives
  this_fault : (r : Refusal) → reading t ≡ No r → Faulty t → ItemFault t r
  this_fault r e (s, f) = subst (ItemFault t) (same_no (sym (given f) ∙ e)) f

  to : (r : Refusal) → reading t ≡ No r → Refused t r
  to r e = go (reason t o r e)
    where
      go : Reason t r → Refused t r
      go (inl (q, i)) =
          let e' = e ∙ ap No i in
          rw i (Refused.grammar (λ s f. fault_other (this_fault (NotGrammar q) e' (s, f)) refl) (stuck t q o e'))
      go (inr f) = Refused.fault (this_fault r e f)

  from_3 : (p : ℕ) → ((r : Refusal) → ItemFault t r → ⊥) → Stuck t p → (v : Verdict) → reading t ≡ v → reading t ≡ No (NotGrammar p)
  from_3 p n s (Ok m) e = absurd (accepted t m p o e s)
  from_3 p n s (No r) e = go (reason t o r e)
    where
      go : Reason t r → reading t ≡ No (NotGrammar p)
      go (inl (q, i)) = let f = e ∙ ap No i in f ∙ ap (λ (q : ℕ). No (NotGrammar q)) (stuck_once t q p (stuck t q o f) s)
      go (inr (s, f)) = absurd (n s f)

  from : {r : Refusal} → Refused t r → reading t ≡ No r
  from (Refused.fault f) = given f
  from (Refused.grammar {p = p} n s) = from_3 p n s (reading t) refl

pub refusals : Refusals
refusals t o r = (to t o r, λ x. from t o x)

pub one_refusal : {t : List ℕ} {r s : Refusal} → Octets t → Refused t r → Refused t s → r ≡ s
one_refusal {t} {r} {s} o x y = same_no (sym ((refusals t o r).1 x) ∙ (refusals t o s).1 y)

-- ---- 1 and 2 in front

no_not_ok : {r : Refusal} {m : Meaning} → Ok m ≡ No r → ⊥
no_not_ok e = let z : ◌≡◌ {A = ℕ} 0 1 = cc in omega arith

short_verdict : (t : List ℕ) (a : Result (Unit {0}) IllFormed) → length t ≤ text_limit → judged t ≡ a → verdict t ≡ decoded a t
unfolding verdict
short_verdict t a l e = rw (le-leb (length t) text_limit l, e)

from_verdict : (t : List ℕ) (r : Refusal) → verdict t ≡ No r → LooseRefused t r
unfolding verdict decoded
from_verdict t r e = by_length (leb (length t) text_limit) refl e
  where
    by_utf8 : length t ≤ text_limit → (a : Result (Unit {0}) IllFormed) → judged t ≡ a → decoded a t ≡ No r → LooseRefused t r
    by_utf8 l (Std.Ok v) f g = let o = judged_done f in LooseRefused.refused l o ((refusals t o r).0 g)
    by_utf8 l (Std.Err k) f g = subst (LooseRefused t) (same_no g) (not_utf8 l (utf8_fault (subst (Judged t) f (judged_is t))))

    by_length : (x : Bool) → leb (length t) text_limit ≡ x → cond x (decoded (judged t) t) (No TextTooLong) ≡ No r → LooseRefused t r
    by_length true f g = by_utf8 (leb-true _ _ f) (judged t) refl g
    by_length false f g = subst (LooseRefused t) (same_no g) (too_long (leb-false _ _ f))

to_verdict : (t : List ℕ) (r : Refusal) → LooseRefused t r → verdict t ≡ No r
unfolding verdict decoded
to_verdict t r (too_long h) = rw (lt-leb (length t) text_limit h)
to_verdict t r (not_utf8 {k = k} l f) = short_verdict t (Std.Err (record { place = k })) l (one_outcome_utf8 (judged_is t) (ill f refl))
to_verdict t r (LooseRefused.refused l o x) = short_verdict t (Std.Ok tt) l (done_judged o) ∙ (refusals t o r).1 x

pub loose_refusals : (t : List ℕ) (r : Refusal) → (verdict t ≡ No r) ↔ LooseRefused t r
loose_refusals t r = (from_verdict t r, to_verdict t r)

pub one_loose_refusal : {t : List ℕ} {r s : Refusal} → LooseRefused t r → LooseRefused t s → r ≡ s
one_loose_refusal {t} {r} {s} x y = same_no (sym (to_verdict t r x) ∙ to_verdict t s y)

-- a text that has a meaning is not refused
pub loose_not_refused : {t : List ℕ} {m : Meaning} {r : Refusal} → Loose true t m → LooseRefused t r → ⊥
loose_not_refused {t} {m} {r} x y = no_not_ok (sym (complete x) ∙ to_verdict t r y)
