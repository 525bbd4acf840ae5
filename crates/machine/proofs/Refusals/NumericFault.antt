-- 5 and 6, from the machine to the grammar: a number or a time value that breaks but with 3 is one of the bare grammar only. Assumes nothing.
use Prim.Native.Nat.{ℕ, suc}
use mathlib.Core.Path.{◌≡◌, sym, ap, ◌∙◌, subst}
use mathlib.Core.Bool.{true, false}
use mathlib.Core.Logic.{inl, inr}
use mathlib.Core.List.{List, ◌∷◌, ◌++◌, append_assoc}
use lib.ListN.{length}
use Rattle.meaning.specs.declared.Number as N
use Rattle.meaning.specs.declared.Time as T
use Rattle.meaning.specs.declared.Refusal.{Refusal}
use Rattle.meaning.specs.Letters.{letters}
use Rattle.meaning.specs.Meaning.{Meaning}
use Rattle.grammar.specs.Numbers.{Number}
use Rattle.grammar.specs.Times.{TimeValue}
use Rattle.grammar.specs.Refused.{Numeric, TakesNone, value, Left, ItemFault}
use Rattle.machine.specs.Scan.{breaks}
use Rattle.machine.specs.Machine
use Rattle.machine.specs.Machine.{Frame}
use Rattle.machine.specs.Numeric.{St, Res, begin, scan}
use Rattle.machine.proofs.Runs.{GoesTo, Steps, adv, taken_once, value_goes, steps_back}
use Rattle.machine.proofs.Numeric.{NumericItem, NumericRest, numeric_is, Broke, numeric_broke, Taken}
use Rattle.machine.proofs.Numeric.Complete.{number_goes}
use Rattle.machine.proofs.Numeric.CompleteTime.{time_goes}
use Rattle.machine.proofs.Refusals.Reason.{Faulty, Reason}
use Rattle.machine.proofs.Refusals.Items.{Stops, number_ends, time_ends}
use Rattle.machine.proofs.Refusals.Untaken.{Takes, any_byte, after_space}
use Rattle.machine.proofs.Refusals.Bases.{val_left}
use Rattle.machine.proofs.Refusals.Confs.{ItemAt, Next}

-- a byte that some rule lets the item take is taken
goes_on_lem : {Q : Res → Type 0} {F : ℕ → Type 0} {p : ℕ} {s s' : St} {a : List ℕ} (b : ℕ) (y : List ℕ) → Steps scan p s a s'
    → GoesTo scan Q F p s (a ++ (b ∷ y))
    → Takes (scan (adv p a) s' b)
goes_on_lem b y Steps.stay (GoesTo.goes g f) = subst Takes (sym f) tt
goes_on_lem {Q = Q} {F = F} b y (Steps.eat {p = p} {a = a} x e) (GoesTo.goes g f) =
    goes_on_lem b y x (subst (λ (v : St). GoesTo scan Q F (suc p) v (a ++ (b ∷ y))) (taken_once scan (sym f ∙ e)) g)

ends_at : {a tail : List ℕ} {b : ℕ} → ((y : List ℕ) → Numeric (a ++ (b ∷ y)) → ⊥) → Next b tail → TakesNone a tail
ends_at f (Next.byte t) = TakesNone.byte f
ends_at f Next.end = TakesNone.over

-- the item, behind f, has come to s and breaks with r before the rest
module _ (f : List ℕ) (d : ℕ) (left : Left d value f) (s : St) (b : ℕ) (tail : List ℕ) (r : Refusal) where
  abbrev Any : Meaning → Type 0
  Any m = Unit {0}

  abbrev None : Refusal → Type 0
  None r = ⊥

  module _ {a : List ℕ} (x : Steps scan (length f) begin a s) (e : scan (adv (length f) a) s b ≡ breaks r) where
    not_taken : Takes (scan (adv (length f) a) s b) → ⊥
    not_taken t = subst Takes e t

    untaken : (y : List ℕ) → Numeric (a ++ (b ∷ y)) → ⊥
    untaken y (Numeric.number z) = not_taken (goes_on_lem b y x (number_ends z (length f)))
    untaken y (Numeric.time_value z) = not_taken (goes_on_lem b y x (time_ends z (length f)))

    no_number : (n : N.Number) → Number true a n → ⊥
    no_number n y = subst Stops e (any_byte Any None (value_goes scan tt (number_goes y (length f))) x b not_taken)

    no_time : (t : T.Time) → TimeValue true a t → ⊥
    no_time t y = subst Stops e (any_byte Any None (value_goes scan tt (time_goes y (length f))) x b not_taken)

  faults : {a : List ℕ} {m : Meaning} → Taken false a m → Steps scan (length f) begin a s → scan (adv (length f) a) s b ≡ breaks r → Next b tail
      → Faulty (f ++ (a ++ tail))
  faults (Taken.item (NumericItem.number y)) x e n = (_, ItemFault.number left y (no_number x e) (ends_at (untaken x e) n))
  faults (Taken.item (NumericItem.time_value y)) x e n = (_, ItemFault.time left y (no_time x e) (ends_at (untaken x e) n))
  -- a date and a space
  faults (Taken.trailed {a = c} y) x e n =
      let none : (t : T.Time) → TimeValue true c t → ⊥ = λ t z. subst Stops e
      (after_space Any None (value_goes scan tt (time_goes z (length f))) x b (not_taken x e)) in
      rw (append_assoc c (letters " ") tail) (_, ItemFault.time left (TimeValue.local_date y) none (TakesNone.space (ends_at (untaken x e) n)))

-- why a number or a time value breaks
pub numeric_breaks : (p d : ℕ) (k : List Frame) (s : St) (l tail : List ℕ) (b : ℕ) (r : Refusal) → Next b tail
    → ItemAt p k d (Machine.numeric s) l → scan p s b ≡ breaks r → Reason (l ++ tail) r
numeric_breaks p d k s l tail b r n h e = go (numeric_broke false p s b r e)
  where
    f : List ℕ
    f = h.front

    a : List ℕ
    a = h.body

    go : Broke false r (NumericRest false s) → Reason (l ++ tail) r
    go (inl x) = inl x
    go (inr (w, x)) =
        let y = faults f d (val_left k d f h.starts) s b tail r (steps_back scan (NumericRest false) (numeric_is false) h.steps x) h.steps
        (subst (λ (i : ℕ). scan i s b ≡ breaks r) (sym h.here) e) n in
        inr (subst Faulty (sym (ap (λ (t : List ℕ). t ++ tail) h.split ∙ append_assoc f a tail)) y)
