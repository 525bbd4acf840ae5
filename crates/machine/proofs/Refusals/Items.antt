-- An item of the bare grammar, its checks left out, is taken whole; then it ends, or its check fails. Assumes nothing.
use Prim.Native.Nat.{ℕ, suc, ◌+◌, ◌-◌}
use mathlib.Core.Path.{◌≡◌, refl, subst}
use mathlib.Core.Bool.{Bool, false}
use mathlib.Core.Logic.{◌⊎◌, inl, inr}
use mathlib.Core.List.{List, [], ◌∷◌, ◌++◌, append-nil}
use native.Mathlib.Omega.{arith}
use lib.Dec.{ltb, leb, eqb}
use borrow.Author.Tests.{eq-eqb}
use Rattle.meaning.specs.declared.Number as N
use Rattle.meaning.specs.declared.Time as T
use Rattle.meaning.specs.declared.Refusal.{Refusal}
use Rattle.meaning.specs.declared.Refusal.TheVariants.{BadTime, BadNumber}
use Rattle.meaning.specs.Limits.{coefficient_limit, power_limit}
use Rattle.meaning.specs.Meaning.{Meaning}
use Rattle.grammar.specs.Numbers.{Number}
use Rattle.grammar.specs.Times.{TimeValue}
use Rattle.grammar.specs.Strings.{Quote, mark, Chars, Quoted, StringPart}
use Rattle.machine.specs.Scan.{Out, takes, stops, breaks}
use Rattle.machine.specs.Numeric as Nu
use Rattle.machine.specs.Strings as S
use Rattle.machine.specs.Strings.{Ctx, Bad, bad_now, scan, two, done, fine, spoilt, begin}
use Rattle.machine.proofs.Runs.{EndsItem, PartEnds, GoesTo, took_to, halts_to, value_goes, goes_weaker, steps_to}
use Rattle.machine.proofs.Numeric.Complete.{number_goes_to}
use Rattle.machine.proofs.Numeric.CompleteTime as Times
use Rattle.machine.proofs.Strings.Tests.{either}
use Rattle.machine.proofs.Strings.Forward.{part_goes, two_goes, start_step, clear}
use Rattle.machine.proofs.Refusals.Reason.{Other}
use Rattle.machine.proofs.Refusals.Chars.{CharsOf, chars_ctx, NotFirst, first_char, part_run}

-- the item ends here with a value that has P, or breaks with a refusal that has R
module _ {X M : Type 0} (P : M → Type 0) (R : Refusal → Type 0) where
  abbrev pub Outcome : Out X M → Type 0
  Outcome (takes s) = ⊥
  Outcome (stops v) = P v
  Outcome (breaks r) = R r

module _ {X M : Type 0} where
  pub weaker : {P P' : M → Type 0} {R R' : Refusal → Type 0} → ((v : M) → P v → P' v) → ((r : Refusal) → R r → R' r)
      → (o : Out X M) → Outcome P R o → Outcome P' R' o
  weaker f g (takes s) h = h
  weaker f g (stops v) h = f v h
  weaker f g (breaks r) h = g r h

  -- a value
  abbrev pub Stops : Out X M → Type 0
  Stops = Outcome (λ v. Unit {0}) (λ r. ⊥)

  -- a value, or a refusal but for 3
  abbrev pub Ended : Out X M → Type 0
  Ended = Outcome (λ v. Unit {0}) Other

-- ---- numbers: a number, or 6 at its first byte

abbrev pub IsNumber : Meaning → Type 0
IsNumber m = (n : N.Number) × (m ≡ Meaning.number n)

abbrev pub NumberOut : ℕ → Nu.Res → Type 0
NumberOut p = Outcome IsNumber (λ r. r ≡ BadNumber p)

pub settle_out : (q : ℕ) (g : Bool) (m up dn : ℕ) → NumberOut q (Nu.settle q g m up dn)
unfolding Nu.settle
settle_out q g m up dn =
    let c = (Nu.strip m m 0).0 in
    let u = (Nu.strip m m 0).1 + up in
    let P = NumberOut q in
    either P (eqb m 0) (_, refl)
    (either P (ltb c coefficient_limit)
    (either P (leb dn u) (either P (leb (u - dn) power_limit) (_, refl) refl) (either P (leb (dn - u) power_limit) (_, refl) refl)) refl)

pub number_out : {a : List ℕ} {n : N.Number} → Number false a n → (p : ℕ) → GoesTo Nu.scan (NumberOut p) EndsItem p Nu.begin a
number_out {n = n} x p =
    number_goes_to p x
    (record {
      words = (n, refl);
      decs = λ {g = g} {m = m} {up = up} {dn = dn} h. settle_out p g m up dn;
      hexs = λ {g = g} {v = v} l h. either (NumberOut p) (ltb v coefficient_limit) (settle_out p g v 0 0) refl;
    })

pub number_ends : {a : List ℕ} {n : N.Number} → Number false a n → (p : ℕ) → GoesTo Nu.scan Ended EndsItem p Nu.begin a
number_ends x p = goes_weaker Nu.scan (weaker (λ v h. tt) (λ r e. rw e (omega arith))) (number_out x p)

-- ---- time values: a time, or 5 at its first byte

abbrev pub IsTime : Meaning → Type 0
IsTime m = (t : T.Time) × (m ≡ Meaning.time t)

abbrev pub TimeOut : ℕ → Nu.Res → Type 0
TimeOut p = Outcome IsTime (λ r. r ≡ BadTime p)

pub time_out : {a : List ℕ} {t : T.Time} → TimeValue false a t → (p : ℕ) → GoesTo Nu.scan (TimeOut p) EndsItem p Nu.begin a
time_out {t = t} x p = Times.time_goes_to p x (λ ok e. either (TimeOut p) ok (t, refl) refl)

pub time_ends : {a : List ℕ} {t : T.Time} → TimeValue false a t → (p : ℕ) → GoesTo Nu.scan Ended EndsItem p Nu.begin a
time_ends x p = goes_weaker Nu.scan (weaker (λ v h. tt) (λ r e. rw e (omega arith))) (time_out x p)

-- ---- string parts

close_ends : (acc : List ℕ) (b : Bad) → Ended (S.close acc b)
close_ends acc fine = tt
close_ends acc (spoilt at) = omega arith

line_ends : {q : Quote} {a u : List ℕ} → CharsOf false q a u → (p : ℕ) → GoesTo scan Ended PartEnds p begin (mark q ∷ (a ++ (mark q ∷ [])))
unfolding scan
line_ends {q} {a} x p = go (first_char x)
  where
    c : Ctx
    c = chars_ctx x (suc p) (clear (mark q) [])

    go : (a ≡ []) ⊎ ((b : List ℕ) → NotFirst (mark q) (a ++ b)) → GoesTo scan Ended PartEnds p begin (mark q ∷ (a ++ (mark q ∷ [])))
    go (inl e) =
        rw e (took_to scan (took_to scan {s' = two (mark q)} (value_goes scan tt (two_goes q (suc (suc p)))) (rw (eq-eqb (mark q) (mark q) refl)))
        (start_step q p))
    go (inr f) =
        subst (GoesTo scan Ended PartEnds p begin) (append-nil (mark q ∷ (a ++ (mark q ∷ []))))
        (steps_to scan (part_run Chars.none x (f (mark q ∷ [])) p) (halts_to scan {s = done c} (λ b e. close_ends c.acc (bad_now c))))

pub part_ends : {a u : List ℕ} → StringPart false a u → (p : ℕ) → GoesTo scan Ended PartEnds p begin a
part_ends (StringPart.one_line (Quoted.quoted q x)) p = line_ends x p
part_ends (StringPart.multiline q x y) p = value_goes scan tt (part_goes (StringPart.multiline q x y) p)
part_ends (StringPart.trimmed q n x) p = value_goes scan tt (part_goes (StringPart.trimmed q n x) p)
