-- The rules of a record's own fields, as their tests say them. Assumes nothing.
use mathlib.Core.Path.{◌≡◌, refl, sym, ap, ◌∙◌, subst}
use mathlib.Core.Bool.{Bool, false}
use mathlib.Core.List.{List}
use Rattle.std.proofs.Common.{Result, Ok, Err, is_ok}
use Prim.Native.Nat.{ℕ, ◌+◌, ◌-◌, ◌%◌, ◌≤◌, ◌<◌}
use native.Mathlib.Omega.{arith}
use lib.Dec.{eqb, leb}
use lib.IntN.{ℤ, pos, nat_abs}
use lib.ListN.{length, take, drop}
use mir.Syntax.{Width, w32}
use mir.Val.{SFits, of_z, to_z}
use mir.ValLaws.{to_z-of_z}
use borrow.Author.Tests.{leb-true, leb-false, eqb-true, eqb-false}
use Rattle.rules.specs.Rfc3629.{Octets, Judged as Utf8Judged}
use Rattle.rules.specs.Rfc3339.{Date as Calendar, Dated}
use Rattle.rules.specs.declared.IllFormed.{IllFormed}
use Rattle.rules.specs.declared.NoDate.{NoDate}
use Rattle.rules.proofs.Outcomes.{utf8_done, utf8_fault, no_fault, date_done_lem, date_none}
use Rattle.meaning.specs.Limits.{coefficient_limit, power_limit}
use Rattle.meaning.specs.Good.{GoodFinite, nought, nonzero}
use Rattle.meaning.specs.Look.{Inside, Utf8Inside}
use Rattle.meaning.proofs.Fitting.{finite_power}
use Rattle.rules.specs.Between.Tests.{Decides, holds, fails}
use Rattle.rules.proofs.TestsLaws.{by_test, decides_as, at_most_test}

-- ---- numbers

-- a size that was taken of the bits
pub size_test : (w : Width) (z : ℤ) (n : ℕ) {a : ℕ} → SFits w z → a ≡ nat_abs (to_z w (of_z w z)) → Decides (nat_abs z ≤ n) (leb a n)
size_test w z n {a} f e =
    let q : a ≡ nat_abs z = e ∙ ap nat_abs (to_z-of_z w z f) in
    subst (λ (x : ℕ). Decides (x ≤ n) (leb a n)) q (at_most_test a n)

zero_power : {c : ℕ} {p : ℤ} → GoodFinite c p → c ≡ 0 → p ≡ pos 0
zero_power nought e = refl
zero_power (nonzero b n r) e = absurd (n (omega arith))

ends_in_zero : {c : ℕ} {p : ℤ} → GoodFinite c p → c % 10 ≡ 0 → c ≡ 0
ends_in_zero nought e = refl
ends_in_zero (nonzero b n r) e = absurd (n e)

pub zero_good : (c : ℕ) (p : ℤ) → c ≡ 0 → SFits w32 p → Decides (GoodFinite c p) (eqb (of_z w32 p) 0)
zero_good c p e f =
    by_test (eqb (of_z w32 p) 0)
    (λ t. let q : p ≡ pos 0 = sym (to_z-of_z w32 p f) ∙ ap (to_z w32) (eqb-true (of_z w32 p) 0 t) in rw (e, q) nought)
    (λ t g. eqb-false (of_z w32 p) 0 t (ap (of_z w32) (zero_power g e)))

pub ends_in_zero_bad : (c : ℕ) (p : ℤ) → (c ≡ 0 → ⊥) → c % 10 ≡ 0 → Decides (GoodFinite c p) false
ends_in_zero_bad c p n e = fails (λ g. n (ends_in_zero g e))

pub nonzero_good : (c : ℕ) (p : ℤ) {b : Bool} → c < coefficient_limit → (c % 10 ≡ 0 → ⊥) → Decides (nat_abs p ≤ power_limit) b → Decides (GoodFinite c p) b
nonzero_good c p l n d = decides_as (λ h. nonzero l n h) finite_power d

-- ---- dates

pub is_date_lem : {y m d : ℕ} {a : Result (Unit {0}) NoDate} → Dated y m d a → Decides (Calendar y m d) (is_ok a)
is_date_lem {a = Ok v} x = holds (date_done_lem x)
is_date_lem {a = Err e} x = fails (date_none x)

-- ---- strings

-- the part from start to start + size has size bytes
pub part_of : (size start : ℕ) (store : List ℕ) → take (start + size - start) (drop start store) ≡ take size (drop start store)
part_of size start store = let e : start + size - start ≡ size = omega arith in ap (λ (n : ℕ). take n (drop start store)) e

module _ (size start : ℕ) (store : List ℕ) where
  pub past_store : length store < start → Decides (Inside size start store) (leb start (length store))
  past_store h = by_test (leb start (length store)) (λ e. absurd (omega (arith, leb-true start (length store) e))) (λ e p. omega arith)

  pub inside_test : start ≤ length store → Decides (Inside size start store) (leb size (length store - start))
  inside_test h =
      by_test (leb size (length store - start)) (λ e. omega (arith, leb-true size (length store - start) e))
      (λ e p. omega (arith, leb-false size (length store - start) e))

  pub is_utf8 : (s : List ℕ) (a : Result (Unit {0}) IllFormed) → s ≡ take size (drop start store) → Utf8Judged s a → Inside size start store
      → Decides (Utf8Inside size start store) (is_ok a)
  is_utf8 s (Ok v) is j i = holds (i, subst Octets is (utf8_done j))
  is_utf8 s (Err e) is j i = fails (λ u. no_fault (subst Octets (sym is) u.1) (utf8_fault j))
