-- The walk over a part, by leaps and single bytes. Assumes nothing.
use Prim.Native.Nat.{ℕ, suc, ◌+◌, ◌≤◌, ◌<◌}
use mathlib.Core.Path.{◌≡◌, sym, ap, ◌∙◌, subst}
use mathlib.Core.Bool.{true}
use mathlib.Core.List.{List, []}
use native.Mathlib.Omega.{arith}
use native.Mathlib.Nat.{add-zero}
use lib.ListN.{length, drop, get_or}
use lib.Seq.{drop-cons, drop-length}
use Rattle.meaning.specs.Limits.{text_limit}
use Rattle.arriving.specs.declared.states.Here.{Here}
use Rattle.arriving.specs.Between.Steps.{Stand, next, walked}
use Rattle.arriving.specs.Between.Arriving.{sane_here}
use Rattle.arriving.specs.Between.Leaps.{Leaps, Stands}
use Rattle.arriving.proofs.StepsLaws.{next_sane}

-- from the part's first byte the check has come to h and ks at the place i
pub record Walks (part : List ℕ) (base : ℕ) (ks₀ : List ℕ) (h₀ : Here) (ks : List ℕ) (h : Here) (i : ℕ) : Type 0 where
  pub within : i ≤ length part
  pub sane : sane_here (base + i) h ≡ true
  pub rest : walked (h₀, ks₀) base part ≡ walked (h, ks) (base + i) (drop i part)

pub walks_none : (part : List ℕ) (base : ℕ) (ks : List ℕ) (h : Here) → sane_here base h ≡ true → Walks part base ks h ks h 0
walks_none part base ks h s = record { within = omega arith; sane = rw (add-zero base) s; rest = rw (add-zero base) }

walked_none : (x : Stand) (p : ℕ) (t : List ℕ) → t ≡ [] → walked x p t ≡ x
unfolding walked
walked_none x p t e = rw e

module _ (part : List ℕ) (base : ℕ) (ks₀ : List ℕ) (h₀ : Here) (ks : List ℕ) (h : Here) (i : ℕ) (w : Walks part base ks₀ h₀ ks h i)
    (short : base + length part ≤ text_limit) where
  pub walks_stand : Stands part i h
  walks_stand = record { base = base; short = short; within = w.within; sane = w.sane }

  -- the part has ended
  pub walks_all : length part ≤ i → (h, ks) ≡ walked (h₀, ks₀) base part
  walks_all l =
      let e : i ≡ length part = omega (arith, w.within) in
      sym (w.rest ∙ walked_none (h, ks) (base + i) (drop i part) (rw e (drop-length part)))

  module _ (h' : Here) (ks' : List ℕ) (at : ℕ) (l : Leaps part (h, ks) i (h', ks') at) where
    pub walks_leap : Walks part base ks₀ h₀ ks' h' at
    walks_leap = record {
      within = l.within;
      sane = (l.from base short).sane w.sane;
      rest = w.rest ∙ (l.from base short).same;
    }

-- one byte more
pub walks_step : (part : List ℕ) (base : ℕ) (ks₀ : List ℕ) (h₀ : Here) (ks : List ℕ) (h : Here) (i : ℕ) → Walks part base ks₀ h₀ ks h i → i < length part
    → (ks' : List ℕ) (h' : Here) → (h', ks') ≡ next (h, ks) (base + i) (get_or part i 0) → Walks part base ks₀ h₀ ks' h' (i + 1)
unfolding walked
walks_step part base ks₀ h₀ ks h i w l ks' h' e =
    let z : base + (i + 1) ≡ suc (base + i) = omega arith in
    let y : i + 1 ≡ suc i = omega arith in
    record {
      within = omega arith;
      sane = rw z (subst (λ (x : Stand). sane_here (suc (base + i)) x.0 ≡ true) (sym e) (next_sane (h, ks) (base + i) (get_or part i 0) w.sane));
      rest = w.rest ∙ ap (λ (t : List ℕ). walked (h, ks) (base + i) t) (drop-cons part i 0 l)
          ∙ rw (z, y) (ap (λ (x : Stand). walked x (suc (base + i)) (drop (suc i) part)) (sym e));
    }
