-- Leaps compose; one byte is one; bytes that leave the check where it stands are. Assumes nothing.
use Prim.Native.Nat.{ℕ, zero, suc, ◌+◌, ◌*◌, ◌-◌, ◌≤◌, ◌<◌}
use mathlib.Core.Path.{◌≡◌, refl, sym, ap, ◌∙◌, subst}
use mathlib.Core.Bool.{Bool, true, false, ◌&&◌}
use mathlib.Core.List.{List}
use native.Mathlib.Omega.{arith}
use native.Mathlib.Numerals.{add-one}
use lib.Dec.{leb}
use lib.ListN.{length, drop, get_or}
use lib.Seq.{drop-cons}
use borrow.Author.Tests.{leb-true, le-leb}
use Rattle.meaning.specs.Limits.{depth_limit}
use Rattle.arriving.specs.declared.states.Due as DueOf
use Rattle.arriving.specs.declared.states.Due.TheVariants as Due
use Rattle.arriving.specs.declared.states.Mode as ModeOf
use Rattle.arriving.specs.declared.states.Mode.TheVariants as Mode
use Rattle.arriving.specs.declared.states.Here.{Here}
use Rattle.arriving.specs.declared.leaps.Run as RunOf
use Rattle.arriving.specs.declared.leaps.Spot.{Spot}
use Rattle.arriving.specs.Between.Steps.{Stand, here_of, next, walked}
use Rattle.arriving.specs.Between.Arriving.{sane_here, sane_mode}
use Rattle.arriving.specs.Between.Leaps.{Leaps, Skips, due_number, due_of, stand_of, spot_of, Placed, Stands, stays_in, RanTo}

-- ---- what is due, by its number and back

pub due_back : (u : DueOf.Due) → due_of (due_number u) ≡ u
due_back Due.Value = refl
due_back Due.Key = refl
due_back Due.StringPart = refl
due_back Due.KeyPart = refl
due_back Due.BinaryPart = refl
due_back Due.AfterValue = refl
due_back Due.AfterKey = refl
due_back Due.AfterString = refl
due_back Due.AfterKeyString = refl
due_back Due.AfterBinary = refl

due_told : (u : DueOf.Due) (n : ℕ) → n ≡ due_number u → due_of n ≡ u
due_told u n e = ap due_of e ∙ due_back u

pub spot_is : (p n : ℕ) (u : DueOf.Due) (d r w : ℕ) → n ≡ due_number u → record { at = p; due = n; depth = d; records = r; stored = w } ≡ spot_of p u d r w
spot_is p n u d r w e = λ i. record { at = p; due = e i; depth = d; records = r; stored = w }

-- ---- the bounds

pub record Within (n : ℕ) (h : Here) : Type 0 where
  pub deep : h.depth ≤ depth_limit
  pub records : h.records ≤ n
  pub stored : h.stored ≤ 300 * n
  pub mode : sane_mode n h.mode ≡ true

pub sane_within : (n : ℕ) (h : Here) → sane_here n h ≡ true → Within n h
unfolding sane_here
sane_within n h e = by (leb h.depth depth_limit) (leb h.records n) (leb h.stored (300 * n)) (sane_mode n h.mode) refl refl refl refl e
  where
    by : (x y z w : Bool) → leb h.depth depth_limit ≡ x → leb h.records n ≡ y → leb h.stored (300 * n) ≡ z → sane_mode n h.mode ≡ w
        → (x && (y && (z && w))) ≡ true → Within n h
    by true true true true a b c d q = record { deep = leb-true _ _ a; records = leb-true _ _ b; stored = leb-true _ _ c; mode = d }
    by true true true false a b c d q = absurd (let z : ◌≡◌ {A = ℕ} 0 1 = cc in omega arith)
    by true true false w a b c d q = absurd (let z : ◌≡◌ {A = ℕ} 0 1 = cc in omega arith)
    by true false z w a b c d q = absurd (let z : ◌≡◌ {A = ℕ} 0 1 = cc in omega arith)
    by false y z w a b c d q = absurd (let z : ◌≡◌ {A = ℕ} 0 1 = cc in omega arith)

pub within_sane : (n : ℕ) (h : Here) → Within n h → sane_here n h ≡ true
unfolding sane_here
within_sane n h i = simp (le-leb _ _ i.deep, le-leb _ _ i.records, le-leb _ _ i.stored, i.mode)

-- after one byte more
pub within_more : (n : ℕ) (h h' : Here) → Within n h → h'.depth ≤ depth_limit → h'.records ≤ h.records + 1 → h'.stored ≤ h.stored + 300
    → sane_mode (n + 1) h'.mode ≡ true → Within (n + 1) h'
within_more n h h' i a b c d = record { deep = a; records = omega (arith, i.records); stored = omega (arith, i.stored); mode = d }

-- ---- leaps compose

pub leaps_none : (part : List ℕ) (x : Stand) (at : ℕ) → at ≤ length part → Leaps part x at x at
leaps_none part x at h = record {
  behind = omega arith;
  within = h;
  from = λ base s. record { same = refl; behind = omega arith; within = h; sane = λ e. e };
}

pub leaps_then : {part : List ℕ} {x y z : Stand} {at to end : ℕ} → Leaps part x at y to → Leaps part y to z end → Leaps part x at z end
leaps_then a b = record {
  behind = omega (arith, a.behind, b.behind);
  within = b.within;
  from = λ base s. record {
    same = (a.from base s).same ∙ (b.from base s).same;
    behind = omega (arith, a.behind, b.behind);
    within = b.within;
    sane = λ e. (b.from base s).sane ((a.from base s).sane e);
  };
}

-- ---- one byte

pub leaps_step : (part : List ℕ) (x : Stand) (at : ℕ) (y : Stand) (to : ℕ) → at < length part → to ≡ at + 1
    → ((p : ℕ) → next x p (get_or part at 0) ≡ y) → ((n : ℕ) → Within n x.0 → Within (n + 1) y.0) → Leaps part x at y to
unfolding walked
leaps_step part x at y to h e f w =
    rw e (record {
      behind = omega arith;
      within = omega arith;
      from = λ base s. record {
        same = ap (λ (t : List ℕ). walked x (base + at) t) (drop-cons part at 0 h)
            ∙ ap (λ (k : Stand). walked k (suc (base + at)) (drop (suc at) part)) (f (base + at))
            ∙ (let z : suc (base + at) ≡ base + (at + 1) = omega arith in rw (z, add-one at));
        behind = omega arith;
        within = omega arith;
        sane = λ q. (let z : base + at + 1 ≡ base + (at + 1) = omega arith in
            subst (λ (n : ℕ). sane_here n y.0 ≡ true) z (within_sane (base + at + 1) y.0 (w (base + at) (sane_within (base + at) x.0 q))));
      };
    })

-- ---- bytes that change nothing, whatever they are

pub stay_on : (part : List ℕ) (x : Stand) → ((p b : ℕ) → next x p b ≡ x) → ((n : ℕ) → Within n x.0 → Within (n + 1) x.0) → (k at to : ℕ) → at + k ≡ to
    → to ≤ length part → Leaps part x at x to
stay_on part x f w zero at to e l =
    let z : at ≡ to = omega arith in
    subst (λ (n : ℕ). Leaps part x at x n) z (leaps_none part x at (omega arith))
stay_on part x f w (suc k) at to e l =
    leaps_then (leaps_step part x at x (at + 1) (omega arith) refl (λ p. f p (get_or part at 0)) w) (stay_on part x f w k (at + 1) to (omega arith) l)

-- ---- runs

module _ (part : List ℕ) (run : RunOf.Run) (f : ℕ → Stand)
    (on : (w p b : ℕ) → stays_in run b ≡ true → next (f w) p b ≡ f (w + 1))
    (more : (w n : ℕ) → Within n (f w).0 → Within (n + 1) (f (w + 1)).0) where
  ran_on : (k w at to : ℕ) → at + k ≡ to → RanTo part at run to → Leaps part (f w) at (f (w + k)) to
  ran_on zero w at to e r =
      let z : at ≡ to = omega arith in
      let y : w + 0 ≡ w = omega arith in
      subst (λ (n : ℕ). Leaps part (f w) at (f (w + 0)) n) z (rw y (leaps_none part (f w) at (omega (arith, r.within))))
  ran_on (suc k) w at to e r =
      let l : at < to = omega arith in
      let y : w + suc k ≡ w + 1 + k = omega arith in
      rw y (leaps_then
      (leaps_step part (f w) at (f (w + 1)) (at + 1) (omega (arith, r.within)) refl (λ p. on w p (get_or part at 0) (r.each at (omega arith) l)) (more w))
      (ran_on k (w + 1) (at + 1) to (omega arith) (record {
        behind = omega arith;
        within = r.within;
        each = λ i a b. r.each i (omega arith) b;
      })))

  pub run_leaps : (w at to : ℕ) → RanTo part at run to → Leaps part (f w) at (f (w + (to - at))) to
  run_leaps w at to r = ran_on (to - at) w at to (omega (arith, r.behind)) r

-- ---- the loop

-- a spot that a leap has reached in a part that may stand in a text
pub skim_placed : (part : List ℕ) (x y : Spot) (ks ls : List ℕ) → Stands part x.at (stand_of x ks).0 → Skips part x ks y ls → y.at < length part
    → Placed part y
skim_placed part x y ks ls s h l =
    let i = sane_within _ _ ((h.from s.base s.short).sane s.sane) in
    let z = s.short in
    record {
      within = l;
      short = omega arith;
      room = record { at = omega arith; deep = i.deep; records = omega (arith, i.records); stored = omega (arith, i.stored) };
    }

-- ---- a state between items

pub leaps_at : (part : List ℕ) (h : Here) (ks : List ℕ) (at n : ℕ) (x : Spot) (u : DueOf.Due) (ls : List ℕ) → h.mode ≡ Mode.At → n ≡ due_number h.due
    → u ≡ due_of x.due → Leaps part (here_of Mode.At (due_of n) h.depth h.records h.stored, ks) at (stand_of x ls) x.at
    → Leaps part (h, ks) at (here_of Mode.At u x.depth x.records x.stored, ls) x.at
leaps_at part h ks at n x u ls m e f l =
    subst (λ (u' : DueOf.Due). Leaps part (h, ks) at (here_of Mode.At u' x.depth x.records x.stored, ls) x.at) (sym f)
    (subst (λ (m' : ModeOf.Mode). Leaps part (here_of m' h.due h.depth h.records h.stored, ks) at (stand_of x ls) x.at) (sym m)
    (subst (λ (u' : DueOf.Due). Leaps part (here_of Mode.At u' h.depth h.records h.stored, ks) at (stand_of x ls) x.at)
    (due_told h.due n e) l))
