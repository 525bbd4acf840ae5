-- What each call does, by the open objects. Assumes nothing.
use mathlib.Core.Path.{◌≡◌, refl, sym, ap, ap₂, ◌∙◌}
use mathlib.Core.Bool.{Bool, true, false, cond}
use mathlib.Core.List.{List, [], ◌∷◌, ◌++◌}
use Prim.Native.Nat.{ℕ, suc, ◌+◌, ◌-◌, ◌<◌, ◌≤◌}
use native.Mathlib.Omega.{arith}
use lib.Dec.{eqb}
use lib.ListN.{length}
use borrow.Author.Tests.{eqb-false, eq-eqb, ne_eqb}
use Rattle.once.specs.Table.{Slot}
use Rattle.once.specs.Groups.{Group, flat, start, deeper, without, upper, shallower, own, outer, add, need, taken, noticed, At}
use Rattle.once.specs.Objects.{grouped, state_of}
use Rattle.once.proofs.GroupsTakingLaws.{taken_in_lem, taken_full, taken_not}

one_more : (n : ℕ) → n + 1 ≡ suc n
one_more n = omega arith

-- the groups of the objects around are of lower levels
outer_apart : (ts : List (List Slot)) (d : ℕ) → length ts < d → own d (grouped ts) ≡ false
unfolding grouped own
outer_apart [] d l = refl
outer_apart ([] ∷ ts) d l = outer_apart ts d (omega arith)
outer_apart ((x ∷ t) ∷ ts) d l = ne_eqb (suc (length ts)) d (λ e. omega arith)

own_here : (x : Slot) (t : List Slot) (ts : List (List Slot)) → own (suc (length ts)) (grouped ((x ∷ t) ∷ ts)) ≡ true
unfolding grouped own
own_here x t ts = eq-eqb (suc (length ts)) (suc (length ts)) refl

-- ---- begin, open, close

pub begin_is : (from : ℕ) → start from ≡ state_of [] from 0 0
unfolding start state_of grouped
begin_is from = refl

pub open_is : (ts : List (List Slot)) (f t p : ℕ) → deeper (state_of ts f t p) ≡ state_of ([] ∷ ts) f t p
unfolding deeper state_of grouped
open_is ts f t p = ap (λ (d : ℕ). record { groups = grouped ts; depth = d; from = f; twice = t; stop = p }) (one_more (length ts))

left_is : (k : List Slot) (ts : List (List Slot)) → cond (own (suc (length ts)) (grouped (k ∷ ts))) (outer (grouped (k ∷ ts))) (grouped (k ∷ ts)) ≡ grouped ts
unfolding grouped outer
left_is [] ts = rw (outer_apart ts (suc (length ts)) (omega arith))
left_is (x ∷ k) ts = ap (λ (b : Bool). cond b (outer (grouped ((x ∷ k) ∷ ts))) (grouped ((x ∷ k) ∷ ts))) (own_here x k ts)

pub close_is : (k : List Slot) (ts : List (List Slot)) (f t p : ℕ) → shallower (state_of (k ∷ ts) f t p) ≡ state_of ts f t p
unfolding upper without state_of
close_is k ts f t p = ap₂ (λ (g : List Group) (d : ℕ). record { groups = g; depth = d; from = f; twice = t; stop = p }) (left_is k ts)
    (let e : suc (length ts) - 1 ≡ length ts = omega arith in e)

-- ---- a further key

own_unfold : (g : Group) (gs : List Group) (d : ℕ) → eqb g.level d ≡ own d (g ∷ gs)
unfolding own
own_unfold g gs d = refl

add_is : (x : Slot) (k : List Slot) (ts : List (List Slot)) → add (suc (length ts)) x (grouped (k ∷ ts)) ≡ grouped ((x ∷ k) ∷ ts)
unfolding grouped add
add_is x [] ts = fresh x (grouped ts) (suc (length ts)) (outer_apart ts (suc (length ts)) (omega arith))
  where
    fresh : (x : Slot) (gs : List Group) (d : ℕ) → own d gs ≡ false → add d x gs ≡ record { level = d; keys = x ∷ [] } ∷ gs
    fresh x [] d e = refl
    fresh x (g ∷ gs) d e = rw (own_cons g gs d e)
      where
        own_cons : (g : Group) (gs : List Group) (d : ℕ) → own d (g ∷ gs) ≡ false → eqb g.level d ≡ false
        own_cons g gs d e = own_unfold g gs d ∙ e
add_is x (y ∷ k) ts = rw (eq-eqb (suc (length ts)) (suc (length ts)) refl)

pub take_is : (n : ℕ) (x : Slot) (k : List Slot) (ts : List (List Slot)) (f t : ℕ)
    → length (flat (grouped (k ∷ ts))) + need (suc (length ts)) (grouped (k ∷ ts)) ≤ n → taken n x (state_of (k ∷ ts) f t 0) ≡ state_of ((x ∷ k) ∷ ts) f t 0
unfolding state_of
take_is n x k ts f t l = sym (taken_in_lem n x (state_of (k ∷ ts) f t 0) refl l) ∙ ap
    (λ (g : List Group). record { groups = g; depth = suc (length ts); from = f; twice = t; stop = 0 }) (add_is x k ts)

pub stop_is : (n : ℕ) (x : Slot) (k : List Slot) (ts : List (List Slot)) (f t : ℕ)
    → n < length (flat (grouped (k ∷ ts))) + need (suc (length ts)) (grouped (k ∷ ts)) → taken n x (state_of (k ∷ ts) f t 0) ≡ state_of (k ∷ ts) f t x.0
unfolding state_of
stop_is n x k ts f t l = sym (taken_full n x (state_of (k ∷ ts) f t 0) refl l)

pub after_is : (n : ℕ) (x : Slot) (ts : List (List Slot)) (f t p : ℕ) → (p ≡ 0 → ⊥) → taken n x (state_of ts f t p) ≡ state_of ts f t p
unfolding state_of
after_is n x ts f t p z = sym (taken_not n x (state_of ts f t p) z)

pub notice_is : (q : ℕ) (ts : List (List Slot)) (f t p : ℕ) → noticed q (state_of ts f t p) ≡ state_of ts f (cond (eqb t 0) q t) p
unfolding noticed state_of
notice_is q ts f t p = refl

-- ---- the search is over the present object's keys

no_at : (ts : List (List Slot)) (f t p j : ℕ) (x : Slot) → At (state_of ([] ∷ ts) f t p) j x → ⊥
unfolding state_of grouped
no_at ts f t p j x (At.key {g = g} {gs = gs} a b e l k) = eqb-false g.level (suc (length ts))
    (own_unfold g gs (suc (length ts)) ∙ sym (ap (own (suc (length ts))) e) ∙ outer_apart ts (suc (length ts)) (omega arith)) l

keys_of : {g h : Group} {gs hs : List Group} → g ∷ gs ≡ h ∷ hs → g ≡ h
keys_of e = cc

at_own : (z : Slot) (k : List Slot) (ts : List (List Slot)) (f t p j : ℕ) (x : Slot) → At (state_of ((z ∷ k) ∷ ts) f t p) j x → (a : List Slot)
    × ((b : List Slot) × (z ∷ k ≡ a ++ (x ∷ b)))
unfolding state_of grouped
at_own z k ts f t p j x (At.key {g = g} {gs = gs} a b e l w) = (a, (b, ap (λ (q : Group). q.keys) (keys_of e) ∙ w))

pub at_key_lem : (k : List Slot) (ts : List (List Slot)) (f t p j : ℕ) (x : Slot) → At (state_of (k ∷ ts) f t p) j x → (a : List Slot)
    × ((b : List Slot) × (k ≡ a ++ (x ∷ b)))
at_key_lem k ts f t p j x h = go k h
  where
    go : (k : List Slot) → At (state_of (k ∷ ts) f t p) j x → (a : List Slot) × ((b : List Slot) × (k ≡ a ++ (x ∷ b)))
    go [] y = absurd (no_at ts f t p j x y)
    go (z ∷ k) y = at_own z k ts f t p j x y

-- ---- two slots are enough to go on: while no key is in the table, the next one fits

abbrev pub Bare : List (List Slot) → Type 0
Bare [] = Unit {0}
Bare (k ∷ ts) = (k ≡ []) × Bare ts

bare_none : (ts : List (List Slot)) → Bare ts → grouped ts ≡ []
unfolding grouped
bare_none [] h = refl
bare_none ([] ∷ ts) h = bare_none ts h.1
bare_none ((x ∷ k) ∷ ts) h = absurd (let e = h.0 in let z : ◌≡◌ {A = ℕ} 0 1 = cc in omega arith)

fits_none : (n d : ℕ) (gs : List Group) → gs ≡ [] → 2 ≤ n → length (flat gs) + need d gs ≤ n
unfolding flat need own
fits_none n d gs e l = rw e (omega arith)

pub first_fits : (n : ℕ) (ts : List (List Slot)) → Bare ts → 2 ≤ n → length (flat (grouped ts)) + need (length ts) (grouped ts) ≤ n
first_fits n ts h l = fits_none n (length ts) (grouped ts) (bare_none ts h) l
