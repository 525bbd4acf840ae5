-- A further key, and an empty table. Assumes nothing.
use mathlib.Core.Path.{◌≡◌, refl, sym, ap, ap₂, ◌∙◌, subst}
use mathlib.Core.Bool.{Bool, true, false, cond}
use mathlib.Core.List.{List, [], ◌∷◌}
use Prim.Native.Nat.{ℕ, zero, suc, ◌+◌, ◌*◌, ◌-◌, ◌/◌, ◌<◌, ◌≤◌, ◌^◌}
use native.Mathlib.Omega.{arith}
use lib.ListN.{length, get_or, set, length-set, replicate, length-replicate}
use lib.Seq.{get_or-set_same}
use borrow.Author.Tests.{le-leb, eq-eqb, ne_eqb, lt-leb}
use Rattle.once.specs.Table.{Slot, room, newest_of, Table, Pushes, Roomy}
use Rattle.once.specs.Groups.{Group, flat, base_of, State, Holds, Sane, Does, Begun, start, Owns, own, add, need, taken_in, stopped_at, taken}
use Rattle.once.specs.Groups.{noticed, marked, naming, Crowds, Names}
use mathlib.Core.Logic.{inl, inr}
use Rattle.once.proofs.TableLaws.{past}
use Rattle.once.proofs.GroupsLaws.{then_does, header_table, long, held}

-- ---- the groups with one key more

add_own : (d : ℕ) (x : Slot) (gs : List Group) → own d gs ≡ true → (flat (add d x gs) ≡ x ∷ flat gs) × (base_of (add d x gs) ≡ base_of gs)
unfolding own add flat base_of
add_own d x [] e = absurd (let z : ◌≡◌ {A = ℕ} 0 1 = cc in omega arith)
add_own d x (g ∷ gs) e = (rw e, rw e)

add_new : (d : ℕ) (x : Slot) (gs : List Group) → own d gs ≡ false → (flat (add d x gs) ≡ x ∷ ((base_of gs, d) ∷ flat gs))
    × (base_of (add d x gs) ≡ suc (length (flat gs)))
unfolding own add flat base_of
add_new d x [] e = (refl, refl)
add_new d x (g ∷ gs) e = (rw e, rw e)

need_own : (d : ℕ) (gs : List Group) → own d gs ≡ true → need d gs ≡ 1
unfolding need
need_own d gs e = rw e

need_new : (d : ℕ) (gs : List Group) → own d gs ≡ false → need d gs ≡ 2
unfolding need
need_new d gs e = rw e

-- ---- what is taken

module _ (n : ℕ) (x : Slot) (s : State) where
  pub taken_in_lem : s.stop ≡ 0 → length (flat s.groups) + need s.depth s.groups ≤ n → taken_in x s ≡ taken n x s
  unfolding taken
  taken_in_lem z l = rw (eq-eqb s.stop 0 z, le-leb (length (flat s.groups) + need s.depth s.groups) n l)

  pub taken_full : s.stop ≡ 0 → n < length (flat s.groups) + need s.depth s.groups → stopped_at x.0 s ≡ taken n x s
  unfolding taken
  taken_full z l = rw (eq-eqb s.stop 0 z, lt-leb (length (flat s.groups) + need s.depth s.groups) n l)

  pub taken_not : (s.stop ≡ 0 → ⊥) → s ≡ taken n x s
  unfolding taken
  taken_not z = rw (ne_eqb s.stop 0 z)

holds_as : (seen : List ℕ) (s r : State) → s ≡ r → Holds seen s → Holds seen r
holds_as seen s r e h = subst (λ (q : State). Holds seen q) e h

pub take_stopped : (seen : List ℕ) (x : Slot) → (get_or seen 5 0 ≡ 0 → ⊥) → Does (taken (room seen) x) seen seen
take_stopped seen x z = (refl, λ s h. holds_as seen s (taken (room seen) x s) (taken_not (room seen) x s (λ y. z (h.stop ∙ y))) h)

stop_holds : (seen : List ℕ) (p : ℕ) (s : State) → Holds seen s → Holds (set seen 5 p) (stopped_at p s)
stop_holds seen p s h = record {
  table = header_table seen (flat s.groups) 5 p (omega arith) (omega arith) h.table;
  base = past seen 5 1 p (λ y. omega arith) ∙ h.base;
  depth = past seen 5 2 p (λ y. omega arith) ∙ h.depth;
  from = past seen 5 3 p (λ y. omega arith) ∙ h.from;
  twice = past seen 5 4 p (λ y. omega arith) ∙ h.twice;
  stop = get_or-set_same seen 5 p 0 (omega (arith, long h.table));
}

module _ (seen : List ℕ) (place tag n : ℕ) (size : n ≡ room seen) (free : get_or seen 5 0 ≡ 0) where
  pub full_own : Owns seen true → n ≤ get_or seen 0 0 → Does (taken (room seen) (place, tag)) seen (set seen 5 place)
  full_own o l = (
    length-set seen 5 place,
    λ s h.
        holds_as (set seen 5 place) (stopped_at place s) (taken (room seen) (place, tag) s)
        (taken_full (room seen) (place, tag) s (sym h.stop ∙ free) (omega (arith, l, size, h.table.top, need_own s.depth s.groups (sym (o s h)))))
        (stop_holds seen place s h),
  )

  pub full_new : Owns seen false → n ≤ get_or seen 0 0 + 1 → Does (taken (room seen) (place, tag)) seen (set seen 5 place)
  full_new o l = (
    length-set seen 5 place,
    λ s h.
        holds_as (set seen 5 place) (stopped_at place s) (taken (room seen) (place, tag) s)
        (taken_full (room seen) (place, tag) s (sym h.stop ∙ free) (omega (arith, l, size, h.table.top, need_new s.depth s.groups (sym (o s h)))))
        (stop_holds seen place s h),
  )

  pub take_own : (seen' : List ℕ) → Owns seen true → get_or seen 0 0 < n → Pushes seen seen' place tag → Does (taken (room seen) (place, tag)) seen seen'
  take_own seen' o l p = (
    p.0.0,
    λ s h.
        let w = add_own s.depth (place, tag) s.groups (sym (o s h)) in
        holds_as seen' (taken_in (place, tag) s) (taken (room seen) (place, tag) s)
        (taken_in_lem (room seen) (place, tag) s (sym h.stop ∙ free) (omega (arith, l, size, h.table.top, need_own s.depth s.groups (sym (o s h)))))
        (record {
          table = subst (λ (q : List Slot). Table (room seen') seen' q) (sym w.0)
              (p.1 (flat s.groups) h.table (omega (arith, l, size, h.table.top)));
          base = p.0.1 1 (omega arith) (omega arith) ∙ h.base ∙ sym w.1;
          depth = p.0.1 2 (omega arith) (omega arith) ∙ h.depth;
          from = p.0.1 3 (omega arith) (omega arith) ∙ h.from;
          twice = p.0.1 4 (omega arith) (omega arith) ∙ h.twice;
          stop = p.0.1 5 (omega arith) (omega arith) ∙ h.stop;
        }),
  )

  pub take_new : (seen1 seen3 : List ℕ) → Owns seen false → get_or seen 0 0 + 1 < n → Pushes seen seen1 (get_or seen 1 0) (get_or seen 2 0)
      → Pushes (set seen1 1 (get_or seen 0 0 + 1)) seen3 place tag → Does (taken (room seen) (place, tag)) seen seen3
  take_new seen1 seen3 o l p q = (q.0.0 ∙ length-set seen1 1 (get_or seen 0 0 + 1) ∙ p.0.0, λ s h. go s h)
    where
      go : (s : State) → Holds seen s → Holds seen3 (taken (room seen) (place, tag) s)
      go s h =
          let w = add_new s.depth (place, tag) s.groups (sym (o s h)) in
          let m : Table (room seen1) seen1 ((base_of s.groups, s.depth) ∷ flat s.groups) =
          subst (λ (y : Slot). Table (room seen1) seen1 (y ∷ flat s.groups)) (ap₂ (λ (a b : ℕ). (a, b)) h.base h.depth)
          (p.1 (flat s.groups) h.table (omega (arith, l, size, h.table.top))) in
          let k = header_table seen1 ((base_of s.groups, s.depth) ∷ flat s.groups) 1 (get_or seen 0 0 + 1) (omega arith) (omega arith) m in
          let r1 : room seen1 ≡ room seen = ap (λ (y : ℕ). (y - 8) / 4) p.0.0 in
          let r2 : room (set seen1 1 (get_or seen 0 0 + 1)) ≡ room seen = ap (λ (y : ℕ). (y - 8) / 4) (length-set seen1 1 (get_or seen 0 0 + 1) ∙ p.0.0) in
          let t = q.1 ((base_of s.groups, s.depth) ∷ flat s.groups) k (omega (arith, l, size, h.table.top, r2)) in
          holds_as seen3 (taken_in (place, tag) s) (taken (room seen) (place, tag) s)
          (taken_in_lem (room seen) (place, tag) s (sym h.stop ∙ free) (omega (arith, l, size, h.table.top, need_new s.depth s.groups (sym (o s h)))))
          (record {
            table = subst (λ (y : List Slot). Table (room seen3) seen3 y) (sym w.0) t;
            base = q.0.1 1 (omega arith) (omega arith) ∙ get_or-set_same seen1 1 (get_or seen 0 0 + 1) 0 (omega (arith, long m))
                ∙ (let y : get_or seen 0 0 + 1 ≡ suc (length (flat s.groups)) = omega (arith, h.table.top) in y) ∙ sym w.1;
            depth = q.0.1 2 (omega arith) (omega arith) ∙ past seen1 1 2 (get_or seen 0 0 + 1) (λ y. omega arith) ∙ p.0.1 2 (omega arith) (omega arith)
                ∙ h.depth;
            from = q.0.1 3 (omega arith) (omega arith) ∙ past seen1 1 3 (get_or seen 0 0 + 1) (λ y. omega arith) ∙ p.0.1 3 (omega arith) (omega arith)
                ∙ h.from;
            twice = q.0.1 4 (omega arith) (omega arith) ∙ past seen1 1 4 (get_or seen 0 0 + 1) (λ y. omega arith) ∙ p.0.1 4 (omega arith) (omega arith)
                ∙ h.twice;
            stop = q.0.1 5 (omega arith) (omega arith) ∙ past seen1 1 5 (get_or seen 0 0 + 1) (λ y. omega arith) ∙ p.0.1 5 (omega arith) (omega arith)
                ∙ h.stop;
          })

-- room for a slot
pub roomy : (seen : List ℕ) (n : ℕ) → 12 ≤ length seen → Sane seen → n ≡ room seen → get_or seen 0 0 < n → Roomy seen
roomy seen n l w e p =
    let h = held seen l w in
    (flat h.0.groups, (h.1.table, omega (arith, p, e, h.1.table.top)))

-- and for one more after a mark
pub roomy_more : (seen seen1 : List ℕ) (a b n : ℕ) → 12 ≤ length seen → Sane seen → n ≡ room seen → get_or seen 0 0 + 1 < n → Pushes seen seen1 a b
    → Roomy (set seen1 1 (get_or seen 0 0 + 1))
roomy_more seen seen1 a b n l w e p q =
    let h = held seen l w in
    let t = q.1 (flat h.0.groups) h.1.table (omega (arith, p, e, h.1.table.top)) in
    let r : room (set seen1 1 (get_or seen 0 0 + 1)) ≡ room seen = ap (λ (y : ℕ). (y - 8) / 4) (length-set seen1 1 (get_or seen 0 0 + 1) ∙ q.0.0) in (
      (a, b) ∷ flat h.0.groups,
      (
        header_table seen1 ((a, b) ∷ flat h.0.groups) 1 (get_or seen 0 0 + 1) (omega arith) (omega arith) t,
        omega (arith, p, e, r, h.1.table.top),
      ),
    )

-- ---- a key is named

pub marked_so : (again : Bool) (p : ℕ) (a b : List ℕ) → again ≡ true → Does (noticed p) a b → Does (marked again p) a b
unfolding marked
marked_so again p a b e d = rw e d

pub marked_not : (again : Bool) (p : ℕ) (a : List ℕ) → again ≡ false → Does (marked again p) a a
unfolding marked
marked_not again p a e = rw e (refl, λ s h. h)

naming_does : (again : Bool) (x : Slot) (a b c : List ℕ) → Does (marked again x.0) a b → Does (taken (room b) x) b c → Does (naming again (room a) x) a c
naming_does again x a b c p q =
    subst (λ (n : ℕ). Does (naming again n x) a c) (ap (λ (m : ℕ). (m - 8) / 4) p.0) (then_does (marked again x.0) (taken (room b) x) a b c p q)

-- ---- a chain that is too long

need_some : (d : ℕ) (gs : List Group) → 1 ≤ need d gs
unfolding need
need_some d gs = go (own d gs)
  where
    go : (b : Bool) → 1 ≤ cond b 1 2
    go true = omega arith
    go false = omega arith

-- two slots are taken, so that a table of two would be full
crowd_does : (seen : List ℕ) (x : Slot) → Crowds seen true → Does (taken 2 x) seen (set seen 5 x.0)
crowd_does seen x w = let y = w refl in (
  length-set seen 5 x.0,
  λ s h.
      holds_as (set seen 5 x.0) (stopped_at x.0 s) (taken 2 x s)
      (taken_full 2 x s (sym h.stop ∙ y.1) (omega (arith, y.2, h.table.top, need_some s.depth s.groups)))
      (stop_holds seen x.0 s h),
)

pub names_crowded : (again : Bool) (x : Slot) (a b : List ℕ) (r : Bool) → Does (marked again x.0) a b → r ≡ true → Crowds b r
    → Names again x a (set b 5 x.0)
names_crowded again x a b r p e w =
    (2, (inr refl, then_does (marked again x.0) (taken 2 x) a b (set b 5 x.0) p (crowd_does b x (subst (Crowds b) e w))))

pub names_taken : (again : Bool) (x : Slot) (a b c : List ℕ) → Does (marked again x.0) a b → Does (taken (room b) x) b c → Names again x a c
names_taken again x a b c p q = (room a, (inl refl, naming_does again x a b c p q))

-- ---- an empty table

-- a table of zeroes is one
zero_at : (n i : ℕ) → get_or (replicate {A = ℕ} n 0) i 0 ≡ 0
zero_at zero i = refl
zero_at (suc n) zero = refl
zero_at (suc n) (suc i) = zero_at n i

pub zeroes_hold : (n : ℕ) → 12 ≤ n → n < 2 ^ 32 → Holds (replicate n 0) (start 0)
unfolding start flat base_of newest_of
zeroes_hold n l m =
    let e = length-replicate {A = ℕ} n 0 in
    record {
      table = record {
        some = omega arith;
        size = refl;
        short = omega arith;
        top = zero_at n 0;
        few = omega arith;
        slots = tt;
        heads = λ h q. zero_at n (11 + 4 * h);
      };
      base = zero_at n 1;
      depth = zero_at n 2;
      from = zero_at n 3;
      twice = zero_at n 4;
      stop = zero_at n 5;
    }

-- and then where keys are taken in from
from_holds : (seen : List ℕ) (from : ℕ) → Holds seen (start 0) → Holds (set seen 3 from) (start from)
unfolding start flat
from_holds seen from h = record {
  table = header_table seen [] 3 from (omega arith) (omega arith) h.table;
  base = past seen 3 1 from (λ y. omega arith) ∙ h.base;
  depth = past seen 3 2 from (λ y. omega arith) ∙ h.depth;
  from = get_or-set_same seen 3 from 0 (omega (arith, long h.table));
  twice = past seen 3 4 from (λ y. omega arith) ∙ h.twice;
  stop = past seen 3 5 from (λ y. omega arith) ∙ h.stop;
}

pub begin_does : (before seen : List ℕ) (from : ℕ) → seen ≡ replicate (length before) 0 → 12 ≤ length before → length before < 2 ^ 32
    → Begun from before (set seen 3 from)
begin_does before seen from e l m =
    let n = length-replicate {A = ℕ} (length before) 0 in
    (length-set seen 3 from ∙ ap length e ∙ n, λ q. from_holds seen from (rw e (zeroes_hold (length before) l m)))
