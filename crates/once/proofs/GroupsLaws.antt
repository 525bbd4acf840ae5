-- The header, the slots of groups, and what each call does to them. Assumes nothing.
use mathlib.Core.Path.{◌≡◌, refl, sym, ap, ap₂, ◌∙◌, subst}
use mathlib.Core.Bool.{Bool, true, false, cond}
use mathlib.Core.Logic.{inl, inr}
use mathlib.Core.List.{List, [], ◌∷◌, ◌++◌, append_assoc}
use Prim.Native.Nat.{ℕ, suc, ◌+◌, ◌*◌, ◌-◌, ◌%◌, ◌<◌, ◌≤◌, ◌^◌}
use native.Mathlib.Omega.{arith}
use lib.Dec.{eqb}
use lib.ListN.{length, get_or, set, length-set, length-append}
use lib.Seq.{get_or-set_same}
use borrow.Author.Tests.{eqb-true, eq-eqb, ne_eqb}
use Rattle.once.specs.Table.{Slot, room, newest_of, Slotted, Table, HeaderStays, Pops, Drops, Above, Filled}
use Rattle.once.specs.Groups.{Group, flat, base_of, State, Holds, Sane, Set, Does, deeper, without, upper, Owns, own, outer}
use Rattle.once.specs.Groups.{noticed}
use Rattle.once.proofs.TableLaws.{past, room_set, slotted_set, spares_low}

-- ---- the header

pub table_room : {n : ℕ} {seen : List ℕ} {k : List Slot} → Table n seen k → Table (room seen) seen k
table_room {n} {seen} {k} t = subst (λ (m : ℕ). Table m seen k) t.size t

pub long : {n : ℕ} {seen : List ℕ} {k : List Slot} → Table n seen k → 12 ≤ length seen
long t = omega (arith, t.size, t.some)

pub table_header : (n : ℕ) (seen : List ℕ) (k : List Slot) (j a : ℕ) → 0 < j → j < 8 → Table n seen k → Table n (set seen j a) k
table_header n seen k j a p q t =
    record {
      some = t.some;
      size = t.size ∙ sym (room_set seen j a);
      short = omega (arith, t.short, length-set seen j a);
      top = past seen j 0 a (λ y. omega arith) ∙ t.top;
      few = t.few;
      slots = slotted_set n k seen j a (spares_low j (length k) q) t.slots;
      heads = λ h l. past seen j (11 + 4 * h) a (λ y. omega arith) ∙ t.heads h l;
    }

pub header_table : (seen : List ℕ) (k : List Slot) (j a : ℕ) → 0 < j → j < 8 → Table (room seen) seen k → Table (room (set seen j a)) (set seen j a) k
header_table seen k j a p q t = table_room (table_header (room seen) seen k j a p q t)

pub open_does : (seen : List ℕ) → Does deeper seen (set seen 2 (get_or seen 2 0 + 1))
unfolding deeper
open_does seen = (
  length-set seen 2 (get_or seen 2 0 + 1),
  λ s h. record {
    table = header_table seen (flat s.groups) 2 (get_or seen 2 0 + 1) (omega arith) (omega arith) h.table;
    base = past seen 2 1 (get_or seen 2 0 + 1) (λ y. omega arith) ∙ h.base;
    depth = get_or-set_same seen 2 (get_or seen 2 0 + 1) 0 (omega (arith, long h.table)) ∙ ap (λ (x : ℕ). x + 1) h.depth;
    from = past seen 2 3 (get_or seen 2 0 + 1) (λ y. omega arith) ∙ h.from;
    twice = past seen 2 4 (get_or seen 2 0 + 1) (λ y. omega arith) ∙ h.twice;
    stop = past seen 2 5 (get_or seen 2 0 + 1) (λ y. omega arith) ∙ h.stop;
  },
)

-- a list too short for a table holds none
pub no_table : (seen : List ℕ) (s : State) → length seen < 12 → Holds seen s → ⊥
no_table seen s l h = omega (arith, long h.table)

pub notice_first : (seen : List ℕ) (p : ℕ) → get_or seen 4 0 ≡ 0 → Does (noticed p) seen (set seen 4 p)
unfolding noticed
notice_first seen p z = (
  length-set seen 4 p,
  λ s h. record {
    table = header_table seen (flat s.groups) 4 p (omega arith) (omega arith) h.table;
    base = past seen 4 1 p (λ y. omega arith) ∙ h.base;
    depth = past seen 4 2 p (λ y. omega arith) ∙ h.depth;
    from = past seen 4 3 p (λ y. omega arith) ∙ h.from;
    twice = get_or-set_same seen 4 p 0 (omega (arith, long h.table)) ∙ sym (ap (λ (b : Bool). cond b p s.twice)
        (eq-eqb s.twice 0 (sym h.twice ∙ z)));
    stop = past seen 4 5 p (λ y. omega arith) ∙ h.stop;
  },
)

pub notice_again : (seen : List ℕ) (p : ℕ) → (get_or seen 4 0 ≡ 0 → ⊥) → Does (noticed p) seen seen
unfolding noticed
notice_again seen p z = (
  refl,
  λ s h. record {
    table = h.table;
    base = h.base;
    depth = h.depth;
    from = h.from;
    twice = h.twice ∙ sym (ap (λ (b : Bool). cond b p s.twice) (ne_eqb s.twice 0 (λ y. z (h.twice ∙ y))));
    stop = h.stop;
  },
)

-- ---- slots

pub slot_at : (n : ℕ) (a : List Slot) (x : Slot) (b : List Slot) (seen : List ℕ) → Slotted n seen (a ++ (x ∷ b)) → (get_or seen (8 + 4 * length b) 0 ≡ x.0)
    × (get_or seen (9 + 4 * length b) 0 ≡ x.1) × (get_or seen (10 + 4 * length b) 0 ≡ newest_of n (x.1 % n) b)
slot_at n [] x b seen h = (h.0, h.1, h.2)
slot_at n (y ∷ a) x b seen h = slot_at n a x b seen h.3

-- the innermost group's mark
pub mark_at : (seen : List ℕ) (s : State) (g : Group) (gs : List Group) → s.groups ≡ g ∷ gs → Holds seen s → (get_or seen 1 0 ≡ suc (length (flat gs)))
    × (get_or seen (8 + 4 * length (flat gs)) 0 ≡ base_of gs) × (get_or seen (9 + 4 * length (flat gs)) 0 ≡ g.level) × (length (flat gs) < room seen)
unfolding flat base_of
mark_at seen s g gs e h =
    let t = subst (λ (q : List Group). Table (room seen) seen (flat q)) e h.table in
    let w = slot_at (room seen) g.keys (base_of gs, g.level) (flat gs) seen t.slots in
    let l = length-append g.keys ((base_of gs, g.level) ∷ flat gs) in
    (h.base ∙ ap base_of e, w.0, w.1, omega (arith, t.few, l))

pub own_none : (seen : List ℕ) (s : State) → get_or seen 1 0 ≡ 0 → Holds seen s → false ≡ own s.depth s.groups
unfolding own base_of
own_none seen s z h = go s.groups refl
  where
    go : (q : List Group) → s.groups ≡ q → false ≡ own s.depth q
    go [] e = refl
    go (g ∷ gs) e = absurd (let y = (mark_at seen s g gs e h).0 in omega arith)

pub own_some : (seen : List ℕ) (s : State) (m : ℕ) → (get_or seen 1 0 ≡ 0 → ⊥) → m ≡ 8 + 4 * (get_or seen 1 0 - 1) → Holds seen s
    → eqb (get_or seen (m + 1) 0) (get_or seen 2 0) ≡ own s.depth s.groups
unfolding own base_of
own_some seen s m z w h = go s.groups refl
  where
    go : (q : List Group) → s.groups ≡ q → eqb (get_or seen (m + 1) 0) (get_or seen 2 0) ≡ own s.depth q
    go [] e = absurd (z (h.base ∙ ap base_of e))
    go (g ∷ gs) e =
        let y = mark_at seen s g gs e h in
        let i : m + 1 ≡ 9 + 4 * length (flat gs) = omega (arith, y.0) in
        ap₂ eqb (ap (λ (x : ℕ). get_or seen x 0) i ∙ y.2) h.depth

-- a table that is there
pub held : (seen : List ℕ) → 12 ≤ length seen → Sane seen → (s : State) × Holds seen s
held seen l (inl h) = absurd (omega arith)
held seen l (inr h) = h

pub table_fits : {n : ℕ} {seen : List ℕ} {k : List Slot} → Table n seen k → (8 + 4 * n ≤ length seen) × (length seen < 2 ^ 32)
table_fits t = (omega (arith, t.size, t.some), t.short)

pub base_fits : (seen : List ℕ) → 12 ≤ length seen → Sane seen → (get_or seen 1 0 ≡ 0 → ⊥) → (12 + 4 * (get_or seen 1 0 - 1) ≤ length seen)
    × (length seen < 2 ^ 32)
unfolding base_of
base_fits seen l w z = go (held seen l w).0.groups refl
  where
    s : State
    s = (held seen l w).0

    h : Holds seen (held seen l w).0
    h = (held seen l w).1

    go : (q : List Group) → (held seen l w).0.groups ≡ q → (12 + 4 * (get_or seen 1 0 - 1) ≤ length seen) × (length seen < 2 ^ 32)
    go [] e = absurd (z ((held seen l w).1.base ∙ ap base_of e))
    go (g ∷ gs) e =
        let y = mark_at seen (held seen l w).0 g gs e (held seen l w).1 in
        let f = table_fits (held seen l w).1.table in
        (omega (arith, y.0, y.3, f.0), f.1)

-- ---- down to so many

pub record Dropping (before seen : List ℕ) (to : ℕ) : Type 0 where
  pub keeps : HeaderStays before seen
  pub goes : (a k : List Slot) → length k ≡ to → Table (room before) before (a ++ k) → (b : List Slot) × Table (room seen) seen (b ++ k)

-- what is left to drop
pub record Left (seen : List ℕ) (to : ℕ) : Type 0 where
  pub slot : Slot
  pub more : List Slot
  pub rest : List Slot
  pub size : length rest ≡ to
  pub table : Table (room seen) seen (slot ∷ (more ++ rest))

pub left : (before seen : List ℕ) (to : ℕ) → Above before to → Dropping before seen to → to < get_or seen 0 0 → Left seen to
left before seen to p d l = go (d.goes p.0 p.1.0 p.1.1.0 p.1.1.1).0 (d.goes p.0 p.1.0 p.1.1.0 p.1.1.1).1
  where
    go : (b : List Slot) → Table (room seen) seen (b ++ p.1.0) → Left seen to
    go [] t = absurd (omega (arith, t.top, p.1.1.0))
    go (x ∷ b) t = record { slot = x; more = b; rest = p.1.0; size = p.1.1.0; table = t }

pub fills : {seen : List ℕ} {to : ℕ} → Left seen to → Filled seen
fills h = (h.slot, (h.more ++ h.rest, h.table))

pub falls : {seen after : List ℕ} {to : ℕ} → Left seen to → Pops seen after → get_or after 0 0 < get_or seen 0 0
falls h p = omega (arith, h.table.top, (p.1 h.slot (h.more ++ h.rest) h.table).top)

pub drop_on : (before seen after : List ℕ) (to : ℕ) → Dropping before seen to → to < get_or seen 0 0 → Pops seen after → Dropping before after to
drop_on before seen after to d l p = record {
  keeps = (p.0.0 ∙ d.keeps.0, λ j x y. p.0.1 j x y ∙ d.keeps.1 j x y);
  goes = λ a k e t. go k e (d.goes a k e t).0 (d.goes a k e t).1;
}
  where
    go : (k : List Slot) → length k ≡ to → (b : List Slot) → Table (room seen) seen (b ++ k) → (b : List Slot) × Table (room after) after (b ++ k)
    go k e [] t = absurd (omega (arith, t.top))
    go k e (x ∷ b) t = (b, p.1 x (b ++ k) t)

-- ---- an object closes

-- the present object has a group
pub record Owned (s : State) : Type 0 where
  pub group : Group
  pub rest : List Group
  pub groups : s.groups ≡ group ∷ rest
  pub level : group.level ≡ s.depth

pub owned_is : (s : State) → own s.depth s.groups ≡ true → Owned s
unfolding own
owned_is s e = go s.groups refl (ap (λ (q : Bool). q) e)
  where
    go : (q : List Group) → s.groups ≡ q → own s.depth q ≡ true → Owned s
    go [] f g = absurd (let z : ◌≡◌ {A = ℕ} 0 1 = cc in omega arith)
    go (x ∷ xs) f g = record { group = x; rest = xs; groups = f; level = eqb-true x.level s.depth g }

split_flat : (g : Group) (gs : List Group) → flat (g ∷ gs) ≡ (g.keys ++ ((base_of gs, g.level) ∷ [])) ++ flat gs
unfolding flat
split_flat g gs = sym (append_assoc g.keys ((base_of gs, g.level) ∷ []) (flat gs))

module _ (seen : List ℕ) (w : Set seen) (own_all : Owns seen true) where
  the_own : Owned (held seen w.0 w.1).0
  the_own = owned_is (held seen w.0 w.1).0 (sym (own_all (held seen w.0 w.1).0 (held seen w.0 w.1).1))

  -- what can be read of the mark
  pub own_fits : (0 < get_or seen 1 0) × (12 + 4 * (get_or seen 1 0 - 1) ≤ length seen) × (length seen < 2 ^ 32)
  own_fits =
      let o = the_own in
      let y = mark_at seen (held seen w.0 w.1).0 o.group o.rest o.groups (held seen w.0 w.1).1 in
      let f = table_fits (held seen w.0 w.1).1.table in
      (omega (arith, y.0), omega (arith, y.0, y.3, f.0), f.1)

  pub own_above : Above seen (get_or seen 1 0 - 1)
  own_above =
      let o = the_own in
      let h = (held seen w.0 w.1).1 in
      let y = mark_at seen (held seen w.0 w.1).0 o.group o.rest o.groups h in
      let t = subst (λ (q : List Slot). Table (room seen) seen q) (ap flat o.groups ∙ split_flat o.group o.rest) h.table in
      (o.group.keys ++ ((base_of o.rest, o.group.level) ∷ []), (flat o.rest, (omega (arith, y.0), t)))

  pub leave_some : (mark : ℕ) (seen' : List ℕ) → mark ≡ 8 + 4 * (get_or seen 1 0 - 1) → Drops seen seen' (get_or seen 1 0 - 1)
      → Does without seen (set seen' 1 (get_or seen mark 0))
  unfolding without outer
  leave_some mark seen' e d = (length-set seen' 1 (get_or seen mark 0) ∙ d.0.0, λ s h. go s h (owned_is s (sym (own_all s h))))
    where
      go : (s : State) → Holds seen s → Owned s → Holds (set seen' 1 (get_or seen mark 0)) (without s)
      go s h o =
          let y = mark_at seen s o.group o.rest o.groups h in
          let t : Table (room seen) seen ((o.group.keys ++ ((base_of o.rest, o.group.level) ∷ [])) ++ flat o.rest) =
          subst (λ (q : List Slot). Table (room seen) seen q) (ap flat o.groups ∙ split_flat o.group o.rest) h.table in
          let u = d.1 (o.group.keys ++ ((base_of o.rest, o.group.level) ∷ [])) (flat o.rest) (omega (arith, y.0)) t in
          let m : mark ≡ 8 + 4 * length (flat o.rest) = omega (arith, y.0) in
          let g : cond (own s.depth s.groups) (outer s.groups) s.groups ≡ o.rest =
          ap (λ (b : Bool). cond b (outer s.groups) s.groups) (sym (own_all s h)) ∙ ap outer o.groups in
          record {
            table = subst (λ (q : List Group). Table (room (set seen' 1 (get_or seen mark 0))) (set seen' 1 (get_or seen mark 0)) (flat q)) (sym g)
                (header_table seen' (flat o.rest) 1 (get_or seen mark 0) (omega arith) (omega arith) u);
            base = get_or-set_same seen' 1 (get_or seen mark 0) 0 (omega (arith, long u)) ∙ ap (λ (x : ℕ). get_or seen x 0) m ∙ y.1 ∙ ap base_of (sym g);
            depth = past seen' 1 2 (get_or seen mark 0) (λ z. omega arith) ∙ d.0.1 2 (omega arith) (omega arith) ∙ h.depth;
            from = past seen' 1 3 (get_or seen mark 0) (λ z. omega arith) ∙ d.0.1 3 (omega arith) (omega arith) ∙ h.from;
            twice = past seen' 1 4 (get_or seen mark 0) (λ z. omega arith) ∙ d.0.1 4 (omega arith) (omega arith) ∙ h.twice;
            stop = past seen' 1 5 (get_or seen mark 0) (λ z. omega arith) ∙ d.0.1 5 (omega arith) (omega arith) ∙ h.stop;
          }

pub leave_none : (seen : List ℕ) → Owns seen false → Does without seen seen
unfolding without
leave_none seen f = (
  refl,
  λ s h.
      let g : s.groups ≡ cond (own s.depth s.groups) (outer s.groups) s.groups =
      ap (λ (b : Bool). cond b (outer s.groups) s.groups) (f s h) in
      record {
        table = subst (λ (q : List Group). Table (room seen) seen (flat q)) g h.table;
        base = h.base ∙ ap base_of g;
        depth = h.depth;
        from = h.from;
        twice = h.twice;
        stop = h.stop;
      },
)

pub upper_does : (seen : List ℕ) → Does upper seen (set seen 2 (get_or seen 2 0 - 1))
unfolding upper
upper_does seen = (
  length-set seen 2 (get_or seen 2 0 - 1),
  λ s h. record {
    table = header_table seen (flat s.groups) 2 (get_or seen 2 0 - 1) (omega arith) (omega arith) h.table;
    base = past seen 2 1 (get_or seen 2 0 - 1) (λ y. omega arith) ∙ h.base;
    depth = get_or-set_same seen 2 (get_or seen 2 0 - 1) 0 (omega (arith, long h.table)) ∙ ap (λ (x : ℕ). x - 1) h.depth;
    from = past seen 2 3 (get_or seen 2 0 - 1) (λ y. omega arith) ∙ h.from;
    twice = past seen 2 4 (get_or seen 2 0 - 1) (λ y. omega arith) ∙ h.twice;
    stop = past seen 2 5 (get_or seen 2 0 - 1) (λ y. omega arith) ∙ h.stop;
  },
)

pub then_does : (f g : State → State) (a b c : List ℕ) → Does f a b → Does g b c → Does (λ s. g (f s)) a c
then_does f g a b c p q = (q.0 ∙ p.0, λ s h. q.1 (f s) (p.1 s h))
