-- What a link tells: the newest slot of a bucket, and the keys of the present object. Assumes nothing.
use mathlib.Core.Path.{◌≡◌, refl, sym, ap, ◌∙◌, subst}
use mathlib.Core.Bool.{Bool, true, false, cond}
use mathlib.Core.List.{List, [], ◌∷◌, ◌++◌, append_assoc}
use Prim.Native.Nat.{ℕ, suc, ◌+◌, ◌*◌, ◌-◌, ◌%◌, ◌<◌, ◌≤◌, ◌^◌}
use native.Mathlib.Omega.{arith}
use native.Mathlib.Nat.{mod-lt}
use lib.Dec.{eqb}
use lib.ListN.{length, get_or, length-append}
use borrow.Author.Tests.{eqb-true, eqb-false}
use Rattle.std.specs.Prelude.{Option, Some, None}
use Rattle.once.specs.Table.{Slot, room, newest_of, Table}
use Rattle.once.specs.Groups.{flat, base_of, State, Holds, Owns, own, AboveMark, At, Next, Newest, Stands, Earlier, Placed, Tagged}
use Rattle.once.proofs.GroupsLaws.{slot_at, table_fits, Owned, owned_is}

pub head_of : {x y : Slot} {a b : List Slot} → x ∷ a ≡ y ∷ b → x ≡ y
head_of e = cc

pub tail_of : {x y : Slot} {a b : List Slot} → x ∷ a ≡ y ∷ b → a ≡ b
tail_of e = cc

pub no_nil : {x : Slot} {a : List Slot} → [] ≡ x ∷ a → ⊥
no_nil e = let z : ◌≡◌ {A = ℕ} 0 1 = cc in omega arith

-- r is the newest of bucket h, or 0
pub record Chain (n h : ℕ) (k : List Slot) (r : ℕ) : Type 0 where
  pub below : r ≤ length k
  pub is : 0 < r → (a : List Slot) × ((x : Slot) × ((b : List Slot) × ((k ≡ a ++ (x ∷ b)) × (suc (length b) ≡ r) × (x.1 % n ≡ h))))
  pub none : (a : List Slot) (x : Slot) (b : List Slot) → k ≡ a ++ (x ∷ b) → x.1 % n ≡ h → suc (length b) ≤ r

pub chain : (n h : ℕ) (k : List Slot) → Chain n h k (newest_of n h k)
unfolding newest_of
chain n h [] = record { below = omega arith; is = λ p. absurd (omega arith); none = λ a x b e f. absurd (nothing a x b e) }
  where
    nothing : (a : List Slot) (x : Slot) (b : List Slot) → [] ≡ a ++ (x ∷ b) → ⊥
    nothing [] x b e = no_nil e
    nothing (y ∷ a) x b e = no_nil e
chain n h (s ∷ k) = go (eqb (s.1 % n) h) refl (chain n h k)
  where
    go : (t : Bool) → eqb (s.1 % n) h ≡ t → Chain n h k (newest_of n h k) → Chain n h (s ∷ k) (cond t (suc (length k)) (newest_of n h k))
    go true e c = record { below = omega arith; is = λ p. ([], (s, (k, (refl, refl, eqb-true (s.1 % n) h e)))); none = top }
      where
        top : (a : List Slot) (x : Slot) (b : List Slot) → s ∷ k ≡ a ++ (x ∷ b) → x.1 % n ≡ h → suc (length b) ≤ suc (length k)
        top a x b w f = omega (arith, ap length w, length-append a (x ∷ b))
    go false e c = record {
      below = omega (arith, c.below);
      is = λ p. (
        s ∷ (c.is p).0,
        ((c.is p).1.0, ((c.is p).1.1.0, (ap (λ (q : List Slot). s ∷ q) (c.is p).1.1.1.0, (c.is p).1.1.1.1, (c.is p).1.1.1.2))),
      );
      none = more;
    }
      where
        more : (a : List Slot) (x : Slot) (b : List Slot) → s ∷ k ≡ a ++ (x ∷ b) → x.1 % n ≡ h → suc (length b) ≤ newest_of n h k
        more [] x b w f = absurd (eqb-false (s.1 % n) h e (ap (λ (q : Slot). q.1 % n) (head_of w) ∙ f))
        more (y ∷ a) x b w f = c.none a x b (tail_of w) f

-- ---- cutting

-- x stands in the first part of k ++ m
cut_first : (k m a : List Slot) (x : Slot) (b : List Slot) → k ++ m ≡ a ++ (x ∷ b) → length m ≤ length b → (c : List Slot) × ((k ≡ a ++ (x ∷ c)) × (b ≡ c ++ m))
cut_first [] m a x b e l = absurd (omega (arith, ap length e, length-append a (x ∷ b)))
cut_first (y ∷ k) m [] x b e l = (k, (ap (λ (q : Slot). q ∷ k) (head_of e), sym (tail_of e)))
cut_first (y ∷ k) m (z ∷ a) x b e l =
    let h = cut_first k m a x b (tail_of e) l in
    (h.0, (ap (λ (q : Slot). q ∷ k) (head_of e) ∙ ap (λ (q : List Slot). z ∷ q) h.1.0, h.1.1))

-- y stands below x
cut_below : (a : List Slot) (x : Slot) (b c : List Slot) (y : Slot) (d : List Slot) → a ++ (x ∷ b) ≡ c ++ (y ∷ d) → length d < length b → (e : List Slot)
    × (b ≡ e ++ (y ∷ d))
cut_below [] x b [] y d e l = absurd (omega (arith, ap length (tail_of e)))
cut_below [] x b (z ∷ c) y d e l = (c, tail_of e)
cut_below (w ∷ a) x b [] y d e l = absurd (omega (arith, ap length (tail_of e), length-append a (x ∷ b)))
cut_below (w ∷ a) x b (z ∷ c) y d e l = cut_below a x b c y d (tail_of e) l

-- ---- the present object's keys

-- where a key stands among all slots
pub record Sits (s : State) (j : ℕ) (x : Slot) : Type 0 where
  pub above : List Slot
  pub under : List Slot
  pub split : flat s.groups ≡ above ++ (x ∷ under)
  pub size : suc (length under) ≡ j
  pub past_base : base_of s.groups ≤ length under

pub sits : (s : State) (j : ℕ) (x : Slot) → At s j x → Sits s j x
unfolding flat base_of
sits s j x (At.key {g = g} {gs = gs} a b e l k) =
    let m : List Slot = (base_of gs, g.level) ∷ flat gs in
    let z : base_of s.groups ≡ suc (length (flat gs)) = ap base_of e in
    record {
      above = a;
      under = b ++ ((base_of gs, g.level) ∷ flat gs);
      split = ap flat e ∙ ap (λ (q : List Slot). q ++ ((base_of gs, g.level) ∷ flat gs)) k ∙ append_assoc a (x ∷ b) ((base_of gs, g.level) ∷ flat gs);
      size = omega (arith, z, length-append b ((base_of gs, g.level) ∷ flat gs));
      past_base = omega (arith, z, length-append b ((base_of gs, g.level) ∷ flat gs));
    }

pub sat : (s : State) (o : Owned s) (a : List Slot) (x : Slot) (b : List Slot) (r : ℕ) → flat s.groups ≡ a ++ (x ∷ b) → suc (length b) ≡ r
    → base_of s.groups < r → At s r x
unfolding flat base_of
sat s o a x b r e f l =
    let z : base_of s.groups ≡ suc (length (flat o.rest)) = ap base_of o.groups in
    let h = cut_first o.group.keys ((base_of o.rest, o.group.level) ∷ flat o.rest) a x b (sym (ap flat o.groups) ∙ e) (omega (arith, z)) in
    let n = ap length h.1.1 ∙ length-append h.0 ((base_of o.rest, o.group.level) ∷ flat o.rest) in
    let w : suc (base_of s.groups + length h.0) ≡ r = omega (arith, z, n) in
    subst (λ (q : ℕ). At s q x) w (At.key a h.0 o.groups o.level h.1.0)

none_is : (P : ℕ → Type 0) (i : ℕ) → None ≡ Some i → P i
none_is P i e = absurd (cc)

some_is : (P : ℕ → Type 0) (i j : ℕ) → P i → Some i ≡ Some j → P j
some_is P i j p e = let z : i ≡ j = cc in subst P z p

pub next_newest : (s : State) (o : Owned s) (n tag i : ℕ) (r : Option ℕ) → 0 < n → i ≡ newest_of n (tag % n) (flat s.groups) → AboveMark (base_of s.groups) i r
    → Next s n (tag % n) (length (flat s.groups)) r
next_newest s o n tag i r p e (AboveMark.inside l) = go (subst (λ (q : ℕ). Chain n (tag % n) (flat s.groups) q) (sym e) (chain n (tag % n) (flat s.groups)))
  where
    go : Chain n (tag % n) (flat s.groups) i → Next s n (tag % n) (length (flat s.groups)) (Some i)
    go c = record {
      below = c.below;
      is = λ j e.
          some_is (λ (k : ℕ). (x : Slot) × (At s k x × (x.1 % n ≡ tag % n))) i j
          (let y = c.is (omega arith) in (y.1.0, (sat s o y.0 y.1.0 y.1.1.0 i y.1.1.1.0 y.1.1.1.1 l, y.1.1.1.2))) e;
      none = λ j x a u v w. let h = sits s j x a in omega (arith, c.none h.above x h.under h.split w, h.size);
    }
next_newest s o n tag i r p e (AboveMark.outside l) = go (subst (λ (q : ℕ). Chain n (tag % n) (flat s.groups) q) (sym e) (chain n (tag % n) (flat s.groups)))
  where
    go : Chain n (tag % n) (flat s.groups) i → Next s n (tag % n) (length (flat s.groups)) None
    go c = record {
      below = omega arith;
      is = λ j e. none_is (λ (k : ℕ). (x : Slot) × (At s k x × (x.1 % n ≡ tag % n))) j e;
      none = λ j x a u v w. let h = sits s j x a in omega (arith, c.none h.above x h.under h.split w, h.size, h.past_base);
    }

-- no group: no key
pub next_none : (s : State) (n h top : ℕ) → own s.depth s.groups ≡ false → Next s n h top None
unfolding own
next_none s n h top f = record {
  below = omega arith;
  is = λ j e. none_is (λ (k : ℕ). (x : Slot) × (At s k x × (x.1 % n ≡ h))) j e;
  none = λ j x a u v w. go j x a;
}
  where
    go : (j : ℕ) (x : Slot) → At s j x → ⊥
    go j x (At.key {g = g} {gs = gs} a b e l k) = eqb-false g.level s.depth (sym (ap (own s.depth) e) ∙ f) l

-- a key's object has a group
pub at_owned : (s : State) (j : ℕ) (x : Slot) → At s j x → Owned s
at_owned s j x (At.key {g = g} {gs = gs} a b e l k) = record { group = g; rest = gs; groups = e; level = l }

pub next_earlier : (s : State) (j : ℕ) (x : Slot) (t : At s j x) (n i : ℕ) (r : Option ℕ) → i ≡ newest_of n (x.1 % n) (sits s j x t).under
    → AboveMark (base_of s.groups) i r
    → Next s n (x.1 % n) (j - 1) r
next_earlier s j x t n i r e (AboveMark.inside l) = go (sits s j x t) (subst (λ (q : ℕ). Chain n (x.1 % n) (sits s j x t).under q) (sym e)
    (chain n (x.1 % n) (sits s j x t).under))
  where
    go : (h : Sits s j x) → Chain n (x.1 % n) h.under i → Next s n (x.1 % n) (j - 1) (Some i)
    go h c = record {
      below = omega (arith, c.below, h.size);
      is = λ k e.
          some_is (λ (m : ℕ). (y : Slot) × (At s m y × (y.1 % n ≡ x.1 % n))) i k
          (let y = c.is (omega arith) in (
            y.1.0,
            (
              sat s (at_owned s j x t) (h.above ++ (x ∷ y.0)) y.1.0 y.1.1.0 i
                  (h.split ∙ ap (λ (z : List Slot). h.above ++ (x ∷ z)) y.1.1.1.0
                  ∙ sym (append_assoc h.above (x ∷ y.0) (y.1.0 ∷ y.1.1.0))) y.1.1.1.1 l,
              y.1.1.1.2,
            ),
          )) e;
      none = λ m y a u v w.
          let g = sits s m y a in
          let d = cut_below h.above x h.under g.above y g.under (sym h.split ∙ g.split) (omega (arith, h.size, g.size)) in
          omega (arith, c.none d.0 y g.under d.1 w, g.size);
    }
next_earlier s j x t n i r e (AboveMark.outside l) = go (sits s j x t) (subst (λ (q : ℕ). Chain n (x.1 % n) (sits s j x t).under q) (sym e)
    (chain n (x.1 % n) (sits s j x t).under))
  where
    go : (h : Sits s j x) → Chain n (x.1 % n) h.under i → Next s n (x.1 % n) (j - 1) None
    go h c = record {
      below = omega arith;
      is = λ k e. none_is (λ (m : ℕ). (y : Slot) × (At s m y × (y.1 % n ≡ x.1 % n))) k e;
      none = λ m y a u v w.
          let g = sits s m y a in
          let d = cut_below h.above x h.under g.above y g.under (sym h.split ∙ g.split) (omega (arith, h.size, g.size)) in
          omega (arith, c.none d.0 y g.under d.1 w, g.size, g.past_base);
    }

-- a key's numbers in the table
pub key_slot : (seen : List ℕ) (s : State) → Holds seen s → (j : ℕ) (x : Slot) (t : At s j x) → (get_or seen (8 + 4 * (j - 1)) 0 ≡ x.0)
    × (get_or seen (9 + 4 * (j - 1)) 0 ≡ x.1) × (get_or seen (10 + 4 * (j - 1)) 0 ≡ newest_of (room seen) (x.1 % room seen) (sits s j x t).under) × (0 < j)
    × (12 + 4 * (j - 1) ≤ length seen) × (length seen < 2 ^ 32)
key_slot seen s h j x t =
    let y = sits s j x t in
    let z : j - 1 ≡ length y.under = omega (arith, y.size) in
    let u = subst (λ (q : List Slot). Table (room seen) seen q) y.split h.table in
    let w = slot_at (room seen) y.above x y.under seen u.slots in
    let f = table_fits u in
    let g = u.few in
    let l = length-append y.above (x ∷ y.under) in
    (rw z w.0, rw z w.1, rw z w.2, omega (arith, y.size), omega (arith, f.0, g, l, z), f.1)

-- ---- as the code does it

pub newest_it : (seen : List ℕ) (tag head n : ℕ) → 12 ≤ length seen → n ≡ room seen → head ≡ 11 + 4 * (tag % n) → Owns seen true
    → {r : Option ℕ} → AboveMark (get_or seen 1 0) (get_or seen head 0) r → Newest seen tag r
newest_it seen tag head n m e f o {r} w = ((λ y. absurd (omega arith)), λ s h. by s h)
  where
    by : (s : State) → Holds seen s → Next s (room seen) (tag % room seen) (length (flat s.groups)) r
    by s h =
        let t = h.table in
        let z : head ≡ 11 + 4 * (tag % room seen) = f ∙ ap (λ (q : ℕ). 11 + 4 * (tag % q)) e in
        next_newest s (owned_is s (sym (o s h))) (room seen) tag (get_or seen head 0) r t.some
        (ap (λ (q : ℕ). get_or seen q 0) z ∙ t.heads (tag % room seen) (mod-lt tag t.some)) (rw h.base at w)

pub newest_other : (seen : List ℕ) (tag : ℕ) → Owns seen false → Newest seen tag None
newest_other seen tag o = ((λ y. refl), λ s h. next_none s (room seen) (tag % room seen) (length (flat s.groups)) (sym (o s h)))

pub earlier_it : (seen : List ℕ) (j here : ℕ) → here ≡ 8 + 4 * (j - 1) → {r : Option ℕ} → AboveMark (get_or seen 1 0) (get_or seen (here + 2) 0) r
    → Earlier seen j r
earlier_it seen j here e {r} w s h x t =
    let k = key_slot seen s h j x t in
    let i : here + 2 ≡ 10 + 4 * (j - 1) = omega arith in
    next_earlier s j x t (room seen) (get_or seen (here + 2) 0) r (ap (λ (q : ℕ). get_or seen q 0) i ∙ k.2) (rw h.base at w)

pub place_is : (seen : List ℕ) (j here : ℕ) → here ≡ 8 + 4 * (j - 1) → Placed seen j (get_or seen here 0)
place_is seen j here e s h x t = ap (λ (q : ℕ). get_or seen q 0) e ∙ (key_slot seen s h j x t).0

pub tag_is : (seen : List ℕ) (j here : ℕ) → here ≡ 8 + 4 * (j - 1) → Tagged seen j (get_or seen (here + 1) 0)
tag_is seen j here e s h x t = ap (λ (q : ℕ). get_or seen q 0) (let i : here + 1 ≡ 9 + 4 * (j - 1) = omega arith in i) ∙ (key_slot seen s h j x t).1

pub stands_fits : (seen : List ℕ) (j : ℕ) → Stands seen j → (0 < j) × (12 + 4 * (j - 1) ≤ length seen) × (length seen < 2 ^ 32)
stands_fits seen j w = let k = key_slot seen w.0 w.1.0 j w.1.1.0 w.1.1.1 in (k.3, k.4, k.5)
