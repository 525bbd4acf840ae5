-- The search for an earlier key: from slot to slot of a bucket, the newest first, no key past the slot at hand is the one sought. Assumes nothing.
use mathlib.Core.Path.{◌≡◌, refl, sym, ap, ◌∙◌, subst}
use mathlib.Core.Bool.{Bool, true, false, cond}
use mathlib.Core.List.{List, [], ◌∷◌, ◌++◌}
use Prim.Native.Nat.{ℕ, suc, ◌+◌, ◌%◌, ◌<◌, ◌≤◌}
use native.Mathlib.Omega.{arith}
use native.Mathlib.Decide.{dec_lt}
use lib.Dec.{eqb}
use lib.ListN.{length, length-append}
use Rattle.std.specs.Prelude.{Option, Some, None, unwrap_or}
use borrow.Author.Tests.{eqb-true, eq-eqb}
use Rattle.meaning.specs.Once.{same}
use Rattle.once.specs.Table.{Slot, room}
use Rattle.once.specs.Groups.{flat, base_of, State, At, Newest, Stands, Earlier, Placed, Tagged}
use Rattle.once.specs.Objects.{grouped, state_of}
use Rattle.once.specs.Windows.{Key, hits, all, Kept, present, Each, Every}
use Rattle.once.specs.Keeping.{slots_of, all_slots, held_of, Before, Keeps}
use Rattle.once.proofs.GroupsChainLaws.{head_of, tail_of, no_nil, sits}
use Rattle.once.proofs.ObjectsLaws.{at_key_lem}

-- ---- equal bytes

pub same_is : (u v : List ℕ) → same u v ≡ true → u ≡ v
unfolding same
same_is [] [] e = refl
same_is [] (b ∷ v) e = absurd (let z : ◌≡◌ {A = ℕ} 0 1 = cc in omega arith)
same_is (a ∷ u) [] e = absurd (let z : ◌≡◌ {A = ℕ} 0 1 = cc in omega arith)
same_is (a ∷ u) (b ∷ v) e = go (eqb a b) refl e (same_is u v)
  where
    go : (t : Bool) → eqb a b ≡ t → cond t (same u v) false ≡ true → (same u v ≡ true → u ≡ v) → a ∷ u ≡ b ∷ v
    go true f g h = let x = eqb-true a b f in let y = h g in cc
    go false f g h = absurd (let z : ◌≡◌ {A = ℕ} 0 1 = cc in omega arith)

pub same_self : (u : List ℕ) → same u u ≡ true
unfolding same
same_self [] = refl
same_self (a ∷ u) = rw (eq-eqb a a refl) (same_self u)

-- keys that something tells apart
pub apart : (u v : List ℕ) → (u ≡ v → ⊥) → same u v ≡ false
apart u v n = go (same u v) refl
  where
    go : (t : Bool) → same u v ≡ t → t ≡ false
    go true e = absurd (n (same_is u v e))
    go false e = refl

-- ---- the keys of a list and their slots

-- the key of a slot
record KeyOf (P : Key → Type 0) (tag : List ℕ → ℕ) (o : List Key) (x : Slot) : Type 0 where
  key : Key
  slot : x ≡ (key.0, tag key.1)
  is : P key
  hit : (u : List ℕ) → same u key.1 ≡ true → hits all u o ≡ true

hit_first : (k : Key) (o : List Key) (u : List ℕ) → same u k.1 ≡ true → hits all u (k ∷ o) ≡ true
unfolding hits
hit_first k o u e = rw e

hit_later : (k : Key) (o : List Key) (u : List ℕ) → hits all u o ≡ true → hits all u (k ∷ o) ≡ true
unfolding hits
hit_later k o u e = rw e (go (same u k.1))
  where
    go : (t : Bool) → cond t true true ≡ true
    go true = refl
    go false = refl

key_of : (P : Key → Type 0) (tag : List ℕ → ℕ) (o : List Key) (a : List Slot) (x : Slot) (b : List Slot) → slots_of tag o ≡ a ++ (x ∷ b) → Each P o
    → KeyOf P tag o x
key_of P tag [] [] x b e h = absurd (no_nil e)
key_of P tag [] (y ∷ a) x b e h = absurd (no_nil e)
key_of P tag (k ∷ o) [] x b e h = record { key = k; slot = sym (head_of e); is = h.0; hit = λ u g. hit_first k o u g }
key_of P tag (k ∷ o) (y ∷ a) x b e h =
    let w = key_of P tag o a x b (tail_of e) h.1 in
    record { key = w.key; slot = w.slot; is = w.is; hit = λ u g. hit_later k o u (w.hit u g) }

hits_none : (P : Key → Type 0) (u : List ℕ) (o : List Key) → Each P o → ((a : List Key) (k : Key) (b : List Key) → o ≡ a ++ (k ∷ b) → P k → same u k.1
    ≡ false) → hits all u o ≡ false
unfolding hits
hits_none P u [] h f = refl
hits_none P u (k ∷ o) h f = rw (f [] k o refl h.0) (hits_none P u o h.1 (λ a x b e g. f (k ∷ a) x b (ap (λ (y : List Key). k ∷ y) e) g))

slots_join : (tag : List ℕ → ℕ) (a b : List Key) → slots_of tag (a ++ b) ≡ slots_of tag a ++ slots_of tag b
slots_join tag [] b = refl
slots_join tag (k ∷ a) b = ap (λ (y : List Slot). (k.0, tag k.1) ∷ y) (slots_join tag a b)

-- ---- the present object's keys, in the table

module _ (f t p : ℕ) where
  none_open : (j : ℕ) (x : Slot) → At (state_of [] f t p) j x → ⊥
  unfolding state_of grouped
  none_open j x (At.key {g = g} {gs = gs} a b e l k) = let z : ◌≡◌ {A = ℕ} 0 1 = cc in omega arith

  slot_at : (o : List Slot) (ts : List (List Slot)) (a : List Slot) (x : Slot) (b : List Slot) → o ≡ a ++ (x ∷ b) → (j : ℕ)
      × (At (state_of (o ∷ ts) f t p) j x × (0 < j))
  unfolding state_of grouped
  slot_at [] ts [] x b e = absurd (no_nil e)
  slot_at [] ts (y ∷ a) x b e = absurd (no_nil e)
  slot_at (z ∷ o) ts a x b e = (
    suc (base_of (grouped ((z ∷ o) ∷ ts)) + length b),
    (
      At.key {g = record { level = suc (length ts); keys = z ∷ o }} {gs = grouped ts} a b refl refl e,
      omega arith,
    ),
  )

  module _ (tag : List ℕ → ℕ) where
    -- the key of a slot
    at_of : (P : Key → Type 0) (ts : List (List Key)) (j : ℕ) (x : Slot) → At (state_of (all_slots tag ts) f t p) j x → Every P ts → KeyOf P tag (present ts) x
    at_of P [] j x y h = absurd (none_open j x y)
    at_of P (k ∷ ts) j x y h =
        let w = at_key_lem (slots_of tag k) (all_slots tag ts) f t p j x y in
        key_of P tag k w.0 x w.1.0 w.1.1 h.0

    -- and the slot of a key
    of_at : (ts : List (List Key)) (a : List Key) (k : Key) (b : List Key) → present ts ≡ a ++ (k ∷ b) → (j : ℕ)
        × (At (state_of (all_slots tag ts) f t p) j (k.0, tag k.1) × (0 < j))
    of_at [] a k b e = absurd (nothing_there a e)
      where
        nothing_there : (a : List Key) → [] ≡ a ++ (k ∷ b) → ⊥
        nothing_there [] e = let z : ◌≡◌ {A = ℕ} 0 1 = cc in omega arith
        nothing_there (y ∷ a) e = let z : ◌≡◌ {A = ℕ} 0 1 = cc in omega arith
    of_at (o ∷ ts) a k b e = slot_at (slots_of tag o) (all_slots tag ts) (slots_of tag a) (k.0, tag k.1) (slots_of tag b)
        (ap (slots_of tag) e ∙ slots_join tag a (k ∷ b))

each_present : (P : Key → Type 0) (ts : List (List Key)) → Every P ts → Each P (present ts)
each_present P [] h = tt
each_present P (k ∷ ts) h = h.0

-- ---- the search at the slot i, or at its end

pub record Sought (Is : ℕ → List ℕ → Type 0) (tag : List ℕ → ℕ) (seen : List ℕ) (at f : ℕ) (u : List ℕ) (i : Option ℕ) : Type 0 where
  pub is : (s : Kept) → Keeps Is tag seen at f s → (j : ℕ) → i ≡ Some j → (x : Slot) × (At (held_of tag f s) j x × (x.1 % room seen ≡ tag u % room seen))
  pub none : (s : Kept) → Keeps Is tag seen at f s → (j : ℕ) (k : Key) → At (held_of tag f s) j (k.0, tag k.1) → unwrap_or i 0 < j → Is k.0 k.1 → same u k.1
      ≡ false

at_most : (s : State) (j : ℕ) (x : Slot) → At s j x → j ≤ length (flat s.groups)
at_most s j x a = let y = sits s j x a in omega (arith, y.size, ap length y.split, length-append y.above (x ∷ y.under))

module _ {Is : ℕ → List ℕ → Type 0} {tag : List ℕ → ℕ} {seen : List ℕ} {at f : ℕ} {u : List ℕ} where
  -- at first
  pub seek_begins : (c : ℕ) (i : Option ℕ) → c ≡ tag u → Newest seen c i → Sought Is tag seen at f u i
  seek_begins c i z n = record {
    is = λ s h j p.
        let y = (n.1 (held_of tag f s) h.holds).is j p in
        (y.0, (y.1.0, y.1.1 ∙ ap (λ (x : ℕ). x % room seen) z));
    none = λ s h j k a l g.
        let y = (n.1 (held_of tag f s) h.holds).none j (k.0, tag k.1) a l (at_most (held_of tag f s) j (k.0, tag k.1) a) in
        apart u k.1 (λ e. y (ap (λ (x : ℕ). x % room seen) (ap tag (sym e) ∙ sym z)));
  }

  -- none is left
  pub seek_ends : Sought Is tag seen at f u None → (s : Kept) → Keeps Is tag seen at f s → hits all u (present s.keys) ≡ false
  seek_ends w s h =
      hits_none (Before Is at) u (present s.keys) (each_present (Before Is at) s.keys h.are)
      (λ a k b e g. let y = of_at f s.twice s.stop tag s.keys a k b e in w.none s h y.0 k y.1.0 (omega (arith, y.1.1)) g.0)

  module _ {i : ℕ} (w : Sought Is tag seen at f u (Some i)) where
    -- a slot that is there, and its key
    pub seek_stands : {s : Kept} → Keeps Is tag seen at f s → Stands seen i
    seek_stands {s} h = let y = w.is s h i refl in (held_of tag f s, (h.holds, (y.0, y.1.0)))

    slot_key : (s : Kept) (h : Keeps Is tag seen at f s) → KeyOf (Before Is at) tag (present s.keys) (w.is s h i refl).0
    slot_key s h = at_of f s.twice s.stop tag (Before Is at) s.keys i (w.is s h i refl).0 (w.is s h i refl).1.0 h.are

    placed_key : (s : Kept) (h : Keeps Is tag seen at f s) (r : ℕ) → Placed seen i r → (slot_key s h).key.0 ≡ r
    placed_key s h r g =
        sym (g (held_of tag f s) h.holds (w.is s h i refl).0 (w.is s h i refl).1.0 ∙ ap (λ (x : Slot). x.0) (slot_key s h).slot)

    pub seek_key : {s : Kept} → Keeps Is tag seen at f s → (r : ℕ) → Placed seen i r → (v : List ℕ) × (Is r v × (r < at))
    seek_key {s} h r g =
        let y = slot_key s h in
        let e = placed_key s h r g in
        (y.key.1, (subst (λ (q : ℕ). Is q y.key.1) e y.is.0, omega (arith, y.is.1)))

    -- it is the one sought
    pub seek_finds : (r : ℕ) → Placed seen i r → ((v : List ℕ) → Is r v → same u v ≡ true) → (s : Kept) → Keeps Is tag seen at f s
        → hits all u (present s.keys) ≡ true
    seek_finds r g e s h =
        let y = slot_key s h in
        y.hit u (e y.key.1 (subst (λ (q : ℕ). Is q y.key.1) (placed_key s h r g) y.is.0))

    -- or not: by its tag, or by its bytes
    pub seek_falls : {s : Kept} → Keeps Is tag seen at f s → (r : Option ℕ) → Earlier seen i r → unwrap_or r 0 < i
    seek_falls {s} h r g =
        let x = w.is s h i refl in
        let y = (g (held_of tag f s) h.holds x.0 x.1.0).below in
        let z = sits (held_of tag f s) i x.0 x.1.0 in
        omega (arith, z.size)

    onward : (r : Option ℕ) → Earlier seen i r → ((s : Kept) → Keeps Is tag seen at f s → (k : Key) → At (held_of tag f s) i (k.0, tag k.1)
        → Is k.0 k.1 → same u k.1 ≡ false) → Sought Is tag seen at f u r
    onward r g d = record {
      is = λ s h j z.
          let y = w.is s h i refl in
          let b = (g (held_of tag f s) h.holds y.0 y.1.0).is j z in
          (b.0, (b.1.0, b.1.1 ∙ y.1.1));
      none = λ s h j k a l c. by s h j k a l c (dec_lt i j) (dec_lt j i);
    }
      where
        by : (s : Kept) (h : Keeps Is tag seen at f s) (j : ℕ) (k : Key) → At (held_of tag f s) j (k.0, tag k.1) → unwrap_or r 0 < j → Is k.0 k.1
            → Dec (i < j) → Dec (j < i) → same u k.1 ≡ false
        by s h j k a l c (Dec.yes m) z = w.none s h j k a m c
        by s h j k a l c (Dec.no m) (Dec.yes z) =
            let y = w.is s h i refl in
            apart u k.1 (λ e. (g (held_of tag f s) h.holds y.0 y.1.0).none j (k.0, tag k.1) a l (omega arith)
            (ap (λ (v : List ℕ). tag v % room seen) (sym e) ∙ sym y.1.1))
        by s h j k a l c (Dec.no m) (Dec.no z) =
            let e : j ≡ i = omega arith in
            d s h k (subst (λ (y : ℕ). At (held_of tag f s) y (k.0, tag k.1)) e a) c

    pub seek_past_tag : (c t : ℕ) → c ≡ tag u → Tagged seen i t → (t ≡ c → ⊥) → (r : Option ℕ) → Earlier seen i r → Sought Is tag seen at f u r
    seek_past_tag c t z g n r b =
        onward r b (λ s h k a y. apart u k.1 (λ e. n (g (held_of tag f s) h.holds (k.0, tag k.1) a ∙ ap tag (sym e) ∙ sym z)))

    pub seek_past : (q : ℕ) → Placed seen i q → ((v : List ℕ) → Is q v → same u v ≡ false) → (r : Option ℕ) → Earlier seen i r → Sought Is tag seen at f u r
    seek_past q g n r b =
        onward r b (λ s h k a c. n k.1 (subst (λ (x : ℕ). Is x k.1) (sym (g (held_of tag f s) h.holds (k.0, tag k.1) a)) c))
