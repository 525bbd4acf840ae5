-- One slot more, one less. Assumes nothing.
use mathlib.Core.Path.{◌≡◌, refl, sym, ap, ◌∙◌, subst}
use mathlib.Core.Bool.{Bool, true, false, cond}
use mathlib.Core.List.{List, [], ◌∷◌}
use Prim.Native.Nat.{ℕ, suc, ◌+◌, ◌*◌, ◌-◌, ◌/◌, ◌%◌, ◌<◌, ◌≤◌}
use native.Mathlib.Omega.{arith}
use native.Mathlib.Nat.{mod-lt}
use lib.Dec.{eqb}
use lib.ListN.{length, get_or, set, length-set}
use lib.Seq.{get_or-set_same, get_or-set_other}
use borrow.Author.Tests.{eqb-true, eqb-false}
use Rattle.once.specs.Table.{Slot, room, newest_of, Slotted, Table, HeaderStays, Pushes, Pops}

-- a number that is not the one written
pub past : (l : List ℕ) (i j a : ℕ) → (j ≡ i → ⊥) → get_or (set l i a) j 0 ≡ get_or l j 0
past l i j a h = get_or-set_other l i j a 0 h

pub room_set : (l : List ℕ) (i a : ℕ) → room (set l i a) ≡ room l
room_set l i a = ap (λ (m : ℕ). (m - 8) / 4) (length-set l i a)

-- slots below m keep their numbers
abbrev pub Spares : ℕ → ℕ → Type 0
Spares i m = (x : ℕ) → x < m → (8 + 4 * x ≡ i → ⊥) × (9 + 4 * x ≡ i → ⊥) × (10 + 4 * x ≡ i → ⊥)

pub slotted_set : (n : ℕ) (k : List Slot) (seen : List ℕ) (i a : ℕ) → Spares i (length k) → Slotted n seen k → Slotted n (set seen i a) k
slotted_set n [] seen i a f h = tt
slotted_set n (s ∷ k) seen i a f h =
    let g = f (length k) (omega arith) in (
      past seen i (8 + 4 * length k) a g.0 ∙ h.0,
      past seen i (9 + 4 * length k) a g.1 ∙ h.1,
      past seen i (10 + 4 * length k) a g.2 ∙ h.2,
      slotted_set n k seen i a (λ x l. f x (omega arith)) h.3,
    )

pub spares_high : (i m : ℕ) → 8 + 4 * m ≤ i → Spares i m
spares_high i m h x l = ((λ e. omega arith), (λ e. omega arith), (λ e. omega arith))

pub spares_low : (i m : ℕ) → i < 8 → Spares i m
spares_low i m h x l = ((λ e. omega arith), (λ e. omega arith), (λ e. omega arith))

pub spares_head : (h m : ℕ) → Spares (11 + 4 * h) m
spares_head h m x l = ((λ e. omega arith), (λ e. omega arith), (λ e. omega arith))

-- the chain of the new slot's bucket begins with it, the others are as they were
pub newest_own : (n h : ℕ) (s : Slot) (k : List Slot) → s.1 % n ≡ h → newest_of n h (s ∷ k) ≡ suc (length k)
unfolding newest_of
newest_own n h s k e = go (eqb (s.1 % n) h) refl
  where
    go : (t : Bool) → eqb (s.1 % n) h ≡ t → cond t (suc (length k)) (newest_of n h k) ≡ suc (length k)
    go true f = refl
    go false f = absurd (eqb-false (s.1 % n) h f e)

pub newest_other : (n h : ℕ) (s : Slot) (k : List Slot) → (s.1 % n ≡ h → ⊥) → newest_of n h (s ∷ k) ≡ newest_of n h k
unfolding newest_of
newest_other n h s k e = go (eqb (s.1 % n) h) refl
  where
    go : (t : Bool) → eqb (s.1 % n) h ≡ t → cond t (suc (length k)) (newest_of n h k) ≡ newest_of n h k
    go true f = absurd (e (eqb-true (s.1 % n) h f))
    go false f = refl

abbrev pub pushed : List ℕ → ℕ → ℕ → ℕ → ℕ → ℕ → List ℕ
pushed seen at place tag b top = set (set (set (set (set seen at place) (at + 1) tag) (at + 2) (get_or seen b 0)) b (top + 1)) 0 (top + 1)

module _ (n : ℕ) (seen : List ℕ) (k : List Slot) (t : Table n seen k) (less : length k < n) where
  -- all slots and heads stand within
  pub within : 8 + 4 * n ≤ length seen
  within = omega (arith, t.size, t.some)

  module _ (place tag at b top : ℕ) (a : at ≡ 8 + 4 * length k) (e : b ≡ 11 + 4 * (tag % n)) (f : top ≡ length k) where
    bucket_less : tag % n < n
    bucket_less = mod-lt tag t.some

    after : List ℕ
    after = pushed seen at place tag b top

    s1 : List ℕ
    s1 = set seen at place

    s2 : List ℕ
    s2 = set s1 (at + 1) tag

    s3 : List ℕ
    s3 = set s2 (at + 2) (get_or seen b 0)

    s4 : List ℕ
    s4 = set s3 b (top + 1)

    pub pushed_length : length (pushed seen at place tag b top) ≡ length seen
    pushed_length = simp length-set

    len1 : length s1 ≡ length seen
    unfolding s1
    len1 = simp length-set

    len2 : length s2 ≡ length seen
    unfolding s2 s1
    len2 = simp length-set

    len3 : length s3 ≡ length seen
    unfolding s3 s2 s1
    len3 = simp length-set

    len4 : length s4 ≡ length seen
    unfolding s4 s3 s2 s1
    len4 = simp length-set

    place_is : get_or (pushed seen at place tag b top) (8 + 4 * length k) 0 ≡ place
    unfolding s4 s3 s2 s1
    place_is =
        past s4 0 (8 + 4 * length k) (top + 1) (λ z. omega arith)
        ∙ past s3 b (8 + 4 * length k) (top + 1) (λ z. omega arith)
        ∙ past s2 (at + 2) (8 + 4 * length k) (get_or seen b 0) (λ z. omega arith)
        ∙ past s1 (at + 1) (8 + 4 * length k) tag (λ z. omega arith)
        ∙ ap (λ (x : ℕ). get_or (set seen at place) x 0) (sym a)
        ∙ get_or-set_same seen at place 0 (omega (arith, within, less))

    tag_is : get_or (pushed seen at place tag b top) (9 + 4 * length k) 0 ≡ tag
    unfolding s4 s3 s2 s1
    tag_is =
        past s4 0 (9 + 4 * length k) (top + 1) (λ z. omega arith)
        ∙ past s3 b (9 + 4 * length k) (top + 1) (λ z. omega arith)
        ∙ past s2 (at + 2) (9 + 4 * length k) (get_or seen b 0) (λ z. omega arith)
        ∙ ap (λ (x : ℕ). get_or (set s1 (at + 1) tag) x 0) (omega arith)
        ∙ get_or-set_same s1 (at + 1) tag 0 (omega (arith, within, less, len1))

    link_is : get_or (pushed seen at place tag b top) (10 + 4 * length k) 0 ≡ newest_of n (tag % n) k
    unfolding s4 s3 s2 s1
    link_is =
        past s4 0 (10 + 4 * length k) (top + 1) (λ z. omega arith)
        ∙ past s3 b (10 + 4 * length k) (top + 1) (λ z. omega arith)
        ∙ ap (λ (x : ℕ). get_or (set s2 (at + 2) (get_or seen b 0)) x 0) (omega arith)
        ∙ get_or-set_same s2 (at + 2) (get_or seen b 0) 0 (omega (arith, within, less, len2))
        ∙ ap (λ (x : ℕ). get_or seen x 0) e
        ∙ t.heads (tag % n) bucket_less

    head_own : (h : ℕ) → h < n → tag % n ≡ h → get_or (pushed seen at place tag b top) (11 + 4 * h) 0 ≡ newest_of n h ((place, tag) ∷ k)
    unfolding s4 s3 s2 s1
    head_own h l z =
        past s4 0 (11 + 4 * h) (top + 1) (λ y. omega arith)
        ∙ ap (λ (x : ℕ). get_or (set s3 b (top + 1)) x 0) (omega arith)
        ∙ get_or-set_same s3 b (top + 1) 0 (omega (arith, within, len3, bucket_less))
        ∙ let y : top + 1 ≡ suc (length k) = omega arith in y
        ∙ sym (newest_own n h (place, tag) k z)

    head_other : (h : ℕ) → h < n → (tag % n ≡ h → ⊥) → get_or (pushed seen at place tag b top) (11 + 4 * h) 0 ≡ newest_of n h ((place, tag) ∷ k)
    unfolding s4 s3 s2 s1
    head_other h l z =
        past s4 0 (11 + 4 * h) (top + 1) (λ y. omega arith)
        ∙ past s3 b (11 + 4 * h) (top + 1) (λ y. z (omega arith))
        ∙ past s2 (at + 2) (11 + 4 * h) (get_or seen b 0) (λ y. omega arith)
        ∙ past s1 (at + 1) (11 + 4 * h) tag (λ y. omega arith)
        ∙ past seen at (11 + 4 * h) place (λ y. omega arith)
        ∙ t.heads h l
        ∙ sym (newest_other n h (place, tag) k z)

    head_is : (h : ℕ) → h < n → get_or (pushed seen at place tag b top) (11 + 4 * h) 0 ≡ newest_of n h ((place, tag) ∷ k)
    head_is h l = go (eqb (tag % n) h) refl
      where
        go : (x : Bool) → eqb (tag % n) h ≡ x → get_or (pushed seen at place tag b top) (11 + 4 * h) 0 ≡ newest_of n h ((place, tag) ∷ k)
        go true z = head_own h l (eqb-true (tag % n) h z)
        go false z = head_other h l (λ y. eqb-false (tag % n) h z y)

    pub push_table : Table n (pushed seen at place tag b top) ((place, tag) ∷ k)
    unfolding s4 s3 s2 s1
    push_table =
        record {
          some = t.some;
          size = t.size ∙ ap (λ (m : ℕ). (m - 8) / 4) (sym pushed_length);
          short = omega (arith, t.short, pushed_length);
          top = get_or-set_same s4 0 (top + 1) 0 (omega (arith, within, len4)) ∙ (let y : top + 1 ≡ suc (length k) = omega arith in y);
          few = omega arith;
          slots = (
            place_is,
            tag_is,
            link_is,
            slotted_set n k s4 0 (top + 1) (spares_low 0 (length k) (omega arith))
                (slotted_set n k s3 b (top + 1) (subst (λ (x : ℕ). Spares x (length k)) (sym e) (spares_head (tag % n) (length k)))
                (slotted_set n k s2 (at + 2) (get_or seen b 0) (spares_high (at + 2) (length k) (omega arith))
                (slotted_set n k s1 (at + 1) tag (spares_high (at + 1) (length k) (omega arith))
                (slotted_set n k seen at place (spares_high at (length k) (omega arith)) t.slots)))),
          );
          heads = head_is;
        }

abbrev pub popped : List ℕ → ℕ → ℕ → ℕ → List ℕ
popped seen b link top = set (set seen b link) 0 top

module _ (n : ℕ) (seen : List ℕ) (s : Slot) (k : List Slot) (t : Table n seen (s ∷ k)) where
  -- the newest slot's numbers
  pub top_tag : get_or seen (9 + 4 * length k) 0 ≡ s.1
  top_tag = t.slots.1

  pub top_link : get_or seen (10 + 4 * length k) 0 ≡ newest_of n (s.1 % n) k
  top_link = t.slots.2

  pub inside : 8 + 4 * n ≤ length seen
  inside = omega (arith, t.size, t.some)

  module _ (b link top : ℕ) (e : b ≡ 11 + 4 * (s.1 % n)) (f : link ≡ newest_of n (s.1 % n) k) (g : top ≡ length k) where
    less : s.1 % n < n
    less = mod-lt s.1 t.some

    pub popped_length : length (popped seen b link top) ≡ length seen
    popped_length = simp length-set

    own : (h : ℕ) → h < n → s.1 % n ≡ h → get_or (popped seen b link top) (11 + 4 * h) 0 ≡ newest_of n h k
    own h l z =
        past (set seen b link) 0 (11 + 4 * h) top (λ y. omega arith)
        ∙ ap (λ (x : ℕ). get_or (set seen b link) x 0) (omega arith)
        ∙ get_or-set_same seen b link 0 (omega (arith, inside, less))
        ∙ f ∙ ap (λ (x : ℕ). newest_of n x k) z

    other : (h : ℕ) → h < n → (s.1 % n ≡ h → ⊥) → get_or (popped seen b link top) (11 + 4 * h) 0 ≡ newest_of n h k
    other h l z =
        past (set seen b link) 0 (11 + 4 * h) top (λ y. omega arith)
        ∙ past seen b (11 + 4 * h) link (λ y. z (omega arith))
        ∙ t.heads h l
        ∙ newest_other n h s k z

    pub pop_table : Table n (popped seen b link top) k
    pop_table =
        record {
          some = t.some;
          size = t.size ∙ ap (λ (m : ℕ). (m - 8) / 4) (sym popped_length);
          short = omega (arith, t.short, popped_length);
          top = get_or-set_same (set seen b link) 0 top 0 (omega (arith, inside, len)) ∙ g;
          few = omega (arith, t.few);
          slots =
              slotted_set n k (set seen b link) 0 top (spares_low 0 (length k) (omega arith))
              (slotted_set n k seen b link (subst (λ (x : ℕ). Spares x (length k)) (sym e) (spares_head (s.1 % n) (length k))) t.slots.3);
          heads = λ h l. go h l (eqb (s.1 % n) h) refl;
        }
      where
        len : length (set seen b link) ≡ length seen
        len = simp length-set

        go : (h : ℕ) → h < n → (x : Bool) → eqb (s.1 % n) h ≡ x → get_or (popped seen b link top) (11 + 4 * h) 0 ≡ newest_of n h k
        go h l true z = own h l (eqb-true (s.1 % n) h z)
        go h l false z = other h l (λ y. eqb-false (s.1 % n) h z y)

-- ---- as the code does it

keeps_pushed : (seen : List ℕ) (place tag at b top n : ℕ) → at ≡ 8 + 4 * top → b ≡ 11 + 4 * (tag % n) → HeaderStays seen (pushed seen at place tag b top)
keeps_pushed seen place tag at b top n a e = (
  simp length-set,
  λ j l h.
      past (set (set (set (set seen at place) (at + 1) tag) (at + 2) (get_or seen b 0)) b (top + 1)) 0 j (top + 1) (λ y. omega arith)
      ∙ past (set (set (set seen at place) (at + 1) tag) (at + 2) (get_or seen b 0)) b j (top + 1) (λ y. omega arith)
      ∙ past (set (set seen at place) (at + 1) tag) (at + 2) j (get_or seen b 0) (λ y. omega arith)
      ∙ past (set seen at place) (at + 1) j tag (λ y. omega arith)
      ∙ past seen at j place (λ y. omega arith),
)

keeps_popped : (seen : List ℕ) (b link top x n : ℕ) → b ≡ 11 + 4 * (x % n) → HeaderStays seen (popped seen b link top)
keeps_popped seen b link top x n e = (
  simp length-set,
  λ j l h.
      past (set seen b link) 0 j top (λ y. omega arith)
      ∙ past seen b j link (λ y. omega arith),
)

pub push_does : (seen : List ℕ) (place tag at b top n : ℕ) → at ≡ 8 + 4 * top → b ≡ 11 + 4 * (tag % n) → top ≡ get_or seen 0 0 → n ≡ room seen
    → Pushes seen (pushed seen at place tag b top) place tag
push_does seen place tag at b top n a e f g = (keeps_pushed seen place tag at b top n a e, λ k t l. go k t l)
  where
    go : (k : List Slot) → Table (room seen) seen k → length k < room seen → Table (room (pushed seen at place tag b top)) (pushed seen at place tag b top)
        ((place, tag) ∷ k)
    go k t l =
        let z = push_table (room seen) seen k t l place tag at b top (omega (arith, t.top)) (subst (λ (m : ℕ). b ≡ 11 + 4 * (tag % m)) g e) (f ∙ t.top) in
        subst (λ (m : ℕ). Table m (pushed seen at place tag b top) ((place, tag) ∷ k)) z.size z

pub pop_does : (seen : List ℕ) (b at top n : ℕ) → at ≡ 8 + 4 * top → b ≡ 11 + 4 * (get_or seen (at + 1) 0 % n) → top + 1 ≡ get_or seen 0 0 → n ≡ room seen
    → Pops seen (popped seen b (get_or seen (at + 2) 0) top)
pop_does seen b at top n a e f g = (keeps_popped seen b (get_or seen (at + 2) 0) top (get_or seen (at + 1) 0) n e, λ s k t. go s k t)
  where
    go : (s : Slot) (k : List Slot) → Table (room seen) seen (s ∷ k) → Table (room (popped seen b (get_or seen (at + 2) 0) top))
        (popped seen b (get_or seen (at + 2) 0) top) k
    go s k t =
        let m : top ≡ length k = omega (arith, t.top) in
        let i : at + 1 ≡ 9 + 4 * length k = omega arith in
        let j : at + 2 ≡ 10 + 4 * length k = omega arith in
        let z = pop_table (room seen) seen s k t b (get_or seen (at + 2) 0) top
        (e ∙ ap (λ (x : ℕ). 11 + 4 * (x % n)) (ap (λ (x : ℕ). get_or seen x 0) i ∙ top_tag (room seen) seen s k t) ∙ ap (λ (x : ℕ). 11 + 4 * (s.1 % x)) g)
        (ap (λ (x : ℕ). get_or seen x 0) j ∙ top_link (room seen) seen s k t) m in
        subst (λ (x : ℕ). Table x (popped seen b (get_or seen (at + 2) 0) top) k) z.size z
