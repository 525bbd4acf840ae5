-- A pass: the table and the stack from one record to the next. Assumes nothing.
use mathlib.Core.Path.{◌≡◌, refl, sym, ap, ap₂, ◌∙◌, subst}
use mathlib.Core.Bool.{Bool, true, false, cond}
use mathlib.Core.List.{List, [], ◌∷◌, ◌++◌, append_assoc, append-nil}
use Prim.Native.Nat.{ℕ, suc, ◌+◌, ◌-◌, ◌*◌, ◌/◌, ◌%◌, ◌≤◌, ◌<◌}
use native.Mathlib.Omega.{arith}
use lib.ListN.{length, get_or, set, take, drop, length-set}
use lib.Seq.{get_or-set_same, get_or-set_other}
use Rattle.meaning.specs.declared.Record.{Record}
use Rattle.meaning.specs.Limits.{record_limit, depth_limit}
use Rattle.meaning.specs.Between.Words.{mark, mark_of}
use Rattle.meaning.specs.Look.{RecordAt}
use Rattle.meaning.specs.Between.Events.{Event, begins, named}
use Rattle.once.specs.Hash.{hash_of}
use Rattle.once.specs.Groups.{Sane, Opens, Does, deeper, shallower}
use Rattle.once.specs.Windows.{nothing, level}
use Rattle.once.specs.Keeping.{Goes}
use Rattle.once.proofs.WindowsLevelLaws.{level_join, passes_level}
use Rattle.once.proofs.KeepingLaws.{keeps_sane, keeps_opens, goes_none, goes_join, goes_further, opens_on, closes_on}
use Rattle.tape.specs.declared.Words.{Words}
use Rattle.tape.specs.Between.Shapes.{record_of, words_at}
use Rattle.tape.specs.Between.Standing.{read_at, records_from}
use Rattle.tape.specs.Between.Key.{Open, array_to, object_to, end_of, ending, in_object, gives, open_after, events_in, Shallow, Standing, KeyIs, Comes, Notes}
use Rattle.tape.specs.Between.Key.{number_of, Stacked, Innermost, objects_of, Walk, Walks, Clear, Walking, Ready, Passed, Empty}
use Rattle.tape.proofs.ShapesLaws.{only_key, only_array, only_object}
use Rattle.tape.proofs.LookingLaws.{record_numbers}
use Rattle.tape.proofs.KeyEventsLaws.{Lasting, events_close, events_step, events_none, shallow_closed, shallow_after}

-- ---- the stack

stack_set : (os : List Open) (stack : List ℕ) (j x : ℕ) → length os ≤ j → Stacked stack os → Stacked (set stack j x) os
stack_set [] stack j x h s = tt
stack_set (o ∷ os) stack j x h s = (get_or-set_other stack j (length os) x 0 (λ e. omega arith) ∙ s.0, stack_set os stack j x (omega arith) s.1)

later_clear : (os : List Open) (stack : List ℕ) (depth i : ℕ) → Stacked stack os → length os ≡ depth → Clear stack depth i → Lasting i os
later_clear [] stack depth i s l h = tt
later_clear (array_to e ∷ os) stack depth i s l h =
    let z : length os ≡ depth - 1 = omega arith in
    let y : get_or stack (depth - 1) 0 ≡ 2 * e = ap (λ (k : ℕ). get_or stack k 0) (sym z) ∙ s.0 in
    omega (arith, h (omega arith))
later_clear (object_to e ∷ os) stack depth i s l h =
    let z : length os ≡ depth - 1 = omega arith in
    let y : get_or stack (depth - 1) 0 ≡ 2 * e + 1 = ap (λ (k : ℕ). get_or stack k 0) (sym z) ∙ s.0 in
    omega (arith, h (omega arith))

some_object : (os : List Open) → in_object os ≡ true → 0 < objects_of os
some_object [] e = let z : ◌≡◌ {A = ℕ} 0 1 = cc in absurd (omega arith)
some_object (array_to x ∷ os) e = let z : ◌≡◌ {A = ℕ} 0 1 = cc in absurd (omega arith)
some_object (object_to x ∷ os) e = omega arith

-- ---- a pass begins

pub walk_start : (tape store : List ℕ) (bound from : ℕ) (seen stack : List ℕ) → Standing tape store bound → Empty tape store from seen
    → length stack ≡ depth_limit → Walks tape store bound from seen stack 0 0
unfolding level
walk_start tape store bound from seen stack h k l =
    let z : bound - 0 ≡ bound = omega arith in (
      [],
      record {
        standing = h;
        within = omega arith;
        so = [];
        goes = goes_none k;
        whole = ap (λ (n : ℕ). events_in store (records_from n tape 0) 0 []) z;
        shallow = rw z h.shallow;
        many = refl;
        deepest = omega arith;
        objects = refl;
        stacked = tt;
        long = l;
      },
    )

module _ {tape store : List ℕ} {bound from : ℕ} {seen stack : List ℕ} {depth i : ℕ} where
  pub walk_sane : Walks tape store bound from seen stack depth i → Sane seen
  walk_sane w = keeps_sane w.1.goes.keeps

  pub walk_opens : Walks tape store bound from seen stack depth i → Opens seen
  walk_opens w = keeps_opens w.1.goes.keeps

  pub walk_room : Walks tape store bound from seen stack depth i → depth ≤ length stack
  walk_room w = omega (arith, w.1.deepest, w.1.long)

  pub walk_few : Walks tape store bound from seen stack depth i → i ≤ record_limit
  walk_few w = omega (arith, w.1.within, w.1.standing.few)

  pub walking : Walks tape store bound from seen stack depth i → Walking seen stack depth i
  walking w = record { tape = tape; store = store; bound = bound; from = from; walks = w }

  pub walk_ready : Walks tape store bound from seen stack depth i → Clear stack depth i → (i ≡ bound → ⊥) → Ready tape store bound from seen stack depth i
  walk_ready w c n = record { walks = w; clear = c; below = omega (arith, w.1.within) }

  -- so many objects are open in the table
  in_table : {os : List Open} (w : Walk tape store bound from seen stack depth i os) → length w.goes.next.keys ≡ objects_of os
  in_table w = passes_level w.goes.passes ∙ w.objects

  -- ---- a container closes

  shut : (o : Open) (os : List Open) (w : Walk tape store bound from seen stack depth i (o ∷ os)) (seen' : List ℕ)
      → Goes (KeyIs tape store) (hash_of from) seen' i from w.goes.next (ending o) → level (objects_of (o ∷ os)) (ending o) ≡ objects_of os
      → end_of o ≤ i → Walk tape store bound from seen' stack (depth - 1) i os
  shut o os w seen' g n l =
      let rs = records_from (bound - i) tape i in
      record {
        standing = w.standing;
        within = w.within;
        so = w.so ++ ending o;
        goes = goes_join w.goes g;
        whole =
            append_assoc w.so (ending o) (events_in store rs i os)
            ∙ ap (λ (x : List Event). w.so ++ x) (sym (events_close store rs i o os l))
            ∙ w.whole;
        shallow = shallow_closed rs i o os l w.shallow;
        many = omega (arith, w.many);
        deepest = omega (arith, w.deepest);
        objects = level_join 0 w.so (ending o) ∙ ap (λ (k : ℕ). level k (ending o)) w.objects ∙ n;
        stacked = w.stacked.1;
        long = w.long;
      }

  module _ (n : 0 < depth) (l : get_or stack (depth - 1) 0 / 2 ≤ i) where
    pub walk_shut_object : get_or stack (depth - 1) 0 % 2 ≡ 1 → Walks tape store bound from seen stack depth i → (seen' : List ℕ) → Does shallower seen seen'
        → Walks tape store bound from seen' stack (depth - 1) i
    unfolding level
    walk_shut_object e w seen' d = go w.0 w.1
      where
        go : (os : List Open) → Walk tape store bound from seen stack depth i os → Walks tape store bound from seen' stack (depth - 1) i
        go [] w = absurd (omega (arith, w.many))
        go (array_to x ∷ os) w = absurd
            (let z : length os ≡ depth - 1 = omega (arith, w.many) in
            let y : get_or stack (depth - 1) 0 ≡ 2 * x = ap (λ (k : ℕ). get_or stack k 0) (sym z) ∙ w.stacked.0 in
            omega arith)
        go (object_to x ∷ os) w =
            let z : length os ≡ depth - 1 = omega (arith, w.many) in
            let y : get_or stack (depth - 1) 0 ≡ 2 * x + 1 = ap (λ (k : ℕ). get_or stack k 0) (sym z) ∙ w.stacked.0 in (
              os,
              shut (object_to x) os w seen'
                  (closes_on w.goes.keeps i (omega arith) w.goes.keeps.within seen' d (omega (arith, in_table w))) refl (omega arith),
            )

    pub walk_shut_array : (get_or stack (depth - 1) 0 % 2 ≡ 1 → ⊥) → Walks tape store bound from seen stack depth i
        → Walks tape store bound from seen stack (depth - 1) i
    unfolding level
    walk_shut_array e w = go w.0 w.1
      where
        go : (os : List Open) → Walk tape store bound from seen stack depth i os → Walks tape store bound from seen stack (depth - 1) i
        go [] w = absurd (omega (arith, w.many))
        go (array_to x ∷ os) w =
            let z : length os ≡ depth - 1 = omega (arith, w.many) in
            let y : get_or stack (depth - 1) 0 ≡ 2 * x = ap (λ (k : ℕ). get_or stack k 0) (sym z) ∙ w.stacked.0 in
            (os, shut (array_to x) os w seen (goes_none w.goes.keeps) refl (omega arith))
        go (object_to x ∷ os) w = absurd
            (let z : length os ≡ depth - 1 = omega (arith, w.many) in
            let y : get_or stack (depth - 1) 0 ≡ 2 * x + 1 = ap (λ (k : ℕ). get_or stack k 0) (sym z) ∙ w.stacked.0 in
            e (omega arith))

-- one container after the other
pub record Closing (before stack : List ℕ) (count i : ℕ) (seen : List ℕ) (depth : ℕ) : Type 0 where
  pub same_length : length seen ≡ length before
  pub onward : (tape store : List ℕ) (bound from : ℕ) → Walks tape store bound from before stack count i → Walks tape store bound from seen stack depth i

pub closing_none : (seen stack : List ℕ) (count i : ℕ) → Closing seen stack count i seen count
closing_none seen stack count i = record { same_length = refl; onward = λ tape store bound from w. w }

module _ {before stack : List ℕ} {count i : ℕ} {seen : List ℕ} {depth : ℕ} (h : Closing before stack count i seen depth) where
  module _ (p : Walking before stack count i) where
    walks_here : Walks p.tape p.store p.bound p.from seen stack depth i
    walks_here = h.onward p.tape p.store p.bound p.from p.walks

    pub closing_sane : Sane seen
    closing_sane = walk_sane walks_here

    pub closing_room : depth ≤ length stack
    closing_room = walk_room walks_here

  pub closing_object : 0 < depth → get_or stack (depth - 1) 0 / 2 ≤ i → get_or stack (depth - 1) 0 % 2 ≡ 1 → (seen' : List ℕ) → Does shallower seen seen'
      → Closing before stack count i seen' (depth - 1)
  closing_object n l e seen' d = record {
    same_length = d.0 ∙ h.same_length;
    onward = λ tape store bound from w. walk_shut_object n l e (h.onward tape store bound from w) seen' d;
  }

  pub closing_array : 0 < depth → get_or stack (depth - 1) 0 / 2 ≤ i → (get_or stack (depth - 1) 0 % 2 ≡ 1 → ⊥) → Closing before stack count i seen (depth - 1)
  closing_array n l e = record {
    same_length = h.same_length;
    onward = λ tape store bound from w. walk_shut_array n l e (h.onward tape store bound from w);
  }

  -- none is left
  pub closing_all : depth ≤ 0 → (tape store : List ℕ) (bound from : ℕ) → Walks tape store bound from before stack count i
      → Walks tape store bound from seen stack 0 i
  closing_all l tape store bound from w =
      let z : depth ≡ 0 = omega arith in subst (λ (d : ℕ). Walks tape store bound from seen stack d i) z (h.onward tape store bound from w)

-- ---- the record at an index

next_records : (tape : List ℕ) (bound i : ℕ) → i < bound → records_from (bound - i) tape i ≡ read_at tape i ∷ records_from (bound - (i + 1)) tape (i + 1)
unfolding records_from
next_records tape bound i l = let z : bound - i ≡ suc (bound - (i + 1)) = omega arith in ap (λ (n : ℕ). records_from n tape i) z

module _ (tape : List ℕ) (i : ℕ) {w : Words} (e : w ≡ words_at tape (i * 16)) where
  reads : {r : Record} → record_of w.mark w.low w.mid w.high ≡ r → read_at tape i ≡ r
  unfolding read_at
  reads q = ap (λ (x : Words). record_of x.mark x.low x.mid x.high) (sym e) ∙ q

  read_key : w.mark ≡ mark "k" "y" → read_at tape i ≡ Record.Key w.mid w.high
  read_key m = reads (only_key w.mark w.low w.mid w.high m)

  read_array : w.mark ≡ mark "a" "r" → read_at tape i ≡ Record.Array w.mid w.high
  read_array m = reads (only_array w.mark w.low w.mid w.high m)

  read_object : w.mark ≡ mark "o" "b" → read_at tape i ≡ Record.Object w.mid w.high
  read_object m = reads (only_object w.mark w.low w.mid w.high m)

-- a record that is no key and no container
record Idle (r : Record) : Type 0 where
  gives_none : (store : List ℕ) (os : List Open) (i : ℕ) → gives store os i r ≡ []
  opens_none : (os : List Open) → open_after r os ≡ os

idle : (r : Record) → (mark_of r ≡ mark "k" "y" → ⊥) → (mark_of r ≡ mark "a" "r" → ⊥) → (mark_of r ≡ mark "o" "b" → ⊥) → Idle r
unfolding mark_of
idle Record.Null ky ar ob = record { gives_none = λ store os i. refl; opens_none = λ os. refl }
idle (Record.Bool b) ky ar ob = record { gives_none = λ store os i. refl; opens_none = λ os. refl }
idle (Record.Number n) ky ar ob = record { gives_none = λ store os i. refl; opens_none = λ os. refl }
idle (Record.Str size start) ky ar ob = record { gives_none = λ store os i. refl; opens_none = λ os. refl }
idle (Record.Key size start) ky ar ob = absurd (ky refl)
idle (Record.Bin size start) ky ar ob = record { gives_none = λ store os i. refl; opens_none = λ os. refl }
idle (Record.Time t) ky ar ob = record { gives_none = λ store os i. refl; opens_none = λ os. refl }
idle (Record.Array count end) ky ar ob = absurd (ar refl)
idle (Record.Object count end) ky ar ob = absurd (ob refl)

-- ---- one record more

module _ {tape store : List ℕ} {bound from : ℕ} {seen stack : List ℕ} {depth i : ℕ} (h : Ready tape store bound from seen stack depth i) where
  abbrev os : List Open
  os = h.walks.0

  abbrev walk : Walk tape store bound from seen stack depth i os
  walk = h.walks.1

  later : Lasting i os
  later = later_clear os stack depth i walk.stacked walk.many h.clear

  small : i + 1 < 4294967295
  small = omega (arith, h.below, walk.standing.few)

  pub ready_within : i * 16 + 16 ≤ length tape
  ready_within = omega (arith, (walk.standing.each i h.below).within)

  pub ready_few : i < record_limit
  ready_few = omega (arith, h.below, walk.standing.few)

  on : (r : Record) → read_at tape i ≡ r → (es : List Event) → gives store os i r ≡ es → (os' : List Open) → open_after r os ≡ os'
      → (seen' stack' : List ℕ) (depth' : ℕ) → Goes (KeyIs tape store) (hash_of from) seen' (i + 1) from walk.goes.next es
      → level (objects_of os) es ≡ objects_of os' → Stacked stack' os' → length stack' ≡ depth_limit → length os' ≡ depth'
      → Walks tape store bound from seen' stack' depth' (i + 1)
  on r q es v os' o seen' stack' depth' g n s l m =
      let rs = records_from (bound - (i + 1)) tape (i + 1) in
      let next = next_records tape bound i h.below ∙ ap (λ (x : Record). x ∷ rs) q in
      let after = shallow_after r rs i os later (subst (λ (x : List Record). Shallow x i os) next walk.shallow) in (
        os',
        record {
          standing = walk.standing;
          within = omega (arith, h.below);
          so = walk.so ++ es;
          goes = goes_join walk.goes g;
          whole =
              append_assoc walk.so es (events_in store rs (i + 1) os')
              ∙ ap (λ (x : List Event). walk.so ++ x)
              (ap₂ (λ (x : List Event) (y : List Open). x ++ events_in store rs (i + 1) y) (sym v) (sym o)
              ∙ sym (events_step store r rs i os later)
              ∙ ap (λ (x : List Record). events_in store x i os) (sym next))
              ∙ walk.whole;
          shallow = subst (Shallow rs (i + 1)) o after.1;
          many = m;
          deepest = omega (arith, after.0, ap length o);
          objects = level_join 0 walk.so es ∙ ap (λ (k : ℕ). level k es) walk.objects ∙ n;
          stacked = s;
          long = l;
        },
      )

  nothing_happens : Goes (KeyIs tape store) (hash_of from) seen (i + 1) from walk.goes.next []
  nothing_happens = goes_further (goes_none walk.goes.keeps) (i + 1) (omega arith) small

  pub ready_inside : {b t : Bool} → Innermost stack depth b → b ≡ t → in_object os ≡ t
  ready_inside n e = sym (n os walk.stacked walk.many) ∙ e

  -- no key and no container
  pub walk_idle : {w : Words} → w ≡ words_at tape (i * 16) → (w.mark ≡ mark "k" "y" → ⊥) → (w.mark ≡ mark "a" "r" → ⊥) → (w.mark ≡ mark "o" "b" → ⊥)
      → Walks tape store bound from seen stack depth (i + 1)
  unfolding level
  walk_idle {w} e ky ar ob =
      let a = walk.standing.each i h.below in
      let m : w.mark ≡ mark_of (read_at tape i) = ap (λ (x : Words). x.mark) e ∙ (record_numbers tape store i (read_at tape i) a).mark_is in
      let y = idle (read_at tape i) (λ q. ky (m ∙ q)) (λ q. ar (m ∙ q)) (λ q. ob (m ∙ q)) in
      on (read_at tape i) refl [] (y.gives_none store os i) os (y.opens_none os) seen stack depth nothing_happens refl walk.stacked walk.long
      walk.many

  -- a container
  room : (r : Record) → read_at tape i ≡ r → (o : Open) → open_after r os ≡ o ∷ os → depth < depth_limit
  room r q o e =
      let rs = records_from (bound - (i + 1)) tape (i + 1) in
      let next = next_records tape bound i h.below ∙ ap (λ (x : Record). x ∷ rs) q in
      let after = shallow_after r rs i os later (subst (λ (x : List Record). Shallow x i os) next walk.shallow) in
      omega (arith, after.0, ap length e, walk.many)

  put_stack : (o : Open) → depth < depth_limit → Stacked (set stack depth (number_of o)) (o ∷ os)
  put_stack o l = (
    ap (λ (k : ℕ). get_or (set stack depth (number_of o)) k 0) walk.many ∙ get_or-set_same stack depth (number_of o) 0 (omega (arith, walk.long)),
    stack_set os stack depth (number_of o) (omega (arith, walk.many)) walk.stacked,
  )

  module _ {w : Words} (e : w ≡ words_at tape (i * 16)) where
    -- its end is not after the records
    end_small : (r : Record) → read_at tape i ≡ r → RecordAt tape store i r
    end_small r q = subst (RecordAt tape store i) q (walk.standing.each i h.below)

    pub array_room : w.mark ≡ mark "a" "r" → (depth < depth_limit) × (w.high ≤ length tape)
    array_room m =
        let q = read_array tape i e m in
        (room (Record.Array w.mid w.high) q (array_to w.high) refl, omega (arith, (end_small (Record.Array w.mid w.high) q).own.1))

    pub object_room : w.mark ≡ mark "o" "b" → (depth < depth_limit) × (w.high ≤ length tape)
    object_room m =
        let q = read_object tape i e m in
        (room (Record.Object w.mid w.high) q (object_to w.high) refl, omega (arith, (end_small (Record.Object w.mid w.high) q).own.1))

    pub walk_array : w.mark ≡ mark "a" "r" → Walks tape store bound from seen (set stack depth (2 * w.high)) (depth + 1) (i + 1)
    unfolding level
    walk_array m =
        let l = (array_room m).0 in
        on (Record.Array w.mid w.high) (read_array tape i e m) [] refl (array_to w.high ∷ os) refl seen (set stack depth (2 * w.high)) (depth + 1)
        nothing_happens refl (put_stack (array_to w.high) l) (length-set stack depth (2 * w.high) ∙ walk.long) (omega (arith, walk.many))

    pub walk_object : w.mark ≡ mark "o" "b" → (seen' : List ℕ) → Does deeper seen seen'
        → Walks tape store bound from seen' (set stack depth (2 * w.high + 1)) (depth + 1) (i + 1)
    unfolding level
    walk_object m seen' d =
        let l = (object_room m).0 in
        on (Record.Object w.mid w.high) (read_object tape i e m) (begins ∷ []) refl (object_to w.high ∷ os) refl seen'
        (set stack depth (2 * w.high + 1)) (depth + 1)
        (opens_on walk.goes.keeps (i + 1) (omega arith) small seen' d (omega arith)) refl (put_stack (object_to w.high) l)
        (length-set stack depth (2 * w.high + 1) ∙ walk.long) (omega (arith, walk.many))

    -- a key
    module _ (m : w.mark ≡ mark "k" "y") where
      pub key_there : KeyIs tape store i (take (w.high + w.mid - w.high) (drop w.high store))
      key_there =
          let z : w.mid ≡ w.high + w.mid - w.high = omega arith in
          record {
            size = w.mid;
            start = w.high;
            there = end_small (Record.Key w.mid w.high) (read_key tape i e m);
            is = ap (λ (n : ℕ). take n (drop w.high store)) (sym z);
          }

      pub walk_no_key : in_object os ≡ false → Walks tape store bound from seen stack depth (i + 1)
      unfolding level
      walk_no_key n =
          on (Record.Key w.mid w.high) (read_key tape i e m) []
          (ap (λ (b : Bool). cond b (named i (take w.mid (drop w.high store)) ∷ []) []) n) os refl seen stack depth nothing_happens refl
          walk.stacked walk.long walk.many

      pub key_comes : in_object os ≡ true → Comes tape store i from (take (w.high + w.mid - w.high) (drop w.high store)) seen walk.goes.next
      key_comes n = record { keeps = walk.goes.keeps; is = key_there; inside = omega (arith, in_table walk, some_object os n); few = ready_few }

      pub walk_key : in_object os ≡ true → (seen' : List ℕ) → Notes tape store i from (take (w.high + w.mid - w.high) (drop w.high store)) seen seen'
          → Walks tape store bound from seen' stack depth (i + 1)
      unfolding level
      walk_key n seen' g =
          let z : w.mid ≡ w.high + w.mid - w.high = omega arith in
          let u = take (w.high + w.mid - w.high) (drop w.high store) in
          on (Record.Key w.mid w.high) (read_key tape i e m) (named i u ∷ [])
          (ap (λ (b : Bool). cond b (named i (take w.mid (drop w.high store)) ∷ []) []) n
          ∙ ap (λ (k : ℕ). named i (take k (drop w.high store)) ∷ []) z)
          os refl seen' stack depth (g walk.goes.next (key_comes n)) refl walk.stacked walk.long walk.many

-- ---- a pass ends

pub walk_end : {tape store : List ℕ} {bound from : ℕ} {seen stack : List ℕ} {depth i : ℕ} → Walks tape store bound from seen stack depth i
    → Clear stack depth i → i ≡ bound → Passed tape store bound from seen
unfolding records_from
walk_end {tape} {store} {bound} {from} {seen} {stack} {depth} {i} w c e =
    let z : bound - i ≡ 0 = omega arith in
    let l = later_clear w.0 stack depth i w.1.stacked w.1.many c in
    let q : w.1.so ≡ events_in store (records_from bound tape 0) 0 [] =
    sym (append-nil w.1.so)
    ∙ ap (λ (x : List Event). w.1.so ++ x)
    (sym (ap (λ (n : ℕ). events_in store (records_from n tape i) i w.0) z ∙ events_none store i w.0 l))
    ∙ w.1.whole in
    subst (λ (k : ℕ). Goes (KeyIs tape store) (hash_of from) seen k from nothing (events_in store (records_from bound tape 0) 0 [])) e
    (subst (Goes (KeyIs tape store) (hash_of from) seen i from nothing) q w.1.goes)
