-- What the machine says yes to are the records of a meaning. Assumes nothing.
use mathlib.Core.Path.{◌≡◌, refl, sym, ap, ap₂, ◌∙◌, subst}
use mathlib.Core.Bool.{Bool, true, false, cond}
use mathlib.Core.List.{List, [], ◌∷◌, ◌++◌, append_assoc, append-nil}
use Prim.Native.Nat.{ℕ, ◌+◌, ◌-◌, ◌≤◌, ◌<◌}
use native.Mathlib.Omega.{arith}
use lib.Dec.{ltb, eqb}
use lib.ListN.{length, drop, length-append, length-drop, take-append-drop, drop_of_length-le}
use lib.Seq.{length-take-le, drop-drop}
use borrow.Author.Tests.{ltb-true, eqb-true}
use Rattle.meaning.specs.declared.Record.{Record}
use Rattle.meaning.specs.Limits.{depth_limit}
use Rattle.meaning.specs.Meaning.{Meaning, Meanings, Members, null, bool, number, string, binary, time, array, object, more, member}
use Rattle.meaning.specs.Good.{depth, elements_depth, members_depth}
use Rattle.meaning.specs.Tape.{records, elements_records, members_records, elements_count, members_count, store_of, elements_store, members_store, records_of}
use Rattle.meaning.specs.Tape.{elements_of, members_of}
use Rattle.meaning.proofs.Sizes.{most_least}
use Rattle.tape.specs.Between.Turns.{bytes_end}
use Rattle.tape.proofs.JudgingMachineLaws.{Frame, root, in_array, in_object, Conf, nothing, whole, elements, members, keyed, broken, says, nay, Kind}
use Rattle.tape.proofs.JudgingMachineLaws.{of_values, of_members, slot, put, key, begin, enter, give, settle, size_of, start_of, does, part, act_of, push}
use Rattle.tape.proofs.JudgingMachineLaws.{finish, run, Stated, by_bool, by_shut}

-- how many records open containers have taken, the bytes that they hold, and the records themselves
unfoldable pub taken : List Frame → ℕ
taken [] = 0
taken (root ∷ fs) = 0
taken (in_array e ms ∷ fs) = taken fs + 1 + elements_records ms
taken (in_object e ms k ∷ fs) = taken fs + 1 + members_records ms + 1

unfoldable pub held : List Frame → List ℕ
held [] = []
held (root ∷ fs) = []
held (in_array e ms ∷ fs) = held fs ++ elements_store ms
held (in_object e ms k ∷ fs) = held fs ++ members_store ms ++ k

unfoldable pub flat : List Frame → List Record
flat [] = []
flat (root ∷ fs) = []
flat (in_array e ms ∷ fs) = flat fs ++ (Record.Array e.count e.end ∷ elements_of ms (taken fs + 1) (length (held fs)))
flat (in_object e ms k ∷ fs) =
    flat fs ++ (Record.Object e.count e.end ∷ members_of ms (taken fs + 1) (length (held fs)))
    ++ (Record.Key (length k) (length (held fs) + length (members_store ms)) ∷ [])

-- none of what is held is too deep
abbrev pub Shallow : List Frame → Type 0
Shallow [] = 0 ≤ depth_limit
Shallow (root ∷ fs) = length fs ≤ depth_limit
Shallow (in_array e ms ∷ fs) = (elements_depth ms + length fs ≤ depth_limit) × Shallow fs
Shallow (in_object e ms k ∷ fs) = (members_depth ms + length fs ≤ depth_limit) × Shallow fs

regroup : (f a k r : List Record) (o : Record) → f ++ (o ∷ (a ++ k ++ r)) ≡ f ++ (o ∷ a) ++ k ++ r
regroup f a k r o = simp append_assoc

module _ (store : List ℕ) where
  pub record Tell (fl : List Record) (n : ℕ) (h : List ℕ) (i at : ℕ) (past : List Record) : Type 0 where
    pub told : fl ≡ past
    pub counted : n ≡ i
    pub kept : store ≡ h ++ drop at store
    pub upto : length h ≡ at

  -- the state holds what the records past were
  abbrev pub Fair : Conf → ℕ → ℕ → List Record → Type 0
  Fair nothing i at past = Tell [] 0 [] i at past
  Fair (whole m) i at past = Tell (records_of m 0 0) (records m) (store_of m) i at past × (depth m ≤ depth_limit)
  Fair (elements e ms fs) i at past =
      Tell (flat (in_array e ms ∷ fs)) (taken (in_array e ms ∷ fs)) (held (in_array e ms ∷ fs)) i at past
      × ((elements_depth ms + length fs ≤ depth_limit) × Shallow fs)
  Fair (members e ms fs) i at past =
      Tell (flat fs ++ (Record.Object e.count e.end ∷ members_of ms (taken fs + 1) (length (held fs)))) (taken fs + 1 + members_records ms)
      (held fs ++ members_store ms) i at
      past
      × ((members_depth ms + length fs ≤ depth_limit) × Shallow fs)
  Fair (keyed e ms k fs) i at past =
      Tell (flat (in_object e ms k ∷ fs)) (taken (in_object e ms k ∷ fs)) (held (in_object e ms k ∷ fs)) i at past
      × ((members_depth ms + length fs ≤ depth_limit) × Shallow fs)
  Fair broken i at past = 0 ≤ depth_limit

  abbrev Slotted : List Frame → ℕ → ℕ → List Record → Type 0
  Slotted [] i at past = 0 ≤ depth_limit
  Slotted (f ∷ fs) i at past = Tell (flat (f ∷ fs)) (taken (f ∷ fs)) (held (f ∷ fs)) i at past × (Shallow (f ∷ fs) × (length fs ≤ depth_limit))

  slotted : (c : Conf) (i at : ℕ) (past : List Record) → Fair c i at past → Slotted (slot c) i at past
  unfolding slot flat taken held
  slotted nothing i at past g = (g, (omega arith, omega arith))
  slotted (whole m) i at past g = omega arith
  slotted (elements e ms fs) i at past g = (g.0, (g.1, omega arith))
  slotted (members e ms fs) i at past g = omega arith
  slotted (keyed e ms k fs) i at past g = (g.0, (g.1, omega arith))
  slotted broken i at past g = omega arith

  -- a value on top of the containers that wait
  set_down : (m : Meaning) (f : Frame) (fs : List Frame) (i at : ℕ) (past : List Record)
      → Tell (flat (f ∷ fs) ++ records_of m (taken (f ∷ fs)) (length (held (f ∷ fs)))) (taken (f ∷ fs) + records m) (held (f ∷ fs) ++ store_of m) i at past
      → depth m + length fs ≤ depth_limit → Shallow (f ∷ fs) → Fair (put m (f ∷ fs)) i at past
  unfolding put flat taken held elements_of members_of elements_records members_records elements_store members_store elements_depth members_depth
  set_down m root fs i at past t d u = (record { told = t.told; counted = omega arith; kept = t.kept; upto = t.upto }, omega arith)
  set_down m (in_array e ms) fs i at past t d u = (
    record {
      told = sym (append_assoc (flat fs) (Record.Array e.count e.end ∷ elements_of ms (taken fs + 1) (length (held fs)))
          (records_of m (taken fs + 1 + elements_records ms) (length (held fs) + length (elements_store ms))))
          ∙ ap (λ (n : ℕ). flat fs ++ (Record.Array e.count e.end ∷ elements_of ms (taken fs + 1) (length (held fs)))
          ++ records_of m (taken fs + 1 + elements_records ms) n)
          (sym (length-append (held fs) (elements_store ms)))
          ∙ t.told;
      counted = omega arith;
      kept = t.kept ∙ (simp append_assoc);
      upto = simp length-append (omega (arith, simp length-append at t.upto));
    },
    (omega (arith, most_least (elements_depth ms) (depth m) (depth_limit - length fs) (omega arith) (omega arith)), u.1),
  )
  set_down m (in_object e ms k) fs i at past t d u = (
    record {
      told = regroup (flat fs) (members_of ms (taken fs + 1) (length (held fs))) (Record.Key (length k) (length (held fs) + length (members_store ms)) ∷ [])
          (records_of m (taken fs + 1 + members_records ms + 1) (length (held fs) + length (members_store ms) + length k)) (Record.Object e.count e.end)
          ∙ ap (λ (n : ℕ). flat fs ++ (Record.Object e.count e.end ∷ members_of ms (taken fs + 1) (length (held fs)))
          ++ (Record.Key (length k) (length (held fs) + length (members_store ms)) ∷ []) ++ records_of m (taken fs + 1 + members_records ms + 1) n)
          (sym (length-append (held fs ++ members_store ms) k ∙ ap (λ (x : ℕ). x + length k) (length-append (held fs) (members_store ms))))
          ∙ t.told;
      counted = omega arith;
      kept = t.kept ∙ (simp append_assoc);
      upto = simp length-append (omega (arith, simp length-append at t.upto));
    },
    (omega (arith, most_least (members_depth ms) (depth m) (depth_limit - length fs) (omega arith) (omega arith)), u.1),
  )

  -- a container that ends here is a value
  tell_array : (e : Stated) (ms : Meanings) (fs : List Frame) (i at : ℕ) (past : List Record) → e.end ≡ i → e.count ≡ elements_count ms
      → Tell (flat (in_array e ms ∷ fs)) (taken (in_array e ms ∷ fs)) (held (in_array e ms ∷ fs)) i at past
      → Tell (flat fs ++ records_of (array ms) (taken fs) (length (held fs))) (taken fs + records (array ms)) (held fs ++ store_of (array ms)) i at past
  unfolding flat taken held records_of records store_of
  tell_array e ms fs i at past q n t = record {
    told = ap₂ (λ (x y : ℕ). flat fs ++ (Record.Array x y ∷ elements_of ms (taken fs + 1) (length (held fs)))) (sym n) (omega arith) ∙ t.told;
    counted = omega arith;
    kept = t.kept;
    upto = t.upto;
  }

  tell_object : (e : Stated) (ms : Members) (fs : List Frame) (i at : ℕ) (past : List Record) → e.end ≡ i → e.count ≡ members_count ms
      → Tell (flat fs ++ (Record.Object e.count e.end ∷ members_of ms (taken fs + 1) (length (held fs)))) (taken fs + 1 + members_records ms)
      (held fs ++ members_store ms) i
      at past
      → Tell (flat fs ++ records_of (object ms) (taken fs) (length (held fs))) (taken fs + records (object ms)) (held fs ++ store_of (object ms)) i at past
  unfolding flat taken held records_of records store_of
  tell_object e ms fs i at past q n t = record {
    told = ap₂ (λ (x y : ℕ). flat fs ++ (Record.Object x y ∷ members_of ms (taken fs + 1) (length (held fs)))) (sym n) (omega arith) ∙ t.told;
    counted = omega arith;
    kept = t.kept;
    upto = t.upto;
  }

  abbrev Ready : Meaning → List Frame → ℕ → ℕ → List Record → Type 0
  Ready m [] i at past = 0 ≤ depth_limit
  Ready m (f ∷ fs) i at past =
      Tell (flat (f ∷ fs) ++ records_of m (taken (f ∷ fs)) (length (held (f ∷ fs)))) (taken (f ∷ fs) + records m) (held (f ∷ fs) ++ store_of m) i at past
      × ((depth m + length fs ≤ depth_limit) × Shallow (f ∷ fs))

  ready_array : (fs : List Frame) (e : Stated) (ms : Meanings) (i at : ℕ) (past : List Record) → e.end ≡ i → e.count ≡ elements_count ms
      → Fair (elements e ms fs) i at past
      → Ready (array ms) fs i at past
  unfolding depth
  ready_array [] e ms i at past q n g = omega arith
  ready_array (f ∷ fs) e ms i at past q n g = (tell_array e ms (f ∷ fs) i at past q n g.0, (omega (arith, g.1.0), g.1.1))

  ready_object : (fs : List Frame) (e : Stated) (ms : Members) (i at : ℕ) (past : List Record) → e.end ≡ i → e.count ≡ members_count ms
      → Fair (members e ms fs) i at past
      → Ready (object ms) fs i at past
  unfolding depth
  ready_object [] e ms i at past q n g = omega arith
  ready_object (f ∷ fs) e ms i at past q n g = (tell_object e ms (f ∷ fs) i at past q n g.0, (omega (arith, g.1.0), g.1.1))

  -- and so for each that ends here
  given : (fs : List Frame) (m : Meaning) (i at : ℕ) (past : List Record) → Ready m fs i at past → Fair (give i m fs) i at past
  unfolding give put elements_count members_count
  given [] m i at past r = omega arith
  given (root ∷ fs) m i at past r = set_down m root fs i at past r.0 r.1.0 r.1.1
  given (in_array e ms ∷ fs) m i at past r =
      let g = set_down m (in_array e ms) fs i at past r.0 r.1.0 r.1.1 in
      by_shut (λ (c : Conf). Fair c i at past) i e (elements_count ms + 1) _ _
      (λ q n. given fs (array (more ms m)) i at past (ready_array fs e (more ms m) i at past q n g)) (omega arith) g
  given (in_object e ms k ∷ fs) m i at past r =
      let g = set_down m (in_object e ms k) fs i at past r.0 r.1.0 r.1.1 in
      by_shut (λ (c : Conf). Fair c i at past) i e (members_count ms + 1) _ _
      (λ q n. given fs (object (member ms k m)) i at past (ready_object fs e (member ms k m) i at past q n g)) (omega arith) g

  settled : (c : Conf) (i at : ℕ) (past : List Record) → Fair c i at past → Fair (settle i c) i at past
  unfolding settle
  settled nothing i at past g = g
  settled (whole m) i at past g = g
  settled (elements e ms fs) i at past g =
      by_shut (λ (c : Conf). Fair c i at past) i e (elements_count ms) _ _ (λ q n. given fs (array ms) i at past (ready_array fs e ms i at past q n g))
      (omega arith) g
  settled (members e ms fs) i at past g =
      by_shut (λ (c : Conf). Fair c i at past) i e (members_count ms) _ _ (λ q n. given fs (object ms) i at past (ready_object fs e ms i at past q n g))
      (omega arith) g
  settled (keyed e ms k fs) i at past g = by_bool (λ (c : Conf). Fair c i at past) (eqb e.end i) _ _ (λ q. omega arith) (λ q. g)
  settled broken i at past g = omega arith

  -- ---- one record

  passed : (l : List Frame) (m : Meaning) (r : Record) (i at at' : ℕ) (past : List Record) → Slotted l i at past
      → records m ≡ 1 → depth m ≡ 0 → ((j : ℕ) → records_of m j at ≡ r ∷ []) → at' ≡ at + length (store_of m) → drop at store ≡ store_of m ++ drop at' store
      → Fair (put m l) (i + 1) at' (past ++ (r ∷ []))
  unfolding put
  passed [] m r i at at' past s z d q a k = omega arith
  passed (f ∷ fs) m r i at at' past s z d q a k =
      let t = s.0 in
      set_down m f fs (i + 1) at' (past ++ (r ∷ []))
      (record {
        told = ap₂ (λ (x : List Record) (y : ℕ). x ++ records_of m (taken (f ∷ fs)) y) t.told t.upto
            ∙ ap (λ (x : List Record). past ++ x) (q (taken (f ∷ fs)));
        counted = omega arith;
        kept = t.kept ∙ ap (λ (x : List ℕ). held (f ∷ fs) ++ x) k ∙ sym (append_assoc (held (f ∷ fs)) (store_of m) (drop at' store));
        upto = length-append (held (f ∷ fs)) (store_of m) ∙ omega arith;
      })
      (omega arith) s.1.0

  abbrev boxed : Kind → Stated → Record
  boxed of_values e = Record.Array e.count e.end
  boxed of_members e = Record.Object e.count e.end

  began : (k : Kind) (e : Stated) (f : Frame) (fs : List Frame) (i at : ℕ) (past : List Record) → Slotted (f ∷ fs) i at past → length fs < depth_limit
      → Fair (begin k e (f ∷ fs)) (i + 1) (at + 0) (past ++ (boxed k e ∷ []))
  unfolding flat taken held elements_of elements_records elements_store elements_depth members_of members_records members_store members_depth
  began of_values e f fs i at past s g =
      let t = s.0 in
      let z : at ≡ at + 0 = omega arith in (
        record {
          told = ap (λ (x : List Record). x ++ (Record.Array e.count e.end ∷ [])) t.told;
          counted = omega arith;
          kept = t.kept ∙ ap (λ (x : ℕ). held (f ∷ fs) ++ drop x store) z ∙ ap (λ (x : List ℕ). x ++ drop (at + 0) store) (sym (append-nil (held (f ∷ fs))));
          upto = ap length (append-nil (held (f ∷ fs))) ∙ t.upto ∙ z;
        },
        (omega arith, s.1.0),
      )
  began of_members e f fs i at past s g =
      let t = s.0 in
      let z : at ≡ at + 0 = omega arith in (
        record {
          told = ap (λ (x : List Record). x ++ (Record.Object e.count e.end ∷ [])) t.told;
          counted = omega arith;
          kept = t.kept ∙ ap (λ (x : ℕ). held (f ∷ fs) ++ drop x store) z ∙ ap (λ (x : List ℕ). x ++ drop (at + 0) store) (sym (append-nil (held (f ∷ fs))));
          upto = ap length (append-nil (held (f ∷ fs))) ∙ t.upto ∙ z;
        },
        (omega arith, s.1.0),
      )

  opened : (l : List Frame) (k : Kind) (e : Stated) (i at : ℕ) (past : List Record) → Slotted l i at past
      → Fair (enter k e l) (i + 1) (at + 0) (past ++ (boxed k e ∷ []))
  unfolding enter
  opened [] k e i at past s = omega arith
  opened (f ∷ fs) k e i at past s =
      by_bool (λ (c : Conf). Fair c (i + 1) (at + 0) (past ++ (boxed k e ∷ []))) (ltb (length fs) depth_limit) _ _
      (λ q. began k e f fs i at past s (ltb-true (length fs) depth_limit q)) (λ q. omega arith)

  cut : (at len : ℕ) → drop at store ≡ part store at len ++ drop (at + len) store
  cut at len = sym (take-append-drop len (drop at store)) ∙ ap (λ (x : List ℕ). part store at len ++ x) (drop-drop len at store)

  cut_length : (at len : ℕ) → at + len ≤ length store → length (part store at len) ≡ len
  cut_length at len h = length-take-le len (drop at store) (simp length-drop (omega arith))

  named : (c : Conf) (k : List ℕ) (i at at' : ℕ) (past : List Record) → Fair c i at past → at' ≡ at + length k → drop at store ≡ k ++ drop at' store
      → Fair (key k c) (i + 1) at' (past ++ (Record.Key (length k) at ∷ []))
  unfolding key flat taken held
  named nothing k i at at' past g a q = omega arith
  named (whole m) k i at at' past g a q = omega arith
  named (elements e ms fs) k i at at' past g a q = omega arith
  named (members e ms fs) k i at at' past g a q =
      let t = g.0 in
      let l : length (held fs) + length (members_store ms) ≡ at = sym (length-append (held fs) (members_store ms)) ∙ t.upto in (
        record {
          told = ap₂ (λ (x : List Record) (y : ℕ). x ++ (Record.Key (length k) y ∷ [])) t.told l;
          counted = omega arith;
          kept = t.kept ∙ ap (λ (x : List ℕ). held fs ++ members_store ms ++ x) q ∙ sym (append_assoc (held fs ++ members_store ms) k (drop at' store));
          upto = length-append (held fs ++ members_store ms) k ∙ omega arith;
        },
        g.1,
      )
  named (keyed e ms k' fs) k i at at' past g a q = omega arith
  named broken k i at at' past g a q = omega arith

  -- a record that has no bytes
  plain : (c : Conf) (m : Meaning) (r : Record) (i at : ℕ) (past : List Record) → Fair c i at past → records m ≡ 1 → depth m ≡ 0
      → ((j : ℕ) → records_of m j at ≡ r ∷ []) → store_of m ≡ [] → Fair (put m (slot c)) (i + 1) (at + 0) (past ++ (r ∷ []))
  plain c m r i at past g z d q n =
      let l : length (store_of m) ≡ 0 = ap length n in
      let e : at ≡ at + 0 = omega arith in
      passed (slot c) m r i at (at + 0) past (slotted c i at past g) z d q (omega arith)
      (ap (λ (x : ℕ). drop x store) e ∙ sym (ap (λ (x : List ℕ). x ++ drop (at + 0) store) n))

  did : (c : Conf) (r : Record) (i at : ℕ) (past : List Record) → bytes_end r ≤ length store → start_of r at ≡ at → Fair c i at past
      → Fair (does (act_of store at r) c) (i + 1) (at + size_of r) (past ++ (r ∷ []))
  unfolding does act_of start_of size_of records_of records depth store_of
  did c Record.Null i at past h s g = plain c null Record.Null i at past g refl refl (λ j. refl) refl
  did c (Record.Bool b) i at past h s g = plain c (bool b) (Record.Bool b) i at past g refl refl (λ j. refl) refl
  did c (Record.Number n) i at past h s g = plain c (number n) (Record.Number n) i at past g refl refl (λ j. refl) refl
  did c (Record.Str size start) i at past h s g =
      let l = cut_length at size (omega arith) in
      passed (slot c) (string (part store at size)) (Record.Str size start) i at (at + size) past (slotted c i at past g) refl refl
      (λ j. ap₂ (λ (x y : ℕ). Record.Str x y ∷ []) l (sym s)) (ap (λ (x : ℕ). at + x) (sym l)) (cut at size)
  did c (Record.Key size start) i at past h s g =
      let l = cut_length at size (omega arith) in
      subst (λ (x : Record). Fair (key (part store at size) c) (i + 1) (at + size) (past ++ (x ∷ []))) (ap₂ (λ (x y : ℕ). Record.Key x y) l (sym s))
      (named c (part store at size) i at (at + size) past g (ap (λ (x : ℕ). at + x) (sym l)) (cut at size))
  did c (Record.Bin size start) i at past h s g =
      let l = cut_length at size (omega arith) in
      passed (slot c) (binary (part store at size)) (Record.Bin size start) i at (at + size) past (slotted c i at past g) refl refl
      (λ j. ap₂ (λ (x y : ℕ). Record.Bin x y ∷ []) l (sym s)) (ap (λ (x : ℕ). at + x) (sym l)) (cut at size)
  did c (Record.Time t) i at past h s g = plain c (time t) (Record.Time t) i at past g refl refl (λ j. refl) refl
  did c (Record.Array n e) i at past h s g = opened (slot c) of_values (record { count = n; end = e }) i at past (slotted c i at past g)
  did c (Record.Object n e) i at past h s g = opened (slot c) of_members (record { count = n; end = e }) i at past (slotted c i at past g)

  pushed : (c : Conf) (r : Record) (i at : ℕ) (past : List Record) → bytes_end r ≤ length store → Fair c i at past
      → Fair (push store at c r) (i + 1) (at + size_of r) (past ++ (r ∷ []))
  unfolding push
  pushed c r i at past h g =
      by_bool (λ (x : Conf). Fair x (i + 1) (at + size_of r) (past ++ (r ∷ []))) (eqb (start_of r at) at) _ _
      (λ q. did c r i at past h (eqb-true (start_of r at) at q) g) (λ q. omega arith)

  -- ---- all records

  pub record Is (m : Meaning) (rs : List Record) : Type 0 where
    pub is : rs ≡ records_of m 0 0
    pub held_all : store ≡ store_of m
    pub shallow : depth m ≤ depth_limit

  ended : (c : Conf) (i at : ℕ) (past : List Record) (m : Meaning) → Fair c i at past → finish store at c ≡ says m → Is m past
  unfolding finish
  ended nothing i at past m g e = let z : ◌≡◌ {A = ℕ} 0 1 = cc in absurd (omega arith)
  ended (whole n) i at past m g e = go (eqb at (length store)) refl e
    where
      go : (b : Bool) → eqb at (length store) ≡ b → cond b (says n) nay ≡ says m → Is m past
      go true q e =
          let s : n ≡ m = cc in
          let a = eqb-true at (length store) q in
          subst (λ (x : Meaning). Is x past) s
          (record {
            is = sym g.0.told;
            held_all = g.0.kept ∙ ap (λ (x : List ℕ). store_of n ++ x) (drop_of_length-le store {i = at} (omega arith)) ∙ append-nil (store_of n);
            shallow = g.1;
          })
      go false q e = let z : ◌≡◌ {A = ℕ} 0 1 = cc in absurd (omega arith)
  ended (elements e ms fs) i at past m g q = let z : ◌≡◌ {A = ℕ} 0 1 = cc in absurd (omega arith)
  ended (members e ms fs) i at past m g q = let z : ◌≡◌ {A = ℕ} 0 1 = cc in absurd (omega arith)
  ended (keyed e ms k fs) i at past m g q = let z : ◌≡◌ {A = ℕ} 0 1 = cc in absurd (omega arith)
  ended broken i at past m g e = let z : ◌≡◌ {A = ℕ} 0 1 = cc in absurd (omega arith)

  -- the bytes of each record lie inside the store
  abbrev pub AllInside : List Record → Type 0
  AllInside [] = Unit {0}
  AllInside (r ∷ rs) = (bytes_end r ≤ length store) × AllInside rs

  sound_from : (rs : List Record) (c : Conf) (i at : ℕ) (past : List Record) (m : Meaning) → AllInside rs → Fair c i at past → run store rs i at c ≡ says m
      → Is m (past ++ rs)
  unfolding run
  sound_from [] c i at past m h g e = rw (append-nil past) (ended (settle i c) i at past m (settled c i at past g) e)
  sound_from (r ∷ rs) c i at past m h g e =
      subst (λ (x : List Record). Is m x) (append_assoc past (r ∷ []) rs)
      (sound_from rs (push store at (settle i c) r) (i + 1) (at + size_of r) (past ++ (r ∷ [])) m h.1
      (pushed (settle i c) r i at past h.0 (settled c i at past g)) e)

  pub sound : (rs : List Record) (m : Meaning) → AllInside rs → run store rs 0 0 nothing ≡ says m → Is m rs
  sound rs m h e = sound_from rs nothing 0 0 [] m h (record { told = refl; counted = refl; kept = refl; upto = refl }) e
