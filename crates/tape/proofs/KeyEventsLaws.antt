-- The events of a meaning's records are those of the meaning, their places rise, and no more is open at once than the meaning is deep. Assumes nothing.
use mathlib.Core.Path.{◌≡◌, refl, sym, ap, ap₂, ◌∙◌}
use mathlib.Core.Bool.{Bool, true, false, cond}
use mathlib.Core.List.{List, [], ◌∷◌, ◌++◌, append_assoc, append-nil}
use Prim.Native.Nat.{ℕ, suc, ◌+◌, ◌≤◌, ◌<◌}
use native.Mathlib.Omega.{arith}
use lib.Dec.{leb}
use lib.ListN.{length, take, drop, length-append}
use borrow.Author.Tests.{le-leb, lt-leb}
use Rattle.meaning.specs.declared.Record.{Record}
use Rattle.meaning.specs.Limits.{depth_limit}
use Rattle.meaning.specs.Meaning.{Meaning, Meanings, Members, null, bool, number, string, binary, time, array, object, none, more, bare, member}
use Rattle.meaning.specs.Good.{depth, elements_depth, members_depth}
use Rattle.meaning.specs.Tape.{records, elements_records, members_records, elements_count, members_count, store_of, elements_store, members_store, records_of}
use Rattle.meaning.specs.Tape.{elements_of, members_of}
use Rattle.meaning.specs.Between.Events.{Event, begins, named, erase, Spans, events, element_events, member_events}
use Rattle.meaning.proofs.Bytes.{part_is}
use Rattle.meaning.proofs.Sizes.{most_left, most_right, some_record}
use Rattle.meaning.proofs.Events.{erase_join, spans_join, spans_to}
use Rattle.tape.specs.Between.Key.{Open, array_to, object_to, end_of, ending, closings, left, in_object, gives, open_after, events_in, Shallow}

-- ---- what closes

-- nothing that is open ends at i or before
abbrev pub Lasting : ℕ → List Open → Type 0
Lasting i [] = Unit {0}
Lasting i (o ∷ os) = i < end_of o

pub none_closes : (i : ℕ) (os : List Open) → Lasting i os → closings i os ≡ []
unfolding closings
none_closes i [] h = refl
none_closes i (o ∷ os) h = ap (λ (b : Bool). cond b (ending o ++ closings i os) []) (lt-leb (end_of o) i h)

pub all_left : (i : ℕ) (os : List Open) → Lasting i os → left i os ≡ os
unfolding left
all_left i [] h = refl
all_left i (o ∷ os) h = ap (λ (b : Bool). cond b (left i os) (o ∷ os)) (lt-leb (end_of o) i h)

closings_here : (i : ℕ) (o : Open) (os : List Open) → end_of o ≤ i → closings i (o ∷ os) ≡ ending o ++ closings i os
unfolding closings
closings_here i o os h = ap (λ (b : Bool). cond b (ending o ++ closings i os) []) (le-leb (end_of o) i h)

left_here : (i : ℕ) (o : Open) (os : List Open) → end_of o ≤ i → left i (o ∷ os) ≡ left i os
unfolding left
left_here i o os h = ap (λ (b : Bool). cond b (left i os) (o ∷ os)) (le-leb (end_of o) i h)

module _ (store : List ℕ) where
  -- a container that ends here closes first
  pub events_close : (rs : List Record) (i : ℕ) (o : Open) (os : List Open) → end_of o ≤ i → events_in store rs i (o ∷ os) ≡ ending o ++ events_in store rs i os
  unfolding events_in
  events_close [] i o os h = closings_here i o os h
  events_close (r ∷ rs) i o os h =
      ap₂ (λ (x : List Event) (y : List Open). x ++ (gives store y i r ++ events_in store rs (i + 1) (open_after r y))) (closings_here i o os h)
      (left_here i o os h)
      ∙ append_assoc (ending o) (closings i os) (gives store (left i os) i r ++ events_in store rs (i + 1) (open_after r (left i os)))

  -- one record, where nothing closes
  pub events_step : (r : Record) (rs : List Record) (i : ℕ) (os : List Open) → Lasting i os
      → events_in store (r ∷ rs) i os ≡ gives store os i r ++ events_in store rs (i + 1) (open_after r os)
  unfolding events_in
  events_step r rs i os h =
      ap₂ (λ (x : List Event) (y : List Open). x ++ (gives store y i r ++ events_in store rs (i + 1) (open_after r y))) (none_closes i os h) (all_left i os h)

  pub events_none : (i : ℕ) (os : List Open) → Lasting i os → events_in store [] i os ≡ []
  unfolding events_in
  events_none i os h = none_closes i os h

pub shallow_close : (rs : List Record) (i : ℕ) (o : Open) (os : List Open) → end_of o ≤ i → Shallow rs i os → Shallow rs i (o ∷ os)
shallow_close [] i o os h s = tt
shallow_close (r ∷ rs) i o os h s = rw (left_here i o os h) s

pub shallow_closed : (rs : List Record) (i : ℕ) (o : Open) (os : List Open) → end_of o ≤ i → Shallow rs i (o ∷ os) → Shallow rs i os
shallow_closed [] i o os h s = tt
shallow_closed (r ∷ rs) i o os h s = rw (left_here i o os h) at s

pub shallow_step : (r : Record) (rs : List Record) (i : ℕ) (os : List Open) → Lasting i os → length (open_after r os) ≤ depth_limit
    → Shallow rs (i + 1) (open_after r os) → Shallow (r ∷ rs) i os
shallow_step r rs i os h d s = rw (all_left i os h) (d, s)

pub shallow_after : (r : Record) (rs : List Record) (i : ℕ) (os : List Open) → Lasting i os → Shallow (r ∷ rs) i os
    → (length (open_after r os) ≤ depth_limit) × Shallow rs (i + 1) (open_after r os)
shallow_after r rs i os h s = rw (all_left i os h) at s

-- ---- the places rise

closing_spans : (i a b : ℕ) (os : List Open) → a ≤ b → Spans a b (closings i os)
unfolding closings
closing_spans i a b [] l = l
closing_spans i a b (o ∷ os) l = go (leb (end_of o) i) o (closing_spans i a b os l)
  where
    go : (t : Bool) (o : Open) → Spans a b (closings i os) → Spans a b (cond t (ending o ++ closings i os) [])
    go true (array_to e) h = h
    go true (object_to e) h = h
    go false o h = l

module _ (store : List ℕ) where
  gives_spans : (r : Record) (os : List Open) (i : ℕ) → Spans i (i + 1) (gives store os i r)
  gives_spans Record.Null os i = omega arith
  gives_spans (Record.Bool b) os i = omega arith
  gives_spans (Record.Number n) os i = omega arith
  gives_spans (Record.Str size start) os i = omega arith
  gives_spans (Record.Key size start) os i = go (in_object os)
    where
      go : (t : Bool) → Spans i (i + 1) (cond t (named i (take size (drop start store)) ∷ []) [])
      go true = (omega arith, omega arith)
      go false = omega arith
  gives_spans (Record.Bin size start) os i = omega arith
  gives_spans (Record.Time t) os i = omega arith
  gives_spans (Record.Array count end) os i = omega arith
  gives_spans (Record.Object count end) os i = omega arith

  spans_in : (rs : List Record) (i : ℕ) (os : List Open) → Spans i (i + length rs) (events_in store rs i os)
  unfolding events_in
  spans_in [] i os = closing_spans i i (i + 0) os (omega arith)
  spans_in (r ∷ rs) i os =
      let z : i + 1 + length rs ≡ i + suc (length rs) = omega arith in
      spans_join (closings i os) (gives store (left i os) i r ++ events_in store rs (i + 1) (open_after r (left i os))) i i (i + suc (length rs))
      (closing_spans i i i os (omega arith))
      (spans_join (gives store (left i os) i r) (events_in store rs (i + 1) (open_after r (left i os))) i (i + 1) (i + suc (length rs))
      (gives_spans r (left i os) i) (rw z at (spans_in rs (i + 1) (open_after r (left i os)))))

  -- at the root no key counts
  none_first : (r : Record) → Spans 1 1 (gives store [] 0 r)
  none_first Record.Null = omega arith
  none_first (Record.Bool b) = omega arith
  none_first (Record.Number n) = omega arith
  none_first (Record.Str size start) = omega arith
  none_first (Record.Key size start) = omega arith
  none_first (Record.Bin size start) = omega arith
  none_first (Record.Time t) = omega arith
  none_first (Record.Array count end) = omega arith
  none_first (Record.Object count end) = omega arith

  pub spans_below : (rs : List Record) → Spans 1 (length rs + 1) (events_in store rs 0 [])
  unfolding events_in closings left
  spans_below [] = omega arith
  spans_below (r ∷ rs) =
      spans_join (gives store [] 0 r) (events_in store rs (0 + 1) (open_after r [])) 1 1 (suc (length rs) + 1) (none_first r)
      (spans_to (events_in store rs (0 + 1) (open_after r [])) 1 (1 + length rs) (suc (length rs) + 1) (spans_in rs (0 + 1) (open_after r [])) (omega arith))

-- ---- the records of a meaning

module _ (store : List ℕ) where
  -- over the records a, from i to j, what happens is es, and what is open stays
  record Runs (a rest : List Record) (i j : ℕ) (before after : List Open) (es : List Event) : Type 0 where
    same : erase (events_in store (a ++ rest) i before) ≡ es ++ erase (events_in store rest j after)
    deep : Shallow rest j after → Shallow (a ++ rest) i before

  leaf : (r : Record) (rest : List Record) (i : ℕ) (os : List Open) → Lasting i os → gives store os i r ≡ [] → open_after r os ≡ os → length os ≤ depth_limit
      → Runs (r ∷ []) rest i (i + 1) os os []
  leaf r rest i os h g o d = record {
    same = ap erase (events_step store r rest i os h ∙ ap₂ (λ (x : List Event) (y : List Open). x ++ events_in store rest (i + 1) y) g o);
    deep = λ s. shallow_step r rest i os h (rw o d) (rw o s);
  }

  -- one after the other
  then : {a b rest : List Record} {i j k : ℕ} {o p q : List Open} {d e : List Event} → Runs a (b ++ rest) i j o p d → Runs b rest j k p q e
      → Runs (a ++ b) rest i k o q (d ++ e)
  then {a} {b} {rest} {i} {j} {k} {o} {p} {q} {d} {e} x y = record {
    same =
        ap (λ (l : List Record). erase (events_in store l i o)) (append_assoc a b rest)
        ∙ x.same
        ∙ ap (λ (l : List Event). d ++ l) y.same
        ∙ sym (append_assoc d e (erase (events_in store rest k q)));
    deep = λ s. rw (append_assoc a b rest) (x.deep (y.deep s));
  }

  -- a container around its records
  around : (r : Record) (o : Open) (b rest : List Record) (i k : ℕ) (os : List Open) (d e : List Event) → Lasting i os → gives store os i r ≡ d
      → open_after r os ≡ o ∷ os → erase d ≡ d → erase (ending o) ≡ ending o → end_of o ≤ k → suc (length os) ≤ depth_limit
      → Runs b rest (i + 1) k (o ∷ os) (o ∷ os) e → Runs (r ∷ b) rest i k os os (d ++ (e ++ ending o))
  around r o b rest i k os d e h g q m n l z x = record {
    same =
        ap erase (events_step store r (b ++ rest) i os h ∙ ap₂ (λ (x : List Event) (y : List Open). x ++ events_in store (b ++ rest) (i + 1) y) g q)
        ∙ erase_join d (events_in store (b ++ rest) (i + 1) (o ∷ os))
        ∙ ap₂ (λ (x y : List Event). x ++ y) m
        (x.same ∙ ap (λ (l : List Event). e ++ l)
        (ap erase (events_close store rest k o os l) ∙ erase_join (ending o) (events_in store rest k os)
        ∙ ap (λ (x : List Event). x ++ erase (events_in store rest k os)) n)
        ∙ sym (append_assoc e (ending o) (erase (events_in store rest k os))))
        ∙ sym (append_assoc d (e ++ ending o) (erase (events_in store rest k os)));
    deep = λ s. shallow_step r (b ++ rest) i os h (rw q z) (rw q (x.deep (shallow_close rest k o os l s)));
  }

  key : (k : List ℕ) (at i end : ℕ) (os : List Open) (rest : List Record) → i < end → suc (length os) ≤ depth_limit → take (length k) (drop at store) ≡ k
      → Runs (Record.Key (length k) at ∷ []) rest i (i + 1) (object_to end ∷ os) (object_to end ∷ os) (named 0 k ∷ [])
  key k at i end os rest h d e = record {
    same =
        ap erase (events_step store (Record.Key (length k) at) rest i (object_to end ∷ os) h)
        ∙ ap (λ (x : List ℕ). named 0 x ∷ erase (events_in store rest (i + 1) (object_to end ∷ os))) e;
    deep = λ s. shallow_step (Record.Key (length k) at) rest i (object_to end ∷ os) h d s;
  }

  -- nothing
  still : (rest : List Record) (i j : ℕ) (os : List Open) → i ≡ j → Runs [] rest i j os os []
  still rest i j os e = record { same = ap (λ (k : ℕ). erase (events_in store rest k os)) e; deep = λ s. rw e s }

  upto : {a rest : List Record} {i j k : ℕ} {o p : List Open} {d e : List Event} → j ≡ k → d ≡ e → Runs a rest i j o p d → Runs a rest i k o p e
  upto {a} {rest} {i} {j} {k} {o} {p} {d} {e} f g x = rw (sym f, sym g) x

  mutual
    unfolding records_of records store_of depth events

    value : (m : Meaning) (i at : ℕ) (os : List Open) (pre post : List ℕ) (rest : List Record) → Lasting i os → depth m + length os ≤ depth_limit
        → store ≡ pre ++ (store_of m ++ post) → at ≡ length pre → Runs (records_of m i at) rest i (i + records m) os os (events m)
    value null i at os pre post rest h d e a = leaf Record.Null rest i os h refl refl (omega arith)
    value (bool b) i at os pre post rest h d e a = leaf (Record.Bool b) rest i os h refl refl (omega arith)
    value (number n) i at os pre post rest h d e a = leaf (Record.Number n) rest i os h refl refl (omega arith)
    value (string s) i at os pre post rest h d e a = leaf (Record.Str (length s) at) rest i os h refl refl (omega arith)
    value (binary s) i at os pre post rest h d e a = leaf (Record.Bin (length s) at) rest i os h refl refl (omega arith)
    value (time t) i at os pre post rest h d e a = leaf (Record.Time t) rest i os h refl refl (omega arith)
    value (array ms) i at os pre post rest h d e a =
        let end = i + 1 + elements_records ms in
        upto (omega arith) (append-nil (element_events ms))
        (around (Record.Array (elements_count ms) end) (array_to end) (elements_of ms (i + 1) at) rest i end os [] (element_events ms) h refl refl refl refl
        (omega arith) (omega arith)
        (values ms (i + 1) at (array_to end) os pre post rest (omega arith) (omega arith) e a))
    value (object ms) i at os pre post rest h d e a =
        let end = i + 1 + members_records ms in
        upto (omega arith) refl
        (around (Record.Object (members_count ms) end) (object_to end) (members_of ms (i + 1) at) rest i end os (begins ∷ []) (member_events ms) h refl refl
        refl
        refl
        (omega arith) (omega arith)
        (pairs ms (i + 1) at end os pre post rest (omega arith) (omega arith) e a))

    values : (ms : Meanings) (i at : ℕ) (o : Open) (os : List Open) (pre post : List ℕ) (rest : List Record) → i + elements_records ms ≤ end_of o
        → elements_depth ms + suc (length os) ≤ depth_limit → store ≡ pre ++ (elements_store ms ++ post) → at ≡ length pre
        → Runs (elements_of ms i at) rest i (i + elements_records ms) (o ∷ os) (o ∷ os) (element_events ms)
    values none i at o os pre post rest h d e a = still rest i (i + 0) (o ∷ os) (omega arith)
    values (more ms m) i at o os pre post rest h d e a =
        let i' = i + elements_records ms in
        let at' = at + length (elements_store ms) in
        upto (omega arith) refl
        (then
        (values ms i at o os pre (store_of m ++ post) (records_of m i' at' ++ rest) (omega arith) (omega (arith, most_left (elements_depth ms) (depth m)))
        (e ∙ simp append_assoc) a)
        (value m i' at' (o ∷ os) (pre ++ elements_store ms) post rest (omega (arith, some_record m)) (omega (arith, most_right (elements_depth ms) (depth m)))
        (e ∙ simp append_assoc) (simp length-append (omega arith))))

    pairs : (ms : Members) (i at end : ℕ) (os : List Open) (pre post : List ℕ) (rest : List Record) → i + members_records ms ≤ end
        → members_depth ms + suc (length os) ≤ depth_limit → store ≡ pre ++ (members_store ms ++ post) → at ≡ length pre
        → Runs (members_of ms i at) rest i (i + members_records ms) (object_to end ∷ os) (object_to end ∷ os) (member_events ms)
    pairs bare i at end os pre post rest h d e a = still rest i (i + 0) (object_to end ∷ os) (omega arith)
    pairs (member ms k m) i at end os pre post rest h d e a =
        let i' = i + members_records ms in
        let at' = at + length (members_store ms) in
        let inner = records_of m (i' + 1) (at' + length k) in
        upto (omega arith) (append_assoc (member_events ms) (named 0 k ∷ []) (events m))
        (then
        (then
        (pairs ms i at end os pre (k ++ (store_of m ++ post)) ((Record.Key (length k) at' ∷ []) ++ (inner ++ rest)) (omega arith)
        (omega (arith, most_left (members_depth ms) (depth m))) (e ∙ simp append_assoc) a)
        (key k at' i' end os (inner ++ rest) (omega (arith, some_record m)) (omega arith)
        (part_is store (pre ++ members_store ms) k (store_of m ++ post) (e ∙ simp append_assoc) at' (simp length-append (omega arith)))))
        (value m (i' + 1) (at' + length k) (object_to end ∷ os) ((pre ++ members_store ms) ++ k) post rest (omega (arith, some_record m))
        (omega (arith, most_right (members_depth ms) (depth m))) (e ∙ simp append_assoc) (simp length-append (omega arith))))

module _ (store : List ℕ) (m : Meaning) (d : depth m ≤ depth_limit) (e : store ≡ store_of m) where
  whole : Runs store (records_of m 0 0) [] 0 (0 + records m) [] [] (events m)
  whole = value store m 0 0 [] [] [] [] tt (omega arith) (e ∙ simp append-nil) refl

  pub events_are : erase (events_in store (records_of m 0 0) 0 []) ≡ events m
  events_are =
      ap (λ (l : List Record). erase (events_in store l 0 [])) (sym (append-nil (records_of m 0 0)))
      ∙ whole.same
      ∙ ap (λ (x : List Event). events m ++ erase x) (events_none store (0 + records m) [] tt)
      ∙ append-nil (events m)

  pub records_shallow : Shallow (records_of m 0 0) 0 []
  records_shallow = rw (append-nil (records_of m 0 0)) at (whole.deep tt)
