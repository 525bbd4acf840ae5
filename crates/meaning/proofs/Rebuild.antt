-- Records and a store give back the meaning that they are of: a machine reads them in order, with the containers that are
-- open. So a meaning's records and store are of no other. Assumes nothing.
use mathlib.Core.Path.{◌≡◌, refl, sym, ap, ap₂, ◌∙◌}
use mathlib.Core.Bool.{Bool, cond}
use mathlib.Core.List.{List, [], ◌∷◌, ◌++◌, append_assoc, append-nil}
use Prim.Native.Nat.{ℕ, ◌+◌, ◌≤◌}
use native.Mathlib.Omega.{arith}
use lib.Dec.{eqb}
use lib.ListN.{length, take, drop, length-append}
use borrow.Author.Tests.{eq-eqb, ne_eqb}
use Rattle.meaning.specs.declared.Record.{Record}
use Rattle.meaning.specs.Meaning.{Meaning, Meanings, Members, null, bool, number, string, binary, time, array, object, none, more, bare, member}
use Rattle.meaning.specs.Tape.{records, elements_records, members_records, store_of, elements_store, members_store, end_of, records_of, elements_of, members_of}
use Rattle.meaning.proofs.Bytes.{part_is}
use Rattle.meaning.proofs.Sizes.{some_record}

-- a container that waits for the value that is being read; `root` waits for the whole
data Frame : Type 0 where
  root : Frame
  in_array : ℕ → Meanings → Frame
  in_object : ℕ → Members → List ℕ → Frame

-- nothing yet (or no meaning), the whole, or the innermost container: with its end, before a key, or after one
data Conf : Type 0 where
  nothing : Conf
  whole : Meaning → Conf
  elements : ℕ → Meanings → List Frame → Conf
  members : ℕ → Members → List Frame → Conf
  keyed : ℕ → Members → List ℕ → List Frame → Conf

-- what waits for a value
slot : Conf → List Frame
slot nothing = root ∷ []
slot (whole m) = []
slot (elements e ms fs) = in_array e ms ∷ fs
slot (members e ms fs) = []
slot (keyed e ms k fs) = in_object e ms k ∷ fs

put : Meaning → List Frame → Conf
put m [] = nothing
put m (root ∷ fs) = whole m
put m (in_array e ms ∷ fs) = elements e (more ms m) fs
put m (in_object e ms k ∷ fs) = members e (member ms k m) fs

key : List ℕ → Conf → Conf
key k nothing = nothing
key k (whole m) = nothing
key k (elements e ms fs) = nothing
key k (members e ms fs) = keyed e ms k fs
key k (keyed e ms k' fs) = nothing

-- a value is complete at record i, and with it each container that ends there
give : ℕ → Meaning → List Frame → Conf
give i m [] = nothing
give i m (root ∷ fs) = whole m
give i m (in_array e ms ∷ fs) = cond (eqb e i) (give i (array (more ms m)) fs) (elements e (more ms m) fs)
give i m (in_object e ms k ∷ fs) = cond (eqb e i) (give i (object (member ms k m)) fs) (members e (member ms k m) fs)

settle : ℕ → Conf → Conf
settle i nothing = nothing
settle i (whole m) = whole m
settle i (elements e ms fs) = cond (eqb e i) (give i (array ms) fs) (elements e ms fs)
settle i (members e ms fs) = cond (eqb e i) (give i (object ms) fs) (members e ms fs)
settle i (keyed e ms k fs) = keyed e ms k fs

give_put : (i : ℕ) (m : Meaning) (fs : List Frame) → give i m fs ≡ settle i (put m fs)
unfolding give settle put
give_put i m [] = refl
give_put i m (root ∷ fs) = refl
give_put i m (in_array e ms ∷ fs) = refl
give_put i m (in_object e ms k ∷ fs) = refl

module _ (store : List ℕ) where
  abbrev part : ℕ → ℕ → List ℕ
  part size from = take size (drop from store)

  push : Conf → Record → Conf
  push c Record.Null = put null (slot c)
  push c (Record.Bool b) = put (bool b) (slot c)
  push c (Record.Number n) = put (number n) (slot c)
  push c (Record.Str size from) = put (string (part size from)) (slot c)
  push c (Record.Key size from) = key (part size from) c
  push c (Record.Bin size from) = put (binary (part size from)) (slot c)
  push c (Record.Time t) = put (time t) (slot c)
  push c (Record.Array n e) = elements e none (slot c)
  push c (Record.Object n e) = members e bare (slot c)

  run : List Record → ℕ → Conf → Conf
  run [] i c = settle i c
  run (r ∷ rs) i c = run rs (i + 1) (push (settle i c) r)

  -- only the settled state counts
  run_settle : (l : List Record) (i : ℕ) (c d : Conf) → settle i c ≡ settle i d → run l i c ≡ run l i d
  unfolding run
  run_settle [] i c d e = e
  run_settle (r ∷ rs) i c d e = ap (λ (x : Conf). run rs (i + 1) (push x r)) e

  mutual
    unfolding run records_of records store_of push slot put key settle

    value : (m : Meaning) (i at : ℕ) (c : Conf) (f : Frame) (fs : List Frame) (pre post : List ℕ) (rest : List Record)
        → slot (settle i c) ≡ f ∷ fs → store ≡ pre ++ (store_of m ++ post) → at ≡ length pre
        → run (records_of m i at ++ rest) i c ≡ run rest (i + records m) (put m (f ∷ fs))
    value null i at c f fs pre post rest s e a = ap (λ (l : List Frame). run rest (i + 1) (put null l)) s
    value (bool b) i at c f fs pre post rest s e a = ap (λ (l : List Frame). run rest (i + 1) (put (bool b) l)) s
    value (number n) i at c f fs pre post rest s e a = ap (λ (l : List Frame). run rest (i + 1) (put (number n) l)) s
    value (string t) i at c f fs pre post rest s e a =
        ap₂ (λ (x : List ℕ) (l : List Frame). run rest (i + 1) (put (string x) l)) (part_is store pre t post e at a) s
    value (binary t) i at c f fs pre post rest s e a =
        ap₂ (λ (x : List ℕ) (l : List Frame). run rest (i + 1) (put (binary x) l)) (part_is store pre t post e at a) s
    value (time t) i at c f fs pre post rest s e a = ap (λ (l : List Frame). run rest (i + 1) (put (time t) l)) s
    value (array ms) i at c f fs pre post rest s e a =
        let end = end_of i (elements_records ms) in
        ap (λ (l : List Frame). run (elements_of ms (i + 1) at ++ rest) (i + 1) (elements end none l)) s
        ∙ values ms (i + 1) at end (f ∷ fs) pre post rest (omega arith) e a
        ∙ run_settle rest end (elements end ms (f ∷ fs)) (put (array ms) (f ∷ fs))
        (ap (λ (b : Bool). cond b (give end (array ms) (f ∷ fs)) (elements end ms (f ∷ fs))) (eq-eqb end end refl) ∙ give_put end (array ms) (f ∷ fs))
        ∙ ap (λ (x : ℕ). run rest x (put (array ms) (f ∷ fs))) (omega arith)
    value (object ms) i at c f fs pre post rest s e a =
        let end = end_of i (members_records ms) in
        ap (λ (l : List Frame). run (members_of ms (i + 1) at ++ rest) (i + 1) (members end bare l)) s
        ∙ pairs ms (i + 1) at end (f ∷ fs) pre post rest (omega arith) e a
        ∙ run_settle rest end (members end ms (f ∷ fs)) (put (object ms) (f ∷ fs))
        (ap (λ (b : Bool). cond b (give end (object ms) (f ∷ fs)) (members end ms (f ∷ fs))) (eq-eqb end end refl) ∙ give_put end (object ms) (f ∷ fs))
        ∙ ap (λ (x : ℕ). run rest x (put (object ms) (f ∷ fs))) (omega arith)

    values : (ms : Meanings) (i at e : ℕ) (fs : List Frame) (pre post : List ℕ) (rest : List Record)
        → i + elements_records ms ≤ e → store ≡ pre ++ (elements_store ms ++ post) → at ≡ length pre
        → run (elements_of ms i at ++ rest) i (elements e none fs) ≡ run rest (i + elements_records ms) (elements e ms fs)
    values none i at e fs pre post rest h q a =
        let x : i ≡ i + 0 = omega arith in
        ap (λ (u : ℕ). run rest u (elements e none fs)) x
    values (more ms m) i at e fs pre post rest h q a =
        let i' = i + elements_records ms in
        let at' = at + length (elements_store ms) in
        let p = some_record m in
        let n : (e ≡ i' → ⊥) = λ w. omega arith in
        let x : i' + records m ≡ i + (elements_records ms + records m) = omega arith in
        ap (λ (l : List Record). run l i (elements e none fs)) (append_assoc (elements_of ms i at) (records_of m i' at') rest)
        ∙ values ms i at e fs pre (store_of m ++ post) (records_of m i' at' ++ rest) (omega arith)
        (q ∙ ap (λ (l : List ℕ). pre ++ l) (append_assoc (elements_store ms) (store_of m) post)) a
        ∙ value m i' at' (elements e ms fs) (in_array e ms) fs (pre ++ elements_store ms) post rest
        (ap (λ (b : Bool). slot (cond b (give i' (array ms) fs) (elements e ms fs))) (ne_eqb e i' n))
        (q ∙ simp append_assoc)
        (simp length-append (omega arith))
        ∙ ap (λ (u : ℕ). run rest u (elements e (more ms m) fs)) x

    pairs : (ms : Members) (i at e : ℕ) (fs : List Frame) (pre post : List ℕ) (rest : List Record)
        → i + members_records ms ≤ e → store ≡ pre ++ (members_store ms ++ post) → at ≡ length pre
        → run (members_of ms i at ++ rest) i (members e bare fs) ≡ run rest (i + members_records ms) (members e ms fs)
    pairs bare i at e fs pre post rest h q a =
        let x : i ≡ i + 0 = omega arith in
        ap (λ (u : ℕ). run rest u (members e bare fs)) x
    pairs (member ms k m) i at e fs pre post rest h q a =
        let i' = i + members_records ms in
        let at' = at + length (members_store ms) in
        let n : (e ≡ i' → ⊥) = λ w. omega arith in
        let a' : at' ≡ length (pre ++ members_store ms) = simp length-append (omega arith) in
        let q' : store ≡ (pre ++ members_store ms) ++ (k ++ (store_of m ++ post)) = q ∙ simp append_assoc in
        let x : i' + 1 + records m ≡ i + (members_records ms + 1 + records m) = omega arith in
        let after = records_of m (i' + 1) (at' + length k) ++ rest in
        ap (λ (l : List Record). run l i (members e bare fs))
        (append_assoc (members_of ms i at ++ (Record.Key (length k) at' ∷ [])) (records_of m (i' + 1) (at' + length k)) rest
        ∙ append_assoc (members_of ms i at) (Record.Key (length k) at' ∷ []) after)
        ∙ pairs ms i at e fs pre (k ++ (store_of m ++ post)) (Record.Key (length k) at' ∷ after) (omega arith) (q ∙ simp append_assoc) a
        ∙ ap₂ (λ (b : Bool) (s : List ℕ). run after (i' + 1) (key s (cond b (give i' (object ms) fs) (members e ms fs))))
        (ne_eqb e i' n) (part_is store (pre ++ members_store ms) k (store_of m ++ post) q' at' a')
        ∙ value m (i' + 1) (at' + length k) (keyed e ms k fs) (in_object e ms k) fs ((pre ++ members_store ms) ++ k) post rest refl
        (q ∙ simp append_assoc)
        (simp length-append (omega arith))
        ∙ ap (λ (u : ℕ). run rest u (members e (member ms k m) fs)) x

  rebuilt : (m : Meaning) → store ≡ store_of m → run (records_of m 0 0) 0 nothing ≡ whole m
  unfolding run settle slot put
  rebuilt m e =
      ap (λ (l : List Record). run l 0 nothing) (sym (append-nil (records_of m 0 0)))
      ∙ value m 0 0 nothing root [] [] [] [] refl (e ∙ simp append-nil) refl

-- the records and the store of a meaning are of no other
pub same_meaning : (m n : Meaning) → records_of m 0 0 ≡ records_of n 0 0 → store_of m ≡ store_of n → m ≡ n
same_meaning m n r s =
    let a = rebuilt (store_of m) m refl in
    let b = rebuilt (store_of m) n s in
    let c : run (store_of m) (records_of m 0 0) 0 nothing ≡ run (store_of m) (records_of n 0 0) 0 nothing =
    ap (λ (l : List Record). run (store_of m) l 0 nothing) r in
    cc
