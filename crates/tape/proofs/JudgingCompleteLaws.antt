-- The machine takes the records of every meaning that is not too deep. Assumes nothing.
use mathlib.Core.Path.{◌≡◌, refl, sym, ap, ap₂, ◌∙◌}
use mathlib.Core.Bool.{Bool, cond}
use mathlib.Core.List.{List, [], ◌∷◌, ◌++◌, append_assoc, append-nil}
use Prim.Native.Nat.{ℕ, ◌+◌, ◌≤◌, ◌<◌}
use native.Mathlib.Omega.{arith}
use lib.ListN.{length, length-append}
use borrow.Author.Tests.{lt-ltb, eq-eqb, ne_eqb}
use Rattle.meaning.specs.declared.Record.{Record}
use Rattle.meaning.specs.Limits.{depth_limit}
use Rattle.meaning.specs.Meaning.{Meaning, Meanings, Members, null, bool, number, string, binary, time, array, object, none, more, bare, member}
use Rattle.meaning.specs.Good.{depth, elements_depth, members_depth}
use Rattle.meaning.specs.Tape.{records, elements_records, members_records, elements_count, members_count, store_of, elements_store, members_store, end_of}
use Rattle.meaning.specs.Tape.{records_of}
use Rattle.meaning.specs.Tape.{elements_of, members_of}
use Rattle.meaning.proofs.Bytes.{part_is}
use Rattle.meaning.proofs.Sizes.{most_left, most_right, some_record}
use Rattle.tape.proofs.JudgingMachineLaws.{Frame, root, in_array, in_object, Conf, nothing, elements, members, keyed, broken, says, nay, Kind, of_values}
use Rattle.tape.proofs.JudgingMachineLaws.{Stated, shut_here, shut_not, of_members, Act, leaf, name, opens, slot, put, key, begin, enter, give, settle}
use Rattle.tape.proofs.JudgingMachineLaws.{give_put, size_of, start_of}
use Rattle.tape.proofs.JudgingMachineLaws.{does, part, act_of, push, finish, run, run_settle}

module _ (store : List ℕ) where
  -- one record that starts here
  step : (r : Record) (a : Act) (i at : ℕ) (c : Conf) (rest : List Record) → start_of r at ≡ at → act_of store at r ≡ a
      → run store (r ∷ rest) i at c ≡ run store rest (i + 1) (at + size_of r) (does a (settle i c))
  unfolding run push
  step r a i at c rest s e =
      ap (run store rest (i + 1) (at + size_of r))
      (ap (λ (b : Bool). cond b (does (act_of store at r) (settle i c)) broken) (eq-eqb (start_of r at) at s) ∙ ap (λ (x : Act). does x (settle i c)) e)

  value_step : (r : Record) (m : Meaning) (i at : ℕ) (c : Conf) (f : Frame) (fs : List Frame) (rest : List Record)
      → slot (settle i c) ≡ f ∷ fs → start_of r at ≡ at → act_of store at r ≡ leaf m
      → run store (r ∷ rest) i at c ≡ run store rest (i + 1) (at + size_of r) (put m (f ∷ fs))
  unfolding does
  value_step r m i at c f fs rest s e q = step r (leaf m) i at c rest e q ∙ ap (λ (l : List Frame). run store rest (i + 1) (at + size_of r) (put m l)) s

  enter_step : (r : Record) (k : Kind) (end : Stated) (i at : ℕ) (c : Conf) (f : Frame) (fs : List Frame) (rest : List Record)
      → slot (settle i c) ≡ f ∷ fs → start_of r at ≡ at → act_of store at r ≡ opens k end → size_of r ≡ 0 → length fs < depth_limit
      → run store (r ∷ rest) i at c ≡ run store rest (i + 1) at (begin k end (f ∷ fs))
  unfolding does enter
  enter_step r k end i at c f fs rest s e q z d =
      let n : at + size_of r ≡ at = omega arith in
      step r (opens k end) i at c rest e q
      ∙ ap₂ (λ (l : List Frame) (x : ℕ). run store rest (i + 1) x (enter k end l)) s n
      ∙ ap (λ (b : Bool). run store rest (i + 1) at (cond b (begin k end (f ∷ fs)) broken)) (lt-ltb (length fs) depth_limit d)

  key_step : (k : List ℕ) (e : Stated) (ms : Members) (fs : List Frame) (i at : ℕ) (rest : List Record) → (e.end ≡ i → ⊥) → part store at (length k) ≡ k
      → run store (Record.Key (length k) at ∷ rest) i at (members e ms fs) ≡ run store rest (i + 1) (at + length k) (keyed e ms k fs)
  unfolding does key settle start_of act_of size_of
  key_step k e ms fs i at rest n q =
      step (Record.Key (length k) at) (name k) i at (members e ms fs) rest refl (ap name q)
      ∙ ap (λ (x : Conf). run store rest (i + 1) (at + length k) (key k x)) (shut_not i e (members_count ms) (give i (object ms) fs) (members e ms fs) n)

  mutual
    unfolding records_of records store_of depth slot put key settle start_of act_of size_of

    value : (m : Meaning) (i at : ℕ) (c : Conf) (f : Frame) (fs : List Frame) (pre post : List ℕ) (rest : List Record)
        → slot (settle i c) ≡ f ∷ fs → depth m + length fs ≤ depth_limit → store ≡ pre ++ (store_of m ++ post) → at ≡ length pre
        → run store (records_of m i at ++ rest) i at c ≡ run store rest (i + records m) (at + length (store_of m)) (put m (f ∷ fs))
    value null i at c f fs pre post rest s d e a = value_step Record.Null null i at c f fs rest s refl refl
    value (bool b) i at c f fs pre post rest s d e a = value_step (Record.Bool b) (bool b) i at c f fs rest s refl refl
    value (number n) i at c f fs pre post rest s d e a = value_step (Record.Number n) (number n) i at c f fs rest s refl refl
    value (string t) i at c f fs pre post rest s d e a =
        value_step (Record.Str (length t) at) (string t) i at c f fs rest s refl (ap (λ (x : List ℕ). leaf (string x)) (part_is store pre t post e at a))
    value (binary t) i at c f fs pre post rest s d e a =
        value_step (Record.Bin (length t) at) (binary t) i at c f fs rest s refl (ap (λ (x : List ℕ). leaf (binary x)) (part_is store pre t post e at a))
    value (time t) i at c f fs pre post rest s d e a = value_step (Record.Time t) (time t) i at c f fs rest s refl refl
    value (array ms) i at c f fs pre post rest s d e a =
        let end = end_of i (elements_records ms) in
        let e' : Stated = record { count = elements_count ms; end = end } in
        let at' = at + length (elements_store ms) in
        enter_step (Record.Array (elements_count ms) end) of_values e' i at c f fs (elements_of ms (i + 1) at ++ rest) s refl refl refl (omega arith)
        ∙ values ms (i + 1) at e' (f ∷ fs) pre post rest (omega arith) (omega arith) e a
        ∙ run_settle store rest end at' (elements e' ms (f ∷ fs)) (put (array ms) (f ∷ fs))
        (shut_here end e' (elements_count ms) (give end (array ms) (f ∷ fs)) (elements e' ms (f ∷ fs)) refl refl ∙ give_put end (array ms) (f ∷ fs))
        ∙ ap (λ (x : ℕ). run store rest x at' (put (array ms) (f ∷ fs))) (omega arith)
    value (object ms) i at c f fs pre post rest s d e a =
        let end = end_of i (members_records ms) in
        let e' : Stated = record { count = members_count ms; end = end } in
        let at' = at + length (members_store ms) in
        enter_step (Record.Object (members_count ms) end) of_members e' i at c f fs (members_of ms (i + 1) at ++ rest) s refl refl refl (omega arith)
        ∙ pairs ms (i + 1) at e' (f ∷ fs) pre post rest (omega arith) (omega arith) e a
        ∙ run_settle store rest end at' (members e' ms (f ∷ fs)) (put (object ms) (f ∷ fs))
        (shut_here end e' (members_count ms) (give end (object ms) (f ∷ fs)) (members e' ms (f ∷ fs)) refl refl ∙ give_put end (object ms) (f ∷ fs))
        ∙ ap (λ (x : ℕ). run store rest x at' (put (object ms) (f ∷ fs))) (omega arith)

    values : (ms : Meanings) (i at : ℕ) (e : Stated) (fs : List Frame) (pre post : List ℕ) (rest : List Record)
        → i + elements_records ms ≤ e.end → elements_depth ms + length fs ≤ depth_limit → store ≡ pre ++ (elements_store ms ++ post) → at ≡ length pre
        → run store (elements_of ms i at ++ rest) i at (elements e none fs)
        ≡ run store rest (i + elements_records ms) (at + length (elements_store ms)) (elements e ms fs)
    values none i at e fs pre post rest h d q a =
        let x : i ≡ i + 0 = omega arith in
        let y : at ≡ at + 0 = omega arith in
        ap₂ (λ (u v : ℕ). run store rest u v (elements e none fs)) x y
    values (more ms m) i at e fs pre post rest h d q a =
        let i' = i + elements_records ms in
        let at' = at + length (elements_store ms) in
        let p = some_record m in
        let n : (e.end ≡ i' → ⊥) = λ w. omega arith in
        let x : i' + records m ≡ i + (elements_records ms + records m) = omega arith in
        let y : at' + length (store_of m) ≡ at + length (elements_store ms ++ store_of m) = simp length-append (omega arith) in
        ap (λ (l : List Record). run store l i at (elements e none fs)) (append_assoc (elements_of ms i at) (records_of m i' at') rest)
        ∙ values ms i at e fs pre (store_of m ++ post) (records_of m i' at' ++ rest) (omega arith) (omega (arith, most_left (elements_depth ms) (depth m)))
        (q ∙ ap (λ (l : List ℕ). pre ++ l) (append_assoc (elements_store ms) (store_of m) post)) a
        ∙ value m i' at' (elements e ms fs) (in_array e ms) fs (pre ++ elements_store ms) post rest
        (ap slot (shut_not i' e (elements_count ms) (give i' (array ms) fs) (elements e ms fs) n))
        (omega (arith, most_right (elements_depth ms) (depth m)))
        (q ∙ simp append_assoc)
        (simp length-append (omega arith))
        ∙ ap₂ (λ (u v : ℕ). run store rest u v (elements e (more ms m) fs)) x y

    pairs : (ms : Members) (i at : ℕ) (e : Stated) (fs : List Frame) (pre post : List ℕ) (rest : List Record)
        → i + members_records ms ≤ e.end → members_depth ms + length fs ≤ depth_limit → store ≡ pre ++ (members_store ms ++ post) → at ≡ length pre
        → run store (members_of ms i at ++ rest) i at (members e bare fs)
        ≡ run store rest (i + members_records ms) (at + length (members_store ms)) (members e ms fs)
    pairs bare i at e fs pre post rest h d q a =
        let x : i ≡ i + 0 = omega arith in
        let y : at ≡ at + 0 = omega arith in
        ap₂ (λ (u v : ℕ). run store rest u v (members e bare fs)) x y
    pairs (member ms k m) i at e fs pre post rest h d q a =
        let i' = i + members_records ms in
        let at' = at + length (members_store ms) in
        let p = some_record m in
        let n : (e.end ≡ i' → ⊥) = λ w. omega arith in
        let o : (e.end ≡ i' + 1 → ⊥) = λ w. omega arith in
        let a' : at' ≡ length (pre ++ members_store ms) = simp length-append (omega arith) in
        let q' : store ≡ (pre ++ members_store ms) ++ (k ++ (store_of m ++ post)) = q ∙ simp append_assoc in
        let x : i' + 1 + records m ≡ i + (members_records ms + 1 + records m) = omega arith in
        let y : at' + length k + length (store_of m) ≡ at + length ((members_store ms ++ k) ++ store_of m) = simp length-append (omega arith) in
        let after = records_of m (i' + 1) (at' + length k) ++ rest in
        ap (λ (l : List Record). run store l i at (members e bare fs))
        (append_assoc (members_of ms i at ++ (Record.Key (length k) at' ∷ [])) (records_of m (i' + 1) (at' + length k)) rest
        ∙ append_assoc (members_of ms i at) (Record.Key (length k) at' ∷ []) after)
        ∙ pairs ms i at e fs pre (k ++ (store_of m ++ post)) (Record.Key (length k) at' ∷ after) (omega arith)
        (omega (arith, most_left (members_depth ms) (depth m)))
        (q ∙ simp append_assoc) a
        ∙ key_step k e ms fs i' at' after n (part_is store (pre ++ members_store ms) k (store_of m ++ post) q' at' a')
        ∙ value m (i' + 1) (at' + length k) (keyed e ms k fs) (in_object e ms k) fs ((pre ++ members_store ms) ++ k) post rest
        (ap (λ (b : Bool). slot (cond b broken (keyed e ms k fs))) (ne_eqb e.end (i' + 1) o))
        (omega (arith, most_right (members_depth ms) (depth m)))
        (q ∙ simp append_assoc)
        (simp length-append (omega arith))
        ∙ ap₂ (λ (u v : ℕ). run store rest u v (members e (member ms k m) fs)) x y

  -- so it says the meaning of a meaning's records
  pub full : (m : Meaning) → depth m ≤ depth_limit → store ≡ store_of m → run store (records_of m 0 0) 0 0 nothing ≡ says m
  unfolding run settle finish slot put
  full m d e =
      let q : store ≡ [] ++ (store_of m ++ []) = e ∙ simp append-nil in
      let l : length (store_of m) ≡ length store = ap length (sym e) in
      ap (λ (l : List Record). run store l 0 0 nothing) (sym (append-nil (records_of m 0 0)))
      ∙ value m 0 0 nothing root [] [] [] [] refl (omega arith) q refl
      ∙ ap (λ (b : Bool). cond b (says m) nay) (eq-eqb (0 + length (store_of m)) (length store) (omega arith))
