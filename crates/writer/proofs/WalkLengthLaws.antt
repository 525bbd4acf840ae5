-- The shares of a meaning's records add up to the length of its text and one more. Assumes nothing.
use mathlib.Core.Path.{◌≡◌, refl, sym, ap, ◌∙◌}
use mathlib.Core.Bool.{true, false}
use mathlib.Core.List.{List, [], ◌∷◌, ◌++◌, append_assoc}
use Prim.Native.Nat.{ℕ, ◌+◌, ◌≤◌, ◌<◌}
use native.Mathlib.Numerals.{add-one}
use native.Mathlib.Omega.{arith}
use lib.ListN.{length, get_or, take, drop, length-append, drop_of_length-le}
use lib.Seq.{drop-cons}
use Rattle.meaning.specs.declared.Record.{Record}
use Rattle.meaning.specs.Letters.{letters}
use Rattle.meaning.specs.Meaning.{Meaning, Meanings, Members, null, bool, number, string, binary, time, array, object, none, more, bare, member}
use Rattle.meaning.specs.Tape.{records, elements_records, members_records, store_of, elements_store, members_store, records_of, elements_of, members_of, end_of}
use Rattle.meaning.specs.Canonical.{text_with, canonical, elements_text, members_text, elements_comma, members_comma, quoted}
use Rattle.meaning.proofs.Bytes.{part_is}
use Rattle.meaning.proofs.Sizes.{some_record, elements_length, members_length}
use Rattle.writer.specs.Between.Walk.{printed, closes, follows, share}
use Rattle.writer.proofs.OneRecordLaws.{closes_none, closes_some}

-- the shares of these records, the first at index i
unfoldable pub shares : List Record → ℕ → List ℕ → ℕ
shares [] i store = 0
shares (r ∷ rs) i store = share r i store + shares rs (i + 1) store

pub shares_append : (a b : List Record) (i j : ℕ) (store : List ℕ) → i + length a ≡ j → shares (a ++ b) i store ≡ shares a i store + shares b j store
unfolding shares
shares_append [] b i j store e = ap (λ (k : ℕ). shares b k store) {x = i} {y = j} (omega arith) ∙ omega arith
shares_append (r ∷ a) b i j store e = let h = shares_append a b (i + 1) j store (omega arith) in omega arith

-- one record more
pub shares_at : (rs : List Record) (i : ℕ) (store : List ℕ) → i < length rs
    → shares (drop i rs) i store ≡ share (get_or rs i Record.Null) i store + shares (drop (i + 1) rs) (i + 1) store
unfolding shares
shares_at rs i store h =
    ap (λ (l : List Record). shares l i store) (drop-cons rs i Record.Null h)
    ∙ ap (λ (j : ℕ). share (get_or rs i Record.Null) i store + shares (drop j rs) (i + 1) store) (sym (add-one i))

pub shares_end : (rs : List Record) (i : ℕ) (store : List ℕ) → length rs ≤ i → shares (drop i rs) i store ≡ 0
unfolding shares
shares_end rs i store h = ap (λ (l : List Record). shares l i store) (drop_of_length-le rs h)

-- the last comma stands for the bracket
elements_close : (ms : Meanings) (i : ℕ) → closes (end_of i (elements_records ms)) i + length (elements_comma ms) ≡ 2
unfolding records
elements_close none i = omega (arith, closes_none (end_of i 0) i (omega arith))
elements_close (more ms m) i =
    let n = elements_records ms + records m in
    omega (arith, closes_some (end_of i n) i (λ z. omega (arith, some_record m)))

members_close : (ms : Members) (i : ℕ) → closes (end_of i (members_records ms)) i + length (members_comma ms) ≡ 2
unfolding records
members_close bare i = omega (arith, closes_none (end_of i 0) i (omega arith))
members_close (member ms k m) i =
    let n = members_records ms + 1 + records m in
    omega (arith, closes_some (end_of i n) i (λ z. omega (arith, some_record m)))

module _ (store : List ℕ) where
  -- where a string lies
  quoted_part : (pre s post : List ℕ) → store ≡ pre ++ (s ++ post) → (at : ℕ) → at ≡ length pre → take (length s) (drop at store) ≡ s
  quoted_part pre s post e at a = part_is store pre s post e at a

  mutual
    unfolding records_of records store_of text_with shares printed follows

    pub value_shares : (m : Meaning) (i at : ℕ) (pre post : List ℕ) → store ≡ pre ++ (store_of m ++ post) → at ≡ length pre
        → shares (records_of m i at) i store ≡ length (canonical m) + 1
    value_shares null i at pre post e a = omega arith
    value_shares (bool true) i at pre post e a = omega arith
    value_shares (bool false) i at pre post e a = omega arith
    value_shares (number n) i at pre post e a = omega arith
    value_shares (string s) i at pre post e a = rw (quoted_part pre s post e at a) (omega arith)
    value_shares (binary s) i at pre post e a = rw (quoted_part pre s post e at a) (omega arith)
    value_shares (time t) i at pre post e a = omega arith
    value_shares (array ms) i at pre post e a =
        let h = elements_shares ms (i + 1) at pre post e a in
        let c = elements_close ms i in
        simp length-append (omega arith)
    value_shares (object ms) i at pre post e a =
        let h = members_shares ms (i + 1) at pre post e a in
        let c = members_close ms i in
        simp length-append (omega arith)

    elements_shares : (ms : Meanings) (i at : ℕ) (pre post : List ℕ) → store ≡ pre ++ (elements_store ms ++ post) → at ≡ length pre
        → shares (elements_of ms i at) i store ≡ length (elements_text ms) + length (elements_comma ms)
    elements_shares none i at pre post e a = refl
    elements_shares (more ms m) i at pre post e a =
        let i' = i + elements_records ms in
        let at' = at + length (elements_store ms) in
        let h = elements_shares ms i at pre (store_of m ++ post) (e ∙ simp append_assoc) a in
        let k = value_shares m i' at' (pre ++ elements_store ms) post (e ∙ simp append_assoc) (simp length-append (omega arith)) in
        let s = shares_append (elements_of ms i at) (records_of m i' at') i i' store (omega (arith, elements_length ms i at)) in
        simp length-append (omega arith)

    members_shares : (ms : Members) (i at : ℕ) (pre post : List ℕ) → store ≡ pre ++ (members_store ms ++ post) → at ≡ length pre
        → shares (members_of ms i at) i store ≡ length (members_text ms) + length (members_comma ms)
    members_shares bare i at pre post e a = refl
    members_shares (member ms k m) i at pre post e a =
        let i' = i + members_records ms in
        let at' = at + length (members_store ms) in
        let key = Record.Key (length k) at' ∷ [] in
        let h = members_shares ms i at pre (k ++ (store_of m ++ post)) (e ∙ simp append_assoc) a in
        let p = quoted_part (pre ++ members_store ms) k (store_of m ++ post) (e ∙ simp append_assoc) at' (simp length-append (omega arith)) in
        let q = value_shares m (i' + 1) (at' + length k) ((pre ++ members_store ms) ++ k) post (e ∙ simp append_assoc) (simp length-append (omega arith)) in
        let s = shares_append (members_of ms i at ++ key) (records_of m (i' + 1) (at' + length k)) i (i' + 1) store
        (omega (arith, length-append (members_of ms i at) key, members_length ms i at)) in
        let t = shares_append (members_of ms i at) key i i' store (omega (arith, members_length ms i at)) in
        let u : length (quoted (take (length k) (drop at' store)) ++ letters ":") ≡ length (quoted k) + 1 = rw p (length-append (quoted k) (letters ":")) in
        simp length-append (omega arith)
