-- At an index there is one record, and every record of a well-formed tape is one that stands by itself. Assumes nothing.
use mathlib.Core.Path.{◌≡◌, refl, sym, ap, ◌∙◌}
use mathlib.Core.List.{List, [], ◌∷◌, ◌++◌, append_assoc, append-nil}
use Prim.Native.Nat.{ℕ, zero, suc, ◌+◌, ◌*◌, ◌≤◌, ◌<◌}
use native.Mathlib.Omega.{arith}
use lib.ListN.{length, get_or, take, drop, length-append}
use lib.Seq.{take_at}
use Rattle.rules.specs.Rfc3629.{Octets}
use Rattle.meaning.specs.declared.Record.{Record}
use Rattle.meaning.specs.Meaning.{Meaning, Meanings, Members, null, bool, number, string, binary, time, array, object, none, more, bare, member}
use Rattle.meaning.specs.Good.{GoodParts, GoodElements, GoodMembers}
use Rattle.meaning.specs.Tape.{records, elements_records, members_records, store_of, elements_store, members_store, records_of, elements_of, members_of}
use Rattle.meaning.specs.Tape.{record_bytes, WellFormed}
use Rattle.meaning.specs.Look.{Inside, Utf8Inside, OwnFields, whole_records, RecordAt}
use Rattle.meaning.proofs.Bytes.{part_is}
use Rattle.meaning.proofs.Sizes.{records_length, elements_length, members_length}
use Rattle.meaning.proofs.Records.{fit_at, record_length, record_injective}
use Rattle.meaning.proofs.Whole.{tape_at, well_formed_length, well_formed_fits}

pub one_record : (tape store : List ℕ) (index : ℕ) (r s : Record) → RecordAt tape store index r → RecordAt tape store index s → r ≡ s
one_record tape store index r s a b = record_injective r s a.fits b.fits (sym a.lies ∙ b.lies)

-- all of these records, the first at index i
abbrev AllOwn : List Record → ℕ → ℕ → List ℕ → Type 0
AllOwn [] i whole store = Unit {0}
AllOwn (r ∷ rs) i whole store = OwnFields r i whole store × AllOwn rs (i + 1) whole store

own_append : (a b : List Record) (i j whole : ℕ) (store : List ℕ) → i + length a ≡ j → AllOwn a i whole store → AllOwn b j whole store
    → AllOwn (a ++ b) i whole store
own_append [] b i j whole store e f g = let z : j ≡ i = omega arith in rw z at g
own_append (r ∷ a) b i j whole store e f g = (f.0, own_append a b (i + 1) j whole store (omega arith) f.1 g)

own_at : (rs : List Record) (i k whole : ℕ) (store : List ℕ) → AllOwn rs i whole store → k < length rs → OwnFields (get_or rs k Record.Null) (i + k) whole store
own_at [] i k whole store f h = absurd (omega arith)
own_at (r ∷ rs) i zero whole store f h = let z : i ≡ i + 0 = omega arith in rw z at f.0
own_at (r ∷ rs) i (suc k) whole store f h = let z : i + 1 + k ≡ i + suc k = omega arith in rw z at (own_at rs (i + 1) k whole store f.1 (omega arith))

module _ (store : List ℕ) (whole : ℕ) where
  inside : (pre s post : List ℕ) → store ≡ pre ++ (s ++ post) → (at : ℕ) → at ≡ length pre → Inside (length s) at store
  inside pre s post e at a = omega (arith, ap length e, length-append pre (s ++ post), length-append s post)

  text : (pre s post : List ℕ) → store ≡ pre ++ (s ++ post) → (at : ℕ) → at ≡ length pre → Octets s → Utf8Inside (length s) at store
  text pre s post e at a o = (inside pre s post e at a, rw (part_is store pre s post e at a) o)

  mutual
    unfolding records_of records store_of

    value : (m : Meaning) (i at : ℕ) (pre post : List ℕ) → GoodParts m → i + records m ≤ whole → store ≡ pre ++ (store_of m ++ post) → at ≡ length pre
        → AllOwn (records_of m i at) i whole store
    value null i at pre post p h e a = (tt, tt)
    value (bool b) i at pre post p h e a = (tt, tt)
    value (number n) i at pre post p h e a = (p, tt)
    value (string s) i at pre post p h e a = (text pre s post e at a p, tt)
    value (binary s) i at pre post p h e a = (inside pre s post e at a, tt)
    value (time t) i at pre post p h e a = (p, tt)
    value (array ms) i at pre post p h e a = ((omega arith, omega arith), values ms (i + 1) at pre post p (omega arith) e a)
    value (object ms) i at pre post p h e a = ((omega arith, omega arith), pairs ms (i + 1) at pre post p (omega arith) e a)

    values : (ms : Meanings) (i at : ℕ) (pre post : List ℕ) → GoodElements ms → i + elements_records ms ≤ whole → store ≡ pre ++ (elements_store ms ++ post)
        → at
        ≡ length pre
        → AllOwn (elements_of ms i at) i whole store
    values none i at pre post p h e a = tt
    values (more ms m) i at pre post p h e a =
        let i' = i + elements_records ms in
        let at' = at + length (elements_store ms) in
        own_append (elements_of ms i at) (records_of m i' at') i i' whole store (omega (arith, elements_length ms i at))
        (values ms i at pre (store_of m ++ post) p.0 (omega arith) (e ∙ simp append_assoc) a)
        (value m i' at' (pre ++ elements_store ms) post p.1 (omega arith) (e ∙ simp append_assoc) (simp length-append (omega arith)))

    pairs : (ms : Members) (i at : ℕ) (pre post : List ℕ) → GoodMembers ms → i + members_records ms ≤ whole → store ≡ pre ++ (members_store ms ++ post) → at
        ≡ length pre
        → AllOwn (members_of ms i at) i whole store
    pairs bare i at pre post p h e a = tt
    pairs (member ms k m) i at pre post p h e a =
        let i' = i + members_records ms in
        let at' = at + length (members_store ms) in
        let key = Record.Key (length k) at' ∷ [] in
        own_append (members_of ms i at ++ key) (records_of m (i' + 1) (at' + length k)) i (i' + 1) whole store
        (omega (arith, length-append (members_of ms i at) key, members_length ms i at))
        (own_append (members_of ms i at) key i i' whole store (omega (arith, members_length ms i at))
        (pairs ms i at pre (k ++ (store_of m ++ post)) p.0 (omega arith) (e ∙ simp append_assoc) a)
        (text (pre ++ members_store ms) k (store_of m ++ post) (e ∙ simp append_assoc) at' (simp length-append (omega arith)) p.1, tt))
        (value m (i' + 1) (at' + length k) ((pre ++ members_store ms) ++ k) post p.2 (omega arith) (e ∙ simp append_assoc) (simp length-append (omega arith)))

-- record k of a well-formed tape
pub well_formed_record : (tape store : List ℕ) (w : WellFormed tape store) (k : ℕ) → k < records w.meaning
    → RecordAt tape store k (get_or (records_of w.meaning 0 0) k Record.Null)
well_formed_record tape store w k h =
    let m = w.meaning in
    let r = get_or (records_of m 0 0) k Record.Null in
    let l = well_formed_length tape store w in
    let n : whole_records tape ≡ records m = omega arith in
    let i : k < length (records_of m 0 0) = omega (arith, records_length m 0 0) in
    let z : 0 + k ≡ k = omega arith in
    record {
      within = omega arith;
      lies =
          ap (λ (t : List ℕ). take 16 (drop (k * 16) t)) w.taped
          ∙ ap (take 16) (tape_at m k h)
          ∙ take_at (record_bytes r) _ 16 (record_length r);
      fits = fit_at (records_of m 0 0) k (well_formed_fits tape store w) i;
      own =
          rw z at
          (own_at (records_of m 0 0) 0 k (whole_records tape) store
          (value store (whole_records tape) m 0 0 [] [] w.good.parts (omega arith) (w.stored ∙ simp append-nil) refl) i);
    }
