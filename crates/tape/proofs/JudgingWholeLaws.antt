-- Formed is what the machine says yes to, where each record stands by itself. Assumes nothing.
use mathlib.Core.Path.{◌≡◌, refl, sym, ap, ◌∙◌, subst}
use mathlib.Core.List.{List, [], ◌∷◌, ◌++◌, append_assoc, append-nil}
use Prim.Native.Nat.{ℕ, zero, suc, ◌+◌, ◌*◌, ◌≤◌, ◌<◌}
use native.Mathlib.Omega.{arith}
use lib.ListN.{length, get_or, take, drop, length-append}
use lib.Seq.{ext_get_or}
use Rattle.rules.specs.Rfc3629.{Octets}
use Rattle.meaning.specs.declared.Record.{Record}
use Rattle.meaning.specs.Limits.{record_limit, store_limit}
use Rattle.meaning.specs.Meaning.{Meaning, Meanings, Members, null, bool, number, string, binary, time, array, object, none, more, bare, member}
use Rattle.meaning.specs.Good.{Bytes, GoodParts, GoodElements, GoodMembers}
use Rattle.meaning.specs.Tape.{records, elements_records, members_records, store_of, elements_store, members_store, records_of, elements_of, members_of}
use Rattle.meaning.specs.Tape.{records_bytes}
use Rattle.meaning.specs.Tape.{tape_of}
use Rattle.meaning.specs.Between.Words.{Fit}
use Rattle.meaning.specs.Look.{OwnFields, whole_records, RecordAt}
use Rattle.meaning.proofs.Bytes.{bytes_left, bytes_right, bytes_of, part_is}
use Rattle.meaning.proofs.Sizes.{records_length, elements_length, members_length}
use Rattle.meaning.proofs.Records.{Fits, Stands, all_stand}
use Rattle.meaning.proofs.Whole.{tape_length}
use Rattle.tape.specs.Between.Judging.{Formed}
use Rattle.tape.specs.Between.Turns.{bytes_end}
use Rattle.tape.specs.Between.Shapes.{words_at}
use Rattle.tape.specs.Between.Standing.{read_at, records_from}
use Rattle.tape.proofs.ShapesLaws.{only}
use Rattle.tape.proofs.LookingLaws.{record_numbers}
use Rattle.tape.proofs.JudgingMachineLaws.{nothing, Verdict, says, nay, run}
use Rattle.tape.proofs.JudgingCompleteLaws.{full}
use Rattle.tape.proofs.JudgingSoundLaws.{AllInside, sound}

-- ---- the records of a tape

pub read_is : (tape store : List ℕ) (k : ℕ) (r : Record) → RecordAt tape store k r → read_at tape k ≡ r
unfolding read_at
read_is tape store k r a = only (words_at tape (k * 16)) r a.fits (record_numbers tape store k r a)

pub from_length : (n : ℕ) (tape : List ℕ) (i : ℕ) → length (records_from n tape i) ≡ n
unfolding records_from
from_length zero tape i = refl
from_length (suc n) tape i = ap suc (from_length n tape (i + 1))

pub from_at : (n : ℕ) (tape : List ℕ) (i k : ℕ) → k < n → get_or (records_from n tape i) k Record.Null ≡ read_at tape (i + k)
unfolding records_from
from_at zero tape i k h = absurd (omega arith)
from_at (suc n) tape i zero h = let z : i ≡ i + 0 = omega arith in ap (read_at tape) z
from_at (suc n) tape i (suc k) h = let z : i + 1 + k ≡ i + suc k = omega arith in from_at n tape (i + 1) k (omega arith) ∙ ap (read_at tape) z

-- what the machine says of n records
abbrev pub verdict : ℕ → List ℕ → List ℕ → Verdict
verdict n tape store = run store (records_from n tape 0) 0 0 nothing

-- ---- from each record to the whole

fits_all : (rs : List Record) → ((k : ℕ) → k < length rs → Fit (get_or rs k Record.Null)) → Fits rs
fits_all [] h = tt
fits_all (r ∷ rs) h = (h 0 (omega arith), fits_all rs (λ k l. h (suc k) (omega arith)))

module _ (store : List ℕ) (count : ℕ) where
  -- all of these records, the first at index i
  abbrev AllOwn : List Record → ℕ → Type 0
  AllOwn [] i = Unit {0}
  AllOwn (r ∷ rs) i = OwnFields r i count store × AllOwn rs (i + 1)

  own_all : (rs : List Record) (i : ℕ) → ((k : ℕ) → k < length rs → OwnFields (get_or rs k Record.Null) (i + k) count store) → AllOwn rs i
  own_all [] i h = tt
  own_all (r ∷ rs) i h =
      let z : i + 0 ≡ i = omega arith in
      (rw z at (h 0 (omega arith)), own_all rs (i + 1) (λ k l. let e : i + suc k ≡ i + 1 + k = omega arith in rw e at (h (suc k) (omega arith))))

  own_left : (a b : List Record) (i : ℕ) → AllOwn (a ++ b) i → AllOwn a i
  own_left [] b i f = tt
  own_left (r ∷ a) b i f = (f.0, own_left a b (i + 1) f.1)

  own_right : (a b : List Record) (i j : ℕ) → i + length a ≡ j → AllOwn (a ++ b) i → AllOwn b j
  own_right [] b i j e f = let z : i ≡ j = omega arith in rw z at f
  own_right (r ∷ a) b i j e f = own_right a b (i + 1) j (omega arith) f.1

  own_inside : (r : Record) (i : ℕ) → OwnFields r i count store → bytes_end r ≤ length store
  own_inside Record.Null i o = omega arith
  own_inside (Record.Bool b) i o = omega arith
  own_inside (Record.Number n) i o = omega arith
  own_inside (Record.Str size start) i o = o.0
  own_inside (Record.Key size start) i o = o.0
  own_inside (Record.Bin size start) i o = o
  own_inside (Record.Time t) i o = omega arith
  own_inside (Record.Array count end) i o = omega arith
  own_inside (Record.Object count end) i o = omega arith

  all_inside : (rs : List Record) (i : ℕ) → AllOwn rs i → AllInside store rs
  all_inside [] i f = tt
  all_inside (r ∷ rs) i f = (own_inside r i f.0, all_inside rs (i + 1) f.1)

  -- records whose fields are as they must be are those of a meaning whose parts are good
  module _ (bytes : Bytes store) where
    text_good : (pre s post : List ℕ) (at : ℕ) → store ≡ pre ++ (s ++ post) → at ≡ length pre → Octets (take (length s) (drop at store)) → Octets s
    text_good pre s post at e a o = subst Octets (part_is store pre s post e at a) o

    mutual
      unfolding records_of records store_of

      value_good : (m : Meaning) (i at : ℕ) (pre post : List ℕ) → store ≡ pre ++ (store_of m ++ post) → at ≡ length pre → AllOwn (records_of m i at) i
          → GoodParts m
      value_good null i at pre post e a f = tt
      value_good (bool b) i at pre post e a f = tt
      value_good (number n) i at pre post e a f = f.0
      value_good (string s) i at pre post e a f = text_good pre s post at e a f.0.1
      value_good (binary s) i at pre post e a f = bytes_left s post (bytes_right pre (s ++ post) (subst Bytes e bytes))
      value_good (time t) i at pre post e a f = f.0
      value_good (array ms) i at pre post e a f = values_good ms (i + 1) at pre post e a f.1
      value_good (object ms) i at pre post e a f = pairs_good ms (i + 1) at pre post e a f.1

      values_good : (ms : Meanings) (i at : ℕ) (pre post : List ℕ) → store ≡ pre ++ (elements_store ms ++ post) → at ≡ length pre
          → AllOwn (elements_of ms i at) i
          → GoodElements ms
      values_good none i at pre post e a f = tt
      values_good (more ms m) i at pre post e a f =
          let i' = i + elements_records ms in
          let at' = at + length (elements_store ms) in (
            values_good ms i at pre (store_of m ++ post) (e ∙ simp append_assoc) a (own_left (elements_of ms i at) (records_of m i' at') i f),
            value_good m i' at' (pre ++ elements_store ms) post (e ∙ simp append_assoc) (simp length-append (omega arith))
                (own_right (elements_of ms i at) (records_of m i' at') i i' (omega (arith, elements_length ms i at)) f),
          )

      pairs_good : (ms : Members) (i at : ℕ) (pre post : List ℕ) → store ≡ pre ++ (members_store ms ++ post) → at ≡ length pre → AllOwn (members_of ms i at) i
          → GoodMembers ms
      pairs_good bare i at pre post e a f = tt
      pairs_good (member ms k m) i at pre post e a f =
          let i' = i + members_records ms in
          let at' = at + length (members_store ms) in
          let key = Record.Key (length k) at' ∷ [] in
          let rest = records_of m (i' + 1) (at' + length k) in
          let l = members_length ms i at in
          let front = own_left (members_of ms i at ++ key) rest i f in
          let o = own_right (members_of ms i at) key i i' (omega arith) front in (
            pairs_good ms i at pre (k ++ (store_of m ++ post)) (e ∙ simp append_assoc) a (own_left (members_of ms i at) key i front),
            text_good (pre ++ members_store ms) k (store_of m ++ post) at' (e ∙ simp append_assoc) (simp length-append (omega arith)) o.0.1,
            value_good m (i' + 1) (at' + length k) ((pre ++ members_store ms) ++ k) post (e ∙ simp append_assoc) (simp length-append (omega arith))
                (own_right (members_of ms i at ++ key) rest i (i' + 1) (omega (arith, length-append (members_of ms i at) key)) f),
          )

pub record_inside : {tape store : List ℕ} {i : ℕ} {r : Record} → RecordAt tape store i r → bytes_end r ≤ length store
record_inside {tape} {store} {i} {r} a = own_inside store (whole_records tape) r i a.own

-- ---- both directions

pub formed_length : (tape store : List ℕ) (w : Formed tape store) → length tape ≡ records w.meaning * 16
formed_length tape store w = ap length w.taped ∙ tape_length w.meaning

module _ (tape store : List ℕ) (n : ℕ) (h : length tape ≡ n * 16) where
  pub formed_records : (w : Formed tape store) → records_from n tape 0 ≡ records_of w.meaning 0 0
  formed_records w =
      let m = w.meaning in
      let l = formed_length tape store w in
      let e : n ≡ records m = omega arith in
      let a : length (records_from n tape 0) ≡ length (records_of m 0 0) = omega (arith, from_length n tape 0, records_length m 0 0) in
      ext_get_or Record.Null (records_from n tape 0) (records_of m 0 0) a
      (λ k i.
      let q : k < n = omega (arith, from_length n tape 0) in
      let z : 0 + k ≡ k = omega arith in
      from_at n tape 0 k q ∙ ap (read_at tape) z ∙ read_is tape store k _ (w.each k (omega arith)))

  pub formed_says : (w : Formed tape store) → verdict n tape store ≡ says w.meaning
  formed_says w = ap (λ (l : List Record). run store l 0 0 nothing) (formed_records w) ∙ full store w.meaning w.shallow w.stored

  pub nay_unformed : verdict n tape store ≡ nay → Formed tape store → ⊥
  nay_unformed e w = let g = formed_says w in let z : ◌≡◌ {A = ℕ} 0 1 = cc in omega arith

  -- each record stands by itself
  module _
      (tape_bytes_lem : (j : ℕ) → get_or tape j 0 < 256)
      (store_Bytes : (j : ℕ) → get_or store j 0 < 256)
      (few : n ≤ record_limit)
      (short : length store ≤ store_limit)
      (each : (k : ℕ) → k < n → RecordAt tape store k (read_at tape k))
    where
      at_index : (k : ℕ) → k < length (records_from n tape 0) → RecordAt tape store k (get_or (records_from n tape 0) k Record.Null)
      at_index k i =
          let q : k < n = omega (arith, from_length n tape 0) in
          let z : 0 + k ≡ k = omega arith in
          subst (RecordAt tape store k) (sym (from_at n tape 0 k q ∙ ap (read_at tape) z)) (each k q)

      pub says_formed : (m : Meaning) → verdict n tape store ≡ says m → Formed tape store
      unfolding tape_of
      says_formed m e =
          let rs = records_from n tape 0 in
          let l = from_length n tape 0 in
          let count = whole_records tape in
          let own : AllOwn store count rs 0 =
          own_all store count rs 0 (λ k i. let z : k ≡ 0 + k = omega arith in subst (λ (x : ℕ). OwnFields (get_or rs k Record.Null) x count store) z
          (at_index k i).own) in
          let i = sound store rs m (all_inside store count rs 0 own) e in
          let many : records m ≡ n = sym (records_length m 0 0) ∙ ap length (sym i.is) ∙ l in
          let long : length store ≡ length (store_of m) = ap length i.held_all in
          record {
            meaning = m;
            parts =
                value_good store count (bytes_of store store_Bytes) m 0 0 [] [] (i.held_all ∙ simp append-nil) refl
                (subst (λ (x : List Record). AllOwn store count x 0) i.is own);
            shallow = i.shallow;
            few = omega arith;
            short = omega arith;
            taped =
                all_stand rs tape 0 (fits_all rs (λ k q. (at_index k q).fits)) tape_bytes_lem (omega arith)
                (λ k q.
                let s = record_numbers tape store k _ (at_index k q) in
                let z : k * 16 ≡ 0 + k * 16 = omega arith in
                subst (λ (p : ℕ). Stands tape p (get_or rs k Record.Null)) z (record
                { mark_at = s.mark_is; low_at = s.low_is; mid_at = s.mid_is; high_at = s.high_is }))
                ∙ ap records_bytes i.is;
            stored = i.held_all;
            each = λ k q.
                subst (λ (x : List Record). RecordAt tape store k (get_or x k Record.Null)) i.is (at_index k (omega arith));
          }
