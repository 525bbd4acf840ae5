-- Keys by their bytes: equal ones, their tags, and the key at an index. Assumes nothing.
use mathlib.Core.Path.{◌≡◌, refl, sym, ap, ap₂, ◌∙◌}
use mathlib.Core.Bool.{Bool, true, false, cond, ◌&&◌}
use mathlib.Core.List.{List, [], ◌∷◌}
use lib.Pointwise.{pointwise}
use Rattle.std.proofs.Common.{Option, Some, None, unwrap_or}
use Prim.Native.Nat.{ℕ, ◌+◌, ◌-◌, ◌*◌, ◌≤◌, ◌<◌}
use native.Mathlib.Omega.{arith}
use native.Mathlib.Numerals.{add-one}
use lib.Dec.{eqb}
use lib.ListN.{length, get_or, take, drop}
use lib.Seq.{take-suc, take_all}
use Rattle.meaning.specs.declared.Record.{Record}
use Rattle.meaning.specs.Once.{same}
use Rattle.meaning.specs.Between.Words.{mid_of, high_of}
use Rattle.once.specs.Hash.{seed, mix, finish, mixes, hash_of}
use Rattle.once.proofs.HashLaws.{mixes_none, mixes_more, hash_done}
use Rattle.once.specs.Groups.{Newest, Stands, Earlier, Names}
use Rattle.once.proofs.KeepingLaws.{before_on, names_on}
use Rattle.once.proofs.KeepingSeekLaws.{Sought, seek_begins, seek_stands, seek_key, seek_finds, seek_falls, seek_past_tag, seek_past}
use Rattle.once.proofs.KeepingSeekLaws.{seek_ends}
use Rattle.tape.specs.declared.Words.{Words}
use Rattle.tape.specs.Between.Shapes.{words_at}
use Rattle.tape.specs.Between.Key.{KeyIs, SlotHolds, SlotIs, other_tag, told, Seeks, Repeats, Coming, Notes}
use Rattle.tape.proofs.LookingLaws.{record_numbers}

-- ---- equal bytes

either : (t p q : Bool) → p ≡ q → t && p ≡ cond t q false
either true p q e = e
either false p q e = refl

pub same_bytes : (a b : List ℕ) → pointwise eqb a b ≡ same a b
unfolding same
same_bytes [] [] = refl
same_bytes [] (y ∷ b) = refl
same_bytes (x ∷ a) [] = refl
same_bytes (x ∷ a) (y ∷ b) = either (eqb x y) _ _ (same_bytes a b)

-- ---- tags

-- a tag over the bytes before i
pub record Mixed (key : List ℕ) (salt h i : ℕ) : Type 0 where
  pub so : h ≡ mixes (seed salt) (take i key)

pub mixed_none : (key : List ℕ) (salt h : ℕ) → h ≡ seed salt → Mixed key salt h 0
mixed_none key salt h e = record { so = e ∙ sym (mixes_none (seed salt)) }

pub mixed_more : {key : List ℕ} {salt h i : ℕ} → Mixed key salt h i → i < length key → (h' : ℕ) → h' ≡ mix h (get_or key i 0) → Mixed key salt h' (i + 1)
mixed_more {key} {salt} {h} {i} m l h' e = record {
  so =
      e ∙ ap (λ (x : ℕ). mix x (get_or key i 0)) m.so
      ∙ sym (mixes_more (seed salt) (take i key) (get_or key i 0))
      ∙ ap (mixes (seed salt)) (sym (take-suc key i 0 l))
      ∙ ap (λ (j : ℕ). mixes (seed salt) (take j key)) (sym (add-one i));
}

pub mixed_all : {key : List ℕ} {salt h i : ℕ} → Mixed key salt h i → length key ≤ i → (r : ℕ) → r ≡ finish h → r ≡ hash_of salt key
mixed_all {key} {salt} {h} {i} m l r e = e ∙ ap finish (m.so ∙ ap (mixes (seed salt)) (take_all i key l)) ∙ hash_done salt key

-- ---- the key at an index

module _ {tape store : List ℕ} {index : ℕ} where
  pub key_numbers : {v : List ℕ} (k : KeyIs tape store index v) {w : Words} → w ≡ words_at tape (index * 16) → (w.mid ≡ k.size) × (w.high ≡ k.start)
  unfolding mid_of high_of
  key_numbers k {w} e =
      let n = record_numbers tape store index (Record.Key k.size k.start) k.there in
      (ap (λ (x : Words). x.mid) e ∙ n.mid_is, ap (λ (x : Words). x.high) e ∙ n.high_is)

  pub key_inside : {v : List ℕ} → KeyIs tape store index v → {w : Words} → w ≡ words_at tape (index * 16) → w.high + w.mid ≤ length store
  key_inside k {w} e = omega (arith, k.there.own.0, key_numbers k {w = w} e)

  -- its bytes, as they are cut out of the store
  pub key_cut : {v : List ℕ} → KeyIs tape store index v → {w : Words} → w ≡ words_at tape (index * 16)
      → v ≡ take (w.high + w.mid - w.high) (drop w.high store)
  key_cut k {w} e =
      let n = key_numbers k {w = w} e in
      let z : w.high + w.mid - w.high ≡ k.size = omega (arith, n.0) in
      k.is ∙ ap₂ (λ (x y : ℕ). take x (drop y store)) (sym z) (sym n.1)

-- ---- the search for an earlier key

-- at the slot i, wherever the table stands
pub record Seeking (tape store key : List ℕ) (tag : ℕ) (seen : List ℕ) (i : Option ℕ) : Type 0 where
  pub sought : (at from : ℕ) → tag ≡ hash_of from key → Sought (KeyIs tape store) (hash_of from) seen at from key i

pub seek_start : (tape store key : List ℕ) (tag : ℕ) (seen : List ℕ) (i : Option ℕ) → Newest seen tag i → Seeking tape store key tag seen i
seek_start tape store key tag seen i n = record { sought = λ at from e. seek_begins tag i e n }

module _ {tape store key : List ℕ} {tag : ℕ} {seen : List ℕ} {i : ℕ} (w : Seeking tape store key tag seen (Some i)) where
  module _ (p : Seeks tape store key tag seen) where
    abbrev here : Sought (KeyIs tape store) (hash_of p.1.0) seen p.0 p.1.0 key (Some i)
    here = w.sought p.0 p.1.0 p.1.1.1.tagged

    pub slot_stands : Stands seen i
    slot_stands = seek_stands here p.1.1.1.keeps

    pub slot_holds : SlotHolds tape store seen i
    slot_holds = (slot_stands, λ r g. let k = seek_key here p.1.1.1.keeps r g in (k.0, k.1.0))

    pub slot_falls : (r : Option ℕ) → Earlier seen i r → unwrap_or r 0 < i
    slot_falls r g = seek_falls here p.1.1.1.keeps r g

  pub slot_found : {b : Bool} → SlotIs tape store key tag seen i b → b ≡ true → Repeats tape store key tag seen true
  slot_found (other_tag t g n) e = let z : ◌≡◌ {A = ℕ} 0 1 = cc in absurd (omega arith)
  slot_found (told r g h) e = λ at from s t. sym (seek_finds (w.sought at from t.tagged) r g (λ v k. sym (h v k) ∙ e) s t.keeps)

  pub slot_other : {b : Bool} → SlotIs tape store key tag seen i b → b ≡ false → (j : Option ℕ) → Earlier seen i j → Seeking tape store key tag seen j
  slot_other (other_tag t g n) e j m =
      record { sought = λ at from q. seek_past_tag (w.sought at from q) tag t q g n j m }
  slot_other (told r g h) e j m = record { sought = λ at from q. seek_past (w.sought at from q) r g (λ v k. sym (h v k) ∙ e) j m }

pub slots_over : {tape store key : List ℕ} {tag : ℕ} {seen : List ℕ} → Seeking tape store key tag seen None → Repeats tape store key tag seen false
slots_over w at from s t = sym (seek_ends (w.sought at from t.tagged) s t.keeps)

-- ---- a key comes

module _ {tape store : List ℕ} {index from : ℕ} {key seen : List ℕ} where
  pub coming_seeks : Coming tape store index from key seen → (t : ℕ) → t ≡ hash_of from key → Seeks tape store key t seen
  coming_seeks h t e = (index, (from, (h.0, record { keeps = h.1.keeps; tagged = e })))

  -- before the window
  pub notes_before : index < from → Notes tape store index from key seen seen
  notes_before l s h = before_on h.keeps (index + 1) (omega arith) (omega (arith, h.few)) index key l h.inside

  pub notes_after : from ≤ index → {t : ℕ} → t ≡ hash_of from key → {r : Bool} → Repeats tape store key t seen r → {seen' : List ℕ}
      → Names r (index, t) seen seen' → Notes tape store index from key seen seen'
  notes_after l {t} e {r} g {seen'} d s h =
      names_on h.keeps (index + 1) (omega arith) (omega (arith, h.few)) seen' index key r (rw e at d)
      (g index from s (record { keeps = h.keeps; tagged = e })) h.is l (omega arith) h.inside
