-- The open brackets as the check keeps them, a kind for each, and as the machine has them, with what they hold. Assumes nothing.
use Prim.Native.Nat.{ℕ, suc, ◌+◌, ◌-◌, ◌≤◌}
use mathlib.Core.Path.{◌≡◌, refl, sym, ap, ◌∙◌}
use mathlib.Core.List.{List, [], ◌∷◌, ◌++◌}
use native.Mathlib.Omega.{arith}
use lib.ListN.{length, length-append, get_or, length-set}
use lib.Seq.{sets, get_or-set_same, get_or-set_other}
use Rattle.meaning.specs.Limits.{depth_limit}
use Rattle.meaning.specs.Meaning.{Meaning, Meanings, Members}
use Rattle.meaning.specs.Tape.{records, elements_records, members_records, store_of, bytes, elements_store, members_store}
use Rattle.grammar.specs.Values.{elements, members}
use Rattle.machine.specs.Machine.{Bracket, square, curly, Frame, inside, pair, bare_of}
use Rattle.arriving.specs.declared.states.Due.{Due}
use Rattle.arriving.specs.Between.Steps.{kind_of, top_of}

-- ---- what a frame holds

abbrev pub frame_kind : Frame → ℕ
frame_kind (inside (elements x)) = kind_of square
frame_kind (inside (members x)) = kind_of curly
frame_kind (pair x u) = kind_of curly

-- its own record, those inside, and a key's
abbrev pub frame_records : Frame → ℕ
frame_records (inside (elements x)) = elements_records x + 1
frame_records (inside (members x)) = members_records x + 1
frame_records (pair x u) = members_records x + 1 + 1

abbrev pub frame_bytes : Frame → ℕ
frame_bytes (inside (elements x)) = length (elements_store x)
frame_bytes (inside (members x)) = length (members_store x)
frame_bytes (pair x u) = length (members_store x) + length u

abbrev pub frames_records : List Frame → ℕ
frames_records [] = 0
frames_records (f ∷ k) = frames_records k + frame_records f

abbrev pub frames_bytes : List Frame → ℕ
frames_bytes [] = 0
frames_bytes (f ∷ k) = frames_bytes k + frame_bytes f

-- ---- which frames may be open

-- a value may come inside it
abbrev pub Takes : Frame → Type 0
Takes (inside (elements x)) = Unit {0}
Takes (inside (members x)) = ⊥
Takes (pair x u) = Unit {0}

abbrev pub TakesAll : List Frame → Type 0
TakesAll [] = Unit {0}
TakesAll (f ∷ k) = Takes f × TakesAll k

-- a key, or what follows it, stands in the innermost
abbrev pub TakesKey : List Frame → Type 0
TakesKey [] = ⊥
TakesKey (inside (elements x) ∷ k) = ⊥
TakesKey (inside (members x) ∷ k) = TakesAll k
TakesKey (pair x u ∷ k) = ⊥

-- for what is due
abbrev pub Open : Due → List Frame → Type 0
Open Due.Value k = TakesAll k
Open Due.Key k = TakesKey k
Open Due.StringPart k = TakesAll k
Open Due.KeyPart k = TakesKey k
Open Due.BinaryPart k = TakesAll k
Open Due.AfterValue k = TakesAll k
Open Due.AfterKey k = TakesKey k
Open Due.AfterString k = TakesAll k
Open Due.AfterKeyString k = TakesKey k
Open Due.AfterBinary k = TakesAll k

-- the kinds of the frames, the outermost first
abbrev pub Kinds : List ℕ → List Frame → Type 0
Kinds ks [] = Unit {0}
Kinds ks (f ∷ k) = (get_or ks (length k) 0 ≡ frame_kind f) × Kinds ks k

-- ---- the check's numbers

-- What the check has (how many are open, records, store bytes, kinds) for the room d and the frames k, where rs records and bs store bytes
-- stand in no frame yet.
pub record Held (n r t : ℕ) (ks : List ℕ) (d : ℕ) (k : List Frame) (rs bs : ℕ) : Type 0 where
  pub room : d + n ≡ depth_limit
  pub depth : n ≡ length k
  pub size : length ks ≡ depth_limit
  pub kinds : Kinds ks k
  pub count : r ≡ frames_records k + rs
  pub stored : t ≡ frames_bytes k + bs

-- nothing is open
pub held_none : (ks : List ℕ) → length ks ≡ depth_limit → Held 0 0 0 ks depth_limit [] 0 0
held_none ks e = record { room = omega arith; depth = refl; size = e; kinds = tt; count = omega arith; stored = omega arith }

-- ---- the innermost

abbrev pub top_kind : List Frame → ℕ
top_kind [] = 0
top_kind (f ∷ k) = frame_kind f

pub top_is : {n r t : ℕ} {ks : List ℕ} {d : ℕ} (k : List Frame) {rs bs : ℕ} → Held n r t ks d k rs bs → top_of ks n ≡ top_kind k
unfolding top_of
top_is {ks = ks} [] h = ap (top_of ks) h.depth
top_is {ks = ks} (f ∷ k) h = ap (top_of ks) h.depth ∙ h.kinds.0

module _ {n r t : ℕ} {ks : List ℕ} {d : ℕ} {k : List Frame} where
  -- ---- items

  -- one more record, and e store bytes
  pub held_begin : (e : ℕ) → Held n r t ks d k 0 0 → Held n (r + 1) (t + e) ks d k 1 e
  held_begin e h =
      record { room = h.room; depth = h.depth; size = h.size; kinds = h.kinds; count = omega (arith, h.count); stored = omega (arith, h.stored) }

  -- e store bytes more
  pub held_more : {rs bs : ℕ} (e : ℕ) → Held n r t ks d k rs bs → Held n r (t + e) ks d k rs (bs + e)
  held_more e h =
      record { room = h.room; depth = h.depth; size = h.size; kinds = h.kinds; count = h.count; stored = omega (arith, h.stored) }

  -- the same counts, said otherwise
  pub held_as : {rs bs rs' bs' : ℕ} → rs' ≡ rs → bs' ≡ bs → Held n r t ks d k rs bs → Held n r t ks d k rs' bs'
  held_as e f h =
      record { room = h.room; depth = h.depth; size = h.size; kinds = h.kinds; count = omega (arith, h.count); stored = omega (arith, h.stored) }

-- ---- brackets

kinds_kept : (ks : List ℕ) (n c : ℕ) (k : List Frame) → length k ≤ n → Kinds ks k → Kinds (sets ks n (c ∷ [])) k
kinds_kept ks n c [] l h = tt
kinds_kept ks n c (f ∷ k) l h =
    (get_or-set_other ks n (length k) c 0 (λ (e : length k ≡ n). omega arith) ∙ h.0, kinds_kept ks n c k (omega arith) h.1)

bare_records : (c : Bracket) → frame_records (inside (bare_of c)) ≡ 1
unfolding records
bare_records square = refl
bare_records curly = refl

bare_bytes : (c : Bracket) → frame_bytes (inside (bare_of c)) ≡ 0
unfolding store_of
bare_bytes square = refl
bare_bytes curly = refl

bare_kind : (c : Bracket) → frame_kind (inside (bare_of c)) ≡ kind_of c
bare_kind square = refl
bare_kind curly = refl

module _ {n r t : ℕ} {ks : List ℕ} {d : ℕ} {k : List Frame} where
  -- one opens
  pub held_open : (c : Bracket) → Held n r t ks (suc d) k 0 0 → Held (n + 1) (r + 1) t (sets ks n (kind_of c ∷ [])) d (inside (bare_of c) ∷ k) 0 0
  held_open c h = record {
    room = omega (arith, h.room);
    depth = omega (arith, h.depth);
    size = length-set ks n (kind_of c) ∙ h.size;
    kinds = (
      ap (λ (i : ℕ). get_or (sets ks n (kind_of c ∷ [])) i 0) (sym h.depth) ∙ get_or-set_same ks n (kind_of c) 0 (omega (arith, h.room, h.size)) ∙
          sym (bare_kind c),
      kinds_kept ks n (kind_of c) k (omega (arith, h.depth)) h.kinds,
    );
    count = omega (arith, h.count, bare_records c);
    stored = omega (arith, h.stored, bare_bytes c);
  }

  -- an array closes
  pub held_array : (x : Meanings) → Held n r t ks d (inside (elements x) ∷ k) 0 0
      → Held (n - 1) r t ks (suc d) k (records (Meaning.array x)) (bytes (Meaning.array x))
  unfolding records store_of
  held_array x h = record {
    room = omega (arith, h.room, h.depth);
    depth = omega (arith, h.depth);
    size = h.size;
    kinds = h.kinds.1;
    count = omega (arith, h.count);
    stored = omega (arith, h.stored);
  }

  -- an object closes
  pub held_object : (x : Members) → Held n r t ks d (inside (members x) ∷ k) 0 0
      → Held (n - 1) r t ks (suc d) k (records (Meaning.object x)) (bytes (Meaning.object x))
  unfolding records store_of
  held_object x h = record {
    room = omega (arith, h.room, h.depth);
    depth = omega (arith, h.depth);
    size = h.size;
    kinds = h.kinds.1;
    count = omega (arith, h.count);
    stored = omega (arith, h.stored);
  }

  -- one more element
  pub held_element : (x : Meanings) (m : Meaning) → Held n r t ks d (inside (elements x) ∷ k) (records m) (bytes m)
      → Held n r t ks d (inside (elements (Meanings.more x m)) ∷ k) 0 0
  unfolding records store_of
  held_element x m h = record {
    room = h.room;
    depth = h.depth;
    size = h.size;
    kinds = h.kinds;
    count = omega (arith, h.count);
    stored = omega (arith, h.stored, length-append (elements_store x) (store_of m));
  }

  -- one more member
  pub held_member : (x : Members) (u : List ℕ) (m : Meaning) → Held n r t ks d (pair x u ∷ k) (records m) (bytes m)
      → Held n r t ks d (inside (members (Members.member x u m)) ∷ k) 0 0
  unfolding records store_of
  held_member x u m h = record {
    room = h.room;
    depth = h.depth;
    size = h.size;
    kinds = h.kinds;
    count = omega (arith, h.count);
    stored = omega (arith, h.stored, length-append (members_store x ++ u) (store_of m), length-append (members_store x) u);
  }

  -- a colon after a key
  pub held_pair : (x : Members) (u : List ℕ) → Held n r t ks d (inside (members x) ∷ k) 1 (length u) → Held n r t ks d (pair x u ∷ k) 0 0
  held_pair x u h = record {
    room = h.room;
    depth = h.depth;
    size = h.size;
    kinds = h.kinds;
    count = omega (arith, h.count);
    stored = omega (arith, h.stored);
  }
