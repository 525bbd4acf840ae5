-- The walk over a meaning's records prints its text: what is still to come at each state of the walk. Assumes nothing.
use mathlib.Core.Path.{◌≡◌, refl, sym, ap, ap₂, ◌∙◌, subst}
use mathlib.Core.Bool.{Bool, true, false}
use mathlib.Core.List.{List, [], ◌∷◌, ◌++◌, append_assoc, append-nil}
use Prim.Native.Nat.{ℕ, zero, suc, ◌+◌, ◌-◌, ◌≤◌, ◌<◌}
use native.Mathlib.Numerals.{add-one}
use native.Mathlib.Omega.{arith}
use lib.ListN.{length, get_or, take, drop, set, length-append}
use lib.Seq.{get_or_at, get_or-set_same, get_or-set_other}
use Rattle.meaning.specs.declared.Record.{Record}
use Rattle.meaning.specs.Letters.{letters, ch}
use Rattle.meaning.specs.Limits.{depth_limit}
use Rattle.meaning.specs.Meaning.{Meaning, Meanings, Members, null, bool, number, string, binary, time, array, object, none, more, bare, member}
use Rattle.meaning.specs.Good.{depth, elements_depth, members_depth}
use Rattle.meaning.specs.Tape.{records, elements_records, members_records, elements_count, members_count, store_of, elements_store, members_store, records_of}
use Rattle.meaning.specs.Tape.{elements_of, members_of, end_of}
use Rattle.meaning.specs.Canonical.{text_with, canonical, elements_text, members_text, elements_comma, members_comma, quoted, binary_text}
use Rattle.meaning.proofs.Bytes.{part_is}
use Rattle.meaning.proofs.Sizes.{most_left, most_right, some_record, elements_length, members_length}
use Rattle.writer.specs.declared.Effect.{Effect}
use Rattle.writer.specs.Between.Walk.{printed, comma_text, effect_of}

-- the containers around the one that is open: the end of each, and the bracket that closes it
pub data Stack : Type 0 where
  bottom : Stack
  within : ℕ → ℕ → Stack → Stack

unfoldable pub height : Stack → ℕ
height bottom = 0
height (within end closer around) = 1 + height around

-- as the code keeps them: so many ends, and as many brackets
unfoldable pub frames : ℕ → List ℕ → List ℕ → Stack
frames zero ends closers = bottom
frames (suc d) ends closers = within (get_or ends d 0) (get_or closers d 0) (frames d ends closers)

pub frames_height : (d : ℕ) (ends closers : List ℕ) → height (frames d ends closers) ≡ d
unfolding frames height
frames_height zero ends closers = refl
frames_height (suc d) ends closers = omega (arith, frames_height d ends closers)

frames_below : (d k : ℕ) (ends closers : List ℕ) (e c : ℕ) → d ≤ k → frames d (set ends k e) (set closers k c) ≡ frames d ends closers
unfolding frames
frames_below zero k ends closers e c h = refl
frames_below (suc d) k ends closers e c h =
    ap₂ (λ (x y : ℕ). within x y (frames d (set ends k e) (set closers k c))) (get_or-set_other ends k d e 0 (λ z. omega arith))
    (get_or-set_other closers k d c 0 (λ z. omega arith))
    ∙ ap (within (get_or ends d 0) (get_or closers d 0)) (frames_below d k ends closers e c (omega arith))

pub frames_push : (d : ℕ) (ends closers : List ℕ) (e c : ℕ) → d < length ends → d < length closers
    → frames (d + 1) (set ends d e) (set closers d c) ≡ within e c (frames d ends closers)
unfolding frames
frames_push d ends closers e c h k =
    ap (λ (x : ℕ). frames x (set ends d e) (set closers d c)) (add-one d)
    ∙ ap₂ (λ (x y : ℕ). within x y (frames d (set ends d e) (set closers d c))) (get_or-set_same ends d e 0 h) (get_or-set_same closers d c 0 k)
    ∙ ap (within e c) (frames_below d d ends closers e c (omega arith))

pub frames_pop : (d : ℕ) (ends closers : List ℕ) → 0 < d
    → frames d ends closers ≡ within (get_or ends (d - 1) 0) (get_or closers (d - 1) 0) (frames (d - 1) ends closers)
unfolding frames
frames_pop zero ends closers h = absurd (omega arith)
frames_pop (suc d) ends closers h =
    let z : d ≡ suc d - 1 = omega arith in
    ap (λ (x : ℕ). within (get_or ends x 0) (get_or closers x 0) (frames x ends closers)) z

pub frames_none : (d : ℕ) (ends closers : List ℕ) → d ≡ 0 → frames d ends closers ≡ bottom
unfolding frames
frames_none zero ends closers e = refl
frames_none (suc d) ends closers e = absurd (omega arith)

module _ (rs : List Record) (store : List ℕ) where
  -- At record i, a comma due or not, in a container with this end and bracket, in these: the text that comes.
  pub data Prints : ℕ → Bool → ℕ → ℕ → Stack → List ℕ → Type 0 where
    done : {i : ℕ} {comma : Bool} {end closer : ℕ} {around : Stack} {t : List ℕ} → i ≡ end → around ≡ bottom → t ≡ [] → Prints i comma end closer around t
    close : {i : ℕ} {comma : Bool} {end closer : ℕ} {around : Stack} {t : List ℕ} (end' closer' : ℕ) (around' : Stack) (u : List ℕ)
        → i ≡ end → around ≡ within end' closer' around' → t ≡ closer ∷ u → Prints i true end' closer' around' u → Prints i comma end closer around t
    pass : {i : ℕ} {comma : Bool} {end closer : ℕ} {around : Stack} {t : List ℕ} (comma' : Bool) (u : List ℕ) → i < end → i < length rs
        → effect_of (get_or rs i Record.Null) ≡ Effect.Pass comma' → t ≡ comma_text comma ++ printed (get_or rs i Record.Null) store ++ u
        → Prints (i + 1) comma' end closer around u → Prints i comma end closer around t
    enter : {i : ℕ} {comma : Bool} {end closer : ℕ} {around : Stack} {t : List ℕ} (end' closer' : ℕ) (u : List ℕ) → i < end → i < length rs
        → height around < depth_limit
        → effect_of (get_or rs i Record.Null) ≡ Effect.Open closer' end' → t ≡ comma_text comma ++ printed (get_or rs i Record.Null) store ++ u
        → Prints (i + 1) false end' closer' (within end closer around) u → Prints i comma end closer around t

  -- the record at i
  record Stands (i : ℕ) (r : Record) : Type 0 where
    inside : i < length rs
    is : get_or rs i Record.Null ≡ r

  stands : (pre : List Record) (r : Record) (post : List Record) (i : ℕ) → rs ≡ pre ++ (r ∷ post) → i ≡ length pre → Stands i r
  stands pre r post i e h =
      record {
        inside = omega (arith, ap length e, length-append pre (r ∷ post));
        is = ap (λ (l : List Record). get_or l i Record.Null) e ∙ get_or_at pre r post Record.Null i (sym h);
      }

  passes : (r : Record) (comma comma' : Bool) (i end closer : ℕ) (around : Stack) (u : List ℕ) → Stands i r → i < end → effect_of r ≡ Effect.Pass comma'
      → Prints (i + 1) comma' end closer around u → Prints i comma end closer around (comma_text comma ++ printed r store ++ u)
  passes r comma comma' i end closer around u s h e k =
      pass comma' u h s.inside (ap effect_of s.is ∙ e) (ap (λ (x : Record). comma_text comma ++ printed x store ++ u) (sym s.is)) k

  enters : (r : Record) (comma : Bool) (i end closer end' closer' : ℕ) (around : Stack) (u : List ℕ) → Stands i r → i < end → height around < depth_limit
      → effect_of r ≡ Effect.Open closer' end'
      → Prints (i + 1) false end' closer' (within end closer around) u → Prints i comma end closer around (comma_text comma ++ printed r store ++ u)
  enters r comma i end closer end' closer' around u s h d e k =
      enter end' closer' u h s.inside d (ap effect_of s.is ∙ e) (ap (λ (x : Record). comma_text comma ++ printed x store ++ u) (sym s.is)) k

  prints_as : {i j : ℕ} {comma : Bool} {end closer : ℕ} {around : Stack} {t u : List ℕ} → i ≡ j → t ≡ u
      → Prints i comma end closer around t → Prints j comma end closer around u
  prints_as {i} {j} {comma} {end} {closer} {around} {t} {u} e f p =
      subst (λ (x : ℕ). Prints x comma end closer around u) e (subst (λ (x : List ℕ). Prints i comma end closer around x) f p)

  -- a comma is due after these
  abbrev comma_after : Meanings → Bool
  comma_after none = false
  comma_after (more ms m) = true

  abbrev comma_after_members : Members → Bool
  comma_after_members bare = false
  comma_after_members (member ms k m) = true

  comma_is : (ms : Meanings) → comma_text (comma_after ms) ≡ elements_comma ms
  comma_is none = refl
  comma_is (more ms m) = refl

  members_comma_is : (ms : Members) → comma_text (comma_after_members ms) ≡ members_comma ms
  members_comma_is bare = refl
  members_comma_is (member ms k m) = refl

  -- where a value's records and bytes lie
  record Lies (these : List Record) (i : ℕ) (bytes : List ℕ) (at : ℕ) : Type 0 where
    pre : List Record
    post : List Record
    split : rs ≡ pre ++ (these ++ post)
    index : i ≡ length pre
    before : List ℕ
    after : List ℕ
    stored : store ≡ before ++ (bytes ++ after)
    start : at ≡ length before

  first : (r : Record) {these : List Record} {i : ℕ} {bytes : List ℕ} {at : ℕ} → Lies (r ∷ these) i bytes at → Stands i r
  first r {these} {i} l = stands l.pre r (these ++ l.post) i l.split l.index

  rest_lies : (r : Record) {these : List Record} {i : ℕ} {bytes : List ℕ} {at : ℕ} → Lies (r ∷ these) i bytes at → Lies these (i + 1) bytes at
  rest_lies r {these} {i} {bytes} {at} l =
      record {
        pre = l.pre ++ (r ∷ []);
        post = l.post;
        split = l.split ∙ sym (append_assoc l.pre (r ∷ []) (these ++ l.post));
        index = omega (arith, l.index, length-append l.pre (r ∷ []));
        before = l.before;
        after = l.after;
        stored = l.stored;
        start = l.start;
      }

  left_lies : (a b : List Record) (x y : List ℕ) {i at : ℕ} → Lies (a ++ b) i (x ++ y) at → Lies a i x at
  left_lies a b x y {i} {at} l =
      record {
        pre = l.pre;
        post = b ++ l.post;
        split = l.split ∙ ap (λ (z : List Record). l.pre ++ z) (append_assoc a b l.post);
        index = l.index;
        before = l.before;
        after = y ++ l.after;
        stored = l.stored ∙ ap (λ (z : List ℕ). l.before ++ z) (append_assoc x y l.after);
        start = l.start;
      }

  right_lies : (a b : List Record) (x y : List ℕ) {i at : ℕ} (j at' : ℕ)
      → Lies (a ++ b) i (x ++ y) at → i + length a ≡ j → at + length x ≡ at' → Lies b j y at'
  right_lies a b x y {i} {at} j at' l e f =
      record {
        pre = l.pre ++ a;
        post = l.post;
        split = l.split ∙ simp append_assoc;
        index = omega (arith, l.index, length-append l.pre a);
        before = l.before ++ x;
        after = l.after;
        stored = l.stored ∙ simp append_assoc;
        start = omega (arith, l.start, length-append l.before x);
      }

  part_text : {these : List Record} {i : ℕ} {s : List ℕ} {at : ℕ} → Lies these i s at → take (length s) (drop at store) ≡ s
  part_text {s = s} {at = at} l = part_is store l.before s l.after l.stored at l.start

  bracketed : (c o e : List ℕ) (x : ℕ) (t : List ℕ) → c ++ o ++ (e ++ (x ∷ t)) ≡ c ++ (o ++ e ++ (x ∷ [])) ++ t
  bracketed c o e x t = simp append_assoc

  mutual
    unfolding records_of records store_of text_with printed effect_of depth height

    value_prints : (m : Meaning) (i at : ℕ) → Lies (records_of m i at) i (store_of m) at → (comma : Bool) (end closer : ℕ) (around : Stack) (t : List ℕ)
        → i + records m ≤ end → height around + depth m ≤ depth_limit
        → Prints (i + records m) true end closer around t → Prints i comma end closer around (comma_text comma ++ canonical m ++ t)
    value_prints null i at l comma end closer around t h d k = passes Record.Null comma true i end closer around t (first Record.Null l) (omega arith) refl k
    value_prints (bool b) i at l comma end closer around t h d k =
        passes (Record.Bool b) comma true i end closer around t (first (Record.Bool b) l) (omega arith) refl k
    value_prints (number n) i at l comma end closer around t h d k =
        passes (Record.Number n) comma true i end closer around t (first (Record.Number n) l) (omega arith) refl k
    value_prints (string s) i at l comma end closer around t h d k =
        let r = Record.Str (length s) at in
        prints_as refl (ap (λ (x : List ℕ). comma_text comma ++ quoted x ++ t) (part_text l))
        (passes r comma true i end closer around t (first r l) (omega arith) refl k)
    value_prints (binary s) i at l comma end closer around t h d k =
        let r = Record.Bin (length s) at in
        prints_as refl (ap (λ (x : List ℕ). comma_text comma ++ binary_text x ++ t) (part_text l))
        (passes r comma true i end closer around t (first r l) (omega arith) refl k)
    value_prints (time x) i at l comma end closer around t h d k =
        passes (Record.Time x) comma true i end closer around t (first (Record.Time x) l) (omega arith) refl k
    value_prints (array ms) i at l comma end closer around t h d k =
        let last = end_of i (elements_records ms) in
        let r = Record.Array (elements_count ms) last in
        let back : Prints last true end closer around t = prints_as (omega arith) refl k in
        let closed : Prints last (comma_after ms) last (ch "]") (within end closer around) (ch "]" ∷ t) = close end closer around t refl refl refl back in
        let inner =
        elements_print ms (i + 1) at (rest_lies r l) last (ch "]") (within end closer around) (ch "]" ∷ t) (omega arith) (omega arith) closed in
        prints_as refl (bracketed (comma_text comma) (letters "[") (elements_text ms) (ch "]") t)
        (enters r comma i end closer last (ch "]") around (elements_text ms ++ (ch "]" ∷ t)) (first r l) (omega arith) (omega arith) refl inner)
    value_prints (object ms) i at l comma end closer around t h d k =
        let last = end_of i (members_records ms) in
        let r = Record.Object (members_count ms) last in
        let back : Prints last true end closer around t = prints_as (omega arith) refl k in
        let closed : Prints last (comma_after_members ms) last (ch "}") (within end closer around) (ch "}" ∷ t) =
        close end closer around t refl refl refl back in
        let inner =
        members_print ms (i + 1) at (rest_lies r l) last (ch "}") (within end closer around) (ch "}" ∷ t) (omega arith) (omega arith) closed in
        prints_as refl (bracketed (comma_text comma) (letters "{") (members_text ms) (ch "}") t)
        (enters r comma i end closer last (ch "}") around (members_text ms ++ (ch "}" ∷ t)) (first r l) (omega arith) (omega arith) refl inner)

    elements_print : (ms : Meanings) (i at : ℕ) → Lies (elements_of ms i at) i (elements_store ms) at → (end closer : ℕ) (around : Stack) (t : List ℕ)
        → i + elements_records ms ≤ end → height around + elements_depth ms ≤ depth_limit
        → Prints (i + elements_records ms) (comma_after ms) end closer around t → Prints i false end closer around (elements_text ms ++ t)
    elements_print none i at l end closer around t h d k = prints_as (omega arith) refl k
    elements_print (more ms m) i at l end closer around t h d k =
        let i' = i + elements_records ms in
        let at' = at + length (elements_store ms) in
        let rs' = records_of m i' at' in
        let last = right_lies (elements_of ms i at) rs' (elements_store ms) (store_of m) i' at' l (omega (arith, elements_length ms i at)) refl in
        let then = comma_text (comma_after ms) ++ canonical m ++ t in
        let value =
        value_prints m i' at' last (comma_after ms) end closer around t (omega arith) (omega (arith, most_right (elements_depth ms) (depth m)))
        (prints_as (omega arith) refl k) in
        prints_as refl (ap (λ (c : List ℕ). elements_text ms ++ (c ++ canonical m ++ t)) (comma_is ms) ∙ simp append_assoc)
        (elements_print ms i at (left_lies (elements_of ms i at) rs' (elements_store ms) (store_of m) l) end closer around then (omega arith)
        (omega (arith, most_left (elements_depth ms) (depth m))) value)

    members_print : (ms : Members) (i at : ℕ) → Lies (members_of ms i at) i (members_store ms) at → (end closer : ℕ) (around : Stack) (t : List ℕ)
        → i + members_records ms ≤ end → height around + members_depth ms ≤ depth_limit
        → Prints (i + members_records ms) (comma_after_members ms) end closer around t → Prints i false end closer around (members_text ms ++ t)
    members_print bare i at l end closer around t h d k = prints_as (omega arith) refl k
    members_print (member ms s m) i at l end closer around t h d k =
        let i' = i + members_records ms in
        let at' = at + length (members_store ms) in
        let key = Record.Key (length s) at' in
        let ks = members_of ms i at ++ (key ∷ []) in
        let ss = members_store ms ++ s in
        let rs' = records_of m (i' + 1) (at' + length s) in
        let n : i + length ks ≡ i' + 1 = omega (arith, length-append (members_of ms i at) (key ∷ []), members_length ms i at) in
        let z : at + length ss ≡ at' + length s = omega (arith, length-append (members_store ms) s) in
        let last = right_lies ks rs' ss (store_of m) (i' + 1) (at' + length s) l n z in
        let keys = left_lies ks rs' ss (store_of m) l in
        let one = right_lies (members_of ms i at) (key ∷ []) (members_store ms) s i' at' keys (omega (arith, members_length ms i at)) refl in
        let front = left_lies (members_of ms i at) (key ∷ []) (members_store ms) s keys in
        let then = canonical m ++ t in
        let value =
        value_prints m (i' + 1) (at' + length s) last false end closer around t (omega arith) (omega (arith, most_right (members_depth ms) (depth m)))
        (prints_as (omega arith) refl k) in
        let named = passes key (comma_after_members ms) false i' end closer around then (first key one) (omega (arith, some_record m)) refl value in
        let text = comma_text (comma_after_members ms) ++ printed key store ++ then in
        prints_as refl
        (ap₂ (λ (c x : List ℕ). members_text ms ++ (c ++ (quoted x ++ letters ":") ++ (canonical m ++ t))) (members_comma_is ms) (part_text one)
        ∙ simp append_assoc)
        (members_print ms i at front end closer around text (omega (arith, some_record m)) (omega (arith, most_left (members_depth ms) (depth m))) named)

  -- ---- and what comes at a state, from the text that comes

  -- the walk ends
  pub prints_done : {i : ℕ} {comma : Bool} {end closer : ℕ} {around : Stack} {t : List ℕ}
      → Prints i comma end closer around t → i ≡ end → around ≡ bottom → t ≡ []
  prints_done (done e s x) h b = x
  prints_done (close f c s u e a x k) h b = let z : ◌≡◌ {A = ℕ} 0 1 = cc in absurd (omega arith)
  prints_done (pass c u l j e x k) h b = absurd (omega arith)
  prints_done (enter f c u l j d e x k) h b = absurd (omega arith)

  pub record Closes (i closer end' closer' : ℕ) (around' : Stack) (t : List ℕ) : Type 0 where
    pub rest : List ℕ
    pub text : t ≡ closer ∷ rest
    pub next : Prints i true end' closer' around' rest

  pub prints_close : {i : ℕ} {comma : Bool} {end closer : ℕ} {around : Stack} {t : List ℕ} (end' closer' : ℕ) (around' : Stack)
      → Prints i comma end closer around t → i ≡ end → around ≡ within end' closer' around' → Closes i closer end' closer' around' t
  prints_close end' closer' around' (done e s x) h b = let z : ◌≡◌ {A = ℕ} 0 1 = cc in absurd (omega arith)
  prints_close {i} end' closer' around' (close f c s u e a x k) h b =
      let z : f ≡ end' = cc in
      let y : c ≡ closer' = cc in
      let w : s ≡ around' = cc in
      record {
        rest = u;
        text = x;
        next =
            subst (λ (v : Stack). Prints i true end' closer' v u) w
            (subst (λ (v : ℕ). Prints i true end' v s u) y (subst (λ (v : ℕ). Prints i true v c s u) z k));
      }
  prints_close end' closer' around' (pass c u l j e x k) h b = absurd (omega arith)
  prints_close end' closer' around' (enter f c u l j d e x k) h b = absurd (omega arith)

  pub record Takes (i : ℕ) (comma : Bool) (end closer : ℕ) (around : Stack) (t : List ℕ) : Type 0 where
    pub low : i < end
    pub inside : i < length rs
    pub rest : List ℕ
    pub text : t ≡ comma_text comma ++ printed (get_or rs i Record.Null) store ++ rest
    pub passed : (due : Bool) → effect_of (get_or rs i Record.Null) ≡ Effect.Pass due → Prints (i + 1) due end closer around rest
    pub entered : (closer' end' : ℕ) → effect_of (get_or rs i Record.Null) ≡ Effect.Open closer' end'
        → (height around < depth_limit) × Prints (i + 1) false end' closer' (within end closer around) rest

  -- a record comes
  pub prints_take : {i : ℕ} {comma : Bool} {end closer : ℕ} {around : Stack} {t : List ℕ} → Prints i comma end closer around t → (i ≡ end → ⊥)
      → Takes i comma end closer around t
  prints_take (done e s x) h = absurd (h e)
  prints_take (close f c s u e a x k) h = absurd (h e)
  prints_take {i} {end = end} {closer = closer} {around = around} (pass c u l j e x k) h =
      record {
        low = l;
        inside = j;
        rest = u;
        text = x;
        passed = λ due q. let z : c ≡ due = cc in subst (λ (v : Bool). Prints (i + 1) v end closer around u) z k;
        entered = λ g f q. let z : ◌≡◌ {A = ℕ} 0 1 = cc in absurd (omega arith);
      }
  prints_take {i} {end = end} {closer = closer} {around = around} (enter f c u l j d e x k) h =
      record {
        low = l;
        inside = j;
        rest = u;
        text = x;
        passed = λ due q. let z : ◌≡◌ {A = ℕ} 0 1 = cc in absurd (omega arith);
        entered = λ c' f' q.
            let z : f ≡ f' = cc in
            let y : c ≡ c' = cc in
            let w = subst (λ (v : ℕ). Prints (i + 1) false v c (within end closer around) u) z k in
            (d, subst (λ (v : ℕ). Prints (i + 1) false f' v (within end closer around) u) y w);
      }

-- the whole text of a meaning that is not too deep
pub prints_all : (m : Meaning) (store : List ℕ) → store ≡ store_of m → depth m ≤ depth_limit
    → Prints (records_of m 0 0) store 0 false (records m) 0 bottom (canonical m)
unfolding height
prints_all m store e h =
    let rs = records_of m 0 0 in
    let l : Lies rs store rs 0 (store_of m) 0 =
    record {
      pre = [];
      post = [];
      split = sym (append-nil rs);
      index = refl;
      before = [];
      after = [];
      stored = e ∙ sym (append-nil (store_of m));
      start = refl;
    } in
    prints_as rs store refl (append-nil (canonical m))
    (value_prints rs store m 0 0 l false (records m) 0 bottom [] (omega arith) (omega arith) (done (omega arith) refl refl))
