-- What the bytes so far are, by the grammar, where a value, a key, a part or what may follow is expected. Assumes nothing.
use Prim.Native.Nat.{ℕ, suc}
use mathlib.Core.Path.{◌≡◌, refl, sym, ap, ◌∙◌, subst}
use mathlib.Core.Bool.{Bool, true, false}
use mathlib.Core.Option.{Option, none, some}
use mathlib.Core.List.{List, [], ◌∷◌, ◌++◌, append_assoc, append-nil}
use Rattle.meaning.specs.Letters.{letters, ch}
use Rattle.meaning.specs.Limits.{depth_limit}
use Rattle.meaning.specs.Meaning.{Meaning, Meanings, Members}
use Rattle.grammar.specs.Checks.{Room}
use Rattle.grammar.specs.Comments.{Ws}
use Rattle.grammar.specs.Strings.{Concat, String}
use Rattle.grammar.specs.Binary.{Binary}
use Rattle.grammar.specs.Keys.{Key}
use Rattle.grammar.specs.Values.{Inside, elements, members, Closes, Value, Rest, After, Item}
use Rattle.machine.specs.Machine.{Use, as_value, as_key, Got, Base, want, want_key, want_string, want_binary, got, Frame, inside, pair, as_value_of, as_key_of}
use Rattle.grammar.specs.Refused.{Spot, value, part, among, Left}
use Rattle.machine.proofs.Sound.{lay_join, rest_pre}
use Rattle.machine.proofs.Refusals.Loose.{loose_value, loose_key}

-- ---- layout on the left

pub left_more : {d : ℕ} {s : Spot} {l w : List ℕ} → Left d s l → Ws w → Left d s (l ++ w)
left_more (Left.text v) w = Left.text (lay_join v w)
left_more {w = w} (Left.array {d = d} {l = l} {w = v} h x) y = subst (Left d _) (sym (append_assoc l (ch "[" ∷ v) w)) (Left.array h (lay_join x y))
left_more {w = w} (Left.object {d = d} {l = l} {w = v} h x) y = subst (Left d _) (sym (append_assoc l (ch "{" ∷ v) w)) (Left.object h (lay_join x y))
left_more (Left.element h) y = Left.element (left_more h y)
left_more {w = w} (Left.comma {d = d} {y = z} {l = l} {a = a} {v = u} {w = v} h i j x) y =
    subst (Left d (among z)) (simp append_assoc) (Left.comma h i j (lay_join x y))
left_more {w = w} (Left.colon {d = d} {l = l} {c = c} {v = u} {w = v} h i j x) y = subst (Left d value) (simp append_assoc) (Left.colon h i j (lay_join x y))
left_more {w = w} (Left.plus {d = d} {l = l} {a = a} {v = u} {w = v} h i j x) y = subst (Left d part) (simp append_assoc) (Left.plus h i j (lay_join x y))

-- ---- where a value, or a key, may begin

abbrev opener : Inside → ℕ
opener (elements x) = ch "["
opener (members x) = ch "{"

abbrev bare_like : Inside → Inside
bare_like (elements x) = elements Meanings.none
bare_like (members x) = members Members.bare

-- with the checks, and without: then the room is never used up
abbrev room : Bool → ℕ → ℕ
room true d = d
room false d = depth_limit

value_too : (c : Bool) {d : ℕ} {a : List ℕ} {m : Meaning} → Value true d a m → Value c (room c d) a m
value_too true v = v
value_too false v = loose_value v

key_too : (c : Bool) {a u : List ℕ} → Key true a u → Key c a u
key_too true v = v
key_too false v = loose_key v

-- in an array or an object that holds y; around it W
pub record Within (W : ℕ → List ℕ → Type 0) (d : ℕ) (y : Inside) (l : List ℕ) : Type 0 where
  pub outer : List ℕ
  pub inner : List ℕ
  pub stands : W (suc d) outer
  -- what may follow y may follow the bracket and these bytes, with the checks and without
  pub so : (c : Bool) (b : List ℕ) (z : Inside) → Rest c (room c d) y b z → Rest c (room c d) (bare_like y) (inner ++ b) z
  pub split : l ≡ outer ++ (opener y ∷ inner)
  pub left : Left d (among y) l

-- behind a key and its colon
pub record Paired (W : ℕ → List ℕ → Type 0) (d : ℕ) (y : Members) (u l : List ℕ) : Type 0 where
  pub front : List ℕ
  pub body : List ℕ
  pub lay : List ℕ
  pub more : List ℕ
  pub within : Within W d (members y) front
  pub is : Key true body u
  pub layout : Ws lay
  pub further : Ws more
  pub split : l ≡ front ++ (body ++ (lay ++ (ch ":" ∷ more)))

abbrev pub ValAt : List Frame → ℕ → List ℕ → Type 0
ValAt [] d l = (d ≡ depth_limit) × Ws l
ValAt (inside (elements y) ∷ k) d l = Within (ValAt k) d (elements y) l
ValAt (inside (members y) ∷ k) d l = ⊥
ValAt (pair y u ∷ k) d l = Paired (ValAt k) d y u l

abbrev pub KeyAt : List Frame → ℕ → List ℕ → Type 0
KeyAt [] d l = ⊥
KeyAt (inside (elements y) ∷ k) d l = ⊥
KeyAt (inside (members y) ∷ k) d l = Within (ValAt k) d (members y) l
KeyAt (pair y u ∷ k) d l = ⊥

abbrev pub StartAt : Use → List Frame → ℕ → List ℕ → Type 0
StartAt as_value k d l = ValAt k d l
StartAt as_key k d l = KeyAt k d l

pub val_left : (k : List Frame) (d : ℕ) (l : List ℕ) → ValAt k d l → Left d value l
val_left [] d l h = rw h.0 (Left.text h.1)
val_left (inside (elements y) ∷ k) d l h = Left.element h.left
val_left (inside (members y) ∷ k) d l h = absurd h
val_left (pair y u ∷ k) d l h = rw h.split (Left.colon h.within.left h.is h.layout h.further)

pub start_left : (z : Use) (k : List Frame) (d : ℕ) (l : List ℕ) → StartAt z k d l → (s : Spot) × Left d s l
start_left as_value k d l h = (value, val_left k d l h)
start_left as_key [] d l h = absurd h
start_left as_key (inside (elements y) ∷ k) d l h = absurd h
start_left as_key (inside (members y) ∷ k) d l h = (among (members y), h.left)
start_left as_key (pair y u ∷ k) d l h = absurd h

-- ---- what stands there

pub record Stands (S P : List ℕ → Type 0) (l : List ℕ) : Type 0 where
  pub front : List ℕ
  pub body : List ℕ
  pub lay : List ℕ
  pub starts : S front
  pub is : P body
  pub layout : Ws lay
  pub split : l ≡ front ++ (body ++ lay)

-- with no layout behind it yet
pub stands_now : {S P : List ℕ → Type 0} (f b : List ℕ) {l : List ℕ} → S f → P b → l ≡ f ++ b → Stands S P l
stands_now f b s p e = record { front = f; body = b; lay = []; starts = s; is = p; layout = Ws.none; split = rw append-nil e }

-- parts, and a plus
pub record Plus (S P : List ℕ → Type 0) (l : List ℕ) : Type 0 where
  pub front : List ℕ
  pub body : List ℕ
  pub lay : List ℕ
  pub more : List ℕ
  pub starts : S front
  pub is : P body
  pub layout : Ws lay
  pub further : Ws more
  pub split : l ≡ front ++ (body ++ (lay ++ (ch "+" ∷ more)))

abbrev pub GotAt : List Frame → ℕ → Got → List ℕ → Type 0
GotAt k d (Got.value m) l = Stands (ValAt k d) (λ a. Value true d a m) l
GotAt k d (Got.key u) l = Stands (KeyAt k d) (λ a. Key true a u) l
GotAt k d (Got.string z u) l = Stands (StartAt z k d) (λ a. String true a u) l
GotAt k d (Got.binary u) l = Stands (ValAt k d) (λ a. Binary a u) l

abbrev pub BaseAt : List Frame → ℕ → Base → List ℕ → Type 0
BaseAt k d want l = ValAt k d l
BaseAt k d want_key l = KeyAt k d l
BaseAt k d (want_string z u) l = Plus (StartAt z k d) (λ a. String true a u) l
BaseAt k d (want_binary u) l = Plus (ValAt k d) (λ a. Binary a u) l
BaseAt k d (got g) l = GotAt k d g l

-- ---- layout behind each

module _ {w : List ℕ} (x : Ws w) where
  within_more : {W : ℕ → List ℕ → Type 0} (d : ℕ) (y : Inside) (l : List ℕ) → Within W d y l → Within W d y (l ++ w)
  within_more d y l h =
      record {
        outer = h.outer;
        inner = h.inner ++ w;
        stands = h.stands;
        so = λ c b z r. subst (λ (a : List ℕ). Rest c (room c d) (bare_like y) a z) (sym (append_assoc h.inner w b)) (h.so c (w ++ b) z (rest_pre x r));
        split = ap (λ (a : List ℕ). a ++ w) h.split ∙ append_assoc h.outer (opener y ∷ h.inner) w;
        left = left_more h.left x;
      }

  val_more : (k : List Frame) (d : ℕ) (l : List ℕ) → ValAt k d l → ValAt k d (l ++ w)
  val_more [] d l h = (h.0, lay_join h.1 x)
  val_more (inside (elements y) ∷ k) d l h = within_more d (elements y) l h
  val_more (inside (members y) ∷ k) d l h = h
  val_more (pair y u ∷ k) d l h =
      record {
        front = h.front;
        body = h.body;
        lay = h.lay;
        more = h.more ++ w;
        within = h.within;
        is = h.is;
        layout = h.layout;
        further = lay_join h.further x;
        split = rw h.split (simp append_assoc);
      }

  key_more : (k : List Frame) (d : ℕ) (l : List ℕ) → KeyAt k d l → KeyAt k d (l ++ w)
  key_more [] d l h = h
  key_more (inside (elements y) ∷ k) d l h = h
  key_more (inside (members y) ∷ k) d l h = within_more d (members y) l h
  key_more (pair y u ∷ k) d l h = h

  stands_more : {S P : List ℕ → Type 0} (l : List ℕ) → Stands S P l → Stands S P (l ++ w)
  stands_more l h =
      record {
        front = h.front;
        body = h.body;
        lay = h.lay ++ w;
        starts = h.starts;
        is = h.is;
        layout = lay_join h.layout x;
        split = rw h.split (simp append_assoc);
      }

  plus_more : {S P : List ℕ → Type 0} (l : List ℕ) → Plus S P l → Plus S P (l ++ w)
  plus_more l h =
      record {
        front = h.front;
        body = h.body;
        lay = h.lay;
        more = h.more ++ w;
        starts = h.starts;
        is = h.is;
        layout = h.layout;
        further = lay_join h.further x;
        split = rw h.split (simp append_assoc);
      }

  pub base_more : (k : List Frame) (d : ℕ) (s : Base) (l : List ℕ) → BaseAt k d s l → BaseAt k d s (l ++ w)
  base_more k d want l h = val_more k d l h
  base_more k d want_key l h = key_more k d l h
  base_more k d (want_string z u) l h = plus_more l h
  base_more k d (want_binary u) l h = plus_more l h
  base_more k d (got (Got.value m)) l h = stands_more l h
  base_more k d (got (Got.key u)) l h = stands_more l h
  base_more k d (got (Got.string z u)) l h = stands_more l h
  base_more k d (got (Got.binary u)) l h = stands_more l h

-- ---- brackets, commas, colons and pluses

pub respelt : (o i y z m b w e : List ℕ) (c d : ℕ)
    → ((o ++ (c ∷ i)) ++ (y ++ (z ++ (d ∷ m))) ++ (b ++ w)) ++ e ≡ o ++ (c ∷ (i ++ ((y ++ (z ++ (d ∷ (m ++ b)))) ++ (w ++ e))))
respelt o i y z m b w e c d =
    let a = y ++ (z ++ (d ∷ m)) in
    append_assoc ((o ++ (c ∷ i)) ++ a) (b ++ w) e ∙ append_assoc (o ++ (c ∷ i)) a ((b ++ w) ++ e) ∙ append_assoc o (c ∷ i) (a ++ ((b ++ w) ++ e))
    ∙ ap (λ (x : List ℕ). o ++ (c ∷ (i ++ x)))
    (ap (λ (x : List ℕ). a ++ x) (append_assoc b w e) ∙ sym (append_assoc a b (w ++ e))
    ∙ ap (λ (x : List ℕ). x ++ (w ++ e)) (append_assoc y (z ++ (d ∷ m)) b ∙ ap (λ (x : List ℕ). y ++ x) (append_assoc z (d ∷ m) b)))

module _ {W : ℕ → List ℕ → Type 0} (d : ℕ) where
  pub open_array : (l : List ℕ) → W (suc d) l → Left (suc d) value l → Within W d (elements Meanings.none) (l ++ letters "[")
  open_array l h x = record { outer = l; inner = []; stands = h; so = λ c b z r. r; split = refl; left = Left.array x Ws.none }

  pub open_object : (l : List ℕ) → W (suc d) l → Left (suc d) value l → Within W d (members Members.bare) (l ++ letters "{")
  open_object l h x = record { outer = l; inner = []; stands = h; so = λ c b z r. r; split = refl; left = Left.object x Ws.none }

  -- one more element
  module _ (x : Meanings) (m : Meaning) (l : List ℕ) (h : Stands (Within W d (elements x)) (λ a. Value true d a m) l) where
    element_rest : (c : Bool) (b : List ℕ) (z : Inside) → After c (room c d) (elements (Meanings.more x m)) b z
        → Rest c (room c d) (elements Meanings.none) (h.starts.inner ++ (h.body ++ b)) z
    element_rest c b z r = h.starts.so c (h.body ++ b) z (Rest.item Ws.none (Item.element (value_too c h.is)) r)

    pub comma_element : Within W d (elements (Meanings.more x m)) (l ++ letters ",")
    comma_element =
        let w = h.starts in
        record {
          outer = w.outer;
          inner = w.inner ++ (h.body ++ (h.lay ++ letters ","));
          stands = w.stands;
          so = λ c b z r. subst (λ (a : List ℕ). Rest c (room c d) (elements Meanings.none) a z) (simp append_assoc)
              (element_rest c (h.lay ++ (ch "," ∷ b)) z (After.comma h.layout r));
          split = rw (h.split, w.split) (simp append_assoc);
          left = subst (Left d (among (elements (Meanings.more x m)))) (rw h.split (simp append_assoc))
              (Left.comma w.left (Item.element h.is) h.layout Ws.none);
        }

    pub close_element : Stands (W (suc d)) (λ a. Value true (suc d) a (Meaning.array (Meanings.more x m))) (l ++ letters "]")
    close_element =
        let w = h.starts in
        stands_now w.outer (ch "[" ∷ (w.inner ++ (h.body ++ (h.lay ++ letters "]")))) w.stands
        (Value.array Room.falls (element_rest true (h.lay ++ letters "]") (elements (Meanings.more x m)) (After.end h.layout Closes.bracket)))
        (rw (h.split, w.split) (simp append_assoc))

  -- one more member
  module _ (x : Members) (u : List ℕ) (m : Meaning) (l : List ℕ) (h : Stands (Paired W d x u) (λ a. Value true d a m) l) where
    abbrev whole_member : List ℕ
    whole_member = h.starts.body ++ (h.starts.lay ++ (ch ":" ∷ (h.starts.more ++ h.body)))

    member_item : (c : Bool) → Item c (room c d) (members x) whole_member (members (Members.member x u m))
    member_item c = let w = h.starts in Item.member (key_too c w.is) w.layout w.further (value_too c h.is)

    member_rest : (c : Bool) (b : List ℕ) (z : Inside) → After c (room c d) (members (Members.member x u m)) b z
        → Rest c (room c d) (members Members.bare) (h.starts.within.inner ++ (whole_member ++ b)) z
    member_rest c b z r = h.starts.within.so c (whole_member ++ b) z (Rest.item Ws.none (member_item c) r)

    pub comma_member : Within W d (members (Members.member x u m)) (l ++ letters ",")
    comma_member =
        let w = h.starts in
        let v = w.within in
        record {
          outer = v.outer;
          inner = v.inner ++ (whole_member ++ (h.lay ++ letters ","));
          stands = v.stands;
          so = λ c b z r. subst (λ (a : List ℕ). Rest c (room c d) (members Members.bare) a z) (simp append_assoc)
              (member_rest c (h.lay ++ (ch "," ∷ b)) z (After.comma h.layout r));
          split = rw (h.split, w.split, v.split) (respelt v.outer v.inner w.body w.lay w.more h.body h.lay (letters ",")
              (ch "{") (ch ":"));
          left = subst (Left d (among (members (Members.member x u m)))) (rw (h.split, w.split) (simp append_assoc))
              (Left.comma v.left (member_item true) h.layout Ws.none);
        }

    pub close_member : Stands (W (suc d)) (λ a. Value true (suc d) a (Meaning.object (Members.member x u m))) (l ++ letters "}")
    close_member =
        let w = h.starts in
        let v = w.within in
        stands_now v.outer (ch "{" ∷ (v.inner ++ (whole_member ++ (h.lay ++ letters "}")))) v.stands
        (Value.object Room.falls (member_rest true (h.lay ++ letters "}") (members (Members.member x u m)) (After.end h.layout Closes.brace)))
        (rw (h.split, w.split, v.split) (respelt v.outer v.inner w.body w.lay w.more h.body h.lay (letters "}") (ch "{") (ch ":")))

  pub close_array : (x : Meanings) (l : List ℕ) → Within W d (elements x) l
      → Stands (W (suc d)) (λ a. Value true (suc d) a (Meaning.array x)) (l ++ letters "]")
  close_array x l w =
      stands_now w.outer (ch "[" ∷ (w.inner ++ letters "]")) w.stands
      (Value.array Room.falls (w.so true (letters "]") (elements x) (Rest.close Ws.none Closes.bracket))) (rw w.split (simp append_assoc))

  pub close_object : (x : Members) (l : List ℕ) → Within W d (members x) l
      → Stands (W (suc d)) (λ a. Value true (suc d) a (Meaning.object x)) (l ++ letters "}")
  close_object x l w =
      stands_now w.outer (ch "{" ∷ (w.inner ++ letters "}")) w.stands
      (Value.object Room.falls (w.so true (letters "}") (members x) (Rest.close Ws.none Closes.brace))) (rw w.split (simp append_assoc))

  pub colon_key : (x : Members) (u l : List ℕ) → Stands (Within W d (members x)) (λ a. Key true a u) l → Paired W d x u (l ++ letters ":")
  colon_key x u l h =
      record {
        front = h.front;
        body = h.body;
        lay = h.lay;
        more = [];
        within = h.starts;
        is = h.is;
        layout = h.layout;
        further = Ws.none;
        split = rw h.split (simp append_assoc);
      }

pub plus_after_lem : {S P : List ℕ → Type 0} (l : List ℕ) → Stands S P l → Plus S P (l ++ letters "+")
plus_after_lem l h =
    record {
      front = h.front;
      body = h.body;
      lay = h.lay;
      more = [];
      starts = h.starts;
      is = h.is;
      layout = h.layout;
      further = Ws.none;
      split = rw h.split (simp append_assoc);
    }

respelt' : (a v w b e : List ℕ) (c : ℕ) → a ++ (v ++ (c ∷ (w ++ (b ++ e)))) ≡ (a ++ (v ++ (c ∷ (w ++ b)))) ++ e
respelt' a v w b e c = simp append_assoc

-- one more part
pub concat_join : {P : List ℕ → List ℕ → Type 0} {a u v w b t : List ℕ} → Concat P a u → Ws v → Ws w → P b t
    → Concat P (a ++ (v ++ (ch "+" ∷ (w ++ b)))) (u ++ t)
concat_join (Concat.part x) v w y = Concat.plus x v w (Concat.part y)
concat_join {P = P} {v = v} {w = w} {b = b} {t = t} (Concat.plus {a = a} {u = u} {v = v'} {w = w'} {b = b'} {t = t'} x i j y) p q z =
    subst (λ (c : List ℕ). Concat P c ((u ++ t') ++ t)) (respelt' a v' w' b' (v ++ (ch "+" ∷ (w ++ b))) (ch "+"))
    (subst (Concat P (a ++ (v' ++ (ch "+" ∷ (w' ++ (b' ++ (v ++ (ch "+" ∷ (w ++ b))))))))) (sym (append_assoc u t' t))
    (Concat.plus x i j (concat_join y p q z)))

-- what is got, as a value or as a key
abbrev pub AsValue : List Frame → ℕ → List ℕ → Option Meaning → Type 0
AsValue k d l none = Unit {0}
AsValue k d l (some m) = Stands (ValAt k d) (λ a. Value true d a m) l

abbrev pub AsKey : List Frame → ℕ → List ℕ → Option (List ℕ) → Type 0
AsKey k d l none = Unit {0}
AsKey k d l (some u) = Stands (KeyAt k d) (λ a. Key true a u) l

to : {S P Q : List ℕ → Type 0} (l : List ℕ) → ((a : List ℕ) → P a → Q a) → Stands S P l → Stands S Q l
to l f h = record { front = h.front; body = h.body; lay = h.lay; starts = h.starts; is = f h.body h.is; layout = h.layout; split = h.split }

pub as_value_at : (k : List Frame) (d : ℕ) (g : Got) (l : List ℕ) → GotAt k d g l → AsValue k d l (as_value_of g)
as_value_at k d (Got.value m) l h = h
as_value_at k d (Got.key u) l h = tt
as_value_at k d (Got.string as_value u) l h = to l (λ a x. Value.string x) h
as_value_at k d (Got.string as_key u) l h = tt
as_value_at k d (Got.binary u) l h = to l (λ a x. Value.binary x) h

pub as_key_at : (k : List Frame) (d : ℕ) (g : Got) (l : List ℕ) → GotAt k d g l → AsKey k d l (as_key_of g)
as_key_at k d (Got.value m) l h = tt
as_key_at k d (Got.key u) l h = h
as_key_at k d (Got.string as_value u) l h = tt
as_key_at k d (Got.string as_key u) l h = to l (λ a x. Key.string x) h
as_key_at k d (Got.binary u) l h = tt
