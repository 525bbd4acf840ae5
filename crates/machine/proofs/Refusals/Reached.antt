-- Each byte keeps what the bytes so far are; where the machine fails, it says why. Assumes nothing.
use Prim.Native.Nat.{ℕ, zero, suc, ◌<◌}
use mathlib.Core.Path.{◌≡◌, refl, sym, ap, ◌∙◌, subst}
use mathlib.Core.Bool.{Bool, true, false, cond}
use mathlib.Core.Logic.{◌⊎◌, inl, inr}
use mathlib.Core.Option.{Option, none, some}
use mathlib.Core.List.{List, [], ◌∷◌, ◌++◌, append_assoc, append-nil}
use native.Mathlib.Omega.{arith}
use lib.Dec.{eqb}
use lib.ListN.{length, length-append}
use borrow.Author.Tests.{eqb-true}
use Rattle.rules.specs.Rfc3629.{Octets}
use Rattle.rules.proofs.Characters.{after, split_ascii}
use Rattle.meaning.specs.Letters.{letters, ch}
use Rattle.meaning.specs.Meaning.{Meaning}
use Rattle.meaning.specs.declared.Refusal.{Refusal}
use Rattle.meaning.specs.declared.Refusal.TheVariants.{NotGrammar}
use Rattle.grammar.specs.Characters.{Many}
use Rattle.grammar.specs.Comments.{c_no_star, c_no_star_or_slash, Stars, Blank, LineEnd, CBeginLine, CLine, CBlock, Ws}
use Rattle.grammar.specs.Times.{TimeValue}
use Rattle.grammar.specs.Strings.{Concat}
use Rattle.grammar.specs.Keys.{Key}
use Rattle.grammar.specs.Values.{Inside, elements, members, Value}
use Rattle.grammar.proofs.Bytewise
use Rattle.grammar.specs.Refused.{Opening, ItemFault}
use Rattle.machine.specs.Scan.{Out, takes, stops, breaks}
use Rattle.machine.specs.Machine
use Rattle.machine.specs.Machine.{Use, as_value, as_key, Got, Base, want, want_key, want_string, want_binary, got, base, line, item, Frame, inside, pair}
use Rattle.machine.specs.Machine.{Conf, at, fail, step, class_of, Class, lift, scan, as_value_of, as_key_of, on_out}
use Rattle.machine.specs.Numeric
use Rattle.machine.specs.Strings
use Rattle.machine.specs.Binaries
use Rattle.machine.specs.Names
use Rattle.machine.proofs.Runs.{OutIs, adv, steps_back}
use Rattle.machine.proofs.Layouts.{NoteIs, note_is_lem}
use Rattle.machine.proofs.Classes.{ClassIs, class_is_lem, opening, closing}
use Rattle.machine.proofs.Numeric.{NumericRest, numeric_is, Taken, numeric_taken}
use Rattle.machine.proofs.Strings.Back.{PartRest, part_is, raw_part}
use Rattle.machine.proofs.Binaries.{BinaryRest, binary_is, binary_of}
use Rattle.machine.proofs.Names.{NameRest, name_is, name_of}
use Rattle.machine.proofs.Sound.{blank_of, end_low, begin_octets, stars_first, line_byte_lem, no_star_byte, no_slash_byte, line_end_of, numeric_value}
use Rattle.machine.proofs.Whole.{run}
use Rattle.machine.proofs.Refusals.Reason.{Faulty, Reason, three}
use Rattle.machine.proofs.Refusals.Bases
use Rattle.machine.proofs.Refusals.Confs.{Lined, Blocked, Starred, Slashed, Worded, PartStart, BinaryStart, ItemAt, ConfAt, begun_more, begun_now, Next}
use Rattle.machine.proofs.Refusals.Only.{Only, binary_only, name_only}
use Rattle.machine.proofs.Refusals.Parts.{raw_whole}
use Rattle.machine.proofs.Refusals.NumericFault.{numeric_breaks}
use Rattle.machine.proofs.Refusals.EscapeFault.{part_breaks}

-- ---- a byte in layout

many_join : {X : List ℕ → Type 0} {a b : List ℕ} → Many X a → Many X b → Many X (a ++ b)
many_join Many.none y = y
many_join (Many.more {c = c} {a = a} x m) y = rw append_assoc (Many.more x (many_join m y))

many_one : {X : List ℕ → Type 0} {a : List ℕ} → X a → Many X a
many_one {X = X} {a = a} x = subst (Many X) (append-nil a) (Many.more x Many.none)

stars_more : {z : List ℕ} → Stars z → Stars (z ++ letters "*")
stars_more Stars.one = Stars.more Stars.one
stars_more (Stars.more z) = Stars.more (stars_more z)

-- in a block
in_block : (f x z e : List ℕ) → (f ++ (letters "/*" ++ (x ++ z))) ++ e ≡ f ++ (letters "/*" ++ (x ++ (z ++ e)))
in_block f x z e = append_assoc f (letters "/*" ++ (x ++ z)) e ∙ ap (λ (a : List ℕ). f ++ (letters "/*" ++ a)) (append_assoc x z e)

module _ (k : List Frame) (d : ℕ) (s : Base) (l : List ℕ) where
  hash_at : Bases.BaseAt k d s l → Lined k d s (l ++ letters "#")
  hash_at h = record { front = l; begin = letters "#"; body = []; stands = h; begins = CBeginLine.hash; chars = Many.none; split = refl }

  slashes_at : Slashed k d s l → Lined k d s (l ++ letters "/")
  slashes_at h =
      record {
        front = h.0;
        begin = letters "//";
        body = [];
        stands = h.1;
        begins = CBeginLine.slashes;
        chars = Many.none;
        split = rw h.2 (append_assoc h.0 (letters "/") (letters "/"));
      }

  block_at : Slashed k d s l → Blocked k d s (l ++ letters "*")
  block_at h = record { front = h.0; body = []; stands = h.1; chars = Many.none; split = rw h.2 (append_assoc h.0 (letters "/") (letters "*")) }

  line_more : (b : ℕ) → (b < 0x20 → b ≡ ch "\t") → Lined k d s l → Lined k d s (l ++ (b ∷ []))
  line_more b y h =
      record {
        front = h.front;
        begin = h.begin;
        body = h.body ++ (b ∷ []);
        stands = h.stands;
        begins = h.begins;
        chars = many_join h.chars (many_one (line_byte_lem b y));
        split = rw h.split (simp append_assoc);
      }

  line_octets : {x : List ℕ} → CBeginLine x → (f c : List ℕ) (b : ℕ) (r : List ℕ) → b < 0x80 → Octets (f ++ (x ++ (c ++ (b ∷ r)))) → Octets c
  line_octets CBeginLine.hash f c b r e o =
      let u : Octets f = split_ascii o f (ch "#") (c ++ (b ∷ r)) (omega arith) refl in
      split_ascii (begin_octets CBeginLine.hash (c ++ (b ∷ r)) (after u (ch "#" ∷ (c ++ (b ∷ r))) o)) c b r e refl
  line_octets CBeginLine.slashes f c b r e o =
      let u : Octets f = split_ascii o f (ch "/") (ch "/" ∷ (c ++ (b ∷ r))) (omega arith) refl in
      split_ascii (begin_octets CBeginLine.slashes (c ++ (b ∷ r)) (after u (ch "/" ∷ ch "/" ∷ (c ++ (b ∷ r))) o)) c b r e refl

  pub line_done : (b : ℕ) (r : List ℕ) → LineEnd b → Octets (l ++ (b ∷ r)) → Lined k d s l → Bases.BaseAt k d s (l ++ (b ∷ []))
  line_done b r y o h =
      let c : Octets h.body = line_octets h.begins h.front h.body b r (end_low y) (subst Octets (rw h.split (simp append_assoc)) o) in
      let w : Ws ((h.begin ++ h.body) ++ (b ∷ [])) = Ws.line (CLine.c_line h.begins (Bytewise.line_chars h.chars c)) y Ws.none in
      subst (Bases.BaseAt k d s) (rw h.split (sym (append_assoc h.front (h.begin ++ h.body) (b ∷ [])))) (Bases.base_more w k d s h.front h.stands)

  inner_more : (b : ℕ) → Bytewise.Byte c_no_star (b ∷ []) → Blocked k d s l → Blocked k d s (l ++ (b ∷ []))
  inner_more b y h =
      record {
        front = h.front;
        body = h.body ++ (b ∷ []);
        stands = h.stands;
        chars = many_join h.chars (many_one (Bytewise.InnerByte.no_star y));
        split = rw h.split (append_assoc h.front (letters "/*" ++ h.body) (b ∷ []));
      }

  pub star_at : Blocked k d s l → Starred k d s (l ++ letters "*")
  star_at h =
      record {
        front = h.front;
        body = h.body;
        stars = letters "*";
        stands = h.stands;
        chars = h.chars;
        closing = Stars.one;
        split = rw h.split (append_assoc h.front (letters "/*" ++ h.body) (letters "*"));
      }

  star_more : Starred k d s l → Starred k d s (l ++ letters "*")
  star_more h =
      record {
        front = h.front;
        body = h.body;
        stars = h.stars ++ letters "*";
        stands = h.stands;
        chars = h.chars;
        closing = stars_more h.closing;
        split = rw h.split (in_block h.front h.body h.stars (letters "*"));
      }

  star_inner : (b : ℕ) → Bytewise.Byte c_no_star_or_slash (b ∷ []) → Starred k d s l → Blocked k d s (l ++ (b ∷ []))
  star_inner b y h =
      record {
        front = h.front;
        body = h.body ++ (h.stars ++ (b ∷ []));
        stands = h.stands;
        chars = many_join h.chars (many_one (Bytewise.InnerByte.stars h.closing y));
        split = rw h.split (in_block h.front h.body h.stars (b ∷ []));
      }

  block_octets : (f c z r : List ℕ) → Stars z → Octets (f ++ (letters "/*" ++ (c ++ (z ++ (ch "/" ∷ r))))) → Octets c
  block_octets f c z r y o =
      let e = stars_first y in
      let u : Octets f = split_ascii o f (ch "/") (ch "*" ∷ (c ++ (z ++ (ch "/" ∷ r)))) (omega arith) refl in
      let v = Bytewise.behind (ch "*") (c ++ (z ++ (ch "/" ∷ r))) (omega arith)
      (Bytewise.behind (ch "/") (ch "*" ∷ (c ++ (z ++ (ch "/" ∷ r)))) (omega arith) (after u (letters "/*" ++ (c ++ (z ++ (ch "/" ∷ r)))) o)) in
      split_ascii v c (ch "*") (e.0 ++ (ch "/" ∷ r)) (omega arith) (ap (λ (a : List ℕ). c ++ (a ++ (ch "/" ∷ r))) e.1)

  pub block_done : (r : List ℕ) → Octets (l ++ (ch "/" ∷ r)) → Starred k d s l → Bases.BaseAt k d s (l ++ letters "/")
  block_done r o h =
      let x = h.body in
      let z = h.stars in
      let e : l ++ (ch "/" ∷ r) ≡ h.front ++ (letters "/*" ++ (x ++ (z ++ (ch "/" ∷ r)))) = rw h.split (in_block h.front x z (ch "/" ∷ r)) in
      let c : Octets x = block_octets h.front x z r h.closing (subst Octets e o) in
      let w : Ws ((letters "/*" ++ (x ++ (z ++ letters "/"))) ++ []) = Ws.block (CBlock.c_block (Bytewise.block_inner h.chars c) h.closing) Ws.none in
      subst (Bases.BaseAt k d s) (rw (h.split, append-nil) (sym (in_block h.front x z (letters "/")))) (Bases.base_more w k d s h.front h.stands)

-- ---- what an item has got

numeric_stands : (k : List Frame) (d : ℕ) (f l : List ℕ) → Bases.ValAt k d f → {b : List ℕ} {m : Meaning} → Taken true b m → l ≡ f ++ b
    → Bases.GotAt k d (Got.value m) l
numeric_stands k d f l h (Taken.item {a = b} y) e = Bases.stands_now f b h (numeric_value y d) e
numeric_stands k d f l h (Taken.trailed {a = a} y) e =
    record {
      front = f;
      body = a;
      lay = letters " ";
      starts = h;
      is = Value.time_value (TimeValue.local_date y);
      layout = Ws.blank Blank.space Ws.none;
      split = e;
    }

numeric_got : (k : List Frame) (d p : ℕ) (s : Numeric.St) (l : List ℕ) → ItemAt p k d (Machine.numeric s) l → (m : Meaning) → NumericRest true s [] m
    → Bases.GotAt k d (Got.value m) l
numeric_got k d p s l h m r =
    numeric_stands k d h.front l h.starts (numeric_taken (steps_back Numeric.scan (NumericRest true) (numeric_is true) h.steps r)) h.split

-- one part more, of either kind
module _ {P : List ℕ → List ℕ → Type 0} {S : List ℕ → Type 0} (u v : List ℕ) (f b l : List ℕ) (y : P b v) (e : l ≡ f ++ b) where
  joined : (S f × (u ≡ [])) ⊎ Bases.Plus S (λ a. Concat P a u) f → Bases.Stands S (λ a. Concat P a (u ++ v)) l
  joined (inl h) = Bases.stands_now f b h.0 (rw h.1 (Concat.part y)) e
  joined (inr h) =
      Bases.stands_now h.front (h.body ++ (h.lay ++ (ch "+" ∷ (h.more ++ b)))) h.starts (Bases.concat_join h.is h.layout h.further y)
      (rw (e, h.split) (respelt h.front h.body h.lay h.more b (ch "+")))
    where
      respelt : (f a v w b : List ℕ) (c : ℕ) → (f ++ (a ++ (v ++ (c ∷ w)))) ++ b ≡ f ++ (a ++ (v ++ (c ∷ (w ++ b))))
      respelt f a v w b c = simp append_assoc

part_got : (z : Use) (u : List ℕ) (k : List Frame) (d p : ℕ) (s : Strings.St) (l r : List ℕ) → Octets (l ++ r) → ItemAt p k d (Machine.string_part z u s) l
    → (v : List ℕ) → PartRest s [] v → Bases.GotAt k d (Got.string z (u ++ v)) l
part_got z u k d p s l r o h v x =
    let y = raw_whole h.front h.body r (raw_part (steps_back Strings.scan PartRest part_is h.steps x))
    (subst Octets (rw h.split (append_assoc h.front h.body r)) o) in
    joined u v h.front h.body l y h.split h.starts

binary_got : (u : List ℕ) (k : List Frame) (d p : ℕ) (s : Binaries.St) (l : List ℕ) → ItemAt p k d (Machine.binary_part u s) l → (v : List ℕ)
    → BinaryRest s [] v → Bases.GotAt k d (Got.binary (u ++ v)) l
binary_got u k d p s l h v x = joined u v h.front h.body l (binary_of (steps_back Binaries.scan BinaryRest binary_is h.steps x)) h.split h.starts

name_got : (k : List Frame) (d p : ℕ) (s : Names.St) (l : List ℕ) → ItemAt p k d (Machine.identifier s) l → (v : List ℕ) → NameRest s [] v
    → Bases.GotAt k d (Got.key v) l
name_got k d p s l h v x =
    let y = name_of (steps_back Names.scan NameRest name_is h.steps x) in
    Bases.stands_now h.front h.body h.starts (subst (λ (w : List ℕ). Key true h.body w) y.1 (Key.identifier y.0)) h.split

module _ (t : List ℕ) where
  -- ---- a byte behind what is got

  closing_is : (p d : ℕ) (k : List Frame) (c : Machine.Bracket) (y : Inside) (l : List ℕ) → Bases.Within (Bases.ValAt k) d y l
      → ConfAt t (suc p) (Machine.closed p d k c y) (l ++ (closing c ∷ []))
  closing_is p d k Machine.square (elements x) l h = Bases.close_array d x l h
  closing_is p d k Machine.square (members x) l h = three p
  closing_is p d k Machine.curly (elements x) l h = three p
  closing_is p d k Machine.curly (members x) l h = Bases.close_object d x l h

  comma_at : (p d : ℕ) (k : List Frame) (m : Meaning) (l : List ℕ) → Bases.Stands (Bases.ValAt k d) (λ a. Value true d a m) l
      → ConfAt t (suc p) (Machine.comma_after p d k m) (l ++ letters ",")
  comma_at p d [] m l h = three p
  comma_at p d (inside (elements x) ∷ k) m l h = Bases.comma_element d x m l h
  comma_at p d (inside (members x) ∷ k) m l h = three p
  comma_at p d (pair x u ∷ k) m l h = Bases.comma_member d x u m l h

  close_at : (p d : ℕ) (k : List Frame) (c : Machine.Bracket) (m : Meaning) (l : List ℕ) → Bases.Stands (Bases.ValAt k d) (λ a. Value true d a m) l
      → ConfAt t (suc p) (Machine.close_after p d c k m) (l ++ (closing c ∷ []))
  close_at p d [] c m l h = three p
  close_at p d (inside (elements x) ∷ k) Machine.square m l h = Bases.close_element d x m l h
  close_at p d (inside (elements x) ∷ k) Machine.curly m l h = three p
  close_at p d (inside (members x) ∷ k) c m l h = three p
  close_at p d (pair x u ∷ k) Machine.square m l h = three p
  close_at p d (pair x u ∷ k) Machine.curly m l h = Bases.close_member d x u m l h

  colon_at : (p d : ℕ) (k : List Frame) (u l : List ℕ) → Bases.Stands (Bases.KeyAt k d) (λ a. Key true a u) l
      → ConfAt t (suc p) (Machine.colon_after p d k u) (l ++ letters ":")
  colon_at p d [] u l h = three p
  colon_at p d (inside (elements x) ∷ k) u l h = three p
  colon_at p d (inside (members x) ∷ k) u l h = Bases.colon_key d x u l h
  colon_at p d (pair x w ∷ k) u l h = three p

  plus_at : (p d : ℕ) (k : List Frame) (g : Got) (l : List ℕ) → Bases.GotAt k d g l → ConfAt t (suc p) (Machine.plus_after p d k g) (l ++ letters "+")
  plus_at p d k (Got.value m) l h = three p
  plus_at p d k (Got.key u) l h = three p
  plus_at p d k (Got.string z u) l h = Bases.plus_after_lem l h
  plus_at p d k (Got.binary u) l h = Bases.plus_after_lem l h

  need_value_lem : (p d : ℕ) (k : List Frame) (l l' : List ℕ) (f : Meaning → Conf)
      → ((m : Meaning) → Bases.Stands (Bases.ValAt k d) (λ a. Value true d a m) l → ConfAt t (suc p) (f m) l') → (o : Option Meaning) → Bases.AsValue k d l o
      → ConfAt t (suc p) (Machine.need_value p f o) l'
  need_value_lem p d k l l' f n none h = three p
  need_value_lem p d k l l' f n (some m) h = n m h

  need_key_lem : (p d : ℕ) (k : List Frame) (l l' : List ℕ) (f : List ℕ → Conf)
      → ((u : List ℕ) → Bases.Stands (Bases.KeyAt k d) (λ a. Key true a u) l → ConfAt t (suc p) (f u) l') → (o : Option (List ℕ)) → Bases.AsKey k d l o
      → ConfAt t (suc p) (Machine.need_key p f o) l'
  need_key_lem p d k l l' f n none h = three p
  need_key_lem p d k l l' f n (some u) h = n u h

  got_at : (p d : ℕ) (k : List Frame) (g : Got) (b : ℕ) (l : List ℕ) (c : Class) → ClassIs b c → Bases.GotAt k d g l
      → ConfAt t (suc p) (Machine.on_got p d k g c) (l ++ (b ∷ []))
  got_at p d k g b l Machine.blank_c y h = Bases.base_more (Ws.blank (blank_of b y) Ws.none) k d (got g) l h
  got_at p d k g b l Machine.hash_c y h = rw y (hash_at k d (got g) l h)
  got_at p d k g b l Machine.slash_c y h = rw y (l, h, refl)
  got_at p d k g b l Machine.comma_c y h =
      rw y (need_value_lem p d k l (l ++ letters ",") (Machine.comma_after p d k) (λ m. comma_at p d k m l) (as_value_of g) (Bases.as_value_at k d g l h))
  got_at p d k g b l (Machine.close_c c) y h =
      rw y (need_value_lem p d k l (l ++ (closing c ∷ [])) (Machine.close_after p d c k) (λ m. close_at p d k c m l) (as_value_of g)
      (Bases.as_value_at k d g l h))
  got_at p d k g b l Machine.colon_c y h =
      rw y (need_key_lem p d k l (l ++ letters ":") (Machine.colon_after p d k) (λ u. colon_at p d k u l) (as_key_of g) (Bases.as_key_at k d g l h))
  got_at p d k g b l Machine.plus_c y h = rw y (plus_at p d k g l h)
  got_at p d k g b l (Machine.open_c c) y h = three p
  got_at p d k g b l Machine.quote_c y h = three p
  got_at p d k g b l Machine.dollar_c y h = three p
  got_at p d k g b l Machine.letter_n y h = three p
  got_at p d k g b l Machine.letter_t y h = three p
  got_at p d k g b l Machine.letter_f y h = three p
  got_at p d k g b l Machine.letter_c y h = three p
  got_at p d k g b l Machine.other_c y h = three p

  -- ---- a byte in an item

  -- the outcome
  module _ {X M : Type 0} (f : X → Machine.Item) (g : M → Got) (p d : ℕ) (k : List Frame) (b : ℕ) (l : List ℕ) where
    out_at : (o : Out X M) → ((s : X) → o ≡ takes s → ItemAt (suc p) k d (f s) (l ++ (b ∷ []))) → ((v : M) → o ≡ stops v → Bases.GotAt k d (g v) l)
        → ((r : Refusal) → o ≡ breaks r → Reason t r) → ConfAt t (suc p) (on_out p d k b (lift f g o)) (l ++ (b ∷ []))
    out_at (takes s) x y z = x s refl
    out_at (stops v) x y z = got_at p d k (g v) b l (class_of b) (class_is_lem b) (y v refl)
    out_at (breaks r) x y z = z r refl

  word_at : (p d : ℕ) (k : List Frame) (w : List ℕ) (m : Meaning) (b : ℕ) (l : List ℕ) → Worded k d w m l
      → ConfAt t (suc p) (on_out p d k b (scan p (Machine.word w m) b)) (l ++ (b ∷ []))
  unfolding Names.word_scan
  word_at p d k [] m b l h =
      got_at p d k (Got.value m) b l (class_of b) (class_is_lem b)
      (Bases.stands_now h.front h.body h.starts (subst (λ (a : List ℕ). Value true d a m) (append-nil h.body) h.is) h.split)
  word_at p d k (c ∷ w) m b l h = go (eqb b c) refl
    where
      Then : Out (List ℕ) (Unit {0}) → Type 0
      Then o = ConfAt t (suc p) (on_out p d k b (lift (λ x. Machine.word x m) (λ x. Got.value m) o)) (l ++ (b ∷ []))

      go : (z : Bool) → eqb b c ≡ z → Then (cond z (takes w) (breaks (NotGrammar p)))
      go true e =
          let i = eqb-true b c e in
          record {
            front = h.front;
            body = h.body ++ (b ∷ []);
            starts = h.starts;
            is = subst (λ (a : List ℕ). Value true d a m) (rw i (sym (append_assoc h.body (c ∷ []) w))) h.is;
            split = rw h.split (append_assoc h.front h.body (b ∷ []));
          }
      go false e = three p

  item_at : (p d : ℕ) (k : List Frame) (i : Machine.Item) (b : ℕ) (l r : List ℕ) → t ≡ l ++ (b ∷ r) → Octets t → ItemAt p k d i l
      → ConfAt t (suc p) (on_out p d k b (scan p i b)) (l ++ (b ∷ []))
  item_at p d k (Machine.word w m) b l r e o h = word_at p d k w m b l h
  item_at p d k (Machine.numeric s) b l r e o h =
      out_at Machine.numeric Got.value p d k b l (Numeric.scan p s b) (λ s' f. begun_more Numeric.scan h f)
      (λ v f. numeric_got k d p s l h v (subst (OutIs (NumericRest true) s b) f (numeric_is true p s b)))
      (λ x f. subst (λ (a : List ℕ). Reason a x) (sym e) (numeric_breaks p d k s l (b ∷ r) b x (Next.byte r) h f))
  item_at p d k (Machine.string_part z u s) b l r e o h =
      out_at (Machine.string_part z u) (λ v. Got.string z (u ++ v)) p d k b l (Strings.scan p s b) (λ s' f. begun_more Strings.scan h f)
      (λ v f. part_got z u k d p s l (b ∷ r) (subst Octets e o) h v (subst (OutIs PartRest s b) f (part_is p s b)))
      (λ x f. subst (λ (a : List ℕ). Reason a x) (sym e) (part_breaks p d k z u s l (b ∷ r) b x (subst Octets e o) h f))
  item_at p d k (Machine.binary_part u s) b l r e o h =
      out_at (Machine.binary_part u) (λ v. Got.binary (u ++ v)) p d k b l (Binaries.scan p s b) (λ s' f. begun_more Binaries.scan h f)
      (λ v f. binary_got u k d p s l h v (subst (OutIs BinaryRest s b) f (binary_is p s b))) (λ x f. inl (subst Only f (binary_only p b s)))
  item_at p d k (Machine.identifier s) b l r e o h =
      out_at Machine.identifier Got.key p d k b l (Names.scan p s b) (λ s' f. begun_more Names.scan h f)
      (λ v f. name_got k d p s l h v (subst (OutIs NameRest s b) f (name_is p s b))) (λ x f. inl (subst Only f (name_only p b s)))

  -- ---- a byte where a value, a key or a part is wanted

  opening_of_lem : (b : ℕ) (c : Machine.Bracket) → b ≡ opening c → Opening b
  opening_of_lem b Machine.square e = rw e Opening.bracket
  opening_of_lem b Machine.curly e = rw e Opening.brace

  -- a bracket where none may open any more is the fault
  open_at : (p d : ℕ) (k : List Frame) (c : Machine.Bracket) (b : ℕ) (l r : List ℕ) → t ≡ l ++ (b ∷ r) → b ≡ opening c → Bases.ValAt k d l
      → ConfAt t (suc p) (Machine.opened p d k (Machine.bare_of c)) (l ++ (b ∷ []))
  open_at p zero k c b l r e i h = inr (subst Faulty (sym e) (_, ItemFault.depth r (Bases.val_left k zero l h) (opening_of_lem b c i)))
  open_at p (suc d) k Machine.square b l r e i h = rw i (Bases.open_array d l h (Bases.val_left k (suc d) l h))
  open_at p (suc d) k Machine.curly b l r e i h = rw i (Bases.open_object d l h (Bases.val_left k (suc d) l h))

  close_want : (p d : ℕ) (k : List Frame) (c : Machine.Bracket) (l : List ℕ) → Bases.ValAt k d l
      → ConfAt t (suc p) (Machine.close_wanted p d c k) (l ++ (closing c ∷ []))
  close_want p d [] c l h = three p
  close_want p d (inside (elements y) ∷ k) c l h = closing_is p d k c (elements y) l h
  close_want p d (inside (members y) ∷ k) c l h = absurd h
  close_want p d (pair y u ∷ k) c l h = three p

  close_key : (p d : ℕ) (k : List Frame) (c : Machine.Bracket) (l : List ℕ) → Bases.KeyAt k d l
      → ConfAt t (suc p) (Machine.close_wanted p d c k) (l ++ (closing c ∷ []))
  close_key p d [] c l h = three p
  close_key p d (inside (elements y) ∷ k) c l h = absurd h
  close_key p d (inside (members y) ∷ k) c l h = closing_is p d k c (members y) l h
  close_key p d (pair y u ∷ k) c l h = three p

  module _ (p d : ℕ) (k : List Frame) (b : ℕ) (l r : List ℕ) (e : t ≡ l ++ (b ∷ r)) (q : length l ≡ p) (o : Octets t) where
    abbrev Now : Conf → Type 0
    Now c = ConfAt t (suc p) c (l ++ (b ∷ []))

    blank_at : (s : Base) → ClassIs b Machine.blank_c → Bases.BaseAt k d s l → Bases.BaseAt k d s (l ++ (b ∷ []))
    blank_at s y h = Bases.base_more (Ws.blank (blank_of b y) Ws.none) k d s l h

    word_start : (w : List ℕ) (m : Meaning) → Value true d w m → Bases.ValAt k d l → Now (Machine.start p d k b (Machine.word w m))
    word_start w m v h = item_at p d k (Machine.word w m) b l r e o (record { front = l; body = []; starts = h; is = v; split = sym (append-nil l) })

    numeric_start : Bases.ValAt k d l → Now (Machine.start p d k b (Machine.numeric Numeric.begin))
    numeric_start h = item_at p d k (Machine.numeric Numeric.begin) b l r e o (begun_now Numeric.scan Numeric.begin l h q)

    part_start : (z : Use) (u : List ℕ) → PartStart z u k d l → Now (Machine.start p d k b (Machine.string_part z u Strings.begin))
    part_start z u h = item_at p d k (Machine.string_part z u Strings.begin) b l r e o (begun_now Strings.scan Strings.begin l h q)

    binary_start : (u : List ℕ) → BinaryStart u k d l → Now (Machine.start p d k b (Machine.binary_part u Binaries.begin))
    binary_start u h = item_at p d k (Machine.binary_part u Binaries.begin) b l r e o (begun_now Binaries.scan Binaries.begin l h q)

    name_start : Bases.KeyAt k d l → Now (Machine.start p d k b (Machine.identifier Names.begin))
    name_start h = item_at p d k (Machine.identifier Names.begin) b l r e o (begun_now Names.scan Names.begin l h q)

    want_at : (c : Class) → ClassIs b c → Bases.ValAt k d l → Now (Machine.on_want p d k b c)
    want_at Machine.blank_c y h = blank_at want y h
    want_at Machine.hash_c y h = rw y (hash_at k d want l h)
    want_at Machine.slash_c y h = rw y (l, h, refl)
    want_at (Machine.open_c c) y h = open_at p d k c b l r e y h
    want_at (Machine.close_c c) y h = rw y (close_want p d k c l h)
    want_at Machine.quote_c y h = part_start as_value [] (inl (h, refl))
    want_at Machine.dollar_c y h = binary_start [] (inl (h, refl))
    want_at Machine.letter_n y h = word_start (letters "null") Meaning.null Value.null_word h
    want_at Machine.letter_t y h = word_start (letters "true") (Meaning.bool true) Value.true_word h
    want_at Machine.letter_f y h = word_start (letters "false") (Meaning.bool false) Value.false_word h
    want_at Machine.plus_c y h = numeric_start h
    want_at Machine.letter_c y h = numeric_start h
    want_at Machine.other_c y h = numeric_start h
    want_at Machine.comma_c y h = three p
    want_at Machine.colon_c y h = three p

    key_at_lem : (c : Class) → ClassIs b c → Bases.KeyAt k d l → Now (Machine.on_key p d k b c)
    key_at_lem Machine.blank_c y h = blank_at want_key y h
    key_at_lem Machine.hash_c y h = rw y (hash_at k d want_key l h)
    key_at_lem Machine.slash_c y h = rw y (l, h, refl)
    key_at_lem (Machine.close_c c) y h = rw y (close_key p d k c l h)
    key_at_lem Machine.quote_c y h = part_start as_key [] (inl (h, refl))
    key_at_lem Machine.dollar_c y h = name_start h
    key_at_lem Machine.letter_n y h = name_start h
    key_at_lem Machine.letter_t y h = name_start h
    key_at_lem Machine.letter_f y h = name_start h
    key_at_lem Machine.letter_c y h = name_start h
    key_at_lem (Machine.open_c c) y h = three p
    key_at_lem Machine.plus_c y h = three p
    key_at_lem Machine.comma_c y h = three p
    key_at_lem Machine.colon_c y h = three p
    key_at_lem Machine.other_c y h = three p

    part_at : (s : Base) (quoted dollared : Conf) → Bases.BaseAt k d s l → Now quoted → Now dollared → (c : Class) → ClassIs b c
        → Now (Machine.on_part p d k b s quoted dollared c)
    part_at s x z h f g Machine.blank_c y = blank_at s y h
    part_at s x z h f g Machine.hash_c y = rw y (hash_at k d s l h)
    part_at s x z h f g Machine.slash_c y = rw y (l, h, refl)
    part_at s x z h f g Machine.quote_c y = f
    part_at s x z h f g Machine.dollar_c y = g
    part_at s x z h f g (Machine.open_c c) y = three p
    part_at s x z h f g (Machine.close_c c) y = three p
    part_at s x z h f g Machine.letter_n y = three p
    part_at s x z h f g Machine.letter_t y = three p
    part_at s x z h f g Machine.letter_f y = three p
    part_at s x z h f g Machine.letter_c y = three p
    part_at s x z h f g Machine.plus_c y = three p
    part_at s x z h f g Machine.comma_c y = three p
    part_at s x z h f g Machine.colon_c y = three p
    part_at s x z h f g Machine.other_c y = three p

    base_at : (s : Base) → Bases.BaseAt k d s l → Now (Machine.on_base p d k b s)
    base_at want h = want_at (class_of b) (class_is_lem b) h
    base_at want_key h = key_at_lem (class_of b) (class_is_lem b) h
    base_at (want_string z u) h = part_at (want_string z u) _ _ h (part_start z u (inr h)) (three p) (class_of b) (class_is_lem b)
    base_at (want_binary u) h = part_at (want_binary u) _ _ h (three p) (binary_start u (inr h)) (class_of b) (class_is_lem b)
    base_at (got g) h = got_at p d k g b l (class_of b) (class_is_lem b) h

    slash_at : (s : Base) (n : Machine.Note) → NoteIs b n → Slashed k d s l → Now (Machine.on_slash p d k s n)
    slash_at s Machine.slash_n y h = rw y (slashes_at k d s l h)
    slash_at s Machine.star_n y h = rw y (block_at k d s l h)
    slash_at s Machine.line_end y h = three p
    slash_at s Machine.plain_n y h = three p
    slash_at s Machine.control_n y h = three p

    line_at : (s : Base) (n : Machine.Note) → NoteIs b n → Lined k d s l → Now (Machine.on_line p d k s n)
    line_at s Machine.line_end y h = line_done k d s l b r (line_end_of b y) (subst Octets e o) h
    line_at s Machine.control_n y h = three p
    line_at s Machine.slash_n y h = line_more k d s l b (λ e. omega arith) h
    line_at s Machine.star_n y h = line_more k d s l b (λ e. omega arith) h
    line_at s Machine.plain_n y h = line_more k d s l b y.0 h

    block_in : (s : Base) (n : Machine.Note) → NoteIs b n → Blocked k d s l → Now (Machine.on_block p d k s n)
    block_in s Machine.star_n y h = rw y (star_at k d s l h)
    block_in s Machine.control_n y h = three p
    block_in s Machine.slash_n y h = inner_more k d s l b (no_star_byte b (λ e f g. omega arith) (λ e. omega arith)) h
    block_in s Machine.line_end y h = inner_more k d s l b (no_star_byte b (λ e f g. y.2 g) (λ e. omega arith)) h
    block_in s Machine.plain_n y h = inner_more k d s l b (no_star_byte b (λ e f g. absurd (f (y.0 e))) y.1) h

    star_in : (s : Base) (n : Machine.Note) → NoteIs b n → Starred k d s l → Now (Machine.on_star p d k s n)
    star_in s Machine.slash_n y h = rw y (block_done k d s l r (subst (λ (c : ℕ). Octets (l ++ (c ∷ r))) y (subst Octets e o)) h)
    star_in s Machine.star_n y h = rw y (star_more k d s l h)
    star_in s Machine.control_n y h = three p
    star_in s Machine.line_end y h = star_inner k d s l b (no_slash_byte b (λ e f g. y.2 g) (λ e. omega arith) (λ e. omega arith)) h
    star_in s Machine.plain_n y h = star_inner k d s l b (no_slash_byte b (λ e f g. absurd (f (y.0 e))) y.1 y.2) h

  steps_at : (p : ℕ) (c : Conf) (b : ℕ) (l r : List ℕ) → t ≡ l ++ (b ∷ r) → length l ≡ p → Octets t → ConfAt t p c l
      → ConfAt t (suc p) (step p c b) (l ++ (b ∷ []))
  steps_at p (fail x) b l r e q o h = h
  steps_at p (at (base s) d k) b l r e q o h = base_at p d k b l r e q o s h
  steps_at p (at (Machine.slash s) d k) b l r e q o h = slash_at p d k b l r e q o s (Machine.note_of b) (note_is_lem b) h
  steps_at p (at (line s) d k) b l r e q o h = line_at p d k b l r e q o s (Machine.note_of b) (note_is_lem b) h
  steps_at p (at (Machine.block s) d k) b l r e q o h = block_in p d k b l r e q o s (Machine.note_of b) (note_is_lem b) h
  steps_at p (at (Machine.star s) d k) b l r e q o h = star_in p d k b l r e q o s (Machine.note_of b) (note_is_lem b) h
  steps_at p (at (item i) d k) b l r e q o h = item_at p d k i b l r e o h

  -- what the bytes a are, where the machine stands after them
  pub reached : (a : List ℕ) (p : ℕ) (c : Conf) (l r : List ℕ) → t ≡ l ++ (a ++ r) → length l ≡ p → Octets t → ConfAt t p c l
      → ConfAt t (adv p a) (run p c a) (l ++ a)
  unfolding run
  reached [] p c l r e q o h = rw append-nil h
  reached (b ∷ a) p c l r e q o h =
      subst (ConfAt t (adv (suc p) a) (run (suc p) (step p c b) a)) (append_assoc l (b ∷ []) a)
      (reached a (suc p) (step p c b) (l ++ (b ∷ [])) r (e ∙ sym (append_assoc l (b ∷ []) (a ++ r))) (length-append l (b ∷ []) ∙ omega arith) o
      (steps_at p c b l (a ++ r) e q o h))
