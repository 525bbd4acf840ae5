-- What the grammar derives, the machine reads, with that meaning; and what is heard meanwhile are its objects and keys. Assumes nothing.
use Prim.Native.Nat.{ℕ, suc, ◌≤◌, ◌<◌}
use mathlib.Core.Path.{◌≡◌, refl, sym, ap, ◌∙◌, subst}
use mathlib.Core.Bool.{Bool, true, false}
use mathlib.Core.Logic.{inl, inr}
use mathlib.Core.Option.{some}
use mathlib.Core.List.{List, [], ◌∷◌, ◌++◌, append_assoc, append-nil}
use native.Mathlib.Omega.{arith}
use Rattle.rules.specs.Rfc3629.{In}
use Rattle.meaning.specs.Letters.{letters, ch}
use Rattle.meaning.specs.Limits.{depth_limit}
use Rattle.meaning.specs.Meaning.{Meaning, Meanings, Members}
use Rattle.meaning.specs.Between.Events.{Event, named}
use Rattle.grammar.specs.Checks.{Room}
use Rattle.grammar.specs.Comments.{Blank, CBeginLine, CLine, CBlock, Ws, Last}
use Rattle.grammar.specs.Characters.{Of}
use Rattle.grammar.specs.Strings.{Quote, double, single, mark, StringPart, Concat, String}
use Rattle.grammar.specs.Strings.{Quoted as Quoted-text}
use Rattle.grammar.specs.Binary.{BValue, Binary}
use Rattle.grammar.specs.Keys.{i_begin, Identifier, Key}
use Rattle.grammar.specs.Values.{Inside, elements, members, Closes, Value, Rest, After, Item, Loose}
use Rattle.machine.specs.Scan.{Out, takes, stops, over}
use Rattle.machine.specs.Machine
use Rattle.machine.specs.Machine.{Use, as_value, as_key, Got, Base, want, want_key, want_string, want_binary, got, Mode, base, line, item, Frame, inside}
use Rattle.machine.specs.Machine.{pair, Conf, at, fail, step, read, reading, Verdict, Ok, No, class_of, Class, lift, scan, as_value_of, as_key_of, wanted}
use Rattle.machine.specs.Machine.{shut, bare_of, on_out}
use Rattle.machine.specs.Heard.{Heard, starts, names, at_open, at_got, at_want, at_key, at_base, at_out, Told, after, tell, telling, heard_of}
use Rattle.machine.specs.Numeric
use Rattle.machine.specs.Strings
use Rattle.machine.specs.Binaries
use Rattle.machine.specs.Names
use Rattle.machine.proofs.Runs.{EndsItem, PartEnds, NoDigit, Halt, Goes, adv}
use Rattle.machine.proofs.Classes.{ClassIs, class_is_lem}
use Rattle.machine.proofs.Heard.{after_events, verdict_is, read_alike, told_step, told_saying}
use Rattle.machine.proofs.Layouts.{adv_join, line_told, layout_told}
use Rattle.machine.proofs.Derived.{closing, value_keys, rest_keys, after_keys, item_keys, text_keys}
use Rattle.machine.proofs.Numeric.{NumericItem, numeric_goes, numeric_begins}
use Rattle.machine.proofs.Numeric as N
use Rattle.machine.proofs.Strings.Forward.{part_goes}
use Rattle.machine.proofs.Binaries.{binary_goes, binary_begins}
use Rattle.machine.proofs.Names.{name_goes, name_begins, word_goes}

-- ---- what follows an item

abbrev pub NoDigitFirst : List ℕ → Type 0
NoDigitFirst [] = Unit {0}
NoDigitFirst (c ∷ r) = NoDigit c

-- the first byte of the rest, or the text's end, has F; after a space stands no digit
pub data Follows (F : ℕ → Type 0) : List ℕ → Type 0 where
  nothing : F over → Follows F []
  byte : {b : ℕ} {r : List ℕ} → F b → (b ≡ ch " " → NoDigitFirst r) → Follows F (b ∷ r)

pub widen : {F G : ℕ → Type 0} {r : List ℕ} → ((b : ℕ) → F b → G b) → Follows F r → Follows G r
widen f (Follows.nothing x) = Follows.nothing (f over x)
widen f (Follows.byte x y) = Follows.byte (f _ x) y

-- an item that runs through its bytes gives what it means
module _ {S M : Type 0} (run : ℕ → S → ℕ → Out S M) (f : S → Machine.Item) (g : M → Got)
    (same : (p : ℕ) (s : S) (b : ℕ) → scan p (f s) b ≡ lift f g (run p s b)) where
  scanned : (p : ℕ) (s : S) (b : ℕ) (o : Out S M) → run p s b ≡ o → scan p (f s) b ≡ lift f g o
  scanned p s b o e = same p s b ∙ ap (lift f g) e

  -- a byte that the item takes says nothing
  took_told : (p : ℕ) (s s' : S) (b d : ℕ) (k : List Frame) (t : List ℕ) (x : Told) → run p s b ≡ takes s' → tell (suc p) (at (item (f s')) d k) t ≡ x
      → tell p (at (item (f s)) d k) (b ∷ t) ≡ x
  took_told p s s' b d k t x e h =
      let w = scanned p s b (takes s') e in told_step p _ b t (at (item (f s')) d k) x (ap (on_out p d k b) w) (ap (at_out b) w) h

  -- where the item stops, the byte says what it says behind what is got
  at_end : (p : ℕ) (s : S) (v : M) (d : ℕ) (k : List Frame) → run p s over ≡ stops v → tell p (at (item (f s)) d k) [] ≡ tell p (at (base (got (g v))) d k) []
  unfolding tell
  at_end p s v d k e = ap (λ (o : Out Machine.Item Got). record { verdict = Machine.end_out p k o; heard = [] }) (scanned p s over (stops v) e)

  at_byte : (p : ℕ) (s : S) (v : M) (b d : ℕ) (k : List Frame) (r : List ℕ) → run p s b ≡ stops v → tell p (at (item (f s)) d k) (b ∷ r)
      ≡ tell p (at (base (got (g v))) d k) (b ∷ r)
  unfolding tell
  at_byte p s v b d k r e = ap (λ (o : Out Machine.Item Got). after (at_out b o) (tell (suc p) (on_out p d k b o) r)) (scanned p s b (stops v) e)

  halt_space : (p : ℕ) (s s' : S) (v : M) (d : ℕ) (k : List Frame) (r : List ℕ) → run p s (ch " ") ≡ takes s' → ((q c : ℕ) → NoDigit c → run q s' c ≡ stops v)
      → NoDigitFirst r → tell p (at (item (f s)) d k) (ch " " ∷ r) ≡ tell p (at (base (got (g v))) d k) (ch " " ∷ r)
  unfolding tell
  halt_space p s s' v d k [] e h n = took_told p s s' (ch " ") d k [] _ e (at_end (suc p) s' v d k (h (suc p) over (NoDigit.past (omega arith))))
  halt_space p s s' v d k (c ∷ r) e h n = took_told p s s' (ch " ") d k (c ∷ r) _ e (at_byte (suc p) s' v c d k r (h (suc p) c n))

  halted : {p : ℕ} {s : S} {v : M} {b : ℕ} → Halt run p s v b → (d : ℕ) (k : List Frame) (r : List ℕ) → (b ≡ ch " " → NoDigitFirst r)
      → tell p (at (item (f s)) d k) (b ∷ r) ≡ tell p (at (base (got (g v))) d k) (b ∷ r)
  halted {p} {s} {v} {b} (Halt.here e) d k r n = at_byte p s v b d k r e
  halted {p} {s} {v} {b} (Halt.spaced {s' = s'} e h) d k r n = halt_space p s s' v d k r e h (n refl)

  halted_end : {p : ℕ} {s : S} {v : M} {b : ℕ} → Halt run p s v b → b ≡ over → (d : ℕ) (k : List Frame) → tell p (at (item (f s)) d k) []
      ≡ tell p (at (base (got (g v))) d k) []
  halted_end {p} {s} {v} {b} (Halt.here e) w d k = at_end p s v d k (rw (← w) e)
  halted_end {p} {s} {v} (Halt.spaced e h) w d k = absurd (omega arith)

  pub item_told : {F : ℕ → Type 0} {p : ℕ} {s : S} {a : List ℕ} {v : M} → Goes run F p s a v → (d : ℕ) (k : List Frame) (r : List ℕ) → Follows F r
      → tell p (at (item (f s)) d k) (a ++ r) ≡ tell (adv p a) (at (base (got (g v))) d k) r
  item_told (Goes.ends h) d k [] (Follows.nothing x) = halted_end (h over x) refl d k
  item_told (Goes.ends h) d k (b ∷ r) (Follows.byte x n) = halted (h b x) d k r n
  item_told (Goes.goes {p = p} {c = c} {s = s} {s' = s'} x e) d k r w = took_told p s s' c d k _ _ e (item_told x d k r w)

  -- from the base that begins it: its first byte says what it says there
  first_told : {F : ℕ → Type 0} {p : ℕ} {s : S} {b : ℕ} {t : List ℕ} {v : M} → Goes run F p s (b ∷ t) v → (c : Base) (hs : List Heard) (d : ℕ) (k : List Frame)
      (r : List ℕ) → Machine.on_base p d k b c ≡ Machine.start p d k b (f s) → at_base p b c ≡ hs → Follows F r → tell p (at (base c) d k) (b ∷ (t ++ r))
      ≡ after hs (tell (adv (suc p) t) (at (base (got (g v))) d k) r)
  first_told (Goes.goes {p = p} {c = b} {s = s} {s' = s'} x e) c hs d k r i j w =
      told_saying p _ b _ (at (item (f s')) d k) hs _ (i ∙ ap (on_out p d k b) (scanned p s b (takes s') e)) j (item_told x d k r w)

  pub begun_told : {F : ℕ → Type 0} {p : ℕ} {s : S} {a : List ℕ} {v : M} → Goes run F p s a v → (b : ℕ) (t : List ℕ) → a ≡ b ∷ t → (c : Base) (hs : List Heard)
      (d : ℕ) (k : List Frame) (r : List ℕ) → Machine.on_base p d k b c ≡ Machine.start p d k b (f s) → at_base p b c ≡ hs → Follows F r
      → tell p (at (base c) d k) (a ++ r) ≡ after hs (tell (adv p a) (at (base (got (g v))) d k) r)
  begun_told {F} {p} {s} {a} {v} x b t e c hs d k r i j w =
      subst (λ (l : List ℕ). tell p (at (base c) d k) (l ++ r) ≡ after hs (tell (adv p l) (at (base (got (g v))) d k) r)) (sym e)
      (first_told (subst (λ (l : List ℕ). Goes run F p s l v) e x) c hs d k r i j w)

-- ---- layout before what follows

-- a byte that begins layout
pub data Lays : ℕ → Type 0 where
  blank : {b : ℕ} → Blank b → Lays b
  hash : Lays (ch "#")
  slash : Lays (ch "/")

module _ {F : ℕ → Type 0} (lays : (b : ℕ) → Lays b → F b) (no_digit : (b : ℕ) → F b → NoDigit b) where
  pub no_digit_first : {r : List ℕ} → Follows F r → NoDigitFirst r
  no_digit_first (Follows.nothing x) = tt
  no_digit_first (Follows.byte x y) = no_digit _ x

  pub layout_follows : {w : List ℕ} → Ws w → (r : List ℕ) → Follows F r → Follows F (w ++ r)
  layout_follows Ws.none r h = h
  layout_follows (Ws.blank x w) r h = Follows.byte (lays _ (Lays.blank x)) (λ e. no_digit_first (layout_follows w r h))
  layout_follows (Ws.line (CLine.c_line CBeginLine.hash x) y w) r h = Follows.byte (lays _ Lays.hash) (λ e. absurd (omega arith))
  layout_follows (Ws.line (CLine.c_line CBeginLine.slashes x) y w) r h = Follows.byte (lays _ Lays.slash) (λ e. absurd (omega arith))
  layout_follows (Ws.block (CBlock.c_block x y) w) r h = Follows.byte (lays _ Lays.slash) (λ e. absurd (omega arith))

lay_ends : (b : ℕ) → Lays b → EndsItem b
lay_ends b (Lays.blank x) = EndsItem.blank x
lay_ends b Lays.hash = EndsItem.hash
lay_ends b Lays.slash = EndsItem.slash

lay_part_ends : (b : ℕ) → Lays b → PartEnds b
lay_part_ends b x = PartEnds.ends (lay_ends b x)

lower : (b : ℕ) → b < ch "0" → NoDigit b
lower b h = NoDigit.under h

higher : (b : ℕ) → ch "9" < b → NoDigit b
higher b h = NoDigit.past h

blank_no_digit : {b : ℕ} → Blank b → NoDigit b
blank_no_digit Blank.space = lower (ch " ") (omega arith)
blank_no_digit Blank.tab = lower (ch "\t") (omega arith)
blank_no_digit Blank.line_feed = lower (ch "\n") (omega arith)
blank_no_digit Blank.carriage_return = lower (ch "\r") (omega arith)

ends_no_digit : (b : ℕ) → EndsItem b → NoDigit b
ends_no_digit b (EndsItem.blank x) = blank_no_digit x
ends_no_digit b EndsItem.hash = lower b (omega arith)
ends_no_digit b EndsItem.slash = lower b (omega arith)
ends_no_digit b EndsItem.comma = lower b (omega arith)
ends_no_digit b EndsItem.bracket = higher b (omega arith)
ends_no_digit b EndsItem.brace = higher b (omega arith)
ends_no_digit b EndsItem.end = higher b (omega arith)

pub part_no_digit : (b : ℕ) → PartEnds b → NoDigit b
part_no_digit b (PartEnds.ends x) = ends_no_digit b x
part_no_digit b PartEnds.plus = lower b (omega arith)
part_no_digit b PartEnds.colon = higher b (omega arith)

pub after_layout : {w : List ℕ} → Ws w → (r : List ℕ) → Follows EndsItem r → Follows EndsItem (w ++ r)
after_layout w r h = layout_follows lay_ends ends_no_digit w r h

pub part_after_layout : {w : List ℕ} → Ws w → (r : List ℕ) → Follows PartEnds r → Follows PartEnds (w ++ r)
part_after_layout w r h = layout_follows lay_part_ends part_no_digit w r h

-- one byte, no space, then anything
pub one_more : {F : ℕ → Type 0} {b : ℕ} (r : List ℕ) → F b → (b ≡ ch " " → ⊥) → Follows F (b ∷ r)
one_more r x n = Follows.byte x (λ e. absurd (n e))

-- ---- the start of an item

-- what is heard at the first byte of an item: where a key is wanted, that one begins
abbrev pub at_first : ℕ → Base → List Heard
at_first p want = []
at_first p want_key = starts p ∷ []
at_first p (want_string z u) = []
at_first p (want_binary u) = []
at_first p (got g) = []

-- parts joined by a plus: strings and binary alike. `Starts s v`: the base s begins a part after the bytes v
module _ (P : List ℕ → List ℕ → Type 0) (Starts : Base → List ℕ → Type 0) (parts : List ℕ → Got) (next : List ℕ → Base)
    (plus : (p d : ℕ) (k : List Frame) (v : List ℕ) → step p (at (base (got (parts v))) d k) (ch "+") ≡ at (base (next v)) d k)
    (again : (v : List ℕ) → Starts (next v) v)
    (quiet : (p : ℕ) (v : List ℕ) → at_first p (next v) ≡ [])
    (part-told : (a u : List ℕ) → P a u → (s : Base) (v : List ℕ) → Starts s v → (p d : ℕ) (k : List Frame) (r : List ℕ) → Follows PartEnds r
    → tell p (at (base s) d k) (a ++ r) ≡ after (at_first p s) (tell (adv p a) (at (base (got (parts (v ++ u)))) d k) r)) where
  concat_told : {a u : List ℕ} → Concat P a u → (s : Base) (v : List ℕ) → Starts s v → (p d : ℕ) (k : List Frame) (r : List ℕ) → Follows PartEnds r
      → tell p (at (base s) d k) (a ++ r) ≡ after (at_first p s) (tell (adv p a) (at (base (got (parts (v ++ u)))) d k) r)
  concat_told (Concat.part {a = a} {u = u} x) s v b p d k r h = part-told a u x s v b p d k r h
  concat_told (Concat.plus {a = a} {u = u} {v = y} {w = z} {b = c} {t = t} x w1 w2 rest) s v b p d k r h =
      simp (append_assoc, adv_join)
      (part-told a u x s v b p d k (y ++ (ch "+" ∷ (z ++ (c ++ r)))) (part_after_layout w1 _ (one_more _ PartEnds.plus (λ e. omega arith)))
      ∙ ap (after (at_first p s))
      (layout_told w1 (got (parts (v ++ u))) (adv p a) d k (ch "+" ∷ (z ++ (c ++ r)))
      ∙ told_step _ _ _ _ _ _ (plus (adv (adv p a) y) d k (v ++ u)) refl
      (layout_told w2 (next (v ++ u)) (suc (adv (adv p a) y)) d k (c ++ r)
      ∙ concat_told rest (next (v ++ u)) (v ++ u) (again (v ++ u)) (adv (suc (adv (adv p a) y)) z) d k r h
      ∙ rw (quiet (adv (suc (adv (adv p a) y)) z) (v ++ u), append_assoc v u t))))

-- ---- strings

pub data StartsString : Use → Base → List ℕ → Type 0 where
  further : {z : Use} {v : List ℕ} → StartsString z (want_string z v) v
  first_value : StartsString as_value want []
  first_key : StartsString as_key want_key []

pub starts_string : {z : Use} {s : Base} {v : List ℕ} → StartsString z s v → (p d : ℕ) (k : List Frame) (b : ℕ) → class_of b ≡ Machine.quote_c
    → Machine.on_base p d k b s ≡ Machine.start p d k b (Machine.string_part z v Strings.begin)
starts_string StartsString.further p d k b e = rw e
starts_string StartsString.first_value p d k b e = rw e
starts_string StartsString.first_key p d k b e = rw e

string_says : {z : Use} {s : Base} {v : List ℕ} → StartsString z s v → (p b : ℕ) → class_of b ≡ Machine.quote_c → at_base p b s ≡ at_first p s
string_says StartsString.further p b e = refl
string_says StartsString.first_value p b e = rw e
string_says StartsString.first_key p b e = rw e

pub data Quoted : List ℕ → Type 0 where
  quote : {b : ℕ} {a : List ℕ} → class_of b ≡ Machine.quote_c → Quoted (b ∷ a)

pub quote_class : (q : Quote) → class_of (mark q) ≡ Machine.quote_c
quote_class double = refl
quote_class single = refl

pub part_begins : {k : Bool} {a u : List ℕ} → StringPart k a u → Quoted a
part_begins (StringPart.one_line (Quoted-text.quoted q x)) = Quoted.quote (quote_class q)
part_begins (StringPart.multiline q x y) = Quoted.quote (quote_class q)
part_begins (StringPart.trimmed q x y) = Quoted.quote (quote_class q)

pub string_part_told : (z : Use) {a u : List ℕ} → StringPart true a u → (s : Base) (v : List ℕ) → StartsString z s v → (p d : ℕ) (k : List Frame) (r : List ℕ)
    → Follows PartEnds r → tell p (at (base s) d k) (a ++ r) ≡ after (at_first p s) (tell (adv p a) (at (base (got (Got.string z (v ++ u)))) d k) r)
string_part_told z {a} {u} x s v y p d k r h = go a (part_begins x) (part_goes x p)
  where
    go : (c : List ℕ) → Quoted c → Goes Strings.scan PartEnds p Strings.begin c u → tell p (at (base s) d k) (c ++ r)
        ≡ after (at_first p s) (tell (adv p c) (at (base (got (Got.string z (v ++ u)))) d k) r)
    go c (Quoted.quote {b = b} {a = t} e) w =
        begun_told Strings.scan (Machine.string_part z v) (λ q. Got.string z (v ++ q)) (λ p s b. refl) w b t refl s (at_first p s) d k r
        (starts_string y p d k b e) (string_says y p b e) h

pub string_told : (z : Use) {a u : List ℕ} → String true a u → (s : Base) → StartsString z s [] → (p d : ℕ) (k : List Frame) (r : List ℕ) → Follows PartEnds r
    → tell p (at (base s) d k) (a ++ r) ≡ after (at_first p s) (tell (adv p a) (at (base (got (Got.string z u))) d k) r)
string_told z x s y p d k r h = concat_told (StringPart true) (StartsString z) (Got.string z) (want_string z) (λ p d k v. refl) (λ v. StartsString.further)
    (λ p v. refl) (λ a u. string_part_told z {a = a} {u = u}) x s [] y p d k r h

-- ---- binary

data StartsBinary : Base → List ℕ → Type 0 where
  further : {v : List ℕ} → StartsBinary (want_binary v) v
  first_value : StartsBinary want []

starts_binary : {s : Base} {v : List ℕ} → StartsBinary s v → (p d : ℕ) (k : List Frame) → Machine.on_base p d k (ch "$") s
    ≡ Machine.start p d k (ch "$") (Machine.binary_part v Binaries.begin)
starts_binary StartsBinary.further p d k = refl
starts_binary StartsBinary.first_value p d k = refl

binary_says : {s : Base} {v : List ℕ} → StartsBinary s v → (p : ℕ) → at_base p (ch "$") s ≡ at_first p s
binary_says StartsBinary.further p = refl
binary_says StartsBinary.first_value p = refl

binary_part_told : {a u : List ℕ} → BValue a u → (s : Base) (v : List ℕ) → StartsBinary s v → (p d : ℕ) (k : List Frame) (r : List ℕ) → Follows PartEnds r
    → tell p (at (base s) d k) (a ++ r) ≡ after (at_first p s) (tell (adv p a) (at (base (got (Got.binary (v ++ u)))) d k) r)
binary_part_told x s v y p d k r h =
    let w = binary_begins x in
    begun_told Binaries.scan (Machine.binary_part v) (λ q. Got.binary (v ++ q)) (λ p s b. refl) (binary_goes x p) (ch "$") w.0 w.1 s (at_first p s) d k r
    (starts_binary y p d k) (binary_says y p) h

pub binary_told : {a u : List ℕ} → Binary a u → (p d : ℕ) (k : List Frame) (r : List ℕ) → Follows PartEnds r → tell p (at (base want) d k) (a ++ r)
    ≡ tell (adv p a) (at (base (got (Got.binary u))) d k) r
binary_told x p d k r h = concat_told BValue StartsBinary Got.binary want_binary (λ p d k v. refl) (λ v. StartsBinary.further) (λ p v. refl)
    (λ a u. binary_part_told {a = a} {u = u}) x want [] StartsBinary.first_value p d k r h

-- ---- values

-- what the machine has after a value
abbrev pub got_of : Meaning → Got
got_of Meaning.null = Got.value Meaning.null
got_of (Meaning.bool b) = Got.value (Meaning.bool b)
got_of (Meaning.number n) = Got.value (Meaning.number n)
got_of (Meaning.string u) = Got.string as_value u
got_of (Meaning.binary u) = Got.binary u
got_of (Meaning.time t) = Got.value (Meaning.time t)
got_of (Meaning.array x) = Got.value (Meaning.array x)
got_of (Meaning.object x) = Got.value (Meaning.object x)

pub valued : (m : Meaning) → as_value_of (got_of m) ≡ some m
valued Meaning.null = refl
valued (Meaning.bool b) = refl
valued (Meaning.number n) = refl
valued (Meaning.string u) = refl
valued (Meaning.binary u) = refl
valued (Meaning.time t) = refl
valued (Meaning.array x) = refl
valued (Meaning.object x) = refl

abbrev pub StartsNumeric : ℕ → Type 0
StartsNumeric b = (p d : ℕ) (k : List Frame) → Machine.on_base p d k b want ≡ Machine.start p d k b (Machine.numeric Numeric.begin)

digit_class : (b : ℕ) → In (ch "0") (ch "9") b → class_of b ≡ Machine.other_c
digit_class b x = go (class_of b) (class_is_lem b)
  where
    go : (c : Class) → ClassIs b c → c ≡ Machine.other_c
    go Machine.other_c y = refl
    go Machine.blank_c y = absurd (omega arith)
    go Machine.hash_c y = absurd (omega arith)
    go Machine.slash_c y = absurd (omega arith)
    go Machine.comma_c y = absurd (omega arith)
    go Machine.colon_c y = absurd (omega arith)
    go Machine.plus_c y = absurd (omega arith)
    go Machine.quote_c y = absurd (omega arith)
    go Machine.dollar_c y = absurd (omega arith)
    go Machine.letter_n y = absurd (omega arith)
    go Machine.letter_t y = absurd (omega arith)
    go Machine.letter_f y = absurd (omega arith)
    go Machine.letter_c y = absurd (omega arith)
    go (Machine.open_c Machine.square) y = absurd (omega arith)
    go (Machine.open_c Machine.curly) y = absurd (omega arith)
    go (Machine.close_c Machine.square) y = absurd (omega arith)
    go (Machine.close_c Machine.curly) y = absurd (omega arith)

pub digit_starts : (b : ℕ) → In (ch "0") (ch "9") b → StartsNumeric b
digit_starts b x p d k = rw (digit_class b x)

pub lead_starts : {b : ℕ} → N.Lead b → StartsNumeric b
lead_starts (N.Lead.digit {b = b} y) = digit_starts b y
lead_starts N.Lead.plus = λ p d k. refl
lead_starts N.Lead.minus = λ p d k. refl
lead_starts N.Lead.point = λ p d k. refl
lead_starts N.Lead.n_letter = λ p d k. refl
lead_starts N.Lead.i_letter = λ p d k. refl

lead_quiet : {b : ℕ} → N.Lead b → at_want (class_of b) ≡ []
lead_quiet (N.Lead.digit {b = b} y) = rw (digit_class b y)
lead_quiet N.Lead.plus = refl
lead_quiet N.Lead.minus = refl
lead_quiet N.Lead.point = refl
lead_quiet N.Lead.n_letter = refl
lead_quiet N.Lead.i_letter = refl

numeric_told : {a : List ℕ} {m : Meaning} → NumericItem true a m → (p d : ℕ) (k : List Frame) (r : List ℕ) → Follows EndsItem r
    → tell p (at (base want) d k) (a ++ r) ≡ tell (adv p a) (at (base (got (Got.value m))) d k) r
numeric_told {a} {m} x p d k r h = go a (numeric_begins x) (numeric_goes x p)
  where
    go : (c : List ℕ) → N.Begins c → Goes Numeric.scan EndsItem p Numeric.begin c m → tell p (at (base want) d k) (c ++ r)
        ≡ tell (adv p c) (at (base (got (Got.value m))) d k) r
    go c (N.Begins.begins {b = b} {a = t} y) w =
        begun_told Numeric.scan Machine.numeric Got.value (λ p s b. refl) w b t refl want [] d k r (lead_starts y p d k) (lead_quiet y) h

pub word_told : (b : ℕ) (t : List ℕ) (m : Meaning) → ((p d : ℕ) (k : List Frame) → Machine.on_base p d k b want
    ≡ Machine.start p d k b (Machine.word (b ∷ t) m))
    → (p d : ℕ) (k : List Frame) (r : List ℕ) → Follows EndsItem r → tell p (at (base want) d k) ((b ∷ t) ++ r)
    ≡ after (at_want (class_of b)) (tell (adv p (b ∷ t)) (at (base (got (Got.value m))) d k) r)
word_told b t m e p d k r h =
    begun_told Names.word_scan (λ x. Machine.word x m) (λ x. Got.value m) (λ p s b. refl) (word_goes (b ∷ t) p) b t refl want (at_want (class_of b)) d k r
    (e p d k) refl h

not_low : (b : ℕ) → (b < ch "A" → ⊥) → b < ch "A" → ⊥
not_low b l h = l h

no_letter : (b : ℕ) → (b < ch "A" → ⊥) → (ch "Z" < b → ch "a" ≤ b) → b ≤ ch "z" → (ch "A" ≤ b → ch "Z" < b) → (ch "a" ≤ b → ch "z" < b) → ⊥
no_letter b l m h f g = let u = f (omega arith) in omega (arith, g (m u))

-- a letter begins an identifier where a key is wanted, and says so
letter_starts : (b : ℕ) → (b < ch "A" → ⊥) → (ch "Z" < b → ch "a" ≤ b) → b ≤ ch "z" → (p d : ℕ) (k : List Frame) (c : Class) → ClassIs b c
    → (Machine.on_key p d k b c ≡ Machine.start p d k b (Machine.identifier Names.begin)) × (at_key p c ≡ starts p ∷ [])
letter_starts b l m h p d k Machine.letter_n y = (refl, refl)
letter_starts b l m h p d k Machine.letter_t y = (refl, refl)
letter_starts b l m h p d k Machine.letter_f y = (refl, refl)
letter_starts b l m h p d k Machine.letter_c y = (refl, refl)
letter_starts b l m h p d k Machine.dollar_c y = (refl, refl)
letter_starts b l m h p d k Machine.other_c y = absurd (no_letter b (λ e. l e) m h y.0 y.1)
letter_starts b l m h p d k Machine.blank_c y = absurd (not_low b l (omega arith))
letter_starts b l m h p d k Machine.hash_c y = absurd (not_low b l (omega arith))
letter_starts b l m h p d k Machine.slash_c y = absurd (not_low b l (omega arith))
letter_starts b l m h p d k Machine.comma_c y = absurd (not_low b l (omega arith))
letter_starts b l m h p d k Machine.colon_c y = absurd (not_low b l (omega arith))
letter_starts b l m h p d k Machine.plus_c y = absurd (not_low b l (omega arith))
letter_starts b l m h p d k Machine.quote_c y = absurd (not_low b l (omega arith))
letter_starts b l m h p d k (Machine.open_c Machine.square) y = absurd (omega (arith, m (omega arith)))
letter_starts b l m h p d k (Machine.open_c Machine.curly) y = absurd (omega arith)
letter_starts b l m h p d k (Machine.close_c Machine.square) y = absurd (omega (arith, m (omega arith)))
letter_starts b l m h p d k (Machine.close_c Machine.curly) y = absurd (omega arith)

begins_name : (b : ℕ) → Of i_begin b → (p d : ℕ) (k : List Frame)
    → (Machine.on_base p d k b want_key ≡ Machine.start p d k b (Machine.identifier Names.begin)) × (at_base p b want_key ≡ starts p ∷ [])
begins_name b (inl y) p d k = letter_starts b (λ e. omega arith) (λ f. omega arith) (omega arith) p d k (class_of b) (class_is_lem b)
begins_name b (inr (inl y)) p d k = letter_starts b (λ e. omega arith) (λ f. omega arith) (omega arith) p d k (class_of b) (class_is_lem b)
begins_name b (inr (inr (inl y))) p d k = let e : b ≡ ch "$" = omega arith in (rw e, rw e)
begins_name b (inr (inr (inr (inl y)))) p d k = let e : b ≡ ch "_" = omega arith in (rw e, rw e)
begins_name b (inr (inr (inr (inr y)))) p d k = elim y [ ]

pub name_told : {c : List ℕ} → Identifier c → (p d : ℕ) (k : List Frame) (r : List ℕ) → Follows PartEnds r → tell p (at (base want_key) d k) (c ++ r)
    ≡ after (starts p ∷ []) (tell (adv p c) (at (base (got (Got.key c))) d k) r)
name_told x p d k r h =
    let w = name_begins x in
    let i = begins_name w.0 w.3 p d k in
    begun_told Names.scan Machine.identifier Got.key (λ p s b. refl) (name_goes x p) w.0 w.1 w.2 want_key (starts p ∷ []) d k r i.0 i.1 h

-- ---- brackets, commas and colons

-- with the value m the frame holds y
pub data Adds : Frame → Meaning → Inside → Type 0 where
  element : {x : Meanings} {m : Meaning} → Adds (inside (elements x)) m (elements (Meanings.more x m))
  member : {x : Members} {u : List ℕ} {m : Meaning} → Adds (pair x u) m (members (Members.member x u m))

pub close_now : {x : Inside} {b : ℕ} → Closes x b → (p d : ℕ) (k : List Frame) → step p (at (base (wanted x)) d (inside x ∷ k)) b
    ≡ at (base (got (Got.value (shut x)))) (suc d) k
close_now Closes.bracket p d k = refl
close_now Closes.brace p d k = refl

-- what a closing bracket says: that an object closes, or nothing
close_now_says : {x : Inside} {b : ℕ} → Closes x b → (p : ℕ) → at_base p b (wanted x) ≡ heard_of (closing x)
close_now_says Closes.bracket p = refl
close_now_says Closes.brace p = refl

close_after_says : {y : Inside} {b : ℕ} → Closes y b → (g : Got) → at_got g (class_of b) ≡ heard_of (closing y)
close_after_says Closes.bracket g = refl
close_after_says Closes.brace g = refl

close_after_lem : {f : Frame} {m : Meaning} {y : Inside} {b : ℕ} → Adds f m y → Closes y b → (p d : ℕ) (k : List Frame)
    → step p (at (base (got (got_of m))) d (f ∷ k)) b ≡ at (base (got (Got.value (shut y)))) (suc d) k
close_after_lem {m = m} Adds.element Closes.bracket p d k = rw (valued m)
close_after_lem {m = m} Adds.member Closes.brace p d k = rw (valued m)

pub comma_after_lem : {f : Frame} {m : Meaning} {y : Inside} → Adds f m y → (p d : ℕ) (k : List Frame) → step p (at (base (got (got_of m))) d (f ∷ k)) (ch ",")
    ≡ at (base (wanted y)) d (inside y ∷ k)
comma_after_lem {m = m} Adds.element p d k = rw (valued m)
comma_after_lem {m = m} Adds.member p d k = rw (valued m)

pub closes_end : {x : Inside} {b : ℕ} → Closes x b → EndsItem b × (b ≡ ch " " → ⊥)
closes_end Closes.bracket = (EndsItem.bracket, λ e. omega arith)
closes_end Closes.brace = (EndsItem.brace, λ e. omega arith)

-- ---- the productions

-- `K p`: what the bytes say of objects and keys, from the place p on
abbrev Keys : Type 0
Keys = ℕ → List Event

abbrev ValueTold : ℕ → List ℕ → Meaning → Keys → Type 0
ValueTold d a m K = (p : ℕ) (k : List Frame) (r : List ℕ) → Follows EndsItem r → tell p (at (base want) d k) (a ++ r)
    ≡ after (heard_of (K p)) (tell (adv p a) (at (base (got (got_of m))) d k) r)

abbrev RestTold : ℕ → Inside → List ℕ → Inside → Keys → Type 0
RestTold d x a y K = (p : ℕ) (k : List Frame) (r : List ℕ) → tell p (at (base (wanted x)) d (inside x ∷ k)) (a ++ r)
    ≡ after (heard_of (K p)) (tell (adv p a) (at (base (got (Got.value (shut y)))) (suc d) k) r)

abbrev AfterTold : ℕ → Inside → List ℕ → Inside → Keys → Type 0
AfterTold d y a z K =
    ((r : List ℕ) → Follows EndsItem (a ++ r))
    × ((f : Frame) (m : Meaning) → Adds f m y → (p : ℕ) (k : List Frame) (r : List ℕ) → tell p (at (base (got (got_of m))) d (f ∷ k)) (a ++ r)
    ≡ after (heard_of (K p)) (tell (adv p a) (at (base (got (Got.value (shut z)))) (suc d) k) r))

record ItemTold (d : ℕ) (x : Inside) (a : List ℕ) (y : Inside) (K : Keys) : Type 0 where
  frame : Frame
  last : Meaning
  adds : Adds frame last y
  told : (p : ℕ) (k : List Frame) (r : List ℕ) → Follows EndsItem r → tell p (at (base (wanted x)) d (inside x ∷ k)) (a ++ r)
      ≡ after (heard_of (K p)) (tell (adv p a) (at (base (got (got_of last))) d (frame ∷ k)) r)

close_told : (d b : ℕ) (x : Inside) (w : List ℕ) → Ws w → Closes x b → RestTold d x (w ++ (b ∷ [])) x (λ p. closing x)
close_told d b x w y c p k r =
    simp (append_assoc, adv_join)
    (layout_told y (wanted x) p d (inside x ∷ k) (b ∷ r) ∙ told_saying _ _ _ _ _ _ _ (close_now c (adv p w) d k) (close_now_says c (adv p w)) refl)

rest_item_told : (d : ℕ) (x y z : Inside) (w a b : List ℕ) (K L : Keys) → Ws w → ItemTold d x a y K → AfterTold d y b z L
    → RestTold d x (w ++ (a ++ b)) z (λ p. K (adv p w) ++ L (adv (adv p w) a))
rest_item_told d x y z w a b K L l i t p k r =
    simp (append_assoc, adv_join)
    (layout_told l (wanted x) p d (inside x ∷ k) (a ++ (b ++ r))
    ∙ i.told (adv p w) k (b ++ r) (t.0 r)
    ∙ ap (after (heard_of (K (adv p w)))) (t.1 i.frame i.last i.adds (adv (adv p w) a) k r)
    ∙ after_events (K (adv p w)) (L (adv (adv p w) a)) _)

end_told : (d b : ℕ) (x : Inside) (w : List ℕ) → Ws w → Closes x b → AfterTold d x (w ++ (b ∷ [])) x (λ p. closing x)
end_told d b x w y c = (
  (λ r. rw append_assoc (after_layout y (b ∷ r) (one_more r (closes_end c).0 (closes_end c).1))),
  λ f m g p k r. simp (append_assoc, adv_join) (layout_told y (got (got_of m)) p d (f ∷ k) (b ∷ r)
      ∙ told_saying _ _ _ _ _ _ _ (close_after_lem g c (adv p w) d k) (close_after_says c (got_of m)) refl),
)

comma_told : (d : ℕ) (x y : Inside) (w a : List ℕ) (K : Keys) → Ws w → RestTold d x a y K → AfterTold d x (w ++ (ch "," ∷ a)) y (λ p. K (suc (adv p w)))
comma_told d x y w a K l t = (
  (λ r. rw append_assoc (after_layout l (ch "," ∷ (a ++ r)) (one_more (a ++ r) EndsItem.comma (λ e. omega arith)))),
  λ f m g p k r. simp (append_assoc, adv_join) (layout_told l (got (got_of m)) p d (f ∷ k) (ch "," ∷ (a ++ r))
      ∙ told_step _ _ _ _ _ _ (comma_after_lem g (adv p w) d k) refl (t (suc (adv p w)) k r)),
)

element_told : (d : ℕ) (x : Meanings) (a : List ℕ) (m : Meaning) (K : Keys) → ValueTold d a m K → ItemTold d (elements x) a (elements (Meanings.more x m)) K
element_told d x a m K v = record { frame = inside (elements x); last = m; adds = Adds.element; told = λ p k r h. v p (inside (elements x) ∷ k) r h }

-- a key, and the colon after it
pub key_told : {c u : List ℕ} → Key true c u → {v : List ℕ} → Ws v → (x : Members) (p d : ℕ) (k : List Frame) (r : List ℕ)
    → tell p (at (base want_key) d (inside (members x) ∷ k)) (c ++ (v ++ (ch ":" ∷ r)))
    ≡ after (starts p ∷ names u ∷ []) (tell (suc (adv (adv p c) v)) (at (base want) d (pair x u ∷ k)) r)
key_told {c} {u} (Key.string y) {v} w x p d k r =
    string_told as_key y want_key StartsString.first_key p d (inside (members x) ∷ k) (v ++ (ch ":" ∷ r))
    (part_after_layout w _ (one_more r PartEnds.colon (λ e. omega arith)))
    ∙ ap (after (starts p ∷ []))
    (layout_told w (got (Got.string as_key u)) (adv p c) d (inside (members x) ∷ k) (ch ":" ∷ r)
    ∙ told_saying _ _ _ _ _ (names u ∷ []) _ refl refl refl)
key_told {c} (Key.identifier y) {v} w x p d k r =
    name_told y p d (inside (members x) ∷ k) (v ++ (ch ":" ∷ r)) (part_after_layout w _ (one_more r PartEnds.colon (λ e. omega arith)))
    ∙ ap (after (starts p ∷ []))
    (layout_told w (got (Got.key c)) (adv p c) d (inside (members x) ∷ k) (ch ":" ∷ r)
    ∙ told_saying _ _ _ _ _ (names c ∷ []) _ refl refl refl)

member_told : (d : ℕ) (x : Members) (c u v w a : List ℕ) (m : Meaning) (K : Keys) → Key true c u → Ws v → Ws w → ValueTold d a m K
    → ItemTold d (members x) (c ++ (v ++ (ch ":" ∷ (w ++ a)))) (members (Members.member x u m)) (λ p. named p u ∷ K (adv (suc (adv (adv p c) v)) w))
member_told d x c u v w a m K y l j t =
    record {
      frame = pair x u;
      last = m;
      adds = Adds.member;
      told = λ p k r h.
          simp (append_assoc, adv_join)
          (key_told y l x p d k (w ++ (a ++ r))
          ∙ ap (after (starts p ∷ names u ∷ []))
          (layout_told j want (suc (adv (adv p c) v)) d (pair x u ∷ k) (a ++ r)
          ∙ t (adv (suc (adv (adv p c) v)) w) (pair x u ∷ k) r h));
    }

opened_told : (c : Machine.Bracket) (b : ℕ) → class_of b ≡ Machine.open_c c → {d e : ℕ} → Room true d e → (a : List ℕ) (y : Inside) (K : Keys)
    → RestTold e (bare_of c) a y K → (p : ℕ) (k : List Frame) (r : List ℕ) → tell p (at (base want) d k) (b ∷ (a ++ r))
    ≡ after (at_open c) (after (heard_of (K (suc p))) (tell (adv (suc p) a) (at (base (got (Got.value (shut y)))) d k) r))
opened_told c b f Room.falls a y K t p k r = told_saying _ _ _ _ _ (at_open c) _ (rw f) (rw f) (t (suc p) k r)

pub value_told : {d : ℕ} {a : List ℕ} {m : Meaning} (x : Value true d a m) (p : ℕ) (k : List Frame) (r : List ℕ) → Follows EndsItem r
    → tell p (at (base want) d k) (a ++ r) ≡ after (heard_of (value_keys x p)) (tell (adv p a) (at (base (got (got_of m))) d k) r)
unfolding value_keys rest_keys after_keys item_keys
value_told x = elim x as (λ d a m h. ValueTold d a m (value_keys h)) (λ d x a y h. RestTold d x a y (rest_keys h))
    (λ d x a y h. AfterTold d x a y (after_keys h))
    (λ d x a y h. ItemTold d x a y (item_keys h)) [
      | Value.null_word {d = d} ↦ λ p k r h. word_told (ch "n") (letters "ull") Meaning.null (λ p d k. refl) p d k r h
      | Value.true_word {d = d} ↦ λ p k r h. word_told (ch "t") (letters "rue") (Meaning.bool true) (λ p d k. refl) p d k r h
      | Value.false_word {d = d} ↦ λ p k r h. word_told (ch "f") (letters "alse") (Meaning.bool false) (λ p d k. refl) p d k r h
      | Value.number {d = d} y ↦ λ p k r h. numeric_told (NumericItem.number y) p d k r h
      | Value.string {d = d} y ↦ λ p k r h. string_told as_value y want StartsString.first_value p d k r (widen (λ b e. PartEnds.ends e) h)
      | Value.binary {d = d} y ↦ λ p k r h. binary_told y p d k r (widen (λ b e. PartEnds.ends e) h)
      | Value.time_value {d = d} y ↦ λ p k r h. numeric_told (NumericItem.time_value y) p d k r h
      | Value.array {a = a} {x = x} y (z → ih) ↦ λ p k r h. opened_told Machine.square (ch "[") refl y a (elements x) (rest_keys z) ih p k r
      | Value.object {a = a} {x = x} y (z → ih) ↦ λ p k r h. opened_told Machine.curly (ch "{") refl y a (members x) (rest_keys z) ih p k r
      | Rest.close {d = d} {b = b} {x = x} {w = w} y c ↦ close_told d b x w y c
      | Rest.item {d = d} {x = x} {y = y} {z = z} {w = w} {a = a} {b = b} l (i → ih) (t → jh) ↦ rest_item_told d x y z w a b (item_keys i) (after_keys t) l ih
          jh
      | After.end {d = d} {b = b} {x = x} {w = w} y c ↦ end_told d b x w y c
      | After.comma {d = d} {x = x} {y = y} {w = w} {a = a} l (t → ih) ↦ comma_told d x y w a (rest_keys t) l ih
      | Item.element {d = d} {x = x} {a = a} {m = m} (v → ih) ↦ element_told d x a m (value_keys v) ih
      | Item.member {d = d} {x = x} {c = c} {u = u} {v = v} {w = w} {a = a} {m = m} y l j (t → ih) ↦ member_told d x c u v w a m (value_keys t) y l j ih
    ]

-- ---- the whole text

pub last_follows : {a : List ℕ} → Last a → Follows EndsItem a
last_follows {a} (Last.ended w) = rw (← append-nil a) (after_layout w [] (Follows.nothing EndsItem.end))
last_follows (Last.unended {a = a} {c = c} w (CLine.c_line CBeginLine.hash x)) = after_layout w c (one_more _ EndsItem.hash (λ e. omega arith))
last_follows (Last.unended {a = a} {c = c} w (CLine.c_line CBeginLine.slashes x)) = after_layout w c (one_more _ EndsItem.slash (λ e. omega arith))

last_told : {a : List ℕ} → Last a → (p d : ℕ) (m : Meaning) → tell p (at (base (got (got_of m))) d []) a ≡ record { verdict = Ok m; heard = [] }
unfolding tell
last_told (Last.ended {a = a} w) p d m = rw (← append-nil a) (layout_told w (got (got_of m)) p d [] [] ∙ rw (valued m))
last_told (Last.unended {a = a} {c = c} w l) p d m =
    layout_told w (got (got_of m)) p d [] c ∙ rw (← append-nil c) (line_told l (got (got_of m)) (adv p a) d [] [] ∙ rw (valued m))

-- of any length
whole_told : {w a v : List ℕ} {m : Meaning} → Ws w → (x : Value true depth_limit a m) → Last v → telling (w ++ (a ++ v))
    ≡ record { verdict = Ok m; heard = heard_of (value_keys x (adv 0 w)) }
unfolding telling
whole_told {w} {a} {v} {m} l x y =
    layout_told l want 0 depth_limit [] (a ++ v)
    ∙ value_told x (adv 0 w) [] v (last_follows y)
    ∙ ap (after (heard_of (value_keys x (adv 0 w)))) (last_told y (adv (adv 0 w) a) depth_limit m)
    ∙ ap (λ (h : List Heard). record { verdict = Ok m; heard = h }) (append-nil (heard_of (value_keys x (adv 0 w))))

pub text_told : {t : List ℕ} {m : Meaning} (x : Loose true t m) → telling t ≡ record { verdict = Ok m; heard = heard_of (text_keys x) }
unfolding text_keys
text_told (Loose.text l x y h) = whole_told l x y

-- ---- the same of what is read

pub begun : (p d : ℕ) (k : List Frame) (s : Base) (b : ℕ) (t : List ℕ) (i : Machine.Item) → Machine.on_base p d k b s ≡ Machine.start p d k b i
    → read p (at (base s) d k) (b ∷ t) ≡ read p (at (item i) d k) (b ∷ t)
unfolding read
begun p d k s b t i e = ap (λ (c : Conf). read (suc p) c t) e

pub string_part_run : (z : Use) {a u : List ℕ} → StringPart true a u → (s : Base) (v : List ℕ) → StartsString z s v → (p d : ℕ) (k : List Frame) (r : List ℕ)
    → Follows PartEnds r → read p (at (base s) d k) (a ++ r) ≡ read (adv p a) (at (base (got (Got.string z (v ++ u)))) d k) r
string_part_run z x s v y p d k r h = read_alike (at_first p s) _ _ _ _ _ _ (string_part_told z x s v y p d k r h)

pub binary_run : {a u : List ℕ} → Binary a u → (p d : ℕ) (k : List Frame) (r : List ℕ) → Follows PartEnds r → read p (at (base want) d k) (a ++ r)
    ≡ read (adv p a) (at (base (got (Got.binary u))) d k) r
binary_run x p d k r h = read_alike [] _ _ _ _ _ _ (binary_told x p d k r h)

pub word_run : (b : ℕ) (t : List ℕ) (m : Meaning) → ((p d : ℕ) (k : List Frame) → Machine.on_base p d k b want ≡ Machine.start p d k b (Machine.word (b ∷ t) m))
    → (p d : ℕ) (k : List Frame) (r : List ℕ) → Follows EndsItem r → read p (at (base want) d k) ((b ∷ t) ++ r)
    ≡ read (adv p (b ∷ t)) (at (base (got (Got.value m))) d k) r
word_run b t m e p d k r h = read_alike (at_want (class_of b)) _ _ _ _ _ _ (word_told b t m e p d k r h)

pub key_run : {c u : List ℕ} → Key true c u → {v : List ℕ} → Ws v → (x : Members) (p d : ℕ) (k : List Frame) (r : List ℕ)
    → read p (at (base want_key) d (inside (members x) ∷ k)) (c ++ (v ++ (ch ":" ∷ r))) ≡ read (suc (adv (adv p c) v)) (at (base want) d (pair x u ∷ k)) r
key_run {u = u} y w x p d k r = read_alike (starts p ∷ names u ∷ []) _ _ _ _ _ _ (key_told y w x p d k r)

pub value_run : {d : ℕ} {a : List ℕ} {m : Meaning} → Value true d a m → (p : ℕ) (k : List Frame) (r : List ℕ) → Follows EndsItem r
    → read p (at (base want) d k) (a ++ r) ≡ read (adv p a) (at (base (got (got_of m))) d k) r
value_run x p k r h = read_alike (heard_of (value_keys x p)) _ _ _ _ _ _ (value_told x p k r h)

-- a value by itself, of any length
pub value_reads : {a : List ℕ} {m : Meaning} → Value true depth_limit a m → reading a ≡ Ok m
unfolding reading telling
value_reads {a} x = rw (← append-nil a) (sym (verdict_is (a ++ []) 0 _) ∙ ap (λ (z : Told). z.verdict) (whole_told Ws.none x (Last.ended Ws.none)))

pub reads : {t : List ℕ} {m : Meaning} → Loose true t m → reading t ≡ Ok m
unfolding reading telling
reads {t} x = sym (verdict_is t 0 _) ∙ ap (λ (z : Told). z.verdict) (text_told x)
