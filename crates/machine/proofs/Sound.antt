-- What the machine accepts, the grammar derives: backwards, `Comes c x t` says that t may still come at c for the text to mean x.
-- Assumes nothing.
use Prim.Native.Nat.{ℕ, zero, suc, ◌≤◌, ◌<◌}
use mathlib.Core.Path.{◌≡◌, refl, sym, ap, ◌∙◌, subst}
use mathlib.Core.Bool.{Bool, true, false}
use mathlib.Core.Logic.{◌⊎◌, inl, inr}
use mathlib.Core.Option.{Option, none, some}
use mathlib.Core.List.{List, [], ◌∷◌, ◌++◌, append_assoc, append-nil}
use native.Mathlib.Decide.{dec_lt, ℕ_discrete}
use native.Mathlib.Omega.{arith}
use lib.ListN.{length}
use Rattle.rules.specs.Rfc3629.{Octets}
use Rattle.rules.proofs.Characters.{after, split_ascii, same_head}
use Rattle.meaning.specs.Letters.{letters, ch}
use Rattle.meaning.specs.Limits.{depth_limit, text_limit}
use Rattle.meaning.specs.Meaning.{Meaning, Meanings, Members}
use Rattle.meaning.specs.declared.Refusal.{Refusal}
use Rattle.grammar.specs.Checks.{Room}
use Rattle.grammar.specs.Characters.{Many}
use Rattle.grammar.specs.Comments.{c_char, c_no_star, c_no_star_or_slash, Stars, Blank, LineEnd, CBeginLine, CLine, CBlock, Ws, Last}
use Rattle.meaning.specs.declared.Time.TheVariants.{LocalDate}
use Rattle.grammar.specs.Times.{TimeValue}
use Rattle.grammar.specs.Strings.{StringPart, Concat}
use Rattle.grammar.specs.Binary.{BValue}
use Rattle.grammar.specs.Keys.{Key}
use Rattle.grammar.specs.Values.{Inside, elements, members, Closes, Value, Rest, After, Item, Loose}
use Rattle.grammar.proofs.Utf8 as Utf8
use Rattle.grammar.proofs.Bytewise
use Rattle.machine.specs.Scan.{Out, takes, stops, breaks, over}
use Rattle.machine.specs.Machine
use Rattle.machine.specs.Machine.{Use, as_value, as_key, Got, Base, want, want_key, want_string, want_binary, got, Mode, base, line, item, Frame, inside}
use Rattle.machine.specs.Machine.{pair, Conf, at, fail, step, read, finish, reading, Verdict, Ok, No, class_of, Class, lift, scan, as_value_of, as_key_of}
use Rattle.machine.specs.Machine.{wanted}
use Rattle.machine.specs.Machine.{shut, bare_of, on_out}
use Rattle.machine.specs.Numeric
use Rattle.machine.specs.Strings
use Rattle.machine.specs.Binaries
use Rattle.machine.specs.Names
use Rattle.machine.proofs.Runs.{OutIs}
use Rattle.machine.proofs.Classes.{ClassIs, class_is_lem, opening, closing}
use Rattle.machine.proofs.Layouts.{NoteIs, note_is_lem, star_class}
use Rattle.machine.proofs.Complete.{Adds}
use Rattle.machine.proofs.Numeric.{NumericItem, NumericRest, numeric_is, Taken, numeric_taken}
use Rattle.machine.proofs.Strings.Back.{PartRest, part_is, raw_part}
use Rattle.machine.proofs.Strings.Whole.{part_of, part_cut}
use Rattle.machine.proofs.Binaries.{BinaryRest, binary_is, binary_of}
use Rattle.machine.proofs.Names.{NameRest, name_is, name_of, WordRest, word_is}

-- ---- what may come after a value, and after a key

-- after the value m, with these arrays and objects open, t ends the text with the meaning x
record On (P : Inside → List ℕ → Inside → Type 0) (Q : Inside → List ℕ → Type 0) (y : Inside) (t : List ℕ) : Type 0 where
  first : List ℕ
  rest : List ℕ
  whole : Inside
  split : t ≡ first ++ rest
  does : P y first whole
  goes : Q whole rest

abbrev Settled : List Frame → ℕ → Meaning → Meaning → List ℕ → Type 0
Settled [] d m x t = Last t × (m ≡ x)
Settled (f ∷ k) d m x t = (y : Inside) × Adds f m y × On (After true d) (λ z r. Settled k (suc d) (shut z) x r) y t

-- a value with the layout before it
record Valued (k : List Frame) (d : ℕ) (x : Meaning) (t : List ℕ) : Type 0 where
  lead : List ℕ
  body : List ℕ
  rest : List ℕ
  mean : Meaning
  split : t ≡ lead ++ (body ++ rest)
  layout : Ws lead
  value : Value true d body mean
  goes : Settled k d mean x rest

-- a colon with the layout before it, and the value of the key u
record Colon (x : Members) (u : List ℕ) (k : List Frame) (d : ℕ) (m : Meaning) (t : List ℕ) : Type 0 where
  lead : List ℕ
  rest : List ℕ
  split : t ≡ lead ++ (ch ":" ∷ rest)
  layout : Ws lead
  value : Valued (pair x u ∷ k) d m rest

abbrev Keyed : List Frame → ℕ → List ℕ → Meaning → List ℕ → Type 0
Keyed [] d u x t = ⊥
Keyed (inside (elements y) ∷ k) d u x t = ⊥
Keyed (inside (members y) ∷ k) d u x t = Colon y u k d x t
Keyed (pair y w ∷ k) d u x t = ⊥

-- more parts, each after a plus: after the bytes u, these make it w
data Joined (P : List ℕ → List ℕ → Type 0) : List ℕ → List ℕ → List ℕ → Type 0 where
  no_more : {u : List ℕ} → Joined P u [] u
  plus : {u v w b t c z : List ℕ} → Ws v → Ws w → P b t → Joined P (u ++ t) c z → Joined P u (v ++ (ch "+" ∷ (w ++ (b ++ c)))) z

record Parts (P : List ℕ → List ℕ → Type 0) (Q : List ℕ → List ℕ → Type 0) (u t : List ℕ) : Type 0 where
  first : List ℕ
  rest : List ℕ
  mean : List ℕ
  split : t ≡ first ++ rest
  does : Joined P u first mean
  goes : Q mean rest

-- after what the machine has got
abbrev AfterUse : Use → List Frame → ℕ → Meaning → List ℕ → List ℕ → Type 0
AfterUse as_value k d x u r = Settled k d (Meaning.string u) x r
AfterUse as_key k d x u r = Keyed k d u x r

abbrev GotCome : List Frame → ℕ → Got → Meaning → List ℕ → Type 0
GotCome k d (Got.value m) x t = Settled k d m x t
GotCome k d (Got.key u) x t = Keyed k d u x t
GotCome k d (Got.string z u) x t = Parts (StringPart true) (AfterUse z k d x) u t
GotCome k d (Got.binary u) x t = Parts BValue (λ w r. Settled k d (Meaning.binary w) x r) u t

-- one more part with the layout before it
record Part (P : List ℕ → List ℕ → Type 0) (Q : List ℕ → List ℕ → Type 0) (u t : List ℕ) : Type 0 where
  lead : List ℕ
  body : List ℕ
  rest : List ℕ
  mean : List ℕ
  split : t ≡ lead ++ (body ++ rest)
  layout : Ws lead
  part : P body mean
  goes : Q (u ++ mean) rest

abbrev ToCome : List Frame → ℕ → Base → Meaning → List ℕ → Type 0
ToCome [] d want x t = Valued [] d x t
ToCome (inside y ∷ k) d want x t = On (Rest true d) (λ z r. Settled k (suc d) (shut z) x r) y t
ToCome (pair y u ∷ k) d want x t = Valued (pair y u ∷ k) d x t
ToCome [] d want_key x t = ⊥
ToCome (inside y ∷ k) d want_key x t = On (Rest true d) (λ z r. Settled k (suc d) (shut z) x r) y t
ToCome (pair y u ∷ k) d want_key x t = ⊥
ToCome k d (want_string z u) x t = Part (StringPart true) (λ w r. GotCome k d (Got.string z w) x r) u t
ToCome k d (want_binary u) x t = Part BValue (λ w r. GotCome k d (Got.binary w) x r) u t
ToCome k d (got g) x t = GotCome k d g x t

-- ---- layout before each

pub lay_join : {a b : List ℕ} → Ws a → Ws b → Ws (a ++ b)
lay_join Ws.none y = y
lay_join (Ws.blank b x) y = Ws.blank b (lay_join x y)
lay_join (Ws.line {c = c} l e x) y = rw append_assoc (Ws.line l e (lay_join x y))
lay_join (Ws.block {c = c} b x) y = rw append_assoc (Ws.block b (lay_join x y))

after_pre : {g a : List ℕ} {d : ℕ} {x y : Inside} → Ws g → After true d x a y → After true d x (g ++ a) y
after_pre {g} l (After.end {d = d} {b = b} {x = x} {w = w} m c) = subst (λ (a : List ℕ). After true d x a x) (append_assoc g w (b ∷ []))
    (After.end (lay_join l m) c)
after_pre {g} l (After.comma {d = d} {x = x} {y = y} {w = w} {a = a} m r) = subst (λ (c : List ℕ). After true d x c y) (append_assoc g w (ch "," ∷ a))
    (After.comma (lay_join l m) r)

pub rest_pre : {f : Bool} {g a : List ℕ} {d : ℕ} {x y : Inside} → Ws g → Rest f d x a y → Rest f d x (g ++ a) y
rest_pre {f} {g} l (Rest.close {d = d} {b = b} {x = x} {w = w} m c) = subst (λ (a : List ℕ). Rest f d x a x) (append_assoc g w (b ∷ []))
    (Rest.close (lay_join l m) c)
rest_pre {f} {g} l (Rest.item {d = d} {x = x} {z = z} {w = w} {a = a} {b = b} m i t) =
    subst (λ (c : List ℕ). Rest f d x c z) (append_assoc g w (a ++ b)) (Rest.item (lay_join l m) i t)

last_pre : {g a : List ℕ} → Ws g → Last a → Last (g ++ a)
last_pre g (Last.ended w) = Last.ended (lay_join g w)
last_pre g (Last.unended w c) = rw append_assoc at (Last.unended (lay_join g w) c)

on_pre : {P : Inside → List ℕ → Inside → Type 0} {Q : Inside → List ℕ → Type 0} (g t : List ℕ) (y : Inside)
    → ((a : List ℕ) (z : Inside) → P y a z → P y (g ++ a) z) → On P Q y t → On P Q y (g ++ t)
on_pre g t y f h = record {
  first = g ++ h.first;
  rest = h.rest;
  whole = h.whole;
  split = rw (append_assoc, ← h.split);
  does = f h.first h.whole h.does;
  goes = h.goes;
}

settled_pre : {g : List ℕ} → Ws g → (k : List Frame) (d : ℕ) (m x : Meaning) (t : List ℕ) → Settled k d m x t → Settled k d m x (g ++ t)
settled_pre l [] d m x t h = (last_pre l h.0, h.1)
settled_pre {g} l (f ∷ k) d m x t h = (h.0, h.1, on_pre g t h.0 (λ a z. after_pre l) h.2)

valued_pre : {g : List ℕ} → Ws g → (k : List Frame) (d : ℕ) (x : Meaning) (t : List ℕ) → Valued k d x t → Valued k d x (g ++ t)
valued_pre {g} l k d x t h = record {
  lead = g ++ h.lead;
  body = h.body;
  rest = h.rest;
  mean = h.mean;
  split = rw (append_assoc, ← h.split);
  layout = lay_join l h.layout;
  value = h.value;
  goes = h.goes;
}

keyed_pre : {g : List ℕ} → Ws g → (k : List Frame) (d : ℕ) (u : List ℕ) (x : Meaning) (t : List ℕ) → Keyed k d u x t → Keyed k d u x (g ++ t)
keyed_pre l [] d u x t h = h
keyed_pre l (inside (elements y) ∷ k) d u x t h = h
keyed_pre {g} l (inside (members y) ∷ k) d u x t h = record {
  lead = g ++ h.lead;
  rest = h.rest;
  split = rw (append_assoc, ← h.split);
  layout = lay_join l h.layout;
  value = h.value;
}
keyed_pre l (pair y w ∷ k) d u x t h = h

joined_pre : {P Q : List ℕ → List ℕ → Type 0} {g u a m : List ℕ} → Ws g → ((u r : List ℕ) → Q u r → Q u (g ++ r)) → (t r : List ℕ) → Joined P u a m → t ≡ a ++ r
    → Q m r → Parts P Q u (g ++ t)
joined_pre {g = g} l f t r (Joined.no_more {u = u}) e q = record { first = []; rest = g ++ r; mean = u; split = rw e; does = Joined.no_more; goes = f u r q }
joined_pre {g = g} l f t r (Joined.plus {v = v} {w = w} {b = b} {c = c} {z = z} x y part j) e q =
    record {
      first = (g ++ v) ++ (ch "+" ∷ (w ++ (b ++ c)));
      rest = r;
      mean = z;
      split = rw e (simp append_assoc);
      does = Joined.plus (lay_join l x) y part j;
      goes = q;
    }

parts_pre : {P Q : List ℕ → List ℕ → Type 0} {g : List ℕ} → Ws g → ((u r : List ℕ) → Q u r → Q u (g ++ r)) → (u t : List ℕ) → Parts P Q u t
    → Parts P Q u (g ++ t)
parts_pre l f u t h = joined_pre l f t h.rest h.does h.split h.goes

part_pre : {P Q : List ℕ → List ℕ → Type 0} {g : List ℕ} → Ws g → (u t : List ℕ) → Part P Q u t → Part P Q u (g ++ t)
part_pre {g = g} l u t h = record {
  lead = g ++ h.lead;
  body = h.body;
  rest = h.rest;
  mean = h.mean;
  split = rw (append_assoc, ← h.split);
  layout = lay_join l h.layout;
  part = h.part;
  goes = h.goes;
}

use_pre : {g : List ℕ} → Ws g → (z : Use) (k : List Frame) (d : ℕ) (x : Meaning) (u r : List ℕ) → AfterUse z k d x u r → AfterUse z k d x u (g ++ r)
use_pre l as_value k d x u r h = settled_pre l k d (Meaning.string u) x r h
use_pre l as_key k d x u r h = keyed_pre l k d u x r h

got_pre : {g : List ℕ} → Ws g → (k : List Frame) (d : ℕ) (y : Got) (x : Meaning) (t : List ℕ) → GotCome k d y x t → GotCome k d y x (g ++ t)
got_pre l k d (Got.value m) x t h = settled_pre l k d m x t h
got_pre l k d (Got.key u) x t h = keyed_pre l k d u x t h
got_pre l k d (Got.string z u) x t h = parts_pre l (use_pre l z k d x) u t h
got_pre l k d (Got.binary u) x t h = parts_pre l (λ w r q. settled_pre l k d (Meaning.binary w) x r q) u t h

pre : {g : List ℕ} → Ws g → (k : List Frame) (d : ℕ) (s : Base) (x : Meaning) (t : List ℕ) → ToCome k d s x t → ToCome k d s x (g ++ t)
pre l [] d want x t h = valued_pre l [] d x t h
pre {g} l (inside y ∷ k) d want x t h = on_pre g t y (λ a z. rest_pre l) h
pre l (pair y u ∷ k) d want x t h = valued_pre l (pair y u ∷ k) d x t h
pre l [] d want_key x t h = h
pre {g} l (inside y ∷ k) d want_key x t h = on_pre g t y (λ a z. rest_pre l) h
pre l (pair y u ∷ k) d want_key x t h = h
pre l k d (want_string z u) x t h = part_pre l u t h
pre l k d (want_binary u) x t h = part_pre l u t h
pre l k d (got y) x t h = got_pre l k d y x t h

-- ---- what may come at each configuration

-- at a base, in UTF-8
abbrev BaseCome : List Frame → ℕ → Base → Meaning → List ℕ → Type 0
BaseCome k d s x t = Octets t → ToCome k d s x t

-- the text may end here
abbrev Ended : List Frame → Base → Meaning → Type 0
Ended k want x = ⊥
Ended k want_key x = ⊥
Ended k (want_string z u) x = ⊥
Ended k (want_binary u) x = ⊥
Ended [] (got g) x = as_value_of g ≡ some x
Ended (f ∷ k) (got g) x = ⊥

record LineEnds (k : List Frame) (d : ℕ) (s : Base) (x : Meaning) (t : List ℕ) : Type 0 where
  body : List ℕ
  last : ℕ
  rest : List ℕ
  split : t ≡ body ++ (last ∷ rest)
  chars : Many (Bytewise.Byte c_char) body
  ends : LineEnd last
  goes : BaseCome k d s x rest

abbrev LineCome : List Frame → ℕ → Base → Meaning → List ℕ → Type 0
LineCome k d s x t = LineEnds k d s x t ⊎ (Many (Bytewise.Byte c_char) t × Ended k s x)

record BlockCome (k : List Frame) (d : ℕ) (s : Base) (x : Meaning) (t : List ℕ) : Type 0 where
  inner : List ℕ
  stars : List ℕ
  rest : List ℕ
  split : t ≡ inner ++ (stars ++ (ch "/" ∷ rest))
  chars : Many Bytewise.InnerByte inner
  closing : Stars stars
  goes : BaseCome k d s x rest

abbrev SlashCome : List Frame → ℕ → Base → Meaning → List ℕ → Type 0
SlashCome k d s x t = ((r : List ℕ) × (t ≡ ch "/" ∷ r) × LineCome k d s x r) ⊎ ((r : List ℕ) × (t ≡ ch "*" ∷ r) × BlockCome k d s x r)

-- an item's bytes and what it gives
abbrev ItemRest : Machine.Item → List ℕ → Got → Type 0
ItemRest (Machine.word w m) a g = (v : Unit {0}) × WordRest w a v × (g ≡ Got.value m)
ItemRest (Machine.numeric s) a g = (m : Meaning) × NumericRest true s a m × (g ≡ Got.value m)
ItemRest (Machine.string_part z u s) a g = (v : List ℕ) × PartRest s a v × (g ≡ Got.string z (u ++ v))
ItemRest (Machine.binary_part u s) a g = (v : List ℕ) × BinaryRest s a v × (g ≡ Got.binary (u ++ v))
ItemRest (Machine.identifier s) a g = (v : List ℕ) × NameRest s a v × (g ≡ Got.key v)

record ItemCome (k : List Frame) (d : ℕ) (i : Machine.Item) (x : Meaning) (t : List ℕ) : Type 0 where
  first : List ℕ
  rest : List ℕ
  gives : Got
  split : t ≡ first ++ rest
  does : ItemRest i first gives
  goes : BaseCome k d (got gives) x rest

abbrev Comes : Conf → Meaning → List ℕ → Type 0
Comes (fail r) x t = ⊥
Comes (at (base s) d k) x t = BaseCome k d s x t
Comes (at (Machine.slash s) d k) x t = SlashCome k d s x t
Comes (at (line s) d k) x t = LineCome k d s x t
Comes (at (Machine.block s) d k) x t = BlockCome k d s x t
Comes (at (Machine.star s) d k) x t = BlockCome k d s x (ch "*" ∷ t)
Comes (at (item i) d k) x t = ItemCome k d i x t

-- ---- layout, backwards

-- layout in front of a base
laid : {g : List ℕ} → Ws g → (k : List Frame) (d : ℕ) (s : Base) (x : Meaning) (t : List ℕ) → BaseCome k d s x t → BaseCome k d s x (g ++ t)
laid l k d s x t h o = pre l k d s x t (h (after (Utf8.ws l) t o))

pub blank_of : (b : ℕ) → ClassIs b Machine.blank_c → Blank b
blank_of b y = go (ℕ_discrete b (ch "\t")) (ℕ_discrete b (ch "\n")) (ℕ_discrete b (ch "\r"))
  where
    go : Dec (b ≡ ch "\t") → Dec (b ≡ ch "\n") → Dec (b ≡ ch "\r") → Blank b
    go (yes e) q r = rw e Blank.tab
    go (no f) (yes e) r = rw e Blank.line_feed
    go (no f) (no g) (yes e) = rw e Blank.carriage_return
    go (no f) (no g) (no h) = rw (y.1 f g h) Blank.space

blank_laid : (b : ℕ) → ClassIs b Machine.blank_c → (k : List Frame) (d : ℕ) (s : Base) (x : Meaning) (t : List ℕ) → BaseCome k d s x t
    → BaseCome k d s x (b ∷ t)
blank_laid b y k d s x t h = laid (Ws.blank (blank_of b y) Ws.none) k d s x t h

pub end_low : {b : ℕ} → LineEnd b → b < 0x80
end_low LineEnd.line_feed = omega arith
end_low LineEnd.carriage_return = omega arith

pub begin_octets : {b : List ℕ} → CBeginLine b → (t : List ℕ) → Octets (b ++ t) → Octets t
begin_octets CBeginLine.hash t o = Bytewise.behind (ch "#") t (omega arith) o
begin_octets CBeginLine.slashes t o = Bytewise.behind (ch "/") t (omega arith) (Bytewise.behind (ch "/") (ch "/" ∷ t) (omega arith) o)

-- a text that may end may end in a comment
ended_come : (k : List Frame) (d : ℕ) (s : Base) (x : Meaning) (t : List ℕ) → Ended k s x → Last t → ToCome k d s x t
ended_come k d want x t e l = absurd e
ended_come k d want_key x t e l = absurd e
ended_come k d (want_string z u) x t e l = absurd e
ended_come k d (want_binary u) x t e l = absurd e
ended_come (f ∷ k) d (got g) x t e l = absurd e
ended_come [] d (got (Got.value m)) x t e l = (l, cc)
ended_come [] d (got (Got.key u)) x t e l = absurd (none_some e)
  where
    none_some : ◌≡◌ {A = Option Meaning} none (some x) → ⊥
    none_some f = let z : ◌≡◌ {A = ℕ} 0 1 = cc in omega arith
ended_come [] d (got (Got.string as_value u)) x t e l = record { first = []; rest = t; mean = u; split = refl; does = Joined.no_more; goes = (l, cc) }
ended_come [] d (got (Got.string as_key u)) x t e l = absurd (none_some e)
  where
    none_some : ◌≡◌ {A = Option Meaning} none (some x) → ⊥
    none_some f = let z : ◌≡◌ {A = ℕ} 0 1 = cc in omega arith
ended_come [] d (got (Got.binary u)) x t e l = record { first = []; rest = t; mean = u; split = refl; does = Joined.no_more; goes = (l, cc) }

back_line : {b : List ℕ} → CBeginLine b → (k : List Frame) (d : ℕ) (s : Base) (x : Meaning) (t : List ℕ) → LineCome k d s x t → BaseCome k d s x (b ++ t)
back_line {b} y k d s x t (inl h) o =
    let q = begin_octets y t o in
    let r = subst Octets h.split q in
    let c : Octets h.body = split_ascii r h.body h.last h.rest (end_low h.ends) refl in
    let v : Octets h.rest = Bytewise.behind h.last h.rest (end_low h.ends) (after c (h.last ∷ h.rest) r) in
    let l : CLine (b ++ h.body) = CLine.c_line y (Bytewise.line_chars h.chars c) in
    subst (ToCome k d s x) (append_assoc (b ++ h.body) (h.last ∷ []) h.rest ∙ append_assoc b h.body (h.last ∷ h.rest)
    ∙ ap (λ (a : List ℕ). b ++ a) (sym h.split))
    (pre (Ws.line l h.ends Ws.none) k d s x h.rest (h.goes v))
back_line {b} y k d s x t (inr h) o = ended_come k d s x (b ++ t) h.1 (Last.unended Ws.none
    (CLine.c_line y (Bytewise.line_chars h.0 (begin_octets y t o))))

pub stars_octets : {z : List ℕ} → Stars z → Octets z
stars_octets Stars.one = Utf8.literal (letters "*") tt
stars_octets (Stars.more z) = Utf8.ascii (omega arith) (stars_octets z)

pub stars_first : {z : List ℕ} → Stars z → (y : List ℕ) × (z ≡ ch "*" ∷ y)
stars_first Stars.one = ([], refl)
stars_first (Stars.more {s = s} z) = (s, refl)

back_block : (k : List Frame) (d : ℕ) (s : Base) (x : Meaning) (t : List ℕ) → BlockCome k d s x t → BaseCome k d s x (letters "/*" ++ t)
back_block k d s x t h o =
    let q : Octets t = Bytewise.behind (ch "*") t (omega arith) (Bytewise.behind (ch "/") (ch "*" ∷ t) (omega arith) o) in
    let r = subst Octets h.split q in
    let f = stars_first h.closing in
    let c : Octets h.inner = split_ascii r h.inner (ch "*") (f.0 ++ (ch "/" ∷ h.rest)) (omega arith)
    (ap (λ (a : List ℕ). h.inner ++ (a ++ (ch "/" ∷ h.rest))) f.1) in
    let v : Octets h.rest = Bytewise.behind (ch "/") h.rest (omega arith) (after (stars_octets h.closing) (ch "/" ∷ h.rest)
    (after c (h.stars ++ (ch "/" ∷ h.rest)) r)) in
    let l : CBlock (letters "/*" ++ (h.inner ++ (h.stars ++ letters "/"))) = CBlock.c_block (Bytewise.block_inner h.chars c) h.closing in
    let e : (letters "/*" ++ (h.inner ++ (h.stars ++ letters "/")) ++ []) ++ h.rest ≡ letters "/*" ++ t = rw h.split (simp (append_assoc, append-nil)) in
    subst (ToCome k d s x) e (pre (Ws.block l Ws.none) k d s x h.rest (h.goes v))

-- ---- bytes of comments

pub line_byte_lem : (b : ℕ) → (b < 0x20 → b ≡ ch "\t") → Bytewise.Byte c_char (b ∷ [])
line_byte_lem b h = Bytewise.Byte.byte (go (dec_lt b 0x80) (dec_lt b 0x20))
  where
    go : Dec (b < 0x80) → Dec (b < 0x20) → Bytewise.Raw c_char b
    go (no f) q = inr (omega arith)
    go (yes l) (yes e) = let z = h e in inl (l, inl (omega arith))
    go (yes l) (no e) = inl (l, inr (inl (omega arith)))

pub no_star_byte : (b : ℕ) → (b < 0x20 → (b ≡ ch "\t" → ⊥) → (b ≡ ch "\n" → ⊥) → b ≡ ch "\r") → (b ≡ ch "*" → ⊥) → Bytewise.Byte c_no_star (b ∷ [])
no_star_byte b h f = Bytewise.Byte.byte (go (dec_lt b 0x80) (dec_lt b 0x20) (ℕ_discrete b (ch "\t")) (ℕ_discrete b (ch "\n")) (dec_lt b (ch "*")))
  where
    go : Dec (b < 0x80) → Dec (b < 0x20) → Dec (b ≡ ch "\t") → Dec (b ≡ ch "\n") → Dec (b < ch "*") → Bytewise.Raw c_no_star b
    go (no l) a q r w = inr (omega arith)
    go (yes l) (yes a) (yes e) r w = inl (l, inl (omega arith))
    go (yes l) (yes a) (no e) (yes g) w = inl (l, inr (inl (omega arith)))
    go (yes l) (yes a) (no e) (no g) w = let z = h a e g in inl (l, inr (inr (inl (omega arith))))
    go (yes l) (no a) q r (yes w) = inl (l, inr (inr (inr (inl (omega arith)))))
    go (yes l) (no a) q r (no w) = inl (l, inr (inr (inr (inr (inl (omega arith))))))

pub no_slash_byte : (b : ℕ) → (b < 0x20 → (b ≡ ch "\t" → ⊥) → (b ≡ ch "\n" → ⊥) → b ≡ ch "\r") → (b ≡ ch "*" → ⊥) → (b ≡ ch "/" → ⊥)
    → Bytewise.Byte c_no_star_or_slash (b ∷ [])
no_slash_byte b h f g = Bytewise.Byte.byte (go (dec_lt b 0x80) (dec_lt b 0x20) (ℕ_discrete b (ch "\t")) (ℕ_discrete b (ch "\n")) (dec_lt b (ch "*"))
    (dec_lt b (ch "/")))
  where
    go : Dec (b < 0x80) → Dec (b < 0x20) → Dec (b ≡ ch "\t") → Dec (b ≡ ch "\n") → Dec (b < ch "*") → Dec (b < ch "/") → Bytewise.Raw c_no_star_or_slash b
    go (no l) a q r w v = inr (omega arith)
    go (yes l) (yes a) (yes e) r w v = inl (l, inl (omega arith))
    go (yes l) (yes a) (no e) (yes i) w v = inl (l, inr (inl (omega arith)))
    go (yes l) (yes a) (no e) (no i) w v = let z = h a e i in inl (l, inr (inr (inl (omega arith))))
    go (yes l) (no a) q r (yes w) v = inl (l, inr (inr (inr (inl (omega arith)))))
    go (yes l) (no a) q r (no w) (yes v) = inl (l, inr (inr (inr (inr (inl (omega arith))))))
    go (yes l) (no a) q r (no w) (no v) = inl (l, inr (inr (inr (inr (inr (inl (omega arith)))))))

pub line_end_of : (b : ℕ) → NoteIs b Machine.line_end → LineEnd b
line_end_of b y = go (ℕ_discrete b (ch "\n"))
  where
    go : Dec (b ≡ ch "\n") → LineEnd b
    go (yes e) = rw e LineEnd.line_feed
    go (no f) = rw (y.2 f) LineEnd.carriage_return

line_more : (b : ℕ) → (b < 0x20 → b ≡ ch "\t") → (k : List Frame) (d : ℕ) (s : Base) (x : Meaning) (t : List ℕ) → LineCome k d s x t → LineCome k d s x (b ∷ t)
line_more b l k d s x t (inl h) = inl (record {
  body = b ∷ h.body;
  last = h.last;
  rest = h.rest;
  split = rw h.split;
  chars = Many.more (line_byte_lem b l) h.chars;
  ends = h.ends;
  goes = h.goes;
})
line_more b l k d s x t (inr h) = inr (Many.more (line_byte_lem b l) h.0, h.1)

block_more : (c : List ℕ) → Bytewise.InnerByte c → (k : List Frame) (d : ℕ) (s : Base) (x : Meaning) (t : List ℕ) → BlockCome k d s x t
    → BlockCome k d s x (c ++ t)
block_more c y k d s x t h =
    record {
      inner = c ++ h.inner;
      stars = h.stars;
      rest = h.rest;
      split = rw (append_assoc, ← h.split);
      chars = Many.more y h.chars;
      closing = h.closing;
      goes = h.goes;
    }

-- one star more before a star
star_again : {a : List ℕ} → Many Bytewise.InnerByte a → (k : List Frame) (d : ℕ) (s : Base) (x : Meaning) (z r t : List ℕ) → Stars z → ch "*" ∷ t ≡ a
    ++ (z ++ (ch "/" ∷ r)) → BaseCome k d s x r → BlockCome k d s x (ch "*" ∷ ch "*" ∷ t)
star_again Many.none k d s x z r t y e h = record {
  inner = [];
  stars = ch "*" ∷ z;
  rest = r;
  split = ap (λ (c : List ℕ). ch "*" ∷ c) e;
  chars = Many.none;
  closing = Stars.more y;
  goes = h;
}
star_again (Many.more (Bytewise.InnerByte.no_star (Bytewise.Byte.byte {b = b} (inl w))) m) k d s x z r t y e h =
    absurd ((star_class b w.1).1 (sym (same_head e)))
star_again (Many.more (Bytewise.InnerByte.no_star (Bytewise.Byte.byte {b = b} (inr w))) m) k d s x z r t y e h = absurd (omega (arith, same_head e))
star_again (Many.more {a = a} (Bytewise.InnerByte.stars {s = v} {c = c} st w) m) k d s x z r t y e h =
    record {
      inner = (ch "*" ∷ (v ++ c)) ++ a;
      stars = z;
      rest = r;
      split = ap (λ (c : List ℕ). ch "*" ∷ c) e;
      chars = Many.more (Bytewise.InnerByte.stars (Stars.more st) w) m;
      closing = y;
      goes = h;
    }

module _ (p d : ℕ) (k : List Frame) (s : Base) (b : ℕ) (x : Meaning) (t : List ℕ) where
  back_in_slash : (n : Machine.Note) → NoteIs b n → Comes (Machine.on_slash p d k s n) x t → SlashCome k d s x (b ∷ t)
  back_in_slash Machine.slash_n y h = inl (t, rw y, h)
  back_in_slash Machine.star_n y h = inr (t, rw y, h)
  back_in_slash Machine.line_end y h = absurd h
  back_in_slash Machine.plain_n y h = absurd h
  back_in_slash Machine.control_n y h = absurd h

  back_in_line : (n : Machine.Note) → NoteIs b n → Comes (Machine.on_line p d k s n) x t → LineCome k d s x (b ∷ t)
  back_in_line Machine.line_end y h = inl (record { body = []; last = b; rest = t; split = refl; chars = Many.none; ends = line_end_of b y; goes = h })
  back_in_line Machine.control_n y h = absurd h
  back_in_line Machine.slash_n y h = line_more b (λ l. absurd (omega arith)) k d s x t h
  back_in_line Machine.star_n y h = line_more b (λ l. absurd (omega arith)) k d s x t h
  back_in_line Machine.plain_n y h = line_more b y.0 k d s x t h

  back_in_block : (n : Machine.Note) → NoteIs b n → Comes (Machine.on_block p d k s n) x t → BlockCome k d s x (b ∷ t)
  back_in_block Machine.star_n y h = rw y h
  back_in_block Machine.control_n y h = absurd h
  back_in_block Machine.slash_n y h = block_more (b ∷ []) (Bytewise.InnerByte.no_star (no_star_byte b (λ l. absurd (omega arith)) (λ e. omega arith))) k d s x t
      h
  back_in_block Machine.line_end y h = block_more (b ∷ []) (Bytewise.InnerByte.no_star (no_star_byte b (λ l f g. y.2 g) (λ e. omega arith))) k d s x t h
  back_in_block Machine.plain_n y h = block_more (b ∷ []) (Bytewise.InnerByte.no_star (no_star_byte b (λ l f g. absurd (f (y.0 l))) y.1)) k d s x t h

  back_in_star : (n : Machine.Note) → NoteIs b n → Comes (Machine.on_star p d k s n) x t → BlockCome k d s x (ch "*" ∷ b ∷ t)
  back_in_star Machine.slash_n y h = record { inner = []; stars = letters "*"; rest = t; split = rw y; chars = Many.none; closing = Stars.one; goes = h }
  back_in_star Machine.star_n y h = rw y (star_again h.chars k d s x h.stars h.rest t h.closing h.split h.goes)
  back_in_star Machine.control_n y h = absurd h
  back_in_star Machine.line_end y h = block_more (ch "*" ∷ b ∷ []) (Bytewise.InnerByte.stars Stars.one
      (no_slash_byte b (λ l f g. y.2 g) (λ e. omega arith) (λ e. omega arith))) k d s x t h
  back_in_star Machine.plain_n y h = block_more (ch "*" ∷ b ∷ []) (Bytewise.InnerByte.stars Stars.one
      (no_slash_byte b (λ l f g. absurd (f (y.0 l))) y.1 y.2)) k d s x t h

  back_hash : b ≡ ch "#" → LineCome k d s x t → BaseCome k d s x (b ∷ t)
  back_hash e h = rw e (back_line CBeginLine.hash k d s x t h)

  back_slash : b ≡ ch "/" → SlashCome k d s x t → BaseCome k d s x (b ∷ t)
  back_slash e (inl h) = rw (e, h.1) (back_line CBeginLine.slashes k d s x h.0 h.2)
  back_slash e (inr h) = rw (e, h.1) (back_block k d s x h.0 h.2)

-- ---- values and keys where they are wanted

value_then : (k : List Frame) (d : ℕ) (a : List ℕ) (m x : Meaning) (r t : List ℕ) → t ≡ a ++ r → Value true d a m → Settled k d m x r → ToCome k d want x t
value_then [] d a m x r t e v h = record { lead = []; body = a; rest = r; mean = m; split = e; layout = Ws.none; value = v; goes = h }
value_then (inside (elements y) ∷ k) d a m x r t e v h = go h.0 h.1 h.2
  where
    go : (z : Inside) → Adds (inside (elements y)) m z → On (After true d) (λ z r. Settled k (suc d) (shut z) x r) z r
        → On (Rest true d) (λ z r. Settled k (suc d) (shut z) x r) (elements y) t
    go z Adds.element q = record {
      first = a ++ q.first;
      rest = q.rest;
      whole = q.whole;
      split = rw (append_assoc, ← q.split) e;
      does = Rest.item Ws.none (Item.element v) q.does;
      goes = q.goes;
    }
value_then (inside (members y) ∷ k) d a m x r t e v h = absurd (none_adds h.1)
  where
    none_adds : {z : Inside} → Adds (inside (members y)) m z → ⊥
    none_adds = elim [ ]
value_then (pair y u ∷ k) d a m x r t e v h = record { lead = []; body = a; rest = r; mean = m; split = e; layout = Ws.none; value = v; goes = h }

key_then : (k : List Frame) (d : ℕ) (c u : List ℕ) (x : Meaning) (r t : List ℕ) → t ≡ c ++ r → Key true c u → Keyed k d u x r → ToCome k d want_key x t
key_then [] d c u x r t e v h = h
key_then (inside (elements y) ∷ k) d c u x r t e v h = absurd h
key_then (inside (members y) ∷ k) d c u x r t e v h = go h.value.goes.0 h.value.goes.1 h.value.goes.2
  where
    go : (z : Inside) → Adds (pair y u) h.value.mean z → On (After true d) (λ z r. Settled k (suc d) (shut z) x r) z h.value.rest
        → On (Rest true d) (λ z r. Settled k (suc d) (shut z) x r) (members y) t
    go z Adds.member q =
        record {
          first = (c ++ (h.lead ++ (ch ":" ∷ (h.value.lead ++ h.value.body)))) ++ q.first;
          rest = q.rest;
          whole = q.whole;
          split = e ∙ ap (λ (a : List ℕ). c ++ a) (h.split ∙ ap (λ (a : List ℕ). h.lead ++ (ch ":" ∷ a))
              (h.value.split ∙ ap (λ (a : List ℕ). h.value.lead ++ (h.value.body ++ a)) q.split)) ∙ simp append_assoc;
          does = Rest.item Ws.none (Item.member v h.layout h.value.layout h.value.value) q.does;
          goes = q.goes;
        }
key_then (pair y w ∷ k) d c u x r t e v h = h

-- a part and the parts after it are a string, or a binary
record Concats (P : List ℕ → List ℕ → Type 0) (a v w : List ℕ) : Type 0 where
  mean : List ℕ
  whole : Concat P a mean
  is : w ≡ v ++ mean

concats : (P : List ℕ → List ℕ → Type 0) (a t : List ℕ) {s c w : List ℕ} (v : List ℕ) → P a t → Joined P s c w → s ≡ v ++ t → Concats P (a ++ c) v w
concats P a t v p Joined.no_more e = record { mean = t; whole = rw (append-nil a) (Concat.part p); is = e }
concats P a t v p (Joined.plus {v = y} {w = z} {b = b} {t = u} {c = c} l m q j) e =
    let r = concats P b u (v ++ t) q j (ap (λ (k : List ℕ). k ++ u) e) in
    record {
      mean = t ++ r.mean;
      whole = Concat.plus p l m r.whole;
      is = r.is ∙ append_assoc v t r.mean;
    }

-- ---- items, backwards

module _ {S M : Type 0} (Sub : S → List ℕ → M → Type 0) (f : S → Machine.Item) (g : M → Got)
    (same : (s : S) (a : List ℕ) (y : Got) (v : M) → Sub s a v → y ≡ g v → ItemRest (f s) a y)
    (open_up : (s : S) (a : List ℕ) (y : Got) → ItemRest (f s) a y → (v : M) × Sub s a v × (y ≡ g v)) where
  lifted : (s : S) (b : ℕ) (o : Out S M) → OutIs Sub s b o → OutIs ItemRest (f s) b (lift f g o)
  lifted s b (takes s') h = λ a y r. let w = open_up s' a y r in same s (b ∷ a) y w.0 (h a w.0 w.1) w.2
  lifted s b (stops v) h = same s [] (g v) v h refl
  lifted s b (breaks r) h = tt

item_is : (p : ℕ) (i : Machine.Item) (b : ℕ) → OutIs ItemRest i b (scan p i b)
item_is p (Machine.word w m) b = lifted WordRest (λ a. Machine.word a m) (λ v. Got.value m) (λ s a y v r e. (v, r, e)) (λ s a y r. r) w b
    (Names.word_scan p w b)
    (word_is p w b)
item_is p (Machine.numeric s) b = lifted (NumericRest true) Machine.numeric Got.value (λ s a y v r e. (v, r, e)) (λ s a y r. r) s b (Numeric.scan p s b)
    (numeric_is true p s b)
item_is p (Machine.string_part z u s) b = lifted PartRest (Machine.string_part z u) (λ v. Got.string z (u ++ v)) (λ s a y v r e. (v, r, e)) (λ s a y r. r) s b
    (Strings.scan p s b) (part_is p s b)
item_is p (Machine.binary_part u s) b = lifted BinaryRest (Machine.binary_part u) (λ v. Got.binary (u ++ v)) (λ s a y v r e. (v, r, e)) (λ s a y r. r) s b
    (Binaries.scan p s b) (binary_is p s b)
item_is p (Machine.identifier s) b = lifted NameRest Machine.identifier Got.key (λ s a y v r e. (v, r, e)) (λ s a y r. r) s b (Names.scan p s b) (name_is p s b)

-- ---- a comma, a closing bracket, a colon and a plus, backwards

comma_back : (p d : ℕ) (k : List Frame) (b : ℕ) (m x : Meaning) (t : List ℕ) → b ≡ ch "," → Octets t → Comes (Machine.comma_after p d k m) x t
    → Settled k d m x (b ∷ t)
comma_back p d [] b m x t e o h = absurd h
comma_back p d (inside (elements y) ∷ k) b m x t e o h =
    let q = h o in (
      elements (Meanings.more y m),
      Adds.element,
      record {
        first = ch "," ∷ q.first;
        rest = q.rest;
        whole = q.whole;
        split = rw (e, ← q.split);
        does = After.comma Ws.none q.does;
        goes = q.goes;
      },
    )
comma_back p d (inside (members y) ∷ k) b m x t e o h = absurd h
comma_back p d (pair y u ∷ k) b m x t e o h =
    let q = h o in (
      members (Members.member y u m),
      Adds.member,
      record {
        first = ch "," ∷ q.first;
        rest = q.rest;
        whole = q.whole;
        split = rw (e, ← q.split);
        does = After.comma Ws.none q.does;
        goes = q.goes;
      },
    )

-- the closing bracket of y
closed_back : (p d : ℕ) (k : List Frame) (b : ℕ) (c : Machine.Bracket) (y : Inside) (x : Meaning) (t : List ℕ) → b ≡ closing c → Octets t
    → Comes (Machine.closed p d k c y) x t → Closes y b × Settled k (suc d) (shut y) x t
closed_back p d k b Machine.square (elements y) x t e o h = (rw e Closes.bracket, h o)
closed_back p d k b Machine.square (members y) x t e o h = absurd h
closed_back p d k b Machine.curly (elements y) x t e o h = absurd h
closed_back p d k b Machine.curly (members y) x t e o h = (rw e Closes.brace, h o)

close_back : (p d : ℕ) (k : List Frame) (b : ℕ) (c : Machine.Bracket) (m x : Meaning) (t : List ℕ) → b ≡ closing c → Octets t
    → Comes (Machine.close_after p d c k m) x t → Settled k d m x (b ∷ t)
close_back p d [] b c m x t e o h = absurd h
close_back p d (inside (elements y) ∷ k) b c m x t e o h =
    let q = closed_back p d k b c (elements (Meanings.more y m)) x t e o h in (
      elements (Meanings.more y m),
      Adds.element,
      record {
        first = b ∷ [];
        rest = t;
        whole = elements (Meanings.more y m);
        split = refl;
        does = After.end Ws.none q.0;
        goes = q.1;
      },
    )
close_back p d (inside (members y) ∷ k) b c m x t e o h = absurd h
close_back p d (pair y u ∷ k) b c m x t e o h =
    let q = closed_back p d k b c (members (Members.member y u m)) x t e o h in (
      members (Members.member y u m),
      Adds.member,
      record {
        first = b ∷ [];
        rest = t;
        whole = members (Members.member y u m);
        split = refl;
        does = After.end Ws.none q.0;
        goes = q.1;
      },
    )

colon_back : (p d : ℕ) (k : List Frame) (b : ℕ) (u : List ℕ) (x : Meaning) (t : List ℕ) → b ≡ ch ":" → Octets t → Comes (Machine.colon_after p d k u) x t
    → Keyed k d u x (b ∷ t)
colon_back p d [] b u x t e o h = absurd h
colon_back p d (inside (elements y) ∷ k) b u x t e o h = absurd h
colon_back p d (inside (members y) ∷ k) b u x t e o h = record { lead = []; rest = t; split = rw e; layout = Ws.none; value = h o }
colon_back p d (pair y w ∷ k) b u x t e o h = absurd h

-- nothing more is joined
alone : {P Q : List ℕ → List ℕ → Type 0} (u t : List ℕ) → Q u t → Parts P Q u t
alone u t q = record { first = []; rest = t; mean = u; split = refl; does = Joined.no_more; goes = q }

-- one part more after a plus
plus_back : {P Q : List ℕ → List ℕ → Type 0} (b : ℕ) (u t : List ℕ) → b ≡ ch "+" → Part P (λ w r. Parts P Q w r) u t → Parts P Q u (b ∷ t)
plus_back b u t e h =
    record {
      first = ch "+" ∷ (h.lead ++ (h.body ++ h.goes.first));
      rest = h.goes.rest;
      mean = h.goes.mean;
      split = rw e (ap (λ (a : List ℕ). ch "+" ∷ a) (h.split ∙ ap (λ (a : List ℕ). h.lead ++ (h.body ++ a)) h.goes.split ∙ simp append_assoc));
      does = Joined.plus Ws.none h.layout h.part h.goes.does;
      goes = h.goes.goes;
    }

need_value_lem : (p d : ℕ) (k : List Frame) (g : Got) (b : ℕ) (x : Meaning) (t : List ℕ) (f : Meaning → Conf)
    → ((m : Meaning) → Comes (f m) x t → Settled k d m x (b ∷ t)) → Comes (Machine.need_value p f (as_value_of g)) x t → GotCome k d g x (b ∷ t)
need_value_lem p d k (Got.value m) b x t f n h = n m h
need_value_lem p d k (Got.key u) b x t f n h = absurd h
need_value_lem p d k (Got.string as_value u) b x t f n h = alone u (b ∷ t) (n (Meaning.string u) h)
need_value_lem p d k (Got.string as_key u) b x t f n h = absurd h
need_value_lem p d k (Got.binary u) b x t f n h = alone u (b ∷ t) (n (Meaning.binary u) h)

need_key_lem : (p d : ℕ) (k : List Frame) (g : Got) (b : ℕ) (x : Meaning) (t : List ℕ) (f : List ℕ → Conf)
    → ((u : List ℕ) → Comes (f u) x t → Keyed k d u x (b ∷ t)) → Comes (Machine.need_key p f (as_key_of g)) x t → GotCome k d g x (b ∷ t)
need_key_lem p d k (Got.value m) b x t f n h = absurd h
need_key_lem p d k (Got.key u) b x t f n h = n u h
need_key_lem p d k (Got.string as_value u) b x t f n h = absurd h
need_key_lem p d k (Got.string as_key u) b x t f n h = alone u (b ∷ t) (n u h)
need_key_lem p d k (Got.binary u) b x t f n h = absurd h

got_plus : (p d : ℕ) (k : List Frame) (g : Got) (b : ℕ) (x : Meaning) (t : List ℕ) → b ≡ ch "+" → Octets t → Comes (Machine.plus_after p d k g) x t
    → GotCome k d g x (b ∷ t)
got_plus p d k (Got.value m) b x t e o h = absurd h
got_plus p d k (Got.key u) b x t e o h = absurd h
got_plus p d k (Got.string z u) b x t e o h = plus_back b u t e (h o)
got_plus p d k (Got.binary u) b x t e o h = plus_back b u t e (h o)

back_got : (p d : ℕ) (k : List Frame) (g : Got) (b : ℕ) (x : Meaning) (t : List ℕ) (c : Class) → ClassIs b c → Comes (Machine.on_got p d k g c) x t
    → BaseCome k d (got g) x (b ∷ t)
back_got p d k g b x t Machine.blank_c y h = blank_laid b y k d (got g) x t h
back_got p d k g b x t Machine.hash_c y h = back_hash p d k (got g) b x t y h
back_got p d k g b x t Machine.slash_c y h = back_slash p d k (got g) b x t y h
back_got p d k g b x t Machine.comma_c y h = λ o. need_value_lem p d k g b x t _ (λ m. comma_back p d k b m x t y (Bytewise.behind b t (omega arith) o)) h
back_got p d k g b x t (Machine.close_c c) y h = λ o. need_value_lem p d k g b x t _
    (λ m. close_back p d k b c m x t y (Bytewise.behind b t (closing_low b c y) o))
    h
  where
    closing_low : (b : ℕ) (c : Machine.Bracket) → b ≡ closing c → b < 0x80
    closing_low b Machine.square e = omega arith
    closing_low b Machine.curly e = omega arith
back_got p d k g b x t Machine.colon_c y h = λ o. need_key_lem p d k g b x t _ (λ u. colon_back p d k b u x t y (Bytewise.behind b t (omega arith) o)) h
back_got p d k g b x t Machine.plus_c y h = λ o. got_plus p d k g b x t y (Bytewise.behind b t (omega arith) o) h
back_got p d k g b x t (Machine.open_c c) y h = absurd h
back_got p d k g b x t Machine.quote_c y h = absurd h
back_got p d k g b x t Machine.dollar_c y h = absurd h
back_got p d k g b x t Machine.letter_n y h = absurd h
back_got p d k g b x t Machine.letter_t y h = absurd h
back_got p d k g b x t Machine.letter_f y h = absurd h
back_got p d k g b x t Machine.letter_c y h = absurd h
back_got p d k g b x t Machine.other_c y h = absurd h

back_out : (p d : ℕ) (k : List Frame) (i : Machine.Item) (b : ℕ) (x : Meaning) (t : List ℕ) (o : Out Machine.Item Got) → OutIs ItemRest i b o
    → Comes (on_out p d k b o) x t → ItemCome k d i x (b ∷ t)
back_out p d k i b x t (takes j) y h = record {
  first = b ∷ h.first;
  rest = h.rest;
  gives = h.gives;
  split = rw h.split;
  does = y h.first h.gives h.does;
  goes = h.goes;
}
back_out p d k i b x t (stops g) y h = record {
  first = [];
  rest = b ∷ t;
  gives = g;
  split = refl;
  does = y;
  goes = back_got p d k g b x t (class_of b) (class_is_lem b) h;
}
back_out p d k i b x t (breaks r) y h = absurd h

back_item : (p d : ℕ) (k : List Frame) (i : Machine.Item) (b : ℕ) (x : Meaning) (t : List ℕ) → Comes (Machine.start p d k b i) x t → ItemCome k d i x (b ∷ t)
back_item p d k i b x t h = back_out p d k i b x t (scan p i b) (item_is p i b) h

-- ---- where a value is wanted

-- what an array or an object ends as is of the kind that it began as
abbrev pub Alike : Inside → Inside → Type 0
Alike (elements x) (elements y) = Unit {0}
Alike (elements x) (members y) = ⊥
Alike (members x) (elements y) = ⊥
Alike (members x) (members y) = Unit {0}

alike_same : (x : Inside) → Alike x x
alike_same (elements x) = tt
alike_same (members x) = tt

alike_trans : (x y z : Inside) → Alike x y → Alike y z → Alike x z
alike_trans (elements x) (elements y) (elements z) a b = tt
alike_trans (elements x) (elements y) (members z) a b = b
alike_trans (elements x) (members y) z a b = absurd a
alike_trans (members x) (elements y) z a b = absurd a
alike_trans (members x) (members y) (elements z) a b = b
alike_trans (members x) (members y) (members z) a b = tt

pub rest_alike : {d : ℕ} {x y : Inside} {a : List ℕ} → Rest true d x a y → Alike x y
rest_alike t = elim t as (λ d a m _. Unit {0}) (λ d x a y _. Alike x y) (λ d x a y _. Alike x y) (λ d x a y _. Alike x y) [
  | Value.null_word ↦ tt
  | Value.true_word ↦ tt
  | Value.false_word ↦ tt
  | Value.number y ↦ tt
  | Value.string y ↦ tt
  | Value.binary y ↦ tt
  | Value.time_value y ↦ tt
  | Value.array y z ↦ tt
  | Value.object y z ↦ tt
  | Rest.close {x = x} y c ↦ alike_same x
  | Rest.item {x = x} {y = y} {z = z} l (i → ih) (r → jh) ↦ alike_trans x y z ih jh
  | After.end {x = x} y c ↦ alike_same x
  | After.comma l (r → ih) ↦ ih
  | Item.element v ↦ tt
  | Item.member y l j v ↦ tt
]

-- an item that is a value of ASCII bytes
plain_value : (k : List Frame) (d : ℕ) (a : List ℕ) (m x : Meaning) (r t : List ℕ) → t ≡ a ++ r → Value true d a m → BaseCome k d (got (Got.value m)) x r
    → BaseCome k d want x t
plain_value k d a m x r t e v h o = value_then k d a m x r t e v (h (after (Utf8.value_octets v) r (subst Octets e o)))

word_value : (k : List Frame) (d : ℕ) (w : List ℕ) (m x : Meaning) (t : List ℕ) → Value true d w m → ItemCome k d (Machine.word w m) x t → BaseCome k d want x t
word_value k d w m x t v h = plain_value k d w m x h.rest t (h.split ∙ ap (λ (a : List ℕ). a ++ h.rest) h.does.1) v (rw h.does.2 at h.goes)

pub numeric_value : {a : List ℕ} {m : Meaning} → NumericItem true a m → (d : ℕ) → Value true d a m
numeric_value (NumericItem.number y) d = Value.number y
numeric_value (NumericItem.time_value y) d = Value.time_value y

numeric_wanted : {a : List ℕ} {m : Meaning} → Taken true a m → (k : List Frame) (d : ℕ) (x : Meaning) (r t : List ℕ) → t ≡ a ++ r
    → BaseCome k d (got (Got.value m)) x r → BaseCome k d want x t
numeric_wanted (Taken.item {a = a} {m = m} y) k d x r t e h = plain_value k d a m x r t e (numeric_value y d) h
numeric_wanted (Taken.trailed {a = a} {d = q} y) k d x r t e h =
    plain_value k d a (Meaning.time (LocalDate q)) x (ch " " ∷ r) t (e ∙ append_assoc a (ch " " ∷ []) r) (Value.time_value (TimeValue.local_date y))
    (laid (Ws.blank Blank.space Ws.none) k d (got (Got.value (Meaning.time (LocalDate q)))) x r h)

string_wanted : (k : List Frame) (d : ℕ) (x : Meaning) (t : List ℕ) → ItemCome k d (Machine.string_part as_value [] Strings.begin) x t → BaseCome k d want x t
string_wanted k d x t h o =
    let y = raw_part h.does.1 in
    let c = part_cut y h.rest (subst Octets h.split o) in
    let p = part_of y c.0 in
    let g : GotCome k d (Got.string as_value h.does.0) x h.rest = rw h.does.2 at h.goes c.1 in
    let w = concats (StringPart true) h.first h.does.0 [] p g.does refl in
    value_then k d (h.first ++ g.first) (Meaning.string w.mean) x g.rest t
    (h.split ∙ ap (λ (a : List ℕ). h.first ++ a) g.split ∙ sym (append_assoc h.first g.first g.rest)) (Value.string w.whole)
    (rw w.is at g.goes)

binary_wanted : (k : List Frame) (d : ℕ) (x : Meaning) (t : List ℕ) → ItemCome k d (Machine.binary_part [] Binaries.begin) x t → BaseCome k d want x t
binary_wanted k d x t h o =
    let p = binary_of h.does.1 in
    let q : Octets h.rest = after (Utf8.binary_octets (Concat.part p)) h.rest (subst Octets h.split o) in
    let g : GotCome k d (Got.binary h.does.0) x h.rest = rw h.does.2 at h.goes q in
    let w = concats BValue h.first h.does.0 [] p g.does refl in
    value_then k d (h.first ++ g.first) (Meaning.binary w.mean) x g.rest t
    (h.split ∙ ap (λ (a : List ℕ). h.first ++ a) g.split ∙ sym (append_assoc h.first g.first g.rest)) (Value.binary w.whole)
    (rw w.is at g.goes)

close_wanted_lem : (p d : ℕ) (k : List Frame) (b : ℕ) (c : Machine.Bracket) (y : Inside) (x : Meaning) (t : List ℕ) → b ≡ closing c → Octets t
    → Comes (Machine.closed p d k c y) x t → On (Rest true d) (λ z r. Settled k (suc d) (shut z) x r) y (b ∷ t)
close_wanted_lem p d k b c y x t e o h =
    let q = closed_back p d k b c y x t e o h in
    record { first = b ∷ []; rest = t; whole = y; split = refl; does = Rest.close Ws.none q.0; goes = q.1 }

opened_array : (k : List Frame) (d : ℕ) (x : Meaning) (t : List ℕ) → On (Rest true d) (λ z r. Settled k (suc d) (shut z) x r) (elements Meanings.none) t
    → ToCome k (suc d) want x (ch "[" ∷ t)
opened_array k d x t h = go h.whole h.does (rest_alike h.does) h.goes
  where
    go : (z : Inside) → Rest true d (elements Meanings.none) h.first z → Alike (elements Meanings.none) z → Settled k (suc d) (shut z) x h.rest
        → ToCome k (suc d) want x (ch "[" ∷ t)
    go (elements y) r a q = value_then k (suc d) (ch "[" ∷ h.first) (Meaning.array y) x h.rest (ch "[" ∷ t) (rw h.split) (Value.array Room.falls r) q
    go (members y) r a q = absurd a

opened_object : (k : List Frame) (d : ℕ) (x : Meaning) (t : List ℕ) → On (Rest true d) (λ z r. Settled k (suc d) (shut z) x r) (members Members.bare) t
    → ToCome k (suc d) want x (ch "{" ∷ t)
opened_object k d x t h = go h.whole h.does (rest_alike h.does) h.goes
  where
    go : (z : Inside) → Rest true d (members Members.bare) h.first z → Alike (members Members.bare) z → Settled k (suc d) (shut z) x h.rest
        → ToCome k (suc d) want x (ch "{" ∷ t)
    go (elements y) r a q = absurd a
    go (members y) r a q = value_then k (suc d) (ch "{" ∷ h.first) (Meaning.object y) x h.rest (ch "{" ∷ t) (rw h.split) (Value.object Room.falls r) q

back_open : (p d : ℕ) (k : List Frame) (b : ℕ) (c : Machine.Bracket) (x : Meaning) (t : List ℕ) → b ≡ opening c → Comes (Machine.opened p d k (bare_of c)) x t
    → BaseCome k d want x (b ∷ t)
back_open p zero k b c x t e h = absurd h
back_open p (suc d) k b Machine.square x t e h = λ o. rw e (opened_array k d x t (h (Bytewise.behind b t (omega arith) o)))
back_open p (suc d) k b Machine.curly x t e h = λ o. rw e (opened_object k d x t (h (Bytewise.behind b t (omega arith) o)))

closing_low : (b : ℕ) (c : Machine.Bracket) → b ≡ closing c → b < 0x80
closing_low b Machine.square e = omega arith
closing_low b Machine.curly e = omega arith

back_close_want : (p d : ℕ) (k : List Frame) (b : ℕ) (c : Machine.Bracket) (x : Meaning) (t : List ℕ) → b ≡ closing c → Comes (Machine.close_wanted p d c k) x t
    → BaseCome k d want x (b ∷ t)
back_close_want p d [] b c x t e h = absurd h
back_close_want p d (inside y ∷ k) b c x t e h = λ o. close_wanted_lem p d k b c y x t e (Bytewise.behind b t (closing_low b c e) o) h
back_close_want p d (pair y u ∷ k) b c x t e h = absurd h

back_numeric : (p d : ℕ) (k : List Frame) (b : ℕ) (x : Meaning) (t : List ℕ) → ItemCome k d (Machine.numeric Numeric.begin) x (b ∷ t)
    → BaseCome k d want x (b ∷ t)
back_numeric p d k b x t h = numeric_wanted (numeric_taken h.does.1) k d x h.rest (b ∷ t) h.split (rw h.does.2 at h.goes)

back_want : (p d : ℕ) (k : List Frame) (b : ℕ) (x : Meaning) (t : List ℕ) (c : Class) → ClassIs b c → Comes (Machine.on_want p d k b c) x t
    → BaseCome k d want x (b ∷ t)
back_want p d k b x t Machine.blank_c y h = blank_laid b y k d want x t h
back_want p d k b x t Machine.hash_c y h = back_hash p d k want b x t y h
back_want p d k b x t Machine.slash_c y h = back_slash p d k want b x t y h
back_want p d k b x t (Machine.open_c c) y h = back_open p d k b c x t y h
back_want p d k b x t (Machine.close_c c) y h = back_close_want p d k b c x t y h
back_want p d k b x t Machine.quote_c y h = string_wanted k d x (b ∷ t) (back_item p d k (Machine.string_part as_value [] Strings.begin) b x t h)
back_want p d k b x t Machine.dollar_c y h = binary_wanted k d x (b ∷ t) (back_item p d k (Machine.binary_part [] Binaries.begin) b x t h)
back_want p d k b x t Machine.letter_n y h = word_value k d (letters "null") Meaning.null x (b ∷ t) Value.null_word
    (back_item p d k (Machine.word (letters "null") Meaning.null) b x t h)
back_want p d k b x t Machine.letter_t y h = word_value k d (letters "true") (Meaning.bool true) x (b ∷ t) Value.true_word
    (back_item p d k (Machine.word (letters "true") (Meaning.bool true)) b x t h)
back_want p d k b x t Machine.letter_f y h = word_value k d (letters "false") (Meaning.bool false) x (b ∷ t) Value.false_word
    (back_item p d k (Machine.word (letters "false") (Meaning.bool false)) b x t h)
back_want p d k b x t Machine.plus_c y h = back_numeric p d k b x t (back_item p d k (Machine.numeric Numeric.begin) b x t h)
back_want p d k b x t Machine.letter_c y h = back_numeric p d k b x t (back_item p d k (Machine.numeric Numeric.begin) b x t h)
back_want p d k b x t Machine.other_c y h = back_numeric p d k b x t (back_item p d k (Machine.numeric Numeric.begin) b x t h)
back_want p d k b x t Machine.comma_c y h = absurd h
back_want p d k b x t Machine.colon_c y h = absurd h

-- ---- where a key is wanted

string_key : (k : List Frame) (d : ℕ) (x : Meaning) (t : List ℕ) → ItemCome k d (Machine.string_part as_key [] Strings.begin) x t → BaseCome k d want_key x t
string_key k d x t h o =
    let y = raw_part h.does.1 in
    let c = part_cut y h.rest (subst Octets h.split o) in
    let p = part_of y c.0 in
    let g : GotCome k d (Got.string as_key h.does.0) x h.rest = rw h.does.2 at h.goes c.1 in
    let w = concats (StringPart true) h.first h.does.0 [] p g.does refl in
    key_then k d (h.first ++ g.first) w.mean x g.rest t (h.split ∙ ap (λ (a : List ℕ). h.first ++ a) g.split
    ∙ sym (append_assoc h.first g.first g.rest)) (Key.string w.whole) (rw w.is at g.goes)

name_key : (k : List Frame) (d : ℕ) (x : Meaning) (t : List ℕ) → ItemCome k d (Machine.identifier Names.begin) x t → BaseCome k d want_key x t
name_key k d x t h o =
    let n = name_of h.does.1 in
    let q : Octets h.rest = after (Utf8.identifier_octets n.0) h.rest (subst Octets h.split o) in
    let g : Keyed k d h.does.0 x h.rest = rw h.does.2 at h.goes q in
    key_then k d h.first h.first x h.rest t h.split (Key.identifier n.0) (rw (sym n.1) at g)

back_close_key : (p d : ℕ) (k : List Frame) (b : ℕ) (c : Machine.Bracket) (x : Meaning) (t : List ℕ) → b ≡ closing c → Comes (Machine.close_wanted p d c k) x t
    → BaseCome k d want_key x (b ∷ t)
back_close_key p d [] b c x t e h = absurd h
back_close_key p d (inside y ∷ k) b c x t e h = λ o. close_wanted_lem p d k b c y x t e (Bytewise.behind b t (closing_low b c e) o) h
back_close_key p d (pair y u ∷ k) b c x t e h = absurd h

back_key : (p d : ℕ) (k : List Frame) (b : ℕ) (x : Meaning) (t : List ℕ) (c : Class) → ClassIs b c → Comes (Machine.on_key p d k b c) x t
    → BaseCome k d want_key x (b ∷ t)
back_key p d k b x t Machine.blank_c y h = blank_laid b y k d want_key x t h
back_key p d k b x t Machine.hash_c y h = back_hash p d k want_key b x t y h
back_key p d k b x t Machine.slash_c y h = back_slash p d k want_key b x t y h
back_key p d k b x t (Machine.close_c c) y h = back_close_key p d k b c x t y h
back_key p d k b x t Machine.quote_c y h = string_key k d x (b ∷ t) (back_item p d k (Machine.string_part as_key [] Strings.begin) b x t h)
back_key p d k b x t Machine.dollar_c y h = name_key k d x (b ∷ t) (back_item p d k (Machine.identifier Names.begin) b x t h)
back_key p d k b x t Machine.letter_n y h = name_key k d x (b ∷ t) (back_item p d k (Machine.identifier Names.begin) b x t h)
back_key p d k b x t Machine.letter_t y h = name_key k d x (b ∷ t) (back_item p d k (Machine.identifier Names.begin) b x t h)
back_key p d k b x t Machine.letter_f y h = name_key k d x (b ∷ t) (back_item p d k (Machine.identifier Names.begin) b x t h)
back_key p d k b x t Machine.letter_c y h = name_key k d x (b ∷ t) (back_item p d k (Machine.identifier Names.begin) b x t h)
back_key p d k b x t (Machine.open_c c) y h = absurd h
back_key p d k b x t Machine.plus_c y h = absurd h
back_key p d k b x t Machine.comma_c y h = absurd h
back_key p d k b x t Machine.colon_c y h = absurd h
back_key p d k b x t Machine.other_c y h = absurd h

-- ---- where a part is wanted

string_more : (z : Use) (u : List ℕ) (k : List Frame) (d : ℕ) (x : Meaning) (t : List ℕ) → ItemCome k d (Machine.string_part z u Strings.begin) x t
    → BaseCome k d (want_string z u) x t
string_more z u k d x t h o =
    let y = raw_part h.does.1 in
    let c = part_cut y h.rest (subst Octets h.split o) in
    record {
      lead = [];
      body = h.first;
      rest = h.rest;
      mean = h.does.0;
      split = h.split;
      layout = Ws.none;
      part = part_of y c.0;
      goes = rw h.does.2 at h.goes c.1;
    }

binary_more : (u : List ℕ) (k : List Frame) (d : ℕ) (x : Meaning) (t : List ℕ) → ItemCome k d (Machine.binary_part u Binaries.begin) x t
    → BaseCome k d (want_binary u) x t
binary_more u k d x t h o =
    let p = binary_of h.does.1 in
    let q : Octets h.rest = after (Utf8.binary_octets (Concat.part p)) h.rest (subst Octets h.split o) in
    record {
      lead = [];
      body = h.first;
      rest = h.rest;
      mean = h.does.0;
      split = h.split;
      layout = Ws.none;
      part = p;
      goes = rw h.does.2 at h.goes q;
    }

back_part : (p d : ℕ) (k : List Frame) (b : ℕ) (x : Meaning) (t : List ℕ) (s : Base) (q r : Conf) → (Comes q x t → BaseCome k d s x (b ∷ t))
    → (Comes r x t → BaseCome k d s x (b ∷ t)) → (c : Class) → ClassIs b c → Comes (Machine.on_part p d k b s q r c) x t → BaseCome k d s x (b ∷ t)
back_part p d k b x t s q r f g Machine.blank_c y h = blank_laid b y k d s x t h
back_part p d k b x t s q r f g Machine.hash_c y h = back_hash p d k s b x t y h
back_part p d k b x t s q r f g Machine.slash_c y h = back_slash p d k s b x t y h
back_part p d k b x t s q r f g Machine.quote_c y h = f h
back_part p d k b x t s q r f g Machine.dollar_c y h = g h
back_part p d k b x t s q r f g (Machine.open_c c) y h = absurd h
back_part p d k b x t s q r f g (Machine.close_c c) y h = absurd h
back_part p d k b x t s q r f g Machine.letter_n y h = absurd h
back_part p d k b x t s q r f g Machine.letter_t y h = absurd h
back_part p d k b x t s q r f g Machine.letter_f y h = absurd h
back_part p d k b x t s q r f g Machine.letter_c y h = absurd h
back_part p d k b x t s q r f g Machine.plus_c y h = absurd h
back_part p d k b x t s q r f g Machine.comma_c y h = absurd h
back_part p d k b x t s q r f g Machine.colon_c y h = absurd h
back_part p d k b x t s q r f g Machine.other_c y h = absurd h

-- ---- one byte, and the end

back_base : (p d : ℕ) (k : List Frame) (b : ℕ) (x : Meaning) (t : List ℕ) (s : Base) → Comes (Machine.on_base p d k b s) x t → BaseCome k d s x (b ∷ t)
back_base p d k b x t want h = back_want p d k b x t (class_of b) (class_is_lem b) h
back_base p d k b x t want_key h = back_key p d k b x t (class_of b) (class_is_lem b) h
back_base p d k b x t (want_string z u) h =
    back_part p d k b x t (want_string z u) _ _ (λ q. string_more z u k d x (b ∷ t) (back_item p d k (Machine.string_part z u Strings.begin) b x t q))
    (λ q. absurd q) (class_of b) (class_is_lem b) h
back_base p d k b x t (want_binary u) h =
    back_part p d k b x t (want_binary u) _ _ (λ q. absurd q) (λ q. binary_more u k d x (b ∷ t)
    (back_item p d k (Machine.binary_part u Binaries.begin) b x t q))
    (class_of b) (class_is_lem b) h
back_base p d k b x t (got g) h = back_got p d k g b x t (class_of b) (class_is_lem b) h

back : (p : ℕ) (c : Conf) (b : ℕ) (x : Meaning) (t : List ℕ) → Comes (step p c b) x t → Comes c x (b ∷ t)
back p (fail r) b x t h = h
back p (at (base s) d k) b x t h = back_base p d k b x t s h
back p (at (Machine.slash s) d k) b x t h = back_in_slash p d k s b x t (Machine.note_of b) (note_is_lem b) h
back p (at (line s) d k) b x t h = back_in_line p d k s b x t (Machine.note_of b) (note_is_lem b) h
back p (at (Machine.block s) d k) b x t h = back_in_block p d k s b x t (Machine.note_of b) (note_is_lem b) h
back p (at (Machine.star s) d k) b x t h = back_in_star p d k s b x t (Machine.note_of b) (note_is_lem b) h
back p (at (item i) d k) b x t h = back_item p d k i b x t h

-- a verdict of refusal is none of acceptance
refused : {r : Refusal} {x : Meaning} → No r ≡ Ok x → ⊥
refused e = let z : ◌≡◌ {A = ℕ} 0 1 = cc in omega arith

end_complete : (p : ℕ) (k : List Frame) (x : Meaning) (m : Option Meaning) → Machine.complete p k m ≡ Ok x → (k ≡ []) × (m ≡ some x)
end_complete p k x none e = absurd (refused e)
end_complete p [] x (some m) e = (refl, cc)
end_complete p (f ∷ k) x (some m) e = absurd (refused e)

end_base_lem : (p : ℕ) (k : List Frame) (s : Base) (x : Meaning) → Machine.end_base p k s ≡ Ok x → Ended k s x
end_base_lem p k want x e = absurd (refused e)
end_base_lem p k want_key x e = absurd (refused e)
end_base_lem p k (want_string z u) x e = absurd (refused e)
end_base_lem p k (want_binary u) x e = absurd (refused e)
end_base_lem p [] (got g) x e = (end_complete p [] x (as_value_of g) e).1
end_base_lem p (f ∷ k) (got g) x e = absurd (never (end_complete p (f ∷ k) x (as_value_of g) e).0)
  where
    never : f ∷ k ≡ [] → ⊥
    never q = let z : ◌≡◌ {A = ℕ} 0 1 = cc in omega arith

ended : (k : List Frame) (d : ℕ) (s : Base) (x : Meaning) → Ended k s x → BaseCome k d s x []
ended k d s x e o = ended_come k d s x [] e (Last.ended Ws.none)

end_out_lem : (p d : ℕ) (k : List Frame) (i : Machine.Item) (x : Meaning) (o : Out Machine.Item Got) → OutIs ItemRest i over o → Machine.end_out p k o ≡ Ok x
    → ItemCome k d i x []
end_out_lem p d k i x (takes j) y e = absurd (refused e)
end_out_lem p d k i x (stops g) y e = record {
  first = [];
  rest = [];
  gives = g;
  split = refl;
  does = y;
  goes = ended k d (got g) x (end_base_lem p k (got g) x e);
}
end_out_lem p d k i x (breaks r) y e = absurd (refused e)

finished : (p : ℕ) (c : Conf) (x : Meaning) → finish p c ≡ Ok x → Comes c x []
finished p (fail r) x e = refused e
finished p (at (base s) d k) x e = ended k d s x (end_base_lem p k s x e)
finished p (at (line s) d k) x e = inr (Many.none, end_base_lem p k s x e)
finished p (at (Machine.slash s) d k) x e = absurd (refused e)
finished p (at (Machine.block s) d k) x e = absurd (refused e)
finished p (at (Machine.star s) d k) x e = absurd (refused e)
finished p (at (item i) d k) x e = end_out_lem p d k i x (scan p i over) (item_is p i over) e

comes : (t : List ℕ) (p : ℕ) (c : Conf) (x : Meaning) → read p c t ≡ Ok x → Comes c x t
unfolding read
comes [] p c x e = finished p c x e
comes (b ∷ t) p c x e = back p c b x t (comes t (suc p) (step p c b) x e)

-- what the machine accepts in UTF-8, however long
pub record Derived (t : List ℕ) (m : Meaning) : Type 0 where
  pub lead : List ℕ
  pub body : List ℕ
  pub rest : List ℕ
  pub split : t ≡ lead ++ (body ++ rest)
  pub layout : Ws lead
  pub value : Value true depth_limit body m
  pub last : Last rest

pub derived : (t : List ℕ) (m : Meaning) → Octets t → reading t ≡ Ok m → Derived t m
unfolding reading
derived t m o e =
    let h = comes t 0 (at (base want) depth_limit []) m e o in
    record {
      lead = h.lead;
      body = h.body;
      rest = h.rest;
      split = h.split;
      layout = h.layout;
      value = subst (Value true depth_limit h.body) h.goes.1 h.value;
      last = h.goes.0;
    }

-- in UTF-8 and within the length, what the machine accepts, the grammar derives
pub derives : (t : List ℕ) (m : Meaning) → Octets t → length t ≤ text_limit → reading t ≡ Ok m → Loose true t m
derives t m o l e =
    let h = derived t m o e in
    subst (λ (s : List ℕ). Loose true s m) (sym h.split) (Loose.text h.layout h.value h.last
    (subst (λ (s : List ℕ). length s ≤ text_limit) h.split l))
