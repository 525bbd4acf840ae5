-- Where the check stands, against a configuration of the machine: a byte keeps the two together, and the text's end gives the same. Assumes nothing.
use Prim.Native.Nat.{ℕ, zero, suc, ◌+◌, ◌*◌, ◌-◌, ◌≤◌, ◌<◌}
use mathlib.Core.Path.{◌≡◌, refl, sym, ap, ◌∙◌, subst}
use mathlib.Core.Logic.{◌⊎◌, inl, inr}
use mathlib.Core.Bool.{Bool, true, false, cond, ◌&&◌}
use mathlib.Core.List.{List, [], ◌∷◌}
use native.Mathlib.Omega.{arith}
use native.Mathlib.Decide.{ℕ_discrete}
use lib.Dec.{eqb, leb}
use lib.ListN.{length}
use borrow.Author.Tests.{lt-ltb, le-ltb}
use Rattle.meaning.specs.Letters.{letters, ch}
use Rattle.meaning.specs.Limits.{depth_limit, text_limit}
use Rattle.meaning.specs.Meaning.{Meaning, Meanings, Members}
use Rattle.meaning.specs.Tape.{records, bytes, store_of}
use Rattle.meaning.specs.declared.Refusal.{Refusal}
use Rattle.meaning.specs.declared.Refusal.TheVariants.{TextTooLong, NotUtf8, NotGrammar, BadEscape, BadTime}
use Rattle.meaning.specs.declared.Refusal.TheVariants.{BadNumber, TooDeep, TapeTooShort, StoreTooShort}
use Rattle.meaning.specs.declared.Refusal.TheVariants.{NotWellFormed, NoJsonForm, OutputTooShort}
use Rattle.meaning.specs.declared.Refusal.TheVariants.{WrittenTooLong, NoSuchRecord, RepeatedKey}
use Rattle.grammar.specs.Values.{elements, members}
use Rattle.machine.specs.Scan as Scan
use Rattle.machine.specs.Numeric as Numeric
use Rattle.machine.specs.Names as Names
use Rattle.machine.specs.Machine as Machine
use Rattle.machine.specs.Machine.{as_value, as_key, Item, Got, value, key, string, binary, Base, want, want_key, want_string, want_binary, got}
use Rattle.machine.specs.Machine.{base, slash, line, block, star, item, Frame, inside, pair, Conf, at, fail, Bracket, square, curly, scan, step, class_of}
use Rattle.machine.specs.Machine.{note_of}
use Rattle.machine.specs.Machine.{Class, blank_c, hash_c, slash_c, comma_c, colon_c, plus_c, quote_c, dollar_c, letter_n, letter_t, letter_f, letter_c, other_c}
use Rattle.machine.specs.Machine.{open_c, close_c, Note, line_end, star_n, slash_n, plain_n, control_n}
use Rattle.machine.proofs.Classes.{ClassIs, class_is_lem}
use Rattle.arriving.specs.declared.states.Due.{Due}
use Rattle.arriving.specs.declared.states.Mode.{Mode}
use Rattle.arriving.specs.declared.states.Out.{Out}
use Rattle.arriving.specs.declared.states.Out.TheVariants.{Takes}
use Rattle.arriving.specs.Between.Figures.{begin_figure}
use Rattle.arriving.specs.Between.Small.{null_at, true_at, false_at}
use Rattle.arriving.specs.declared.states.Here.{Here}
use Rattle.arriving.specs.Between.Steps
use Rattle.arriving.specs.Between.Steps.{Stand, here_of, kind_of, comma, closed, opened, begun_figure, between, done, on_mode, next}
use Rattle.arriving.specs.Between.Arriving.{sane_mode, sane_here}
use Rattle.arriving.proofs.Alike.{Alike, moved}
use Rattle.arriving.proofs.SmallLaws.{Spelt, null_spelt, true_spelt, false_spelt, class_letter}
use Rattle.arriving.proofs.PushdownModes.{InNumber, spelling, counting, timing, numeric_mode, InString, quoting, string_mode}
use Rattle.arriving.proofs.PushdownModes.{InBinary, packing, binary_mode, InName, naming, name_mode}
use Rattle.arriving.proofs.PushdownItems.{got_due, got_records, got_bytes, GotIs, ItemIs, word_is, numeric_is, string_is, binary_is, name_is}
use Rattle.arriving.proofs.PushdownItems.{item_next, item_alike, string_begins, binary_begins, name_begins, number_begins, word_begins}
use Rattle.arriving.proofs.PushdownFrames.{Held, Open, TakesAll, TakesKey, top_kind, top_is, held_begin, held_more, held_as, held_open, held_array}
use Rattle.arriving.proofs.PushdownFrames.{held_object, held_element, held_member, held_pair}

-- ---- what is expected

abbrev pub base_due : Base → Due
base_due want = Due.Value
base_due want_key = Due.Key
base_due (want_string as_value u) = Due.StringPart
base_due (want_string as_key u) = Due.KeyPart
base_due (want_binary u) = Due.BinaryPart
base_due (got g) = got_due g

abbrev pub base_records : Base → ℕ
base_records want = 0
base_records want_key = 0
base_records (want_string z u) = 1
base_records (want_binary u) = 1
base_records (got g) = got_records g

abbrev pub base_bytes : Base → ℕ
base_bytes want = 0
base_bytes want_key = 0
base_bytes (want_string z u) = length u
base_bytes (want_binary u) = length u
base_bytes (got g) = got_bytes g

abbrev pub stand : Mode → Due → ℕ → ℕ → ℕ → List ℕ → Stand
stand m u n r t ks = (here_of m u n r t, ks)

-- The check stands where the machine does: between items, in layout, in an item, or refused.
pub data Stands : Stand → Conf → Type 0 where
  failed : {x : Stand} {why : Refusal} → x.0.mode ≡ Mode.Failed why → Stands x (fail why)
  at_base_lem : {n r t : ℕ} {ks : List ℕ} {d : ℕ} {k : List Frame} {s : Base} → Held n r t ks d k (base_records s) (base_bytes s) → Open (base_due s) k
      → Stands (stand Mode.At (base_due s) n r t ks) (at (base s) d k)
  at_slash : {n r t : ℕ} {ks : List ℕ} {d : ℕ} {k : List Frame} {s : Base} → Held n r t ks d k (base_records s) (base_bytes s) → Open (base_due s) k
      → Stands (stand Mode.Slash (base_due s) n r t ks) (at (slash s) d k)
  at_line : {n r t : ℕ} {ks : List ℕ} {d : ℕ} {k : List Frame} {s : Base} → Held n r t ks d k (base_records s) (base_bytes s) → Open (base_due s) k
      → Stands (stand Mode.Line (base_due s) n r t ks) (at (line s) d k)
  at_block : {n r t : ℕ} {ks : List ℕ} {d : ℕ} {k : List Frame} {s : Base} → Held n r t ks d k (base_records s) (base_bytes s) → Open (base_due s) k
      → Stands (stand Mode.Block (base_due s) n r t ks) (at (block s) d k)
  at_star : {n r t : ℕ} {ks : List ℕ} {d : ℕ} {k : List Frame} {s : Base} → Held n r t ks d k (base_records s) (base_bytes s) → Open (base_due s) k
      → Stands (stand Mode.Star (base_due s) n r t ks) (at (star s) d k)
  at_item : {m : Mode} {u : Due} {n r t : ℕ} {ks : List ℕ} {d : ℕ} {k : List Frame} {i : Item} {e : ℕ} → ItemIs 0 u m i e → Held n r t ks d k 1 e → Open u k
      → Stands (stand m u n r t ks) (at (item i) d k)

-- ---- brackets, commas and colons

-- the other bracket
no_brace : (p : ℕ) (x : Stand) (d : ℕ) (k : List Frame) → TakesAll k → Stands (Steps.odd x p) (Machine.close_wanted p d curly k)
no_brace p y d [] o = failed refl
no_brace p y d (inside (elements x) ∷ k) o = failed refl
no_brace p y d (inside (members x) ∷ k) o = absurd o.0
no_brace p y d (pair x w ∷ k) o = failed refl

no_bracket : (p : ℕ) (x : Stand) (d : ℕ) (k : List Frame) → TakesKey k → Stands (Steps.odd x p) (Machine.close_wanted p d square k)
no_bracket p y d [] o = absurd o
no_bracket p y d (inside (elements x) ∷ k) o = absurd o
no_bracket p y d (inside (members x) ∷ k) o = failed refl
no_bracket p y d (pair x w ∷ k) o = absurd o

module _ (p : ℕ) {n r t : ℕ} {ks : List ℕ} where
  comma_by : (u : Due) (m : Meaning) {d : ℕ} (k : List Frame) → Held n r t ks d k (records m) (bytes m) → TakesAll k
      → Stands (cond (eqb (top_kind k) 1) (stand Mode.At Due.Value n r t ks)
      (cond (eqb (top_kind k) 2) (stand Mode.At Due.Key n r t ks) (stand (Mode.Failed (NotGrammar p)) u n r t ks))) (Machine.comma_after p d k m)
  comma_by u m [] h o = failed refl
  comma_by u m (inside (elements x) ∷ k) h o = at_base_lem {s = want} (held_element x m h) o
  comma_by u m (inside (members x) ∷ k) h o = absurd o.0
  comma_by u m (pair x w ∷ k) h o = at_base_lem {s = want_key} (held_member x w m h) o.1

  comma_stands : (u : Due) (m : Meaning) {d : ℕ} (k : List Frame) → Held n r t ks d k (records m) (bytes m) → TakesAll k
      → Stands (comma (stand Mode.At u n r t ks) p) (Machine.comma_after p d k m)
  unfolding comma
  comma_stands u m k h o = rw (top_is k h) (comma_by u m k h o)

  closed_by : (u : Due) (m : Meaning) {d : ℕ} (c : Bracket) (k : List Frame) → Held n r t ks d k (records m) (bytes m) → TakesAll k
      → Stands (cond (eqb (top_kind k) (kind_of c)) (stand Mode.At Due.AfterValue (n - 1) r t ks) (stand (Mode.Failed (NotGrammar p)) u n r t ks))
      (Machine.close_after p d c k m)
  closed_by u m square [] h o = failed refl
  closed_by u m curly [] h o = failed refl
  closed_by u m square (inside (elements x) ∷ k) h o =
      at_base_lem {s = got (value (Meaning.array (Meanings.more x m)))} (held_array (Meanings.more x m) (held_element x m h)) o.1
  closed_by u m curly (inside (elements x) ∷ k) h o = failed refl
  closed_by u m square (inside (members x) ∷ k) h o = absurd o.0
  closed_by u m curly (inside (members x) ∷ k) h o = absurd o.0
  closed_by u m square (pair x w ∷ k) h o = failed refl
  closed_by u m curly (pair x w ∷ k) h o =
      at_base_lem {s = got (value (Meaning.object (Members.member x w m)))} (held_object (Members.member x w m) (held_member x w m h)) o.1

  closed_stands : (u : Due) (m : Meaning) {d : ℕ} (c : Bracket) (k : List Frame) → Held n r t ks d k (records m) (bytes m) → TakesAll k
      → Stands (closed (stand Mode.At u n r t ks) p c) (Machine.close_after p d c k m)
  unfolding closed
  closed_stands u m c k h o = rw (top_is k h) (closed_by u m c k h o)

  -- a closing bracket where a value is due
  array_by : {d : ℕ} (k : List Frame) → Held n r t ks d k 0 0 → TakesAll k
      → Stands (cond (eqb (top_kind k) 1) (stand Mode.At Due.AfterValue (n - 1) r t ks) (stand (Mode.Failed (NotGrammar p)) Due.Value n r t ks))
      (Machine.close_wanted p d square k)
  array_by [] h o = failed refl
  array_by (inside (elements x) ∷ k) h o = at_base_lem {s = got (value (Meaning.array x))} (held_array x h) o.1
  array_by (inside (members x) ∷ k) h o = absurd o.0
  array_by (pair x w ∷ k) h o = failed refl

  array_stands : {d : ℕ} (k : List Frame) → Held n r t ks d k 0 0 → TakesAll k
      → Stands (closed (stand Mode.At Due.Value n r t ks) p square) (Machine.close_wanted p d square k)
  unfolding closed
  array_stands k h o = rw (top_is k h) (array_by k h o)

  -- and where a key is due
  object_by : {d : ℕ} (k : List Frame) → Held n r t ks d k 0 0 → TakesKey k
      → Stands (cond (eqb (top_kind k) 2) (stand Mode.At Due.AfterValue (n - 1) r t ks) (stand (Mode.Failed (NotGrammar p)) Due.Key n r t ks))
      (Machine.close_wanted p d curly k)
  object_by [] h o = absurd o
  object_by (inside (elements x) ∷ k) h o = absurd o
  object_by (inside (members x) ∷ k) h o = at_base_lem {s = got (value (Meaning.object x))} (held_object x h) o
  object_by (pair x w ∷ k) h o = absurd o

  object_stands : {d : ℕ} (k : List Frame) → Held n r t ks d k 0 0 → TakesKey k
      → Stands (closed (stand Mode.At Due.Key n r t ks) p curly) (Machine.close_wanted p d curly k)
  unfolding closed
  object_stands k h o = rw (top_is k h) (object_by k h o)

  -- an opening bracket
  opened_stands : (c : Bracket) (d : ℕ) (k : List Frame) → Held n r t ks d k 0 0 → TakesAll k
      → Stands (opened (stand Mode.At Due.Value n r t ks) p c) (Machine.opened p d k (Machine.bare_of c))
  unfolding opened
  opened_stands c zero k h o = rw (le-ltb n depth_limit (omega (arith, h.room))) (failed refl)
  opened_stands square (suc d) k h o = rw (lt-ltb n depth_limit (omega (arith, h.room))) (at_base_lem {s = want} (held_open square h) (tt, o))
  opened_stands curly (suc d) k h o = rw (lt-ltb n depth_limit (omega (arith, h.room))) (at_base_lem {s = want_key} (held_open curly h) o)

  -- a colon
  colon_stands : (u : List ℕ) {d : ℕ} (k : List Frame) → Held n r t ks d k 1 (length u) → TakesKey k
      → Stands (stand Mode.At Due.Value n r t ks) (Machine.colon_after p d k u)
  colon_stands u [] h o = absurd o
  colon_stands u (inside (elements x) ∷ k) h o = absurd o
  colon_stands u (inside (members x) ∷ k) h o = at_base_lem {s = want} (held_pair x u h) (tt, o)
  colon_stands u (pair x w ∷ k) h o = absurd o

-- ---- after a value, a key or a part

null_sizes : (records Meaning.null ≡ 1) × (bytes Meaning.null ≡ 0)
unfolding records store_of
null_sizes = (refl, refl)

bool_sizes : (x : Bool) → (records (Meaning.bool x) ≡ 1) × (bytes (Meaning.bool x) ≡ 0)
unfolding records store_of
bool_sizes x = (refl, refl)

pub string_sizes : (u : List ℕ) → (records (Meaning.string u) ≡ 1) × (bytes (Meaning.string u) ≡ length u)
unfolding records store_of
string_sizes u = (refl, refl)

pub binary_sizes : (u : List ℕ) → (records (Meaning.binary u) ≡ 1) × (bytes (Meaning.binary u) ≡ length u)
unfolding records store_of
binary_sizes u = (refl, refl)

module _ (p : ℕ) {n r t : ℕ} {ks : List ℕ} {d : ℕ} (k : List Frame) where
  string_held : (u : List ℕ) → Held n r t ks d k 1 (length u) → Held n r t ks d k (records (Meaning.string u)) (bytes (Meaning.string u))
  string_held u h = held_as (string_sizes u).0 (string_sizes u).1 h

  binary_held : (u : List ℕ) → Held n r t ks d k 1 (length u) → Held n r t ks d k (records (Meaning.binary u)) (bytes (Meaning.binary u))
  binary_held u h = held_as (binary_sizes u).0 (binary_sizes u).1 h

  got_comma : (g : Got) → Held n r t ks d k (got_records g) (got_bytes g) → Open (got_due g) k
      → Stands (Steps.on_after (stand Mode.At (got_due g) n r t ks) p comma_c) (Machine.on_got p d k g comma_c)
  got_comma (value m) h o = comma_stands p Due.AfterValue m k h o
  got_comma (key u) h o = failed refl
  got_comma (string as_value u) h o = comma_stands p Due.AfterString (Meaning.string u) k (string_held u h) o
  got_comma (string as_key u) h o = failed refl
  got_comma (binary u) h o = comma_stands p Due.AfterBinary (Meaning.binary u) k (binary_held u h) o

  got_close : (c : Bracket) (g : Got) → Held n r t ks d k (got_records g) (got_bytes g) → Open (got_due g) k
      → Stands (Steps.on_after (stand Mode.At (got_due g) n r t ks) p (close_c c)) (Machine.on_got p d k g (close_c c))
  got_close c (value m) h o = closed_stands p Due.AfterValue m c k h o
  got_close c (key u) h o = failed refl
  got_close c (string as_value u) h o = closed_stands p Due.AfterString (Meaning.string u) c k (string_held u h) o
  got_close c (string as_key u) h o = failed refl
  got_close c (binary u) h o = closed_stands p Due.AfterBinary (Meaning.binary u) c k (binary_held u h) o

  got_colon : (g : Got) → Held n r t ks d k (got_records g) (got_bytes g) → Open (got_due g) k
      → Stands (Steps.on_after (stand Mode.At (got_due g) n r t ks) p colon_c) (Machine.on_got p d k g colon_c)
  got_colon (value m) h o = failed refl
  got_colon (key u) h o = colon_stands p u k h o
  got_colon (string as_value u) h o = failed refl
  got_colon (string as_key u) h o = colon_stands p u k h o
  got_colon (binary u) h o = failed refl

  got_plus : (g : Got) → Held n r t ks d k (got_records g) (got_bytes g) → Open (got_due g) k
      → Stands (Steps.on_after (stand Mode.At (got_due g) n r t ks) p plus_c) (Machine.on_got p d k g plus_c)
  got_plus (value m) h o = failed refl
  got_plus (key u) h o = failed refl
  got_plus (string as_value u) h o = at_base_lem {s = want_string as_value u} h o
  got_plus (string as_key u) h o = at_base_lem {s = want_string as_key u} h o
  got_plus (binary u) h o = at_base_lem {s = want_binary u} h o

  got_stands : (g : Got) → Held n r t ks d k (got_records g) (got_bytes g) → Open (got_due g) k → (c : Class)
      → Stands (Steps.on_after (stand Mode.At (got_due g) n r t ks) p c) (Machine.on_got p d k g c)
  got_stands g h o blank_c = at_base_lem {s = got g} h o
  got_stands g h o hash_c = at_line {s = got g} h o
  got_stands g h o slash_c = at_slash {s = got g} h o
  got_stands g h o comma_c = got_comma g h o
  got_stands g h o (close_c c) = got_close c g h o
  got_stands g h o colon_c = got_colon g h o
  got_stands g h o plus_c = got_plus g h o
  got_stands g h o (open_c c) = failed refl
  got_stands g h o quote_c = failed refl
  got_stands g h o dollar_c = failed refl
  got_stands g h o letter_n = failed refl
  got_stands g h o letter_t = failed refl
  got_stands g h o letter_f = failed refl
  got_stands g h o letter_c = failed refl
  got_stands g h o other_c = failed refl

  -- the byte b
  got_between : (b : ℕ) (g : Got) → Held n r t ks d k (got_records g) (got_bytes g) → Open (got_due g) k
      → Stands (between (stand Mode.At (got_due g) n r t ks) p b) (Machine.on_got p d k g (class_of b))
  unfolding between
  got_between b (value m) h o = got_stands (value m) h o (class_of b)
  got_between b (key u) h o = got_stands (key u) h o (class_of b)
  got_between b (string as_value u) h o = got_stands (string as_value u) h o (class_of b)
  got_between b (string as_key u) h o = got_stands (string as_key u) h o (class_of b)
  got_between b (binary u) h o = got_stands (binary u) h o (class_of b)

-- ---- items

-- at the same place
pub moved_none : (r : Refusal) → moved 0 r ≡ r
moved_none TextTooLong = refl
moved_none (NotUtf8 p) = refl
moved_none (NotGrammar p) = ap NotGrammar (omega arith)
moved_none (BadEscape p) = ap BadEscape (omega arith)
moved_none (BadTime p) = ap BadTime (omega arith)
moved_none (BadNumber p) = ap BadNumber (omega arith)
moved_none (TooDeep p) = ap TooDeep (omega arith)
moved_none (TapeTooShort n) = refl
moved_none (StoreTooShort n) = refl
moved_none (NotWellFormed p) = refl
moved_none (NoJsonForm i) = refl
moved_none (OutputTooShort n) = refl
moved_none (WrittenTooLong n) = refl
moved_none (NoSuchRecord i) = refl
moved_none (RepeatedKey p) = refl

module _ (p b : ℕ) {u : Due} {n r t : ℕ} {ks : List ℕ} {d : ℕ} {k : List Frame} where
  -- an item goes on, stops or breaks
  out_stands : (m : Mode) {e : ℕ} {out : Out} {out' : Scan.Out Item Got} → Alike (ItemIs 0 u) (GotIs u) 0 e out out' → Held n r t ks d k 1 e → Open u k
      → Stands (done (stand m u n r t ks) p b out) (Machine.on_out p d k b out')
  unfolding done
  out_stands m (Alike.takes {k = e} i) h o = at_item i (held_more e h) o
  out_stands m (Alike.stops {v = g} w) h o =
      subst (λ (q : Due). Stands (between (stand Mode.At q n r t ks) p b) (Machine.on_got p d k g (class_of b))) (sym w.due)
      (got_between p k b g (held_as w.one w.size h) (subst (λ (q : Due). Open q k) w.due o))
  out_stands m (Alike.breaks {r = why} e) h o = failed (ap Mode.Failed (e ∙ moved_none why))

  -- an item begins
  begun_stands : {m : Mode} {e : ℕ} {out : Scan.Out Item Got} → Alike (ItemIs 0 u) (GotIs u) 0 0 (Takes m e) out → Held n r t ks d k 0 0 → Open u k
      → Stands (stand m u n (r + 1) (t + e) ks) (Machine.on_out p d k b out)
  begun_stands {e = e} (Alike.takes i) h o = at_item i (held_as refl (omega arith) (held_begin e h)) o

  -- the next part of one begins
  resumed_stands : {m : Mode} {e : ℕ} {out : Scan.Out Item Got} → Alike (ItemIs 0 u) (GotIs u) 0 e (Takes m 0) out → Held n r t ks d k 1 e → Open u k
      → Stands (stand m u n r t ks) (Machine.on_out p d k b out)
  resumed_stands (Alike.takes i) h o = at_item i (held_as refl (omega arith) h) o

-- ---- the first byte of an item

quote_is : (b : ℕ) → ClassIs b quote_c → (b ≡ ch "\"") ⊎ (b ≡ ch "'")
quote_is b h = go (ℕ_discrete b (ch "\""))
  where
    go : Dec (b ≡ ch "\"") → (b ≡ ch "\"") ⊎ (b ≡ ch "'")
    go (Dec.yes e) = inl e
    go (Dec.no f) = inr (h.1 f)

-- a number or a time value never stops before its first byte
abbrev Begins : Scan.Out Item Got → Type 0
Begins (Scan.takes s) = Unit {0}
Begins (Scan.stops m) = ⊥
Begins (Scan.breaks r) = Unit {0}

begins : (p b : ℕ) → Begins (scan p (Machine.numeric Numeric.begin) b)
begins p b = go (Numeric.fst_of b)
  where
    go : (c : Numeric.Fst) → Begins (Machine.lift Machine.numeric value (Numeric.on_begin p b c))
    go Numeric.nought_f = tt
    go Numeric.digit_f = tt
    go Numeric.point_f = tt
    go Numeric.n_f = tt
    go Numeric.i_f = tt
    go Numeric.plus_f = tt
    go Numeric.minus_f = tt
    go Numeric.other_f = tt

module _ (p b : ℕ) {n r t : ℕ} {ks : List ℕ} {d : ℕ} {k : List Frame} where
  figure_by : {out : Out} {out' : Scan.Out Item Got} → Begins out' → Alike (ItemIs 0 Due.AfterValue) (GotIs Due.AfterValue) 0 0 out out'
      → Held n r t ks d k 0 0 → TakesAll k
      → Stands (begun_figure (stand Mode.At Due.Value n r t ks) p out) (Machine.on_out p d k b out')
  unfolding begun_figure
  figure_by z (Alike.takes {k = e} i) h o = at_item i (held_as refl (omega arith) (held_begin e h)) o
  figure_by z (Alike.stops w) h o = absurd z
  figure_by z (Alike.breaks {r = why} e) h o = failed (ap Mode.Failed (e ∙ moved_none why))

  figure_stands : b < 256 → Held n r t ks d k 0 0 → TakesAll k
      → Stands (begun_figure (stand Mode.At Due.Value n r t ks) p (begin_figure p b)) (Machine.start p d k b (Machine.numeric Numeric.begin))
  figure_stands small h o =
      let e : 0 + p ≡ p = omega arith in
      figure_by (begins p b)
      (subst (λ (q : ℕ). Alike (ItemIs 0 Due.AfterValue) (GotIs Due.AfterValue) 0 0 (begin_figure q b) (scan p (Machine.numeric Numeric.begin) b)) e
      (number_begins 0 p b small)) h o

  -- a word's first letter
  word_stands : (c i : ℕ) (ls : List ℕ) (v : Meaning) → b ≡ c → Spelt i ls → records v ≡ 1 → bytes v ≡ 0 → Held n r t ks d k 0 0 → TakesAll k
      → Stands (stand (Mode.Spelling i) Due.AfterValue n (r + 1) (t + 0) ks) (Machine.start p d k b (Machine.word (c ∷ ls) v))
  word_stands c i ls v e w x y h o =
      subst (λ (q : ℕ). Stands (stand (Mode.Spelling i) Due.AfterValue n (r + 1) (t + 0) ks) (Machine.start p d k q (Machine.word (c ∷ ls) v))) (sym e)
      (begun_stands p c (word_begins 0 p c i ls v w x y) h o)

  -- ---- a byte where a value is due

  value_stands : b < 256 → Held n r t ks d k 0 0 → TakesAll k → (c : Class) → ClassIs b c
      → Stands (Steps.on_value (stand Mode.At Due.Value n r t ks) p b c) (Machine.on_want p d k b c)
  value_stands small h o blank_c w = at_base_lem {s = want} h o
  value_stands small h o hash_c w = at_line {s = want} h o
  value_stands small h o slash_c w = at_slash {s = want} h o
  value_stands small h o (open_c c) w = opened_stands p c d k h o
  value_stands small h o (close_c square) w = array_stands p k h o
  value_stands small h o (close_c curly) w = no_brace p (stand Mode.At Due.Value n r t ks) d k o
  value_stands small h o quote_c w = begun_stands p b (string_begins 0 p b as_value [] (quote_is b w)) h o
  value_stands small h o dollar_c w = begun_stands p b (binary_begins 0 p b [] w) h o
  value_stands small h o letter_n w = word_stands (ch "n") null_at (letters "ull") Meaning.null w null_spelt null_sizes.0 null_sizes.1 h o
  value_stands small h o letter_t w =
      word_stands (ch "t") true_at (letters "rue") (Meaning.bool true) w true_spelt (bool_sizes true).0 (bool_sizes true).1 h o
  value_stands small h o letter_f w =
      word_stands (ch "f") false_at (letters "alse") (Meaning.bool false) w false_spelt (bool_sizes false).0 (bool_sizes false).1 h o
  value_stands small h o plus_c w = figure_stands small h o
  value_stands small h o letter_c w = figure_stands small h o
  value_stands small h o other_c w = figure_stands small h o
  value_stands small h o comma_c w = failed refl
  value_stands small h o colon_c w = failed refl

  -- ---- a byte where a key is due

  name_stands : Names.class_of b ≡ Names.letter → Held n r t ks d k 0 0 → TakesKey k
      → Stands (stand Mode.Naming Due.AfterKey n (r + 1) (t + 1) ks) (Machine.start p d k b (Machine.identifier Names.begin))
  name_stands l h o = begun_stands p b (name_begins 0 p b l) h o

  key_stands : Held n r t ks d k 0 0 → TakesKey k → (c : Class) → ClassIs b c
      → Stands (Steps.on_key (stand Mode.At Due.Key n r t ks) p b c) (Machine.on_key p d k b c)
  key_stands h o blank_c w = at_base_lem {s = want_key} h o
  key_stands h o hash_c w = at_line {s = want_key} h o
  key_stands h o slash_c w = at_slash {s = want_key} h o
  key_stands h o (close_c square) w = no_bracket p (stand Mode.At Due.Key n r t ks) d k o
  key_stands h o (close_c curly) w = object_stands p k h o
  key_stands h o quote_c w = begun_stands p b (string_begins 0 p b as_key [] (quote_is b w)) h o
  key_stands h o dollar_c w = name_stands (class_letter b dollar_c w tt) h o
  key_stands h o letter_n w = name_stands (class_letter b letter_n w tt) h o
  key_stands h o letter_t w = name_stands (class_letter b letter_t w tt) h o
  key_stands h o letter_f w = name_stands (class_letter b letter_f w tt) h o
  key_stands h o letter_c w = name_stands (class_letter b letter_c w tt) h o
  key_stands h o (open_c c) w = failed refl
  key_stands h o plus_c w = failed refl
  key_stands h o comma_c w = failed refl
  key_stands h o colon_c w = failed refl
  key_stands h o other_c w = failed refl

  -- ---- a byte after a plus

  part_stands : (s : Base) (x y : Stand) (x' y' : Conf) → Held n r t ks d k (base_records s) (base_bytes s) → Open (base_due s) k
      → (ClassIs b quote_c → Stands x x') → (ClassIs b dollar_c → Stands y y') → (c : Class) → ClassIs b c
      → Stands (Steps.on_part (stand Mode.At (base_due s) n r t ks) p x y c) (Machine.on_part p d k b s x' y' c)
  part_stands s x y x' y' h o f g blank_c w = at_base_lem {s = s} h o
  part_stands s x y x' y' h o f g hash_c w = at_line {s = s} h o
  part_stands s x y x' y' h o f g slash_c w = at_slash {s = s} h o
  part_stands s x y x' y' h o f g quote_c w = f w
  part_stands s x y x' y' h o f g dollar_c w = g w
  part_stands s x y x' y' h o f g (open_c c) w = failed refl
  part_stands s x y x' y' h o f g (close_c c) w = failed refl
  part_stands s x y x' y' h o f g letter_n w = failed refl
  part_stands s x y x' y' h o f g letter_t w = failed refl
  part_stands s x y x' y' h o f g letter_f w = failed refl
  part_stands s x y x' y' h o f g letter_c w = failed refl
  part_stands s x y x' y' h o f g plus_c w = failed refl
  part_stands s x y x' y' h o f g comma_c w = failed refl
  part_stands s x y x' y' h o f g colon_c w = failed refl
  part_stands s x y x' y' h o f g other_c w = failed refl

  -- ---- a byte between items

  base_stands : b < 256 → (s : Base) → Held n r t ks d k (base_records s) (base_bytes s) → Open (base_due s) k
      → Stands (between (stand Mode.At (base_due s) n r t ks) p b) (Machine.on_base p d k b s)
  unfolding between
  base_stands small want h o = value_stands small h o (class_of b) (class_is_lem b)
  base_stands small want_key h o = key_stands h o (class_of b) (class_is_lem b)
  base_stands small (want_string as_value a) h o =
      part_stands (want_string as_value a) _ _ _ _ h o (λ w. resumed_stands p b (string_begins 0 p b as_value a (quote_is b w)) h o) (λ w. failed refl)
      (class_of b)
      (class_is_lem b)
  base_stands small (want_string as_key a) h o =
      part_stands (want_string as_key a) _ _ _ _ h o (λ w. resumed_stands p b (string_begins 0 p b as_key a (quote_is b w)) h o) (λ w. failed refl) (class_of b)
      (class_is_lem b)
  base_stands small (want_binary a) h o =
      part_stands (want_binary a) _ _ _ _ h o (λ w. failed refl) (λ w. resumed_stands p b (binary_begins 0 p b a w) h o) (class_of b) (class_is_lem b)
  base_stands small (got g) h o = got_between p k b g h o

  -- ---- a byte in layout

  slash_stands : (s : Base) → Held n r t ks d k (base_records s) (base_bytes s) → Open (base_due s) k → (c : Note)
      → Stands (Steps.on_slash (stand Mode.Slash (base_due s) n r t ks) p c) (Machine.on_slash p d k s c)
  slash_stands s h o slash_n = at_line {s = s} h o
  slash_stands s h o star_n = at_block {s = s} h o
  slash_stands s h o line_end = failed refl
  slash_stands s h o plain_n = failed refl
  slash_stands s h o control_n = failed refl

  line_stands : (s : Base) → Held n r t ks d k (base_records s) (base_bytes s) → Open (base_due s) k → (c : Note)
      → Stands (Steps.on_line (stand Mode.Line (base_due s) n r t ks) p c) (Machine.on_line p d k s c)
  line_stands s h o line_end = at_base_lem {s = s} h o
  line_stands s h o control_n = failed refl
  line_stands s h o slash_n = at_line {s = s} h o
  line_stands s h o star_n = at_line {s = s} h o
  line_stands s h o plain_n = at_line {s = s} h o

  block_stands : (s : Base) → Held n r t ks d k (base_records s) (base_bytes s) → Open (base_due s) k → (c : Note)
      → Stands (Steps.on_block (stand Mode.Block (base_due s) n r t ks) p c) (Machine.on_block p d k s c)
  block_stands s h o star_n = at_star {s = s} h o
  block_stands s h o control_n = failed refl
  block_stands s h o slash_n = at_block {s = s} h o
  block_stands s h o line_end = at_block {s = s} h o
  block_stands s h o plain_n = at_block {s = s} h o

  star_stands : (s : Base) → Held n r t ks d k (base_records s) (base_bytes s) → Open (base_due s) k → (c : Note)
      → Stands (Steps.on_star (stand Mode.Star (base_due s) n r t ks) p c) (Machine.on_star p d k s c)
  star_stands s h o slash_n = at_base_lem {s = s} h o
  star_stands s h o star_n = at_star {s = s} h o
  star_stands s h o control_n = failed refl
  star_stands s h o line_end = at_block {s = s} h o
  star_stands s h o plain_n = at_block {s = s} h o

-- ---- a byte in an item

-- the mode is an item's
mode_done : {base : ℕ} {u : Due} {m : Mode} {i : Item} {e : ℕ} (x : Stand) (p b : ℕ) → ItemIs base u m i e → on_mode x p b m ≡ done x p b (item_next m p b)
unfolding on_mode
mode_done x p b (word_is h z r q) = refl
mode_done x p b (numeric_is h) = go (numeric_mode h)
  where
    go : {m : Mode} → InNumber m → on_mode x p b m ≡ done x p b (item_next m p b)
    go spelling = refl
    go counting = refl
    go timing = refl
mode_done x p b (string_is d e h) = go (string_mode h)
  where
    go : {m : Mode} → InString m → on_mode x p b m ≡ done x p b (item_next m p b)
    go quoting = refl
mode_done x p b (binary_is e h) = go (binary_mode h)
  where
    go : {m : Mode} → InBinary m → on_mode x p b m ≡ done x p b (item_next m p b)
    go packing = refl
mode_done x p b (name_is h) = go (name_mode h)
  where
    go : {m : Mode} → InName m → on_mode x p b m ≡ done x p b (item_next m p b)
    go naming = refl

second : (x y : Bool) → x && y ≡ true → y ≡ true
second true y e = e
second false y e = absurd (let z : ◌≡◌ {A = ℕ} 0 1 = cc in omega arith)

-- the bounds of the item, from those of all
pub sane_mode_lem : (n : ℕ) (h : Here) → sane_here n h ≡ true → sane_mode n h.mode ≡ true
unfolding sane_here
sane_mode_lem n h e =
    second (leb h.stored (300 * n)) _ (second (leb h.records n) _ (second (leb h.depth depth_limit) _ e))

-- at its own place
pub item_here : (u : Due) (m : Mode) (i : Item) (e p b : ℕ) → ItemIs 0 u m i e → b < 256 → p ≤ text_limit → sane_mode p m ≡ true
    → Alike (ItemIs 0 u) (GotIs u) 0 e (item_next m p b) (scan p i b)
item_here u m i e p b h small l g =
    let q : 0 + p ≡ p = omega arith in
    subst (λ (j : ℕ). Alike (ItemIs 0 u) (GotIs u) 0 e (item_next m j b) (scan p i b)) q
    (item_alike 0 u m i e p b h small (omega arith) (rw q g))

-- ---- a byte anywhere

-- a byte keeps the check and the machine together
pub step_stands : {x : Stand} {c : Conf} (p b : ℕ) → Stands x c → b < 256 → p ≤ text_limit → sane_here p x.0 ≡ true
    → Stands (next x p b) (step p c b)
unfolding on_mode
step_stands p b (failed {x = x} {why = why} e) small l g = subst (λ (m : Mode). Stands (on_mode x p b m) (fail why)) (sym e) (failed e)
step_stands p b (at_base_lem {s = s} h o) small l g = base_stands p b small s h o
step_stands p b (at_slash {s = s} h o) small l g = slash_stands p b s h o (note_of b)
step_stands p b (at_line {s = s} h o) small l g = line_stands p b s h o (note_of b)
step_stands p b (at_block {s = s} h o) small l g = block_stands p b s h o (note_of b)
step_stands p b (at_star {s = s} h o) small l g = star_stands p b s h o (note_of b)
step_stands p b (at_item {m = m} {u = u} {n = n} {r = r} {t = t} {ks = ks} {d = d} {k = k} {i = i} {e = e} w h o) small l g =
    subst (λ (y : Stand). Stands y (Machine.on_out p d k b (scan p i b))) (sym (mode_done (stand m u n r t ks) p b w))
    (out_stands p b m (item_here u m i e p b w small l (sane_mode_lem p (here_of m u n r t) g)) h o)
