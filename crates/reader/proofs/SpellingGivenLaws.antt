-- The bytes that have been given of a key are its first: nothing that comes takes one of them back. Assumes nothing.
use mathlib.Core.Path.{◌≡◌, refl, sym, ap, ◌∙◌, subst}
use mathlib.Core.Bool.{Bool, true, false, cond}
use mathlib.Core.Option.{some}
use mathlib.Core.List.{List, [], ◌∷◌, ◌++◌, append_assoc, append-nil}
use Prim.Native.Nat.{ℕ, zero, suc, ◌+◌, ◌*◌}
use native.Mathlib.Omega.{arith}
use lib.Dec.{eqb, leb, ltb}
use lib.ListN.{drop, replicate}
use Rattle.rules.specs.Rfc3629.{encode}
use Rattle.meaning.specs.Letters.{ch}
use Rattle.meaning.specs.declared.Refusal.{Refusal}
use Rattle.meaning.specs.declared.Refusal.TheVariants.{NotGrammar}
use Rattle.grammar.specs.Strings.{joined}
use Rattle.machine.specs.Scan.{Out, takes, stops, breaks, over, Ran, ended, goes_on, ran}
use Rattle.machine.specs.Strings as Strings
use Rattle.machine.specs.Strings.{Ctx, Half, whole, half}
use Rattle.machine.specs.Names as Names
use Rattle.machine.specs.Machine as Machine
use Rattle.machine.specs.Machine.{string, as_key, string_part, Base, want_string, got, base, item, Conf, at, fail, on_got, on_out}
use Rattle.machine.specs.Machine.{on_part, lift, square, curly}
use Rattle.machine.specs.Machine.{Class, class_of, blank_c, hash_c, slash_c, comma_c, colon_c, plus_c, quote_c, dollar_c, letter_n, letter_t, letter_f}
use Rattle.machine.specs.Machine.{letter_c, other_c}
use Rattle.machine.specs.Machine.{open_c, close_c}
use Rattle.machine.specs.Heard.{Heard, shuts, names, tell, key_heard, hears, at_got, at_out}
use Rattle.machine.proofs.Layouts.{Lay, plain_l, slash_l, line_l, mode_of, layout_keeps}
use Rattle.reader.specs.Between.Spelling.{got_parts, Part, Inside, between, Quoting, due_of, Spells}
use Rattle.reader.specs.declared.spelling.Spelling.{Spelling}
use Rattle.reader.proofs.SpellingHeardLaws.{name_is}

-- u begins with e
abbrev pub Front : List ℕ → List ℕ → Type 0
Front e u = (w : List ℕ) × (u ≡ e ++ w)

front_all : (e : List ℕ) → Front e e
front_all e = ([], sym (append-nil e))

front_more : (e w : List ℕ) → Front e (e ++ w)
front_more e w = (w, refl)

front_join : (d e u : List ℕ) → Front d e → Front e u → Front d u
front_join d e u (v, x) (w, y) = (v ++ w, y ∙ ap (λ (z : List ℕ). z ++ w) x ∙ append_assoc d v w)

front_in : (a d e : List ℕ) → Front d e → Front (a ++ d) (a ++ e)
front_in a d e (w, x) = (w, ap (λ (z : List ℕ). a ++ z) x ∙ sym (append_assoc a d w))

-- ---- a scanner that keeps what it has

module _ {S : Type 0} (scan : ℕ → S → ℕ → Out S (List ℕ)) (has : S → List ℕ) where
  -- after a byte it still has a in front
  abbrev KeepsFront : List ℕ → Out S (List ℕ) → Type 0
  KeepsFront a (takes s) = Front a (has s)
  KeepsFront a (stops v) = Front a v
  KeepsFront a (breaks r) = Unit {0}

  -- its value begins with what it has
  ran_front : ((p : ℕ) (s : S) (b : ℕ) → KeepsFront (has s) (scan p s b)) → (t : List ℕ) (p : ℕ) (s : S) (v : List ℕ) (q : ℕ) → ran scan p s t ≡ ended v q
      → Front (has s) v
  unfolding ran
  ran_front k [] p s v q e = go (scan p s over) (k p s over) e
    where
      go : (o : Out S (List ℕ)) → KeepsFront (has s) o → goes_on scan p (λ s'. Ran.unended) o ≡ ended v q → Front (has s) v
      go (takes s') h e = absurd (let z : ◌≡◌ {A = ℕ} 0 1 = cc in omega arith)
      go (stops w) h e = let z : w ≡ v = cc in subst (Front (has s)) z h
      go (breaks r) h e = absurd (let z : ◌≡◌ {A = ℕ} 0 1 = cc in omega arith)
  ran_front k (b ∷ t) p s v q e = go (scan p s b) (k p s b) (λ s' x. ran_front k t (suc p) s' v q x) e
    where
      go : (o : Out S (List ℕ)) → KeepsFront (has s) o → ((s' : S) → ran scan (suc p) s' t ≡ ended v q → Front (has s') v)
          → goes_on scan p (λ s'. ran scan (suc p) s' t) o ≡ ended v q → Front (has s) v
      go (takes s') h f e = front_join (has s) (has s') v h (f s' e)
      go (stops w) h f e = let z : w ≡ v = cc in subst (Front (has s)) z h
      go (breaks r) h f e = absurd (let z : ◌≡◌ {A = ℕ} 0 1 = cc in omega arith)

-- ---- an identifier

name_of : Names.St → List ℕ
name_of Names.start = []
name_of (Names.name e) = e

name_keeps : (p : ℕ) (s : Names.St) (b : ℕ) → KeepsFront Names.scan name_of (name_of s) (Names.scan p s b)
unfolding name_of Names.scan Names.on_start Names.on_name
name_keeps p Names.start b = go (Names.class_of b)
  where
    go : (c : Names.Class) → KeepsFront Names.scan name_of [] (Names.on_start p b c)
    go Names.letter = (b ∷ [], refl)
    go Names.figure = tt
    go Names.neither = tt
name_keeps p (Names.name e) b = go (Names.class_of b)
  where
    go : (c : Names.Class) → KeepsFront Names.scan name_of e (Names.on_name e b c)
    go Names.letter = front_more e (b ∷ [])
    go Names.figure = front_more e (b ∷ [])
    go Names.neither = front_all e

-- ---- a string part

part_of : Strings.St → List ℕ
part_of Strings.start = []
part_of (Strings.one q) = []
part_of (Strings.two q) = []
part_of (Strings.lines0 q) = []
part_of (Strings.lines_cr q) = []
part_of (Strings.lines q n acc) = acc
part_of (Strings.body k) = k.acc
part_of (Strings.esc k from) = k.acc
part_of (Strings.uni k from) = k.acc
part_of (Strings.hex k from n v) = k.acc
part_of (Strings.brace0 k from) = k.acc
part_of (Strings.brace k from v) = k.acc
part_of (Strings.done k) = k.acc

abbrev PartKeeps : List ℕ → Out Strings.St (List ℕ) → Type 0
PartKeeps a o = KeepsFront Strings.scan part_of a o

module _ (k : Ctx) (from w : ℕ) where
  same_acc : Front k.acc k.acc
  same_acc = front_all k.acc

  alone_front : Front k.acc (Strings.alone k from w).acc
  unfolding Strings.alone
  alone_front = go (ltb w 0xD800) (ltb w 0xDC00) (ltb w 0xE000)
    where
      go : (x y z : Bool) → Front k.acc (cond x (Strings.give k (encode w))
          (cond y (Strings.wait k from w) (cond z (Strings.blame k from) (Strings.give k (encode w))))).acc
      go true y z = front_more k.acc (encode w)
      go false true z = same_acc
      go false false true = same_acc
      go false false false = front_more k.acc (encode w)

  unit_front : (h : Half) → Front k.acc (Strings.unit k from w h).acc
  unfolding Strings.unit
  unit_front whole = alone_front
  unit_front (half high h) = go (ltb w 0xDC00) (ltb w 0xE000)
    where
      go : (x y : Bool) → Front k.acc (cond x (Strings.alone k from w)
          (cond y (Strings.mk k.quote k.bad whole (k.acc ++ encode (joined h w))) (Strings.alone k from w))).acc
      go true y = alone_front
      go false true = front_more k.acc (encode (joined h w))
      go false false = alone_front

  braces_front : Front k.acc (Strings.in_braces k from w).acc
  unfolding Strings.in_braces
  braces_front = go (ltb w 0xD800) (ltb w 0xE000) (leb w 0x10FFFF)
    where
      go : (x y z : Bool) → Front k.acc (cond x (Strings.give k (encode w))
          (cond y (Strings.blame k from) (cond z (Strings.give k (encode w)) (Strings.blame k from)))).acc
      go true y z = front_more k.acc (encode w)
      go false true z = same_acc
      go false false true = front_more k.acc (encode w)
      go false false false = same_acc

  hexed_front : (n : ℕ) → Front k.acc (part_of (Strings.hexed k from n w))
  unfolding part_of Strings.hexed
  hexed_front zero = unit_front k.high
  hexed_front (suc n) = same_acc

module _ (p : ℕ) where
  either : (a : List ℕ) (x : Bool) (o q : Out Strings.St (List ℕ)) → PartKeeps a o → PartKeeps a q → PartKeeps a (cond x o q)
  either a true o q h g = h
  either a false o q h g = g

  hex_keeps : (k : Ctx) (from n v x : ℕ) → PartKeeps k.acc (Strings.on_hex p k from n v x)
  unfolding Strings.on_hex
  hex_keeps k from n v x =
      either k.acc (ltb x Strings.no_digit) (takes (Strings.hexed k from n (16 * v + x))) (breaks (NotGrammar p)) (hexed_front k from (16 * v + x) n) tt

  brace_keeps : (k : Ctx) (from v x : ℕ) → PartKeeps k.acc (Strings.on_brace p k from v x)
  unfolding Strings.on_brace part_of
  brace_keeps k from v x =
      either k.acc (ltb x Strings.no_digit) (takes (Strings.brace k from (16 * v + x))) (breaks (NotGrammar p)) (front_all k.acc) tt

  short_keeps : (k : Ctx) (c : ℕ) → PartKeeps k.acc (Strings.on_short p k c)
  unfolding Strings.on_short part_of
  short_keeps k c =
      either k.acc (ltb c Strings.no_short) (takes (Strings.body (Strings.give k (encode c)))) (breaks (NotGrammar p)) (front_more k.acc (encode c)) tt

  body_keeps : (k : Ctx) (b : ℕ) → PartKeeps k.acc (Strings.on_body p k b)
  unfolding Strings.on_body part_of
  body_keeps k b = go (eqb b (ch "\\")) (eqb b k.quote) (Strings.plain_byte b)
    where
      go : (x y z : Bool) → PartKeeps k.acc (cond x (takes (Strings.esc k p))
          (cond y (takes (Strings.done k)) (cond z (takes (Strings.body (Strings.give k (b ∷ [])))) (breaks (NotGrammar p)))))
      go true y z = front_all k.acc
      go false true z = front_all k.acc
      go false false true = front_more k.acc (b ∷ [])
      go false false false = tt

  lines_keep : (q n : ℕ) (acc : List ℕ) (b : ℕ) → PartKeeps acc (Strings.on_lines p q n acc b)
  unfolding Strings.on_lines part_of
  lines_keep q n acc b = go (eqb b q) (eqb n 2) (Strings.line_byte b)
    where
      go : (x y z : Bool)
          → PartKeeps acc (cond x (takes (cond y (Strings.done (Strings.mk q Strings.fine whole acc)) (Strings.lines q (suc n) acc)))
          (cond z (takes (Strings.lines q 0 (acc ++ (replicate n q ++ (b ∷ []))))) (breaks (NotGrammar p))))
      go true true z = front_all acc
      go true false z = front_all acc
      go false y true = front_more acc (replicate n q ++ (b ∷ []))
      go false y false = tt

  close_keeps : (acc : List ℕ) (x : Strings.Bad) → PartKeeps acc (Strings.close acc x)
  close_keeps acc Strings.fine = front_all acc
  close_keeps acc (Strings.spoilt from) = tt

  -- with nothing so far
  fresh : (o : Out Strings.St (List ℕ)) → PartKeeps [] o
  fresh (takes s) = (part_of s, refl)
  fresh (stops v) = (v, refl)
  fresh (breaks r) = tt

  part_keeps : (s : Strings.St) (b : ℕ) → PartKeeps (part_of s) (Strings.scan p s b)
  unfolding Strings.scan part_of
  part_keeps Strings.start b = fresh (Strings.scan p Strings.start b)
  part_keeps (Strings.one q) b = fresh (Strings.scan p (Strings.one q) b)
  part_keeps (Strings.two q) b = fresh (Strings.scan p (Strings.two q) b)
  part_keeps (Strings.lines0 q) b = fresh (Strings.scan p (Strings.lines0 q) b)
  part_keeps (Strings.lines_cr q) b = fresh (Strings.scan p (Strings.lines_cr q) b)
  part_keeps (Strings.lines q n acc) b = lines_keep q n acc b
  part_keeps (Strings.body k) b = body_keeps k b
  part_keeps (Strings.esc k from) b =
      either k.acc (eqb b (ch "u")) (takes (Strings.uni k from)) (Strings.on_short p k (Strings.short_of b)) (front_all k.acc)
      (short_keeps k (Strings.short_of b))
  part_keeps (Strings.uni k from) b =
      either k.acc (eqb b (ch "{")) (takes (Strings.brace0 k from)) (Strings.on_hex p k from 3 0 (Strings.hex_of b)) (front_all k.acc)
      (hex_keeps k from 3 0 (Strings.hex_of b))
  part_keeps (Strings.hex k from n v) b = hex_keeps k from n v (Strings.hex_of b)
  part_keeps (Strings.brace0 k from) b = brace_keeps k from 0 (Strings.hex_of b)
  part_keeps (Strings.brace k from v) b =
      either k.acc (eqb b (ch "}")) (takes (Strings.body (Strings.in_braces k from v))) (Strings.on_brace p k from v (Strings.hex_of b))
      (braces_front k from v) (brace_keeps k from v (Strings.hex_of b))
  part_keeps (Strings.done k) b = close_keeps k.acc (Strings.bad_now k)

-- ---- string parts that are a key's

-- behind some parts, or after a plus
data Of (d : List ℕ) : Base → Type 0 where
  parts : {e : List ℕ} → Front d e → Of d (got (string as_key e))
  joins : {e : List ℕ} → Front d e → Of d (want_string as_key e)

-- a state in which the key so far begins with d, or none
data KeyFront (d : List ℕ) : Conf → Type 0 where
  failed : {r : Refusal} → KeyFront d (fail r)
  expects : {s : Base} (l : Lay) → Of d s → KeyFront d (at (mode_of l s) 0 [])
  reads : {e : List ℕ} {s : Strings.St} → Front d (e ++ part_of s) → KeyFront d (at (item (string_part as_key e s)) 0 [])

-- what a byte says, and the state after it: still so
data FrontAfter (d : List ℕ) : List Heard → Conf → Type 0 where
  quiet : {c : Conf} → KeyFront d c → FrontAfter d [] c
  shut : {c : Conf} → FrontAfter d (shuts ∷ []) c
  told : {u : List ℕ} {c : Conf} → Front d u → FrontAfter d (names u ∷ []) c

module _ {d : List ℕ} (p : ℕ) where
  on_got_lem : {e : List ℕ} → Front d e → (c : Class) → FrontAfter d (at_got (string as_key e) c) (on_got p 0 [] (string as_key e) c)
  on_got_lem f blank_c = quiet (expects plain_l (parts f))
  on_got_lem f hash_c = quiet (expects line_l (parts f))
  on_got_lem f slash_c = quiet (expects slash_l (parts f))
  on_got_lem f colon_c = told f
  on_got_lem f plus_c = quiet (expects plain_l (joins f))
  on_got_lem f (close_c square) = quiet failed
  on_got_lem f (close_c curly) = shut
  on_got_lem f comma_c = quiet failed
  on_got_lem f (open_c c) = quiet failed
  on_got_lem f quote_c = quiet failed
  on_got_lem f dollar_c = quiet failed
  on_got_lem f letter_n = quiet failed
  on_got_lem f letter_t = quiet failed
  on_got_lem f letter_f = quiet failed
  on_got_lem f letter_c = quiet failed
  on_got_lem f other_c = quiet failed

  on_scan : (e : List ℕ) (b : ℕ) (s : Strings.St) → Front d (e ++ part_of s) → (o : Out Strings.St (List ℕ)) → PartKeeps (part_of s) o
      → FrontAfter d (at_out b (lift (string_part as_key e) (λ x. string as_key (e ++ x)) o))
      (on_out p 0 [] b (lift (string_part as_key e) (λ x. string as_key (e ++ x)) o))
  on_scan e b s f (takes s') h = quiet (reads (front_join d (e ++ part_of s) (e ++ part_of s') f (front_in e (part_of s) (part_of s') h)))
  on_scan e b s f (stops v) h = on_got_lem (front_join d (e ++ part_of s) (e ++ v) f (front_in e (part_of s) v h)) (class_of b)
  on_scan e b s f (breaks r) h = quiet failed

  -- the first byte of the next part is said by nobody
  on_first : {e : List ℕ} (b : ℕ) → Front d e → KeyFront d (Machine.start p 0 [] b (string_part as_key e Strings.begin))
  unfolding Strings.scan part_of
  on_first {e} b f = go (eqb b (ch "\"")) (eqb b (ch "'"))
    where
      opening : KeyFront d (at (item (string_part as_key e (Strings.one b))) 0 [])
      opening = reads (subst (Front d) (sym (append-nil e)) f)

      go : (x y : Bool)
          → KeyFront d (on_out p 0 [] b (lift (string_part as_key e) (λ x. string as_key (e ++ x))
          (cond x (takes (Strings.one b)) (cond y (takes (Strings.one b)) (breaks (NotGrammar p))))))
      go true y = opening
      go false true = opening
      go false false = failed

  on_part_lem : {e : List ℕ} (b : ℕ) → Front d e → (c : Class)
      → KeyFront d (on_part p 0 [] b (want_string as_key e) (Machine.start p 0 [] b (string_part as_key e Strings.begin)) (Machine.odd p) c)
  on_part_lem b f blank_c = expects plain_l (joins f)
  on_part_lem b f hash_c = expects line_l (joins f)
  on_part_lem b f slash_c = expects slash_l (joins f)
  on_part_lem b f quote_c = on_first b f
  on_part_lem b f dollar_c = failed
  on_part_lem b f (open_c c) = failed
  on_part_lem b f (close_c c) = failed
  on_part_lem b f letter_n = failed
  on_part_lem b f letter_t = failed
  on_part_lem b f letter_f = failed
  on_part_lem b f letter_c = failed
  on_part_lem b f plus_c = failed
  on_part_lem b f comma_c = failed
  on_part_lem b f colon_c = failed
  on_part_lem b f other_c = failed

  on_base_lem : {s : Base} (b : ℕ) → Of d s → FrontAfter d (hears p (at (base s) 0 []) b) (Machine.step p (at (base s) 0 []) b)
  on_base_lem b (parts f) = on_got_lem f (class_of b)
  on_base_lem b (joins f) = quiet (on_part_lem b f (class_of b))

  on_byte : (c : Conf) (b : ℕ) → KeyFront d c → FrontAfter d (hears p c b) (Machine.step p c b)
  on_byte c b failed = quiet failed
  on_byte c b (expects {s = s} l o) = layout_keeps (FrontAfter d) p 0 [] s (quiet failed) (λ l. quiet (expects l o)) b (on_base_lem b o) l
  on_byte c b (reads {e = e} {s = s} f) = on_scan e b s f (Strings.scan p s b) (part_keeps p s b)

-- what is named begins with d
named_front : {d u : List ℕ} (t : List ℕ) (p : ℕ) (c : Conf) → KeyFront d c → key_heard (tell p c t).heard ≡ some u → Front d u
unfolding tell
named_front [] p c h e = absurd (let z : ◌≡◌ {A = ℕ} 0 1 = cc in omega arith)
named_front {d} {u} (b ∷ t) p c h e = go (hears p c b) (Machine.step p c b) (on_byte p c b h) (λ c' g. named_front t (suc p) c' g) e
  where
    go : (hs : List Heard) (c' : Conf) → FrontAfter d hs c' → ((c' : Conf) → KeyFront d c' → key_heard (tell (suc p) c' t).heard ≡ some u → Front d u)
        → key_heard (hs ++ (tell (suc p) c' t).heard) ≡ some u → Front d u
    go hs c' (quiet g) more e = more c' g e
    go hs c' shut more e = absurd (let z : ◌≡◌ {A = ℕ} 0 1 = cc in omega arith)
    go hs c' (told {u = v} f) more e = let z : v ≡ u = cc in subst (Front d) z f

-- ---- what has been given

module _ (text : List ℕ) where
  part_front : (s : Strings.St) (p : ℕ) (before u : List ℕ) → Part text s p before u → Front (before ++ part_of s) u
  part_front s p before u h =
      front_join (before ++ part_of s) (before ++ h.value) u
      (front_in before (part_of s) h.value (ran_front Strings.scan part_of part_keeps (drop p text) p s h.value h.close h.runs))
      (named_front {d = before ++ h.value} (drop h.close text) h.close (got_parts (before ++ h.value))
      (expects plain_l (parts (front_all (before ++ h.value))))
      h.names)

  inside_front : (state : List ℕ → Strings.St) → ((a : List ℕ) → part_of (state a) ≡ a) → (p : ℕ) (e u : List ℕ) → Inside text state p e u → Front e u
  inside_front state is p e u h =
      subst (λ (x : List ℕ). Front x u) (ap (λ (x : List ℕ). h.before ++ x) (is h.so_far) ∙ sym h.given)
      (part_front (state h.so_far) p h.before u h.part)

  quoting_front : (p quote : ℕ) (e u : List ℕ) → Quoting text p quote e u → Front e u
  unfolding part_of
  quoting_front p quote e u (bad, h) = inside_front (between quote bad) (λ a. refl) p e u h

  -- the bytes given are the first of the key
  pub spells_front : (s : Spelling) (e u : List ℕ) → Spells text s e u → Front e u
  unfolding part_of name_of
  spells_front (Spelling.Name p) e u h =
      subst (Front e) (name_is text u h.value h.close h.names)
      (ran_front Names.scan name_of name_keeps (drop p text) p (Names.name e) h.value h.close h.runs)
  spells_front (Spelling.Opening p) e u h = front_join e (e ++ []) u (front_more e []) (part_front Strings.begin p e u h)
  spells_front (Spelling.Quoted p quote) e u h = quoting_front p quote e u h
  spells_front (Spelling.Lines p quote) e u h = inside_front (Strings.lines quote 0) (λ a. refl) p e u h
  spells_front (Spelling.Due c left p quote) e u (l, h) =
      front_join e (e ++ due_of c left) u (front_more e (due_of c left)) (quoting_front p quote (e ++ due_of c left) u h)
