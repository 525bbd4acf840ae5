-- What the machine hears of keys, against the grammar: of a derived text the first repeated key is the first that the grammar names. Assumes nothing.
use Prim.Native.Nat.{ℕ, suc, ◌≤◌}
use mathlib.Core.Path.{◌≡◌, refl, sym, ap, ◌∙◌, subst}
use mathlib.Core.Bool.{Bool, true, false, cond}
use mathlib.Core.Logic.{◌⊎◌, inl, inr}
use mathlib.Core.Option.{Option, none, some}
use mathlib.Core.List.{List, [], ◌∷◌, ◌++◌, append_assoc, append-nil}
use native.Mathlib.Omega.{arith}
use lib.ListN.{length, length-append}
use Rattle.meaning.specs.Letters.{letters, ch}
use Rattle.meaning.specs.Limits.{depth_limit}
use Rattle.meaning.specs.Meaning.{Meaning, Meanings, Members}
use Rattle.meaning.specs.Between.Events.{Event, begins, ends, named, first_repeat, Spans, erase, events, element_events, member_events}
use Rattle.meaning.specs.Between.Events as E
use Rattle.meaning.proofs.Events.{erase_join, spans_join, open_after, open_join, first_either, first_by, keys_of, among_held}
use Rattle.grammar.specs.Checks.{Room}
use Rattle.grammar.specs.Comments.{Ws}
use Rattle.grammar.specs.Keys.{Key}
use Rattle.grammar.specs.Values.{Inside, elements, members, Value, Rest, After, Item, Loose}
use Rattle.grammar.specs.Refused.{Spot, value, part, among, Left}
use Rattle.grammar.specs.Refused.{Repeats}
use Rattle.machine.specs.Machine.{Base, want, want_key, got, base, Frame, inside, pair, Conf, at, Ok, wanted}
use Rattle.machine.specs.Heard.{Heard, opens, shuts, starts, names, Told, after, tell, telling, heard_of}
use Rattle.machine.proofs.Runs.{EndsItem, adv}
use Rattle.machine.proofs.Heard.{after_join, told_step, told_saying, heard_join}
use Rattle.machine.proofs.Layouts.{adv_join}
use Rattle.machine.proofs.Derived.{closing, value_keys, rest_keys, after_keys, item_keys, text_keys}
use Rattle.machine.proofs.Complete.{got_of, Adds, comma_after_lem, after_layout, one_more}
use Rattle.machine.proofs.Layouts.{layout_told}
use Rattle.machine.proofs.Complete.{key_told, value_told, text_told}
use Rattle.machine.proofs.Refusals.Refuses.{init, adv_length}
use Rattle.machine.proofs.Refusals.Bases.{left_more}

-- ---- places

adv_past : (p : ℕ) (a : List ℕ) → p ≤ adv p a
adv_past p a = omega (arith, adv_length a p)

adv_front : (p : ℕ) (a b : List ℕ) → adv p a ≤ adv p (a ++ b)
adv_front p a b = rw (adv_join p a b) (adv_past (adv p a) b)

-- behind a key and its colon
colon_past : (p : ℕ) (c v w : List ℕ) → suc p ≤ adv (suc (adv (adv p c) v)) w
colon_past p c v w = omega (arith, adv_past p c, adv_past (adv p c) v, adv_past (suc (adv (adv p c) v)) w)

adv_reach : (l w : List ℕ) → adv (length l) w ≡ length (l ++ w)
adv_reach l w = adv_length w (length l) ∙ sym (length-append l w)

-- ---- the keys of a derivation

-- of each open object, innermost first, the keys so far
abbrev Open : Type 0
Open = List (List (List ℕ))

abbrev within : Inside → Open → Open
within (elements x) os = os
within (members x) os = keys_of x ∷ os

abbrev around : Open → Open
around os = os

abbrev inside_events : Inside → List Event
inside_events (elements x) = element_events x
inside_events (members x) = member_events x

-- What holds of the keys ks that the bytes a say, by the place where a begins: with the events before them they are the whole, their places rise, they lead
-- from what is open before them into what is open after them, and the first that repeats one is a key that the grammar names. P holds of what stands left of a.
record Said (P : List ℕ → Type 0) (before whole : List Event) (from into : Open → Open) (s : ℕ → ℕ) (a : List ℕ) (ks : ℕ → List Event) : Type 0 where
  same : (p : ℕ) → before ++ erase (ks p) ≡ whole
  spans : (p b c : ℕ) → b ≤ s p → b ≤ c → adv p a ≤ c → Spans b c (ks p)
  opened : (p : ℕ) (os : Open) → open_after (from os) (ks p) ≡ into os
  first : (l : List ℕ) (q : ℕ) (os : Open) → P l → first_repeat (from os) (ks (length l)) ≡ some q → (t : List ℕ) → Repeats (l ++ (a ++ t)) q

abbrev here : ℕ → ℕ
here p = p

-- left of what follows an item: after a comma more may stand
abbrev Behind : ℕ → Inside → List ℕ → Type 0
Behind d x l = (v w : List ℕ) → Ws v → Ws w → Left d (among x) (l ++ (v ++ (ch "," ∷ w)))

-- a key inside a value stands behind its bracket
abbrev ValueSaid : ℕ → List ℕ → Meaning → (ℕ → List Event) → Type 0
ValueSaid d a m ks = Said (Left d value) [] (events m) around around suc a ks

abbrev RestSaid : ℕ → Inside → List ℕ → Inside → (ℕ → List Event) → Type 0
RestSaid d x a y ks = Said (Left d (among x)) (inside_events x) (inside_events y ++ closing y) (within x) around here a ks

abbrev AfterSaid : ℕ → Inside → List ℕ → Inside → (ℕ → List Event) → Type 0
AfterSaid d x a y ks = Said (Behind d x) (inside_events x) (inside_events y ++ closing y) (within x) around here a ks

abbrev ItemSaid : ℕ → Inside → List ℕ → Inside → (ℕ → List Event) → Type 0
ItemSaid d x a y ks = Said (Left d (among x)) (inside_events x) (inside_events y) (within x) (within y) here a ks

-- one answer has one place, and none has no place
one_place : {p q : ℕ} → some p ≡ some q → p ≡ q
one_place e = cc

no_some : {q : ℕ} → ◌≡◌ {A = Option ℕ} none (some q) → ⊥
no_some e = let z : ◌≡◌ {A = ℕ} 0 1 = cc in omega arith

-- events with no key among them
no_key : (P : List ℕ → Type 0) (before whole : List Event) (from into : Open → Open) (s : ℕ → ℕ) (a : List ℕ) (es : List Event) → before ++ erase es ≡ whole
    → ((b c : ℕ) → b ≤ c → Spans b c es) → ((os : Open) → open_after (from os) es ≡ into os) → ((os : Open) → first_repeat (from os) es ≡ none)
    → Said P before whole from into s a (λ p. es)
no_key P before whole from into s a es e f g n = record {
  same = λ p. e;
  spans = λ p b c i j k. f b c j;
  opened = λ p os. g os;
  first = λ l q os h i t. absurd (no_some (sym (n os) ∙ i));
}

scalar_said : (d : ℕ) (a : List ℕ) (m : Meaning) → events m ≡ [] → ValueSaid d a m (λ p. [])
unfolding first_repeat open_after
scalar_said d a m e = no_key (Left d value) [] (events m) around around suc a [] (sym e) (λ b c j. j) (λ os. refl) (λ os. refl)

close_said : (P : List ℕ → Type 0) (x : Inside) (a : List ℕ) → Said P (inside_events x) (inside_events x ++ closing x) (within x) around here a (λ p. closing x)
unfolding first_repeat open_after
close_said P (elements x) a = no_key P (element_events x) (element_events x ++ []) around around here a [] refl (λ b c j. j) (λ os. refl) (λ os. refl)
close_said P (members x) a =
    no_key P (member_events x) (member_events x ++ (ends ∷ [])) (within (members x)) around here a (ends ∷ []) refl (λ b c j. j) (λ os. refl) (λ os. refl)

-- a repeated key further right
further : {P : List ℕ → Type 0} {before whole : List Event} {from into : Open → Open} {s : ℕ → ℕ} {a : List ℕ} {ks : ℕ → List Event}
    → Said P before whole from into s a ks → (l w : List ℕ) (p q : ℕ) (os : Open) → P (l ++ w) → p ≡ length (l ++ w) → first_repeat (from os) (ks p) ≡ some q
    → (t : List ℕ) → Repeats (l ++ (w ++ (a ++ t))) q
further {from = from} {a = a} {ks = ks} x l w p q os h e f t =
    subst (λ (z : List ℕ). Repeats z q) (append_assoc l w (a ++ t)) (x.first (l ++ w) q os h (subst (λ (n : ℕ). first_repeat (from os) (ks n) ≡ some q) e f) t)

array_said : (d e : ℕ) (a : List ℕ) (x : Meanings) (ks : ℕ → List Event) → Room true d e → RestSaid e (elements Meanings.none) a (elements x) ks
    → ValueSaid d (ch "[" ∷ a) (Meaning.array x) (λ p. ks (suc p))
unfolding events element_events
array_said d e a x ks Room.falls r = record {
  same = λ p. r.same (suc p) ∙ append-nil (element_events x);
  spans = λ p b c i j k. r.spans (suc p) b c i j k;
  opened = λ p os. r.opened (suc p) os;
  first = λ l q os h f t. further r l (ch "[" ∷ []) (suc (length l)) q os (Left.array h Ws.none) (adv_reach l (ch "[" ∷ [])) f t;
}

object_said : (d e : ℕ) (a : List ℕ) (x : Members) (ks : ℕ → List Event) → Room true d e → RestSaid e (members Members.bare) a (members x) ks
    → ValueSaid d (ch "{" ∷ a) (Meaning.object x) (λ p. begins ∷ ks (suc p))
unfolding events member_events keys_of first_repeat open_after
object_said d e a x ks Room.falls r = record {
  same = λ p. ap (λ (z : List Event). begins ∷ z) (r.same (suc p));
  spans = λ p b c i j k. r.spans (suc p) b c i j k;
  opened = λ p os. r.opened (suc p) os;
  first = λ l q os h f t. further r l (ch "{" ∷ []) (suc (length l)) q os (Left.object h Ws.none) (adv_reach l (ch "{" ∷ [])) f t;
}

item_said : (d : ℕ) (x y z : Inside) (w a b : List ℕ) (ks js : ℕ → List Event) → Ws w → Item true d x a y → ItemSaid d x a y ks → AfterSaid d y b z js
    → RestSaid d x (w ++ (a ++ b)) z (λ p. ks (adv p w) ++ js (adv (adv p w) a))
item_said d x y z w a b ks js l i r n = record {
  same = λ p.
      ap (λ (e : List Event). inside_events x ++ e) (erase_join (ks (adv p w)) (js (adv (adv p w) a)))
      ∙ sym (append_assoc (inside_events x) (erase (ks (adv p w))) (erase (js (adv (adv p w) a))))
      ∙ ap (λ (e : List Event). e ++ erase (js (adv (adv p w) a))) (r.same (adv p w))
      ∙ n.same (adv (adv p w) a);
  spans = λ p e c f g k.
      spans_join (ks (adv p w)) (js (adv (adv p w) a)) e (adv (adv p w) a) c
      (r.spans (adv p w) e (adv (adv p w) a) (let m = adv_past p w in omega arith) (let m = adv_past p w in let o = adv_past (adv p w) a in omega arith)
      (omega arith))
      (n.spans (adv (adv p w) a) (adv (adv p w) a) c (omega arith) (ends_by p c k) (ends_at p c k));
  opened = λ p os.
      open_join (ks (adv p w)) (js (adv (adv p w) a)) (within x os)
      ∙ ap (λ (o : Open). open_after o (js (adv (adv p w) a))) (r.opened (adv p w) os)
      ∙ n.opened (adv (adv p w) a) os;
  first = λ m q os h f t. go m q os h t (first_either (ks (adv (length m) w)) (js (adv (adv (length m) w) a)) (within x os) q f);
}
  where
    whole : (p : ℕ) → adv p (w ++ (a ++ b)) ≡ adv (adv (adv p w) a) b
    whole p = simp adv_join

    ends_at : (p c : ℕ) → adv p (w ++ (a ++ b)) ≤ c → adv (adv (adv p w) a) b ≤ c
    ends_at p c k = rw (← whole p) k

    ends_by : (p c : ℕ) → adv p (w ++ (a ++ b)) ≤ c → adv (adv p w) a ≤ c
    ends_by p c k = let e = ends_at p c k in let m = adv_past (adv (adv p w) a) b in omega arith

    go : (m : List ℕ) (q : ℕ) (os : Open) → Left d (among x) m → (t : List ℕ)
        → (first_repeat (within x os) (ks (adv (length m) w)) ≡ some q)
        ⊎ (first_repeat (open_after (within x os) (ks (adv (length m) w))) (js (adv (adv (length m) w) a)) ≡ some q)
        → Repeats (m ++ ((w ++ (a ++ b)) ++ t)) q
    go m q os h t (inl f) = simp append_assoc (further r m w (adv (length m) w) q os (left_more h l) (adv_reach m w) f (b ++ t))
    go m q os h t (inr f) =
        simp append_assoc (simp append_assoc at
        (further n m (w ++ a) (adv (adv (length m) w) a) q os
        (λ v u g k. subst (Left d (among y)) (simp append_assoc) (Left.comma (left_more h l) i g k))
        (sym (adv_join (length m) w a) ∙ adv_reach m (w ++ a))
        (subst (λ (o : Open). first_repeat o (js (adv (adv (length m) w) a)) ≡ some q) (r.opened (adv (length m) w) os) f) t))

comma_said : (d : ℕ) (x y : Inside) (w a : List ℕ) (ks : ℕ → List Event) → Ws w → RestSaid d x a y ks
    → AfterSaid d x (w ++ (ch "," ∷ a)) y (λ p. ks (suc (adv p w)))
comma_said d x y w a ks l r = record {
  same = λ p. r.same (suc (adv p w));
  spans = λ p b c i j k. r.spans (suc (adv p w)) b c (let m = adv_past p w in omega arith) j (rw (← whole p) k);
  opened = λ p os. r.opened (suc (adv p w)) os;
  first = λ m q os h f t.
      simp append_assoc (simp append_assoc at
      (further r m (w ++ (ch "," ∷ [])) (suc (adv (length m) w)) q os (h w [] l Ws.none)
      (sym (adv_join (length m) w (ch "," ∷ [])) ∙ adv_reach m (w ++ (ch "," ∷ []))) f t));
}
  where
    whole : (p : ℕ) → adv p (w ++ (ch "," ∷ a)) ≡ adv (suc (adv p w)) a
    whole p = adv_join p w (ch "," ∷ a)

element_said : (d : ℕ) (x : Meanings) (a : List ℕ) (m : Meaning) (ks : ℕ → List Event) → ValueSaid d a m ks
    → ItemSaid d (elements x) a (elements (Meanings.more x m)) ks
unfolding element_events
element_said d x a m ks r = record {
  same = λ p. ap (λ (e : List Event). element_events x ++ e) (r.same p);
  spans = λ p b c i j k. r.spans p b c (omega arith) j k;
  opened = λ p os. r.opened p os;
  first = λ l q os h f t. r.first l q os (Left.element h) f t;
}

member_said : (d : ℕ) (x : Members) (c u v w a : List ℕ) (m : Meaning) (ks : ℕ → List Event) → Key true c u → Ws v → Ws w → ValueSaid d a m ks
    → ItemSaid d (members x) (c ++ (v ++ (ch ":" ∷ (w ++ a)))) (members (Members.member x u m)) (λ p. named p u ∷ ks (adv (suc (adv (adv p c) v)) w))
unfolding member_events keys_of first_repeat open_after
member_said d x c u v w a m ks y i j r = record {
  same = λ p. ap (λ (e : List Event). member_events x ++ (named 0 u ∷ e)) (r.same (adv (suc (adv (adv p c) v)) w));
  spans = λ p b e f g k. (
    f,
    r.spans (adv (suc (adv (adv p c) v)) w) (suc p) e (omega (arith, colon_past p c v w))
        (let o = adv_past (adv (suc (adv (adv p c) v)) w) a in omega (arith, colon_past p c v w, whole p))
        (rw (← whole p) k),
  );
  opened = λ p os. r.opened (adv (suc (adv (adv p c) v)) w) ((u ∷ keys_of x) ∷ os);
  first = λ l q os h f t. go l q os h t (E.among u (keys_of x)) refl f;
}
  where
    whole : (p : ℕ) → adv p (c ++ (v ++ (ch ":" ∷ (w ++ a)))) ≡ adv (adv (suc (adv (adv p c) v)) w) a
    whole p = simp adv_join

    go : (l : List ℕ) (q : ℕ) (os : Open) → Left d (among (members x)) l → (t : List ℕ) (b : Bool) → E.among u (keys_of x) ≡ b
        → cond b (some (length l)) (first_repeat ((u ∷ keys_of x) ∷ os) (ks (adv (suc (adv (adv (length l) c) v)) w))) ≡ some q
        → Repeats (l ++ ((c ++ (v ++ (ch ":" ∷ (w ++ a)))) ++ t)) q
    go l q os h t true e f =
        simp append_assoc (subst (Repeats (l ++ (c ++ (v ++ (ch ":" ∷ (w ++ (a ++ t))))))) (one_place f)
        (Repeats.key (w ++ (a ++ t)) h y i (sym (among_held u x) ∙ e)))
    go l q os h t false e f =
        simp append_assoc (simp append_assoc at
        (further r l (c ++ (v ++ (ch ":" ∷ w))) (adv (suc (adv (adv (length l) c) v)) w) q ((u ∷ keys_of x) ∷ os) (Left.colon h y i j)
        (simp adv_join at (adv_reach l (c ++ (v ++ (ch ":" ∷ w))))) f t))

said : {d : ℕ} {a : List ℕ} {m : Meaning} (x : Value true d a m) → ValueSaid d a m (value_keys x)
unfolding value_keys rest_keys after_keys item_keys events
said x = elim x as (λ d a m h. ValueSaid d a m (value_keys h)) (λ d x a y h. RestSaid d x a y (rest_keys h)) (λ d x a y h. AfterSaid d x a y (after_keys h))
    (λ d x a y h. ItemSaid d x a y (item_keys h)) [
      | Value.null_word {d = d} ↦ scalar_said d (letters "null") Meaning.null refl
      | Value.true_word {d = d} ↦ scalar_said d (letters "true") (Meaning.bool true) refl
      | Value.false_word {d = d} ↦ scalar_said d (letters "false") (Meaning.bool false) refl
      | Value.number {d = d} {a = a} {n = n} y ↦ scalar_said d a (Meaning.number n) refl
      | Value.string {d = d} {a = a} {u = u} y ↦ scalar_said d a (Meaning.string u) refl
      | Value.binary {d = d} {a = a} {u = u} y ↦ scalar_said d a (Meaning.binary u) refl
      | Value.time_value {d = d} {a = a} {t = t} y ↦ scalar_said d a (Meaning.time t) refl
      | Value.array {d = d} {e = e} {a = a} {x = x} y (z → ih) ↦ array_said d e a x (rest_keys z) y ih
      | Value.object {d = d} {e = e} {a = a} {x = x} y (z → ih) ↦ object_said d e a x (rest_keys z) y ih
      | Rest.close {d = d} {b = b} {x = x} {w = w} y c ↦ close_said (Left d (among x)) x (w ++ (b ∷ []))
      | Rest.item {d = d} {x = x} {y = y} {z = z} {w = w} {a = a} {b = b} l (i → ih) (t → jh) ↦ item_said d x y z w a b (item_keys i) (after_keys t) l i ih jh
      | After.end {d = d} {b = b} {x = x} {w = w} y c ↦ close_said (Behind d x) x (w ++ (b ∷ []))
      | After.comma {d = d} {x = x} {y = y} {w = w} {a = a} l (t → ih) ↦ comma_said d x y w a (rest_keys t) l ih
      | Item.element {d = d} {x = x} {a = a} {m = m} (v → ih) ↦ element_said d x a m (value_keys v) ih
      | Item.member {d = d} {x = x} {c = c} {u = u} {v = v} {w = w} {a = a} {m = m} y l j (t → ih) ↦ member_said d x c u v w a m (value_keys t) y l j ih
    ]

-- what they mean, where they stand, and what is open after them
pub value_same : {d : ℕ} {a : List ℕ} {m : Meaning} (x : Value true d a m) (p : ℕ) → erase (value_keys x p) ≡ events m
value_same x p = (said x).same p

pub value_spans : {d : ℕ} {a : List ℕ} {m : Meaning} (x : Value true d a m) (p b c : ℕ) → b ≤ suc p → b ≤ c → adv p a ≤ c → Spans b c (value_keys x p)
value_spans x p b c i j k = (said x).spans p b c i j k

pub value_opened : {d : ℕ} {a : List ℕ} {m : Meaning} (x : Value true d a m) (p : ℕ) (os : Open) → open_after os (value_keys x p) ≡ os
value_opened x p os = (said x).opened p os

-- ---- from what is heard back to the events

-- a key where its colon comes, with the place that was heard last
abbrev events_from : ℕ → List Heard → List Event
events_from q [] = []
events_from q (opens ∷ hs) = begins ∷ events_from q hs
events_from q (shuts ∷ hs) = ends ∷ events_from q hs
events_from q (starts p ∷ hs) = events_from p hs
events_from q (names u ∷ hs) = named q u ∷ events_from q hs

events_back : (es : List Event) (q : ℕ) → events_from q (heard_of es) ≡ es
events_back [] q = refl
events_back (begins ∷ es) q = ap (λ (x : List Event). begins ∷ x) (events_back es q)
events_back (ends ∷ es) q = ap (λ (x : List Event). ends ∷ x) (events_back es q)
events_back (named p u ∷ es) q = ap (λ (x : List Event). named p u ∷ x) (events_back es p)

events_first : (es : List Event) (hs : List Heard) (q : ℕ) → (r : List Event) × (events_from q (heard_of es ++ hs) ≡ es ++ r)
events_first [] hs q = (events_from q hs, refl)
events_first (begins ∷ es) hs q = let h = events_first es hs q in (h.0, ap (λ (x : List Event). begins ∷ x) h.1)
events_first (ends ∷ es) hs q = let h = events_first es hs q in (h.0, ap (λ (x : List Event). ends ∷ x) h.1)
events_first (named p u ∷ es) hs q = let h = events_first es hs p in (h.0, ap (λ (x : List Event). named p u ∷ x) h.1)

-- what is heard leaves one list of events
pub heard_one : (a b : List Event) → heard_of a ≡ heard_of b → a ≡ b
heard_one a b e = sym (events_back a 0) ∙ ap (events_from 0) e ∙ events_back b 0

-- what is heard first are the first events
pub heard_first : (es fs : List Event) (hs : List Heard) → heard_of es ≡ heard_of fs ++ hs → (r : List Event) × (es ≡ fs ++ r)
heard_first es fs hs e = let h = events_first fs hs 0 in (h.0, sym (events_back es 0) ∙ ap (events_from 0) e ∙ h.1)

-- ---- what is heard left of a spot

-- what is open, by the frames
abbrev open_in : List Frame → Open
open_in [] = []
open_in (inside x ∷ k) = within x (open_in k)
open_in (pair x u ∷ k) = (u ∷ keys_of x) ∷ open_in k

-- from c the bytes a lead to e, and say these keys, by the place where a begins
abbrev Leads : Conf → List ℕ → (ℕ → List Event) → Conf → Type 0
Leads c a ks e = (p : ℕ) (r : List ℕ) → tell p c (a ++ r) ≡ after (heard_of (ks p)) (tell (adv p a) e r)

-- one after the other
told_then : (c : Conf) (s : List ℕ) (p : ℕ) (ks js : List Event) (x y : Told) → tell p c s ≡ after (heard_of ks) x → x ≡ after (heard_of js) y
    → tell p c s ≡ after (heard_of (ks ++ js)) y
told_then c s p ks js x y e f =
    e ∙ ap (after (heard_of ks)) f ∙ after_join (heard_of ks) (heard_of js) y ∙ ap (λ (h : List Heard). after h y) (sym (heard_join ks js))

leads_join : (a b : List ℕ) (c e f : Conf) (ks js : ℕ → List Event) → Leads c a ks e → Leads e b js f → Leads c (a ++ b) (λ p. ks p ++ js (adv p a)) f
leads_join a b c e f ks js h g p r =
    simp (append_assoc, adv_join) (told_then c (a ++ (b ++ r)) p (ks p) (js (adv p a)) _ _ (h p (b ++ r)) (g (adv p a) r))

-- after the bytes l of a text the machine stands at s, and these keys were heard
record Stood (l : List ℕ) (s : Base) (d : ℕ) (k : List Frame) : Type 0 where
  keys : List Event
  leads : (r : List ℕ) → tell 0 init (l ++ r) ≡ after (heard_of keys) (tell (adv 0 l) (at (base s) d k) r)
  spans : Spans 0 (adv 0 l) keys
  opened : open_after [] keys ≡ open_in k

-- and further bytes
onward : {l : List ℕ} {s : Base} {d : ℕ} {k : List Frame} → Stood l s d k → (a : List ℕ) (ks : ℕ → List Event) (s' : Base) (d' : ℕ) (k' : List Frame)
    → Leads (at (base s) d k) a ks (at (base s') d' k') → Spans (adv 0 l) (adv (adv 0 l) a) (ks (adv 0 l)) → open_after (open_in k) (ks (adv 0 l)) ≡ open_in k'
    → Stood (l ++ a) s' d' k'
onward {l} {s} {d} {k} h a ks s' d' k' f g o = record {
  keys = h.keys ++ ks (adv 0 l);
  leads = λ r.
      simp (append_assoc, adv_join) (told_then init (l ++ (a ++ r)) 0 h.keys (ks (adv 0 l)) _ _ (h.leads (a ++ r)) (f (adv 0 l) r));
  spans = rw (adv_join 0 l a) (spans_join h.keys (ks (adv 0 l)) 0 (adv 0 l) (adv (adv 0 l) a) h.spans g);
  opened = open_join h.keys (ks (adv 0 l)) [] ∙ ap (λ (x : Open). open_after x (ks (adv 0 l))) h.opened ∙ o;
}

abbrev Standing : ℕ → Spot → List ℕ → Type 0
Standing d value l = (k : List Frame) × Stood l want d k
Standing d part l = Unit {0}
Standing d (among x) l = (k : List Frame) × Stood l (wanted x) d (inside x ∷ k)

array_leads : {w : List ℕ} → Ws w → (d : ℕ) (k : List Frame)
    → Leads (at (base want) (suc d) k) (ch "[" ∷ w) (λ p. []) (at (base want) d (inside (elements Meanings.none) ∷ k))
array_leads {w} x d k p r = told_step p (at (base want) (suc d) k) (ch "[") (w ++ r) (at (base want) d (inside (elements Meanings.none) ∷ k)) _ refl refl
    (layout_told x want (suc p) d (inside (elements Meanings.none) ∷ k) r)

object_leads : {w : List ℕ} → Ws w → (d : ℕ) (k : List Frame)
    → Leads (at (base want) (suc d) k) (ch "{" ∷ w) (λ p. begins ∷ []) (at (base want_key) d (inside (members Members.bare) ∷ k))
object_leads {w} x d k p r = told_saying p (at (base want) (suc d) k) (ch "{") (w ++ r) (at (base want_key) d (inside (members Members.bare) ∷ k)) (opens ∷ [])
    _
    refl refl (layout_told x want_key (suc p) d (inside (members Members.bare) ∷ k) r)

colon_leads : {c u v w : List ℕ} → Key true c u → Ws v → Ws w → (x : Members) (d : ℕ) (k : List Frame)
    → Leads (at (base want_key) d (inside (members x) ∷ k)) (c ++ (v ++ (ch ":" ∷ w))) (λ p. named p u ∷ []) (at (base want) d (pair x u ∷ k))
colon_leads {c} {u} {v} {w} y i j x d k p r = simp (append_assoc, adv_join)
    (key_told y i x p d k (w ++ r) ∙ ap (after (starts p ∷ names u ∷ [])) (layout_told j want (suc (adv (adv p c) v)) d (pair x u ∷ k) r))

-- layout and a comma behind a value
comma_leads : {f : Frame} {m : Meaning} {y : Inside} → Adds f m y → {v w : List ℕ} → Ws v → Ws w → (d : ℕ) (k : List Frame)
    → Leads (at (base (got (got_of m))) d (f ∷ k)) (v ++ (ch "," ∷ w)) (λ p. []) (at (base (wanted y)) d (inside y ∷ k))
comma_leads {f} {m} {y} g {v} {w} i j d k p r = simp (append_assoc, adv_join)
    (layout_told i (got (got_of m)) p d (f ∷ k) (ch "," ∷ (w ++ r))
    ∙ told_step (adv p v) (at (base (got (got_of m))) d (f ∷ k)) (ch ",") (w ++ r) (at (base (wanted y)) d (inside y ∷ k)) _ (comma_after_lem g (adv p v) d k)
    refl
    (layout_told j (wanted y) (suc (adv p v)) d (inside y ∷ k) r))

-- a value, and what follows up to where the next item may begin
value_leads : {d : ℕ} {a : List ℕ} {m : Meaning} (t : Value true d a m) {f : Frame} {y : Inside} → Adds f m y → {v w : List ℕ} → Ws v → Ws w → (k : List Frame)
    → Leads (at (base want) d (f ∷ k)) (a ++ (v ++ (ch "," ∷ w))) (value_keys t) (at (base (wanted y)) d (inside y ∷ k))
value_leads {d} {a} {m} t {f} {y} g {v} {w} i j k p r =
    ap (tell p (at (base want) d (f ∷ k))) (append_assoc a (v ++ (ch "," ∷ w)) r)
    ∙ value_told t p (f ∷ k) ((v ++ (ch "," ∷ w)) ++ r) (rw append_assoc (after_layout i (ch "," ∷ (w ++ r))
    (one_more (w ++ r) EndsItem.comma (λ e. omega arith))))
    ∙ ap (after (heard_of (value_keys t p))) (comma_leads g i j d k (adv p a) r)
    ∙ ap (λ (n : ℕ). after (heard_of (value_keys t p)) (tell n (at (base (wanted y)) d (inside y ∷ k)) r)) (sym (adv_join p a (v ++ (ch "," ∷ w))))

item_leads : {d : ℕ} {x y : Inside} {a : List ℕ} (i : Item true d x a y) {v w : List ℕ} → Ws v → Ws w → (k : List Frame)
    → Leads (at (base (wanted x)) d (inside x ∷ k)) (a ++ (v ++ (ch "," ∷ w))) (item_keys i) (at (base (wanted y)) d (inside y ∷ k))
unfolding value_keys item_keys
item_leads (Item.element t) i j k = value_leads t Adds.element i j k
item_leads (Item.member {d = d} {x = x} {c = c} {u = u} {v = b} {w = z} {a = a} {m = m} y e f t) {v} {w} i j k = λ p r.
    simp (append_assoc, adv_join) (simp (append_assoc, adv_join) at
    (leads_join (c ++ (b ++ (ch ":" ∷ z))) (a ++ (v ++ (ch "," ∷ w))) _ _ _ (λ p. named p u ∷ []) (value_keys t) (colon_leads y e f x d k)
    (value_leads t Adds.member i j k) p r))

item_keys_lem : {d : ℕ} {x y : Inside} {a : List ℕ} (i : Item true d x a y) → ItemSaid d x a y (item_keys i)
unfolding value_keys item_keys
item_keys_lem (Item.element {d = d} {x = x} {a = a} {m = m} t) = element_said d x a m (value_keys t) (said t)
item_keys_lem (Item.member {d = d} {x = x} {c = c} {u = u} {v = v} {w = w} {a = a} {m = m} y l j t) = member_said d x c u v w a m (value_keys t) y l j (said t)

left_heard : {d : ℕ} {s : Spot} {l : List ℕ} → Left d s l → Standing d s l
unfolding open_after keys_of
left_heard (Left.text {w = w} x) =
    ([], record { keys = []; leads = λ r. layout_told x want 0 depth_limit [] r; spans = adv_past 0 w; opened = refl })
left_heard (Left.array {d = d} {l = l} {w = w} h x) =
    let k = left_heard h in
    (k.0, onward k.1 (ch "[" ∷ w) (λ p. []) want d (inside (elements Meanings.none) ∷ k.0) (array_leads x d k.0) (adv_past (adv 0 l) (ch "[" ∷ w)) refl)
left_heard (Left.object {d = d} {l = l} {w = w} h x) =
    let k = left_heard h in (
      k.0,
      onward k.1 (ch "{" ∷ w) (λ p. begins ∷ []) want_key d (inside (members Members.bare) ∷ k.0) (object_leads x d k.0)
          (adv_past (adv 0 l) (ch "{" ∷ w)) refl,
    )
left_heard (Left.element {x = x} h) = let k = left_heard h in (inside (elements x) ∷ k.0, k.1)
left_heard (Left.comma {d = d} {y = y} {l = l} {a = a} {v = v} {w = w} h i x z) =
    let k = left_heard h in (
      k.0,
      onward k.1 (a ++ (v ++ (ch "," ∷ w))) (item_keys i) (wanted y) d (inside y ∷ k.0) (item_leads i x z k.0)
          ((item_keys_lem i).spans (adv 0 l) (adv 0 l) (adv (adv 0 l) (a ++ (v ++ (ch "," ∷ w)))) (omega arith) (adv_past (adv 0 l) (a ++ (v ++ (ch "," ∷ w))))
          (adv_front (adv 0 l) a (v ++ (ch "," ∷ w))))
          ((item_keys_lem i).opened (adv 0 l) (open_in k.0)),
    )
left_heard (Left.colon {d = d} {x = m} {l = l} {c = c} {u = u} {v = v} {w = w} h i x y) =
    let k = left_heard h in (
      pair m u ∷ k.0,
      onward k.1 (c ++ (v ++ (ch ":" ∷ w))) (λ p. named p u ∷ []) want d (pair m u ∷ k.0) (colon_leads i x y m d k.0)
          (omega arith, simp adv_join (colon_past (adv 0 l) c v w)) refl,
    )
left_heard (Left.plus h i x y) = tt

-- where the grammar names a key that repeats one, the first repeated key that is heard stands there or before
pub repeat_heard : {t : List ℕ} {p : ℕ} → Repeats t p → (keys : List Event) → (telling t).heard ≡ heard_of keys
    → (q : ℕ) × (first_repeat [] keys ≡ some q) × (q ≤ p)
unfolding telling
repeat_heard (Repeats.key {d = d} {x = x} {l = l} {c = c} {u = u} {v = v} r h y i e) keys f = go (left_heard h).0 (left_heard h).1
  where
    told : (k : List Frame) (g : Stood l want_key d (inside (members x) ∷ k)) → tell 0 init (l ++ (c ++ (v ++ (ch ":" ∷ r))))
        ≡ after (heard_of (g.keys ++ (named (adv 0 l) u ∷ []))) (tell (suc (adv (adv (adv 0 l) c) v)) (at (base want) d (pair x u ∷ k)) r)
    told k g = told_then init _ 0 g.keys (named (adv 0 l) u ∷ []) _ _ (g.leads (c ++ (v ++ (ch ":" ∷ r)))) (key_told y i x (adv 0 l) d k r)

    go : (k : List Frame) → Stood l want_key d (inside (members x) ∷ k) → (q : ℕ) × (first_repeat [] keys ≡ some q) × (q ≤ length l)
    go k g =
        let z = heard_first keys (g.keys ++ (named (adv 0 l) u ∷ [])) _ (sym f ∙ ap (λ (x : Told). x.heard) (told k g)) in
        let n = first_by g.keys z.0 [] 0 (adv 0 l) u (keys_of x) (open_in k) g.spans g.opened (among_held u x ∙ e) in
        (n.0, ap (first_repeat []) (z.1 ∙ append_assoc g.keys (named (adv 0 l) u ∷ []) z.0) ∙ n.1, omega (arith, n.2, adv_length l 0))

-- ---- a derived text

pub record KeyedText (t : List ℕ) (m : Meaning) : Type 0 where
  pub keys : List Event
  pub heard : telling t ≡ record { verdict = Ok m; heard = heard_of keys }
  pub same : erase keys ≡ events m
  pub spans : Spans 1 (length t) keys
  -- 15: the first repeated key stands at the first place that the grammar names
  pub first : (q : ℕ) → first_repeat [] keys ≡ some q → Repeats t q × ((p : ℕ) → Repeats t p → q ≤ p)
  pub none_repeats : first_repeat [] keys ≡ none → (p : ℕ) → Repeats t p → ⊥

-- no text is empty
text_begins : (t : List ℕ) (m : Meaning) (hs : List Heard) → telling t ≡ record { verdict = Ok m; heard = hs } → 1 ≤ length t
unfolding telling tell
text_begins [] m hs e = absurd (let f = ap (λ (x : Told). x.verdict) e in let z : ◌≡◌ {A = ℕ} 0 1 = cc in omega arith)
text_begins (b ∷ t) m hs e = omega arith

pub text_keys_lem : {t : List ℕ} {m : Meaning} → Loose true t m → KeyedText t m
unfolding text_keys
text_keys_lem (Loose.text {w = w} {a = a} {v = v} {m = m} l x y h) = record {
  keys = ks;
  heard = told;
  same = value_same x (adv 0 w);
  spans = value_spans x (adv 0 w) 1 (length (w ++ (a ++ v))) (omega arith) (text_begins (w ++ (a ++ v)) m (heard_of ks) told) within_text;
  first = λ q e. (
    (said x).first w q [] (Left.text l) (subst (λ (n : ℕ). first_repeat [] (value_keys x n) ≡ some q) (adv_reach [] w) e) v,
    λ p r. let n = repeat_heard r ks (ap (λ (x : Told). x.heard) told) in omega (arith, one_place (sym e ∙ n.1), n.2),
  );
  none_repeats = λ e p r. no_some (sym e ∙ (repeat_heard r ks (ap (λ (x : Told). x.heard) told)).1);
}
  where
    ks : List Event
    ks = value_keys x (adv 0 w)

    told : telling (w ++ (a ++ v)) ≡ record { verdict = Ok m; heard = heard_of ks }
    told = text_told (Loose.text l x y h)

    within_text : adv (adv 0 w) a ≤ length (w ++ (a ++ v))
    within_text = omega (arith, adv_front (adv 0 w) a v, adv_join 0 w (a ++ v), adv_length (w ++ (a ++ v)) 0)
