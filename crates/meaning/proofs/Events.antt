-- What happens to keys, as lists: their places rise, what is open after them, and the first repeated key against the meaning. Assumes nothing.
use Prim.Native.Nat.{ℕ, suc, ◌≤◌, ◌<◌}
use mathlib.Core.Path.{◌≡◌, refl, sym, ap, ap₂, ◌∙◌}
use mathlib.Core.Bool.{Bool, true, false, cond, ◌&&◌, not}
use mathlib.Core.Logic.{◌⊎◌, inl, inr}
use mathlib.Core.Option.{Option, none, some}
use mathlib.Core.List.{List, [], ◌∷◌, ◌++◌, append_assoc, append-nil}
use native.Mathlib.Omega.{arith}
use Rattle.meaning.specs.Meaning.{Meaning, Meanings, Members}
use Rattle.meaning.specs.Once.{same, held, once, once_elements, once_members}
use Rattle.meaning.specs.Between.Events.{Event, begins, ends, named, among, first_repeat, Spans, erased, erase, events, element_events, member_events}

pub erase_join : (a b : List Event) → erase (a ++ b) ≡ erase a ++ erase b
erase_join [] b = refl
erase_join (e ∷ a) b = ap (λ (x : List Event). erased e ∷ x) (erase_join a b)

-- ---- the places rise

pub spans_from : (es : List Event) (a b c : ℕ) → a ≤ b → Spans b c es → Spans a c es
spans_from [] a b c l h = omega arith
spans_from (begins ∷ es) a b c l h = spans_from es a b c l h
spans_from (ends ∷ es) a b c l h = spans_from es a b c l h
spans_from (named q u ∷ es) a b c l h = (let x = h.0 in omega arith, h.1)

pub spans_to : (es : List Event) (a b c : ℕ) → Spans a b es → b ≤ c → Spans a c es
spans_to [] a b c h l = omega arith
spans_to (begins ∷ es) a b c h l = spans_to es a b c h l
spans_to (ends ∷ es) a b c h l = spans_to es a b c h l
spans_to (named q u ∷ es) a b c h l = (h.0, spans_to es (suc q) b c h.1 l)

pub spans_join : (x y : List Event) (a b c : ℕ) → Spans a b x → Spans b c y → Spans a c (x ++ y)
spans_join [] y a b c h k = spans_from y a b c h k
spans_join (begins ∷ x) y a b c h k = spans_join x y a b c h k
spans_join (ends ∷ x) y a b c h k = spans_join x y a b c h k
spans_join (named q u ∷ x) y a b c h k = (h.0, spans_join x y (suc q) b c h.1 k)

pub spans_past : (es : List Event) (a b : ℕ) → Spans a b es → a ≤ b
spans_past [] a b h = h
spans_past (begins ∷ es) a b h = spans_past es a b h
spans_past (ends ∷ es) a b h = spans_past es a b h
spans_past (named q u ∷ es) a b h = let z = spans_past es (suc q) b h.1 in omega (arith, h.0)

-- ---- what is open after events

-- of each open object, innermost first, the keys so far; as `first_repeat` has it
unfoldable pub open_after : List (List (List ℕ)) → List Event → List (List (List ℕ))
open_after os [] = os
open_after os (begins ∷ es) = open_after ([] ∷ os) es
open_after [] (ends ∷ es) = open_after [] es
open_after (o ∷ os) (ends ∷ es) = open_after os es
open_after [] (named q u ∷ es) = open_after [] es
open_after (o ∷ os) (named q u ∷ es) = open_after ((u ∷ o) ∷ os) es

pub open_join : (a b : List Event) (os : List (List (List ℕ))) → open_after os (a ++ b) ≡ open_after (open_after os a) b
unfolding open_after
open_join [] b os = refl
open_join (begins ∷ a) b os = open_join a b ([] ∷ os)
open_join (ends ∷ a) b [] = open_join a b []
open_join (ends ∷ a) b (o ∷ os) = open_join a b os
open_join (named q u ∷ a) b [] = open_join a b []
open_join (named q u ∷ a) b (o ∷ os) = open_join a b ((u ∷ o) ∷ os)

-- ---- the first repeated key of events and further ones

abbrev pub or_else : Option ℕ → Option ℕ → Option ℕ
or_else none y = y
or_else (some q) y = some q

pub first_join : (a b : List Event) (os : List (List (List ℕ))) → first_repeat os (a ++ b) ≡ or_else (first_repeat os a) (first_repeat (open_after os a) b)
unfolding first_repeat open_after
first_join [] b os = refl
first_join (begins ∷ a) b os = first_join a b ([] ∷ os)
first_join (ends ∷ a) b [] = first_join a b []
first_join (ends ∷ a) b (o ∷ os) = first_join a b os
first_join (named q u ∷ a) b [] = first_join a b []
first_join (named q u ∷ a) b (o ∷ os) =
    go (among u o) (first_repeat ((u ∷ o) ∷ os) a) (first_repeat (open_after ((u ∷ o) ∷ os) a) b) (first_join a b ((u ∷ o) ∷ os))
  where
    go : (t : Bool) (y z : Option ℕ) {x : Option ℕ} → x ≡ or_else y z → cond t (some q) x ≡ or_else (cond t (some q) y) z
    go true y z e = refl
    go false y z e = e

-- it is among the first ones, or among the further ones
pub first_either : (a b : List Event) (os : List (List (List ℕ))) (q : ℕ) → first_repeat os (a ++ b) ≡ some q
    → (first_repeat os a ≡ some q) ⊎ (first_repeat (open_after os a) b ≡ some q)
first_either a b os q e = go (first_repeat os a) (sym (first_join a b os) ∙ e)
  where
    go : (x : Option ℕ) → or_else x (first_repeat (open_after os a) b) ≡ some q → (x ≡ some q) ⊎ (first_repeat (open_after os a) b ≡ some q)
    go none f = inr f
    go (some p) f = inl f

-- its place is among those of the keys
pub first_within : (es : List Event) (os : List (List (List ℕ))) (a b q : ℕ) → Spans a b es → first_repeat os es ≡ some q → q < b
unfolding first_repeat
first_within [] os a b q h e = absurd (let z : ◌≡◌ {A = ℕ} 0 1 = cc in omega arith)
first_within (begins ∷ es) os a b q h e = first_within es ([] ∷ os) a b q h e
first_within (ends ∷ es) [] a b q h e = first_within es [] a b q h e
first_within (ends ∷ es) (o ∷ os) a b q h e = first_within es os a b q h e
first_within (named p u ∷ es) [] a b q h e = first_within es [] (suc p) b q h.1 e
first_within (named p u ∷ es) (o ∷ os) a b q h e = go (among u o) (λ f. first_within es ((u ∷ o) ∷ os) (suc p) b q h.1 f) e
  where
    go : (t : Bool) → (first_repeat ((u ∷ o) ∷ os) es ≡ some q → q < b) → cond t (some p) (first_repeat ((u ∷ o) ∷ os) es) ≡ some q → q < b
    go true f g = let z : p ≡ q = cc in omega (arith, spans_past es (suc p) b h.1)
    go false f g = f g

-- after events with places below p a key at p repeats one of its object: the first repeated key stands at p or before
pub first_by : (a b : List Event) (os : List (List (List ℕ))) (n p : ℕ) (u : List ℕ) (o : List (List ℕ)) (os' : List (List (List ℕ))) → Spans n p a
    → open_after os a ≡ o ∷ os' → among u o ≡ true → (q : ℕ) × (first_repeat os (a ++ (named p u ∷ b)) ≡ some q) × (q ≤ p)
unfolding first_repeat
first_by a b os n p u o os' h e f = go (first_repeat os a) refl
  where
    next : first_repeat (open_after os a) (named p u ∷ b) ≡ some p
    next = rw e (rw f)

    go : (x : Option ℕ) → first_repeat os a ≡ x → (q : ℕ) × (first_repeat os (a ++ (named p u ∷ b)) ≡ some q) × (q ≤ p)
    go none g = (p, first_join a (named p u ∷ b) os ∙ rw g next, omega arith)
    go (some q) g = (q, first_join a (named p u ∷ b) os ∙ rw g, let z = first_within a os n p q h g in omega arith)

-- ---- the keys so far, and those of the members

unfoldable pub keys_of : Members → List (List ℕ)
keys_of Members.bare = []
keys_of (Members.member x u m) = u ∷ keys_of x

pub among_held : (u : List ℕ) (x : Members) → among u (keys_of x) ≡ held u x
unfolding among held keys_of
among_held u Members.bare = refl
among_held u (Members.member x v m) = ap (cond (same u v) true) (among_held u x)

-- ---- no key repeats an earlier one of its object

abbrev is_none : Option ℕ → Bool
is_none none = true
is_none (some q) = false

clean : List (List (List ℕ)) → List Event → Bool
clean os es = is_none (first_repeat os es)

clean_named : (o : List (List ℕ)) (os : List (List (List ℕ))) (q : ℕ) (u : List ℕ) (es : List Event) → clean (o ∷ os) (named q u ∷ es)
    ≡ not (among u o) && clean ((u ∷ o) ∷ os) es
unfolding clean first_repeat
clean_named o os q u es = go (among u o) (first_repeat ((u ∷ o) ∷ os) es)
  where
    go : (b : Bool) (x : Option ℕ) → is_none (cond b (some q) x) ≡ not b && is_none x
    go true x = refl
    go false x = refl

-- the places do not matter for it
clean_erase : (es : List Event) (os : List (List (List ℕ))) → clean os es ≡ clean os (erase es)
unfolding clean first_repeat
clean_erase [] os = refl
clean_erase (begins ∷ es) os = clean_erase es ([] ∷ os)
clean_erase (ends ∷ es) [] = clean_erase es []
clean_erase (ends ∷ es) (o ∷ os) = clean_erase es os
clean_erase (named q u ∷ es) [] = clean_erase es []
clean_erase (named q u ∷ es) (o ∷ os) = clean_named o os q u es
    ∙ ap (λ (b : Bool). not (among u o) && b) (clean_erase es ((u ∷ o) ∷ os)) ∙ sym (clean_named o os 0 u (erase es))

and_assoc : (a b c : Bool) → (a && b) && c ≡ a && (b && c)
and_assoc true b c = refl
and_assoc false b c = refl

mutual
  unfolding events element_events member_events once once_elements once_members clean first_repeat keys_of

  clean_value : (m : Meaning) (os : List (List (List ℕ))) (r : List Event) → clean os (events m ++ r) ≡ once m && clean os r
  clean_value Meaning.null os r = refl
  clean_value (Meaning.bool b) os r = refl
  clean_value (Meaning.number n) os r = refl
  clean_value (Meaning.string s) os r = refl
  clean_value (Meaning.binary s) os r = refl
  clean_value (Meaning.time t) os r = refl
  clean_value (Meaning.array x) os r = clean_elements x os r
  clean_value (Meaning.object x) os r = ap (clean ([] ∷ os)) (append_assoc (member_events x) (ends ∷ []) r) ∙ clean_members x os (ends ∷ r)

  clean_elements : (x : Meanings) (os : List (List (List ℕ))) (r : List Event) → clean os (element_events x ++ r) ≡ once_elements x && clean os r
  clean_elements Meanings.none os r = refl
  clean_elements (Meanings.more x m) os r =
      ap (clean os) (append_assoc (element_events x) (events m) r)
      ∙ clean_elements x os (events m ++ r)
      ∙ ap (λ (b : Bool). once_elements x && b) (clean_value m os r)
      ∙ sym (and_assoc (once_elements x) (once m) (clean os r))

  clean_members : (x : Members) (os : List (List (List ℕ))) (r : List Event) → clean ([] ∷ os) (member_events x ++ r)
      ≡ once_members x && clean (keys_of x ∷ os) r
  clean_members Members.bare os r = refl
  clean_members (Members.member x u m) os r =
      ap (clean ([] ∷ os)) (append_assoc (member_events x) (named 0 u ∷ events m) r)
      ∙ clean_members x os (named 0 u ∷ (events m ++ r))
      ∙ ap (λ (b : Bool). once_members x && b)
      (clean_named (keys_of x) os 0 u (events m ++ r)
      ∙ ap₂ (λ (b c : Bool). not b && c) (among_held u x) (clean_value m ((u ∷ keys_of x) ∷ os) r)
      ∙ sym (and_assoc (not (held u x)) (once m) (clean ((u ∷ keys_of x) ∷ os) r)))
      ∙ sym (and_assoc (once_members x) (not (held u x) && once m) (clean ((u ∷ keys_of x) ∷ os) r))
      ∙ ap (λ (b : Bool). b && clean ((u ∷ keys_of x) ∷ os) r) (sym (and_assoc (once_members x) (not (held u x)) (once m)))

and_true : (b : Bool) → b && true ≡ b
and_true true = refl
and_true false = refl

decides : (es : List Event) (m : Meaning) → erase es ≡ events m → is_none (first_repeat [] es) ≡ once m
unfolding clean first_repeat
decides es m e = clean_erase es [] ∙ ap (clean []) (e ∙ sym (append-nil (events m))) ∙ clean_value m [] [] ∙ and_true (once m)

no_bool : true ≡ false → ⊥
no_bool e = let z : ◌≡◌ {A = ℕ} 0 1 = cc in omega arith

-- ---- the first repeated key, against the meaning

pub none_once : (es : List Event) (m : Meaning) → erase es ≡ events m → first_repeat [] es ≡ none → once m ≡ true
none_once es m e f = sym (decides es m e) ∙ ap is_none f

pub once_none : (es : List Event) (m : Meaning) → erase es ≡ events m → once m ≡ true → first_repeat [] es ≡ none
once_none es m e f = go (first_repeat [] es) (decides es m e ∙ f)
  where
    go : (o : Option ℕ) → is_none o ≡ true → o ≡ none
    go none g = refl
    go (some q) g = absurd (no_bool (sym g))

pub some_twice : (es : List Event) (m : Meaning) (q : ℕ) → erase es ≡ events m → first_repeat [] es ≡ some q → once m ≡ false
some_twice es m q e f = sym (decides es m e) ∙ ap is_none f

pub twice_some : (es : List Event) (m : Meaning) → erase es ≡ events m → once m ≡ false → (q : ℕ) × (first_repeat [] es ≡ some q)
twice_some es m e f = go (first_repeat [] es) (decides es m e ∙ f)
  where
    go : (o : Option ℕ) → is_none o ≡ false → (q : ℕ) × (o ≡ some q)
    go none g = absurd (no_bool g)
    go (some q) g = (q, refl)
