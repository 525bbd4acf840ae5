-- Keys (docs/FORMAT.md, 7.2) taken in from a place on, while there is room, are a window: a pass over the events finds
-- the first key that repeats one of them. Windows one after the other find the first repeated key of all. Assumes
-- nothing.
use Rattle.std.specs.Prelude.{◌≡◌, Bool, true, false, cond, ◌&&◌, List, [], ◌∷◌, ℕ, zero, suc, ◌≤◌, ◌<◌, eqb, leb}
use Rattle.std.specs.Prelude.{ltb, min, Option, Some, None, IfSome}
use Rattle.std.proofs.Math.Option as maybe
use Rattle.meaning.specs.Once.{same}
use Rattle.meaning.specs.Between.Events.{Event, begins, ends, named, Spans}

-- a key with its place
abbrev pub Key : Type 0
Key = ℕ × List ℕ

-- u is among the keys whose places W keeps
unfoldable pub hits : (ℕ → Bool) → List ℕ → List Key → Bool
hits W u [] = false
hits W u (k ∷ o) = cond (W k.0 && same u k.1) true (hits W u o)

abbrev pub all : ℕ → Bool
all e = true

-- the place of the first key that repeats one that W keeps
unfoldable pub repeat_in : (ℕ → Bool) → List (List Key) → List Event → Option ℕ
repeat_in W os [] = None
repeat_in W os (begins ∷ es) = repeat_in W ([] ∷ os) es
repeat_in W [] (ends ∷ es) = repeat_in W [] es
repeat_in W (o ∷ os) (ends ∷ es) = repeat_in W os es
repeat_in W [] (named q u ∷ es) = repeat_in W [] es
repeat_in W (o ∷ os) (named q u ∷ es) = cond (hits W u o) (Some q) (repeat_in W (((q, u) ∷ o) ∷ os) es)

-- from f on, before p where there is one
abbrev pub window : ℕ → Option ℕ → ℕ → Bool
window f None e = leb f e
window f (Some p) e = leb f e && ltb e p

-- the lesser of two places
abbrev pub least : Option ℕ → Option ℕ → Option ℕ
least None b = b
least (Some p) None = Some p
least (Some p) (Some q) = Some (min p q)

-- where the next window begins, after those before p: none is needed where a repeated key stands at p or before it
abbrev pub onward : Option ℕ → Option ℕ → Option ℕ
onward None p = p
onward (Some b) None = None
onward (Some b) (Some p) = cond (leb b p) None (Some p)

-- a place, as code answers it
abbrev pub given : maybe.Option ℕ → Option ℕ
given maybe.none = None
given (maybe.some q) = Some q

-- ---- a pass

-- of each open object, innermost first, the keys taken in, the newest first; the first key that repeats one, and the
-- first that was not taken in, 0 for none
pub record Kept : Type 0 where
  pub keys : List (List Key)
  pub twice : ℕ
  pub stop : ℕ

abbrev pub nothing : Kept
nothing = record { keys = []; twice = 0; stop = 0 }

-- the first repeated key, after a key at q; b where it repeats one
abbrev pub noted : ℕ → ℕ → Bool → ℕ
noted t q b = cond b (cond (eqb t 0) q t) t

-- the present object's
abbrev pub present : List (List Key) → List Key
present [] = []
present (k ∷ ts) = k

-- something is true of each key
abbrev pub Each : (Key → Type 0) → List Key → Type 0
Each P [] = Unit {0}
Each P (k ∷ o) = P k × Each P o

abbrev pub Every : (Key → Type 0) → List (List Key) → Type 0
Every P [] = Unit {0}
Every P (o ∷ os) = Each P o × Every P os

-- some key is taken in
pub data AnyKey : List (List Key) → Type 0 where
  here : {x : Key} {k : List Key} {ts : List (List Key)} → AnyKey ((x ∷ k) ∷ ts)
  around : {k : List Key} {ts : List (List Key)} → AnyKey ts → AnyKey (k ∷ ts)

-- from one state to another over events, with the keys from f on: each of them is looked for among those taken in, and
-- is then taken in or, where some are, the first that is not; after that no more are
pub data Passes (f : ℕ) : Kept → List Event → Kept → Type 0 where
  done : {s : Kept} → Passes f s [] s
  opens : {ts : List (List Key)} {t p : ℕ} {es : List Event} {s : Kept}
      → Passes f (record { keys = [] ∷ ts; twice = t; stop = p }) es s
      → Passes f (record { keys = ts; twice = t; stop = p }) (begins ∷ es) s
  closes : {k : List Key} {ts : List (List Key)} {t p : ℕ} {es : List Event} {s : Kept}
      → Passes f (record { keys = ts; twice = t; stop = p }) es s
      → Passes f (record { keys = k ∷ ts; twice = t; stop = p }) (ends ∷ es) s
  before : {k : List Key} {ts : List (List Key)} {t p q : ℕ} {u : List ℕ} {es : List Event} {s : Kept}
      → q < f
      → Passes f (record { keys = k ∷ ts; twice = t; stop = p }) es s
      → Passes f (record { keys = k ∷ ts; twice = t; stop = p }) (named q u ∷ es) s
  after : {k : List Key} {ts : List (List Key)} {t p q : ℕ} {u : List ℕ} {es : List Event} {s : Kept}
      → f ≤ q → (p ≡ 0 → ⊥)
      → Passes f (record { keys = k ∷ ts; twice = noted t q (hits all u k); stop = p }) es s
      → Passes f (record { keys = k ∷ ts; twice = t; stop = p }) (named q u ∷ es) s
  takes : {k : List Key} {ts : List (List Key)} {t q : ℕ} {u : List ℕ} {es : List Event} {s : Kept}
      → f ≤ q
      → Passes f (record { keys = ((q, u) ∷ k) ∷ ts; twice = noted t q (hits all u k); stop = 0 }) es s
      → Passes f (record { keys = k ∷ ts; twice = t; stop = 0 }) (named q u ∷ es) s
  stops : {k : List Key} {ts : List (List Key)} {t q : ℕ} {u : List ℕ} {es : List Event} {s : Kept}
      → f ≤ q → AnyKey (k ∷ ts)
      → Passes f (record { keys = k ∷ ts; twice = noted t q (hits all u k); stop = q }) es s
      → Passes f (record { keys = k ∷ ts; twice = t; stop = 0 }) (named q u ∷ es) s

-- ---- windows one after the other

-- of the events, whose places are below b, the keys before `from` have been taken in, all where there is none: `best`
-- is the first key that repeats one of them
pub record SearchedTo (b : ℕ) (es : List Event) (best from : Option ℕ) : Type 0 where
  pub spans : Spans 1 b es
  pub found : best ≡ repeat_in (window 0 from) [] es
  pub inside : IfSome from (λ p. p < b)

-- a window from `next` on comes after one from `from` on, or is none
abbrev pub NoneOrLater : ℕ → Option ℕ → Type 0
NoneOrLater from next = IfSome next (λ p. from < p)

-- ---- how deep

-- how many objects are open after events, of n before
unfoldable pub level : ℕ → List Event → ℕ
level n [] = n
level n (begins ∷ es) = level (suc n) es
level zero (ends ∷ es) = level zero es
level (suc n) (ends ∷ es) = level n es
level n (named q u ∷ es) = level n es
