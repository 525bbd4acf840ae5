-- A pass finds the first key that repeats one of its window; windows one after the other find the first repeated key of all, and each begins after the one
-- before. Assumes nothing.
use Prim.Native.Nat.{ℕ, zero, suc, ◌-◌, ◌≤◌, ◌<◌}
use mathlib.Core.Path.{◌≡◌, refl, sym, ap, ap₂, ◌∙◌}
use mathlib.Core.Bool.{Bool, true, false, cond, ◌&&◌, ◌||◌}
use mathlib.Core.Logic.{◌⊎◌, inl, inr}
use mathlib.Core.Option as maybe
use mathlib.Core.List.{List, [], ◌∷◌, ◌++◌}
use native.Mathlib.Omega.{arith}
use lib.Dec.{eqb, leb, ltb}
use borrow.Author.Tests.{eqb-true, eqb-false, leb-true, leb-false, le-leb, ltb-true, ltb-false, ne_eqb, lt-leb, lt-ltb, le-ltb}
use Rattle.meaning.specs.Once.{same}
use Rattle.meaning.specs.Between.Events.{Event, begins, ends, named, among, first_repeat, Spans}
use Rattle.std.specs.Prelude.{Option, Some, None, IfSome}
use Rattle.once.specs.Table.{unless_zero}
use Rattle.once.specs.Windows.{Key, hits, all, repeat_in, window, least, onward, given, Kept, nothing, noted, AnyKey, Passes, Each, Every}
use Rattle.once.specs.Windows.{SearchedTo, NoneOrLater}

-- ---- one pass after the other

pub passes_join : {f : ℕ} {s s' s'' : Kept} {a : List Event} (b : List Event) → Passes f s a s' → Passes f s' b s'' → Passes f s (a ++ b) s''
passes_join b Passes.done y = y
passes_join b (Passes.opens x) y = Passes.opens (passes_join b x y)
passes_join b (Passes.closes x) y = Passes.closes (passes_join b x y)
passes_join b (Passes.before l x) y = Passes.before l (passes_join b x y)
passes_join b (Passes.after l m x) y = Passes.after l m (passes_join b x y)
passes_join b (Passes.takes l x) y = Passes.takes l (passes_join b x y)
passes_join b (Passes.stops l m x) y = Passes.stops l m (passes_join b x y)

-- ---- where a pass stops

kept : {f : ℕ} {s s' : Kept} {es : List Event} → Passes f s es s' → (s.stop ≡ 0 → ⊥) → s'.stop ≡ s.stop
kept Passes.done n = refl
kept (Passes.opens x) n = kept x n
kept (Passes.closes x) n = kept x n
kept (Passes.before l x) n = kept x n
kept (Passes.after l m x) n = kept x n
kept (Passes.takes l x) n = absurd (n refl)
kept (Passes.stops l m x) n = absurd (n refl)

-- none, or from a place on
abbrev From : ℕ → Option ℕ → Type 0
From a p = IfSome p (λ q. a ≤ q)

from_less : (a b : ℕ) (p : Option ℕ) → b ≤ a → From a p → From b p
from_less a b None l h = tt
from_less a b (Some q) l h = omega arith

from_none : (a : ℕ) (p : ℕ) → p ≡ 0 → From a (unless_zero p)
from_none a p e = rw e tt

from_some : (a : ℕ) (p : ℕ) → (p ≡ 0 → ⊥) → a ≤ p → From a (unless_zero p)
from_some a zero n l = absurd (n refl)
from_some a (suc p) n l = l

later : {f : ℕ} {s s' : Kept} {es : List Event} (a b : ℕ) → Passes f s es s' → 0 < a → Spans a b es → s.stop ≡ 0 → From a (unless_zero s'.stop)
later a b Passes.done z w e = from_none a _ e
later a b (Passes.opens x) z w e = later a b x z w e
later a b (Passes.closes x) z w e = later a b x z w e
later a b (Passes.before {q = q} l x) z w e = from_less (suc q) a _ (omega (arith, w.0)) (later (suc q) b x (omega arith) w.1 e)
later a b (Passes.after l m x) z w e = absurd (m e)
later a b (Passes.takes {q = q} l x) z w e = from_less (suc q) a _ (omega (arith, w.0)) (later (suc q) b x (omega arith) w.1 refl)
later a b (Passes.stops {q = q} l m x) z w e =
    let h = kept x (λ y. omega (arith, w.0)) in
    from_some a _ (λ y. omega (arith, w.0)) (omega (arith, w.0))

-- ---- keys of which something is true

module _ (P Q : Key → Type 0) (f : (k : Key) → P k → Q k) where
  pub each_map : (o : List Key) → Each P o → Each Q o
  each_map [] h = tt
  each_map (k ∷ o) h = (f k h.0, each_map o h.1)

  pub every_map : (os : List (List Key)) → Every P os → Every Q os
  every_map [] h = tt
  every_map (o ∷ os) h = (each_map o h.0, every_map os h.1)

-- some key is taken in: it is one of which it is true
some_of : (P : Key → Type 0) (ts : List (List Key)) → AnyKey ts → Every P ts → (k : Key) × P k
some_of P (o ∷ ts) (AnyKey.here {x = x}) h = (x, h.0.0)
some_of P (o ∷ ts) (AnyKey.around y) h = some_of P ts y h.1
some_of P [] s h = elim s [ ]

-- ---- windows move on

spans_order : (a b : ℕ) (es : List Event) → Spans a b es → a ≤ b
spans_order a b [] w = w
spans_order a b (begins ∷ es) w = spans_order a b es w
spans_order a b (ends ∷ es) w = spans_order a b es w
spans_order a b (named q u ∷ es) w = let h = spans_order (suc q) b es w.1 in omega (arith, w.0)

-- from f on, before a
abbrev Among : ℕ → ℕ → Key → Type 0
Among f a k = (f ≤ k.0) × (k.0 < a)

among_on : (f a b : ℕ) → a ≤ b → (ts : List (List Key)) → Every (Among f a) ts → Every (Among f b) ts
among_on f a b l ts h = every_map (Among f a) (Among f b) (λ k g. (g.0, omega (arith, g.1))) ts h

-- none, or after f and before b
abbrev Between : ℕ → ℕ → ℕ → Type 0
Between f b p = (p ≡ 0 → ⊥) → (f < p) × (p < b)

moves : {f : ℕ} {s s' : Kept} {es : List Event} (a b : ℕ) → Passes f s es s' → Spans a b es → Every (Among f a) s.keys → Between f b s.stop
    → Between f b s'.stop
moves a b Passes.done w h g = g
moves a b (Passes.opens x) w h g = moves a b x w (tt, h) g
moves a b (Passes.closes x) w h g = moves a b x w h.1 g
moves {f = f} a b (Passes.before {k = k} {ts = ts} {q = q} l x) w h g =
    moves (suc q) b x w.1 (among_on f a (suc q) (omega (arith, w.0)) (k ∷ ts) h) g
moves {f = f} a b (Passes.after {k = k} {ts = ts} {q = q} l m x) w h g =
    moves (suc q) b x w.1 (among_on f a (suc q) (omega (arith, w.0)) (k ∷ ts) h) g
moves {f = f} a b (Passes.takes {k = k} {ts = ts} {q = q} {u = u} l x) w h g =
    let y = among_on f a (suc q) (omega (arith, w.0)) (k ∷ ts) h in
    moves (suc q) b x w.1 (((l, omega arith), y.0), y.1) g
moves {f = f} a b (Passes.stops {k = k} {ts = ts} {q = q} {es = es} l m x) w h g =
    let y = some_of (Among f a) (k ∷ ts) m h in
    let o = spans_order (suc q) b es w.1 in
    moves (suc q) b x w.1 (among_on f a (suc q) (omega (arith, w.0)) (k ∷ ts) h) (λ n. (omega (arith, w.0, y.1.0, y.1.1), omega arith))

-- a window that is not the last ends after its beginning, before the events do
moves_on : (f a b : ℕ) (es : List Event) (s : Kept) → Passes f nothing es s → Spans a b es → (s.stop ≡ 0 → ⊥) → (f < s.stop) × (s.stop < b)
moves_on f a b es s x w n = moves a b x w tt (λ m. absurd (m refl)) n

-- ---- what a pass keeps

-- every key so far is before a
abbrev Past : ℕ → Key → Type 0
Past a k = k.0 < a

past_on : (a b : ℕ) → a ≤ b → (os : List (List Key)) → Every (Past a) os → Every (Past b) os
past_on a b l os h = every_map (Past a) (Past b) (λ k g. omega arith) os h

-- with one key more, at q
past_more : (a q : ℕ) (u : List ℕ) (o : List Key) (os : List (List Key)) → a ≤ q → Every (Past a) (o ∷ os) → Every (Past (suc q)) (((q, u) ∷ o) ∷ os)
past_more a q u o os l h = let y = past_on a (suc q) (omega arith) (o ∷ os) h in ((omega arith, y.0), y.1)

-- what is taken in is what W keeps
abbrev Like : (ℕ → Bool) → List (List Key) → List (List Key) → Type 0
Like W [] [] = Unit {0}
Like W [] (k ∷ ts) = ⊥
Like W (o ∷ os) [] = ⊥
Like W (o ∷ os) (k ∷ ts) = ((u : List ℕ) → hits W u o ≡ hits all u k) × Like W os ts

inside_is : (f : ℕ) (p : Option ℕ) (e : ℕ) → f ≤ e → From (suc e) p → window f p e ≡ true
inside_is f None e l h = le-leb f e l
inside_is f (Some p) e l h = rw (le-leb f e l, lt-ltb e p h)

outside_early : (f : ℕ) (p : Option ℕ) (e : ℕ) → e < f → window f p e ≡ false
outside_early f None e l = lt-leb f e l
outside_early f (Some p) e l = rw (lt-leb f e l)

outside_late : (f p e : ℕ) → (p ≡ 0 → ⊥) → p ≤ e → window f (unless_zero p) e ≡ false
outside_late f zero e n l = absurd (n refl)
outside_late f (suc p) e n l = rw (le-ltb e (suc p) l) (go (leb f e))
  where
    go : (x : Bool) → x && false ≡ false
    go true = refl
    go false = refl

hits_more : (W : ℕ → Bool) (v : List ℕ) (q : ℕ) (u : List ℕ) (o k : List Key) → W q ≡ true → hits W v o ≡ hits all v k → hits W v ((q, u) ∷ o)
    ≡ hits all v ((q, u) ∷ k)
unfolding hits
hits_more W v q u o k e h = rw (e, h)

hits_less : (W : ℕ → Bool) (v : List ℕ) (q : ℕ) (u : List ℕ) (o : List Key) → W q ≡ false → hits W v ((q, u) ∷ o) ≡ hits W v o
unfolding hits
hits_less W v q u o e = rw e

hits_nil : (W : ℕ → Bool) (u : List ℕ) → hits W u [] ≡ hits all u []
unfolding hits
hits_nil W u = refl

none_before : (f : ℕ) (p : Option ℕ) (a : ℕ) (u : List ℕ) (o : List Key) → Each (Past a) o → a ≤ f → hits (window f p) u o ≡ false
unfolding hits
none_before f p a u [] h l = refl
none_before f p a u (k ∷ o) h l = rw (outside_early f p k.0 (omega (arith, h.0)), none_before f p a u o h.1 l)

-- the first of the two that is there
abbrev first : ℕ → Option ℕ → Option ℕ
first zero r = r
first (suc t) r = Some (suc t)

notice_first : (t q : ℕ) (r : Option ℕ) (b : Bool) → (q ≡ 0 → ⊥) → first (noted t q b) r ≡ first t (cond b (Some q) r)
notice_first t q r false n = refl
notice_first zero zero r true n = absurd (n refl)
notice_first zero (suc q) r true n = refl
notice_first (suc t) q r true n = rw (ne_eqb (suc t) 0 (λ e. omega arith))

first_none : (t : ℕ) → unless_zero t ≡ first t None
first_none zero = refl
first_none (suc t) = refl

-- one key, however it is taken
keyed : (W : ℕ → Bool) (o : List Key) (os : List (List Key)) (k : List Key) (t q : ℕ) (u : List ℕ) (es : List Event) (t' : Option ℕ) → (q ≡ 0 → ⊥)
    → hits W u o ≡ hits all u k → t' ≡ first (noted t q (hits all u k)) (repeat_in W (((q, u) ∷ o) ∷ os) es) → t'
    ≡ first t (repeat_in W (o ∷ os) (named q u ∷ es))
unfolding repeat_in
keyed W o os k t q u es t' n h e =
    e ∙ ap (λ (b : Bool). first (noted t q b) (repeat_in W (((q, u) ∷ o) ∷ os) es)) (sym h)
    ∙ notice_first t q (repeat_in W (((q, u) ∷ o) ∷ os) es) (hits W u o) n

-- none yet, or at a place already passed
abbrev Stopped : ℕ → ℕ → Type 0
Stopped a p = (p ≡ 0) ⊎ (p ≤ a)

stopped_on : (a b : ℕ) {p : ℕ} → a ≤ b → Stopped a p → Stopped b p
stopped_on a b l (inl y) = inl y
stopped_on a b l (inr y) = inr (omega arith)

stopped_past : (a : ℕ) {p : ℕ} → (p ≡ 0 → ⊥) → Stopped a p → p ≤ a
stopped_past a n (inl y) = absurd (n y)
stopped_past a n (inr y) = y

finds : {f : ℕ} {s s' : Kept} {es : List Event} (a b : ℕ) (os : List (List Key)) → Passes f s es s' → 0 < a → Spans a b es → Every (Past a) os
    → Stopped a s.stop → Like (window f (unless_zero s'.stop)) os s.keys
    → unless_zero s'.twice ≡ first s.twice (repeat_in (window f (unless_zero s'.stop)) os es)
unfolding repeat_in
finds {s = s} a b os Passes.done z w g y l = first_none s.twice
finds {f = f} {s' = s'} a b os (Passes.opens x) z w g y l = finds a b ([] ∷ os) x z w (tt, g) y ((λ u. hits_nil (window f (unless_zero s'.stop)) u), l)
finds a b [] (Passes.closes x) z w g y l = absurd l
finds a b (o ∷ os) (Passes.closes x) z w g y l = finds a b os x z w g.1 y l.1
finds a b [] (Passes.before m x) z w g y l = absurd l
finds {f = f} {s' = s'} a b (o ∷ os) (Passes.before {q = q} {u = u} m x) z w g y l =
    rw (none_before f (unless_zero s'.stop) a u o g.0 (omega (arith, w.0)))
    (finds (suc q) b (((q, u) ∷ o) ∷ os) x (omega arith) w.1 (past_more a q u o os w.0 g) (stopped_on a (suc q) (omega (arith, w.0)) y)
    ((λ v. hits_less (window f (unless_zero s'.stop)) v q u o (outside_early f (unless_zero s'.stop) q m) ∙ l.0 v), l.1))
finds a b [] (Passes.after m n x) z w g y l = absurd l
finds {f = f} {s' = s'} a b (o ∷ os) (Passes.after {k = k} {t = t} {q = q} {u = u} {es = es} m n x) z w g y l =
    let e = kept x n in
    let p = stopped_past a n y in
    keyed (window f (unless_zero s'.stop)) o os k t q u es (unless_zero s'.twice) (λ i. omega (arith, w.0)) (l.0 u)
    (finds (suc q) b (((q, u) ∷ o) ∷ os) x (omega arith) w.1 (past_more a q u o os w.0 g) (stopped_on a (suc q) (omega (arith, w.0)) y)
    ((λ v. hits_less (window f (unless_zero s'.stop)) v q u o (outside_late f s'.stop q (λ i. n (sym e ∙ i)) (omega (arith, w.0))) ∙ l.0 v), l.1))
finds a b [] (Passes.takes m x) z w g y l = absurd l
finds {f = f} {s' = s'} a b (o ∷ os) (Passes.takes {k = k} {t = t} {q = q} {u = u} {es = es} m x) z w g y l =
    keyed (window f (unless_zero s'.stop)) o os k t q u es (unless_zero s'.twice) (λ i. omega (arith, w.0)) (l.0 u)
    (finds (suc q) b (((q, u) ∷ o) ∷ os) x (omega arith) w.1 (past_more a q u o os w.0 g) (inl refl) (
      (λ v. hits_more (window f (unless_zero s'.stop)) v q u o k (inside_is f (unless_zero s'.stop) q m (later (suc q) b x (omega arith) w.1 refl)) (l.0 v)),
      l.1,
    ))
finds a b [] (Passes.stops m n x) z w g y l = absurd l
finds {f = f} {s' = s'} a b (o ∷ os) (Passes.stops {k = k} {t = t} {q = q} {u = u} {es = es} m n x) z w g y l =
    let i : q ≡ 0 → ⊥ = λ j. omega (arith, w.0) in
    let e = kept x i in
    keyed (window f (unless_zero s'.stop)) o os k t q u es (unless_zero s'.twice) i (l.0 u)
    (finds (suc q) b (((q, u) ∷ o) ∷ os) x (omega arith) w.1 (past_more a q u o os w.0 g) (inr (omega arith))
    ((λ v. hits_less (window f (unless_zero s'.stop)) v q u o (outside_late f s'.stop q (λ j. i (sym e ∙ j)) (omega arith)) ∙ l.0 v), l.1))

-- a pass finds the first key that repeats one of its window
pass_finds : (f b : ℕ) (es : List Event) (s : Kept) → Passes f nothing es s → Spans 1 b es → unless_zero s.twice
    ≡ repeat_in (window f (unless_zero s.stop)) [] es
pass_finds f b es s x w = finds 1 b [] x (omega arith) w tt (inl refl) tt

-- ---- windows one after the other

least_first : (q : ℕ) (r : Option ℕ) → From (suc q) r → least (Some q) r ≡ Some q
least_first q None h = refl
least_first q (Some r) h = ap (λ (x : ℕ). Some x) (omega arith)

least_second : (q : ℕ) (r : Option ℕ) → From (suc q) r → least r (Some q) ≡ Some q
least_second q None h = refl
least_second q (Some r) h = ap (λ (x : ℕ). Some x) (omega arith)

least_same : (q : ℕ) → least (Some q) (Some q) ≡ Some q
least_same q = ap (λ (x : ℕ). Some x) (omega arith)

-- a repeated key is no earlier than the events
repeat_past : (W : ℕ → Bool) (es : List Event) (os : List (List Key)) (a b : ℕ) → Spans a b es → From a (repeat_in W os es)
unfolding repeat_in
repeat_past W [] os a b s = tt
repeat_past W (begins ∷ es) os a b s = repeat_past W es ([] ∷ os) a b s
repeat_past W (ends ∷ es) [] a b s = repeat_past W es [] a b s
repeat_past W (ends ∷ es) (o ∷ os) a b s = repeat_past W es os a b s
repeat_past W (named q u ∷ es) [] a b s =
    from_less (suc q) a (repeat_in W [] es) (omega (arith, s.0)) (repeat_past W es [] (suc q) b s.1)
repeat_past W (named q u ∷ es) (o ∷ os) a b s =
    go (hits W u o) (repeat_in W (((q, u) ∷ o) ∷ os) es) (repeat_past W es (((q, u) ∷ o) ∷ os) (suc q) b s.1)
  where
    go : (x : Bool) (n : Option ℕ) → From (suc q) n → From a (cond x (Some q) n)
    go true n h = s.0
    go false n h = from_less (suc q) a n (omega (arith, s.0)) h

-- nor is the first of all
pub first_past : (es : List Event) (os : List (List (List ℕ))) (a b q : ℕ) → Spans a b es → first_repeat os es ≡ maybe.some q → a ≤ q
unfolding first_repeat
first_past [] os a b q h e = absurd (let z : ◌≡◌ {A = ℕ} 0 1 = cc in omega arith)
first_past (begins ∷ es) os a b q h e = first_past es ([] ∷ os) a b q h e
first_past (ends ∷ es) [] a b q h e = first_past es [] a b q h e
first_past (ends ∷ es) (o ∷ os) a b q h e = first_past es os a b q h e
first_past (named p u ∷ es) [] a b q h e = let z = first_past es [] (suc p) b q h.1 e in omega (arith, h.0)
first_past (named p u ∷ es) (o ∷ os) a b q h e = go (among u o) (λ f. first_past es ((u ∷ o) ∷ os) (suc p) b q h.1 f) e
  where
    go : (t : Bool) → (first_repeat ((u ∷ o) ∷ os) es ≡ maybe.some q → suc p ≤ q) → cond t (maybe.some p) (first_repeat ((u ∷ o) ∷ os) es) ≡ maybe.some q
        → a ≤ q
    go true f g = let z : p ≡ q = cc in omega (arith, h.0)
    go false f g = let z = f g in omega (arith, h.0)

abbrev either : (ℕ → Bool) → (ℕ → Bool) → ℕ → Bool
either W X e = W e || X e

hits_either : (W X : ℕ → Bool) (u : List ℕ) (o : List Key) → hits (either W X) u o ≡ hits W u o || hits X u o
unfolding hits
hits_either W X u [] = refl
hits_either W X u (k ∷ o) = go (W k.0) (X k.0) (same u k.1) (hits W u o) (hits X u o) (hits_either W X u o)
  where
    go : (x y z a b : Bool) {c : Bool} → c ≡ a || b → cond ((x || y) && z) true c ≡ cond (x && z) true a || cond (y && z) true b
    go true y true a b e = refl
    go true true false a b e = e
    go true false false a b e = e
    go false true true true b e = refl
    go false true true false b e = refl
    go false true false a b e = e
    go false false z a b e = e

-- the first key that repeats one of either window
repeat_either : (W X : ℕ → Bool) (es : List Event) (os : List (List Key)) (a b : ℕ) → 0 < a → Spans a b es → least (repeat_in W os es) (repeat_in X os es)
    ≡ repeat_in (either W X) os es
unfolding repeat_in
repeat_either W X [] os a b z s = refl
repeat_either W X (begins ∷ es) os a b z s = repeat_either W X es ([] ∷ os) a b z s
repeat_either W X (ends ∷ es) [] a b z s = repeat_either W X es [] a b z s
repeat_either W X (ends ∷ es) (o ∷ os) a b z s = repeat_either W X es os a b z s
repeat_either W X (named q u ∷ es) [] a b z s = repeat_either W X es [] (suc q) b (omega arith) s.1
repeat_either W X (named q u ∷ es) (o ∷ os) a b z s =
    rw (hits_either W X u o)
    (go (repeat_in W (((q, u) ∷ o) ∷ os) es) (repeat_in X (((q, u) ∷ o) ∷ os) es) (hits W u o) (hits X u o) (repeat_past W es (((q, u) ∷ o) ∷ os) (suc q) b s.1)
    (repeat_past X es (((q, u) ∷ o) ∷ os) (suc q) b s.1)
    (repeat_either W X es (((q, u) ∷ o) ∷ os) (suc q) b (omega arith) s.1))
  where
    go : {e : Option ℕ} (c d : Option ℕ) (x y : Bool) → From (suc q) c → From (suc q) d → least c d ≡ e
        → least (cond x (Some q) c) (cond y (Some q) d) ≡ cond (x || y) (Some q) e
    go c d true true h k w = least_same q
    go c d true false h k w = least_first q d k
    go c d false true h k w = least_second q c h
    go c d false false h k w = w

module _ (W X : ℕ → Bool) (f : (e : ℕ) → W e ≡ X e) where
  hits_cong : (u : List ℕ) (o : List Key) → hits W u o ≡ hits X u o
  unfolding hits
  hits_cong u [] = refl
  hits_cong u (k ∷ o) = rw (f k.0, hits_cong u o)

  repeat_cong : (es : List Event) (os : List (List Key)) → repeat_in W os es ≡ repeat_in X os es
  unfolding repeat_in
  repeat_cong [] os = refl
  repeat_cong (begins ∷ es) os = repeat_cong es ([] ∷ os)
  repeat_cong (ends ∷ es) [] = repeat_cong es []
  repeat_cong (ends ∷ es) (o ∷ os) = repeat_cong es os
  repeat_cong (named q u ∷ es) [] = repeat_cong es []
  repeat_cong (named q u ∷ es) (o ∷ os) = rw (hits_cong u o, repeat_cong es (((q, u) ∷ o) ∷ os))

-- a window and the next are one
joined : (f : ℕ) (p : Option ℕ) → From f p → (e : ℕ) → either (window 0 (Some f)) (window f p) e ≡ window 0 p e
joined f None w e = rw (le-leb 0 e (omega arith)) (go (ltb e f) refl (leb f e) refl)
  where
    go : (x : Bool) → ltb e f ≡ x → (y : Bool) → leb f e ≡ y → x || y ≡ true
    go true a y b = refl
    go false a true b = refl
    go false a false b = absurd (omega (arith, ltb-false e f a, leb-false f e b))
joined f (Some p) w e = rw (le-leb 0 e (omega arith)) (go (ltb e f) refl (leb f e) refl (ltb e p) refl)
  where
    go : (x : Bool) → ltb e f ≡ x → (y : Bool) → leb f e ≡ y → (v : Bool) → ltb e p ≡ v → x || (y && v) ≡ v
    go true a y b true d = refl
    go true a y b false d = absurd (omega (arith, ltb-true e f a, ltb-false e p d))
    go false a true b v d = refl
    go false a false b v d = absurd (omega (arith, ltb-false e f a, leb-false f e b))

stop_from : (f b : ℕ) (es : List Event) (s : Kept) → Passes f nothing es s → Spans 1 b es → From f (unless_zero s.stop)
stop_from f b es s x w = go (eqb s.stop 0) refl
  where
    go : (e : Bool) → eqb s.stop 0 ≡ e → From f (unless_zero s.stop)
    go true e = from_none f _ (eqb-true s.stop 0 e)
    go false e = let h = moves_on f 1 b es s x w (eqb-false s.stop 0 e) in from_some f _ (eqb-false s.stop 0 e) (omega arith)

-- a window after others
window_next : (best : Option ℕ) (f b : ℕ) (es : List Event) (s : Kept) → best ≡ repeat_in (window 0 (Some f)) [] es → Passes f nothing es s
    → Spans 1 b es → least best (unless_zero s.twice) ≡ repeat_in (window 0 (unless_zero s.stop)) [] es
window_next best f b es s e x w =
    ap₂ least e (pass_finds f b es s x w)
    ∙ repeat_either (window 0 (Some f)) (window f (unless_zero s.stop)) es [] 1 b (omega arith) w
    ∙ repeat_cong (either (window 0 (Some f)) (window f (unless_zero s.stop))) (window 0 (unless_zero s.stop))
    (joined f (unless_zero s.stop) (stop_from f b es s x w)) es []

keys_only : List Key → List (List ℕ)
keys_only [] = []
keys_only (k ∷ o) = k.1 ∷ keys_only o

all_keys : List (List Key) → List (List (List ℕ))
all_keys [] = []
all_keys (o ∷ os) = keys_only o ∷ all_keys os

hits_among : (u : List ℕ) (o : List Key) → hits all u o ≡ among u (keys_only o)
unfolding hits among keys_only
hits_among u [] = refl
hits_among u (k ∷ o) = ap (cond (same u k.1) true) (hits_among u o)

repeat_first : (es : List Event) (os : List (List Key)) → repeat_in all os es ≡ given (first_repeat (all_keys os) es)
unfolding repeat_in first_repeat all_keys keys_only
repeat_first [] os = refl
repeat_first (begins ∷ es) os = repeat_first es ([] ∷ os)
repeat_first (ends ∷ es) [] = repeat_first es []
repeat_first (ends ∷ es) (o ∷ os) = repeat_first es os
repeat_first (named q u ∷ es) [] = repeat_first es []
repeat_first (named q u ∷ es) (o ∷ os) =
    go (first_repeat ((u ∷ keys_only o) ∷ all_keys os) es) (hits all u o) (hits_among u o) (repeat_first es (((q, u) ∷ o) ∷ os))
  where
    go : {n : Option ℕ} (m : maybe.Option ℕ) (x : Bool) {y : Bool} → x ≡ y → n ≡ given m → cond x (Some q) n ≡ given (cond y (maybe.some q) m)
    go m true e h = rw (sym e)
    go m false e h = rw (sym e) h

-- with no end left, it is the first repeated key of all
window_last : (es : List Event) → repeat_in (window 0 None) [] es ≡ given (first_repeat [] es)
unfolding all_keys
window_last es = repeat_cong (window 0 None) all (λ e. rw (le-leb 0 e (omega arith))) es [] ∙ repeat_first es []

-- ---- where no further window is needed

-- a key that repeats one of the keys from f on comes after f
repeat_after : (f : ℕ) (p : Option ℕ) (es : List Event) (os : List (List Key)) (a b : ℕ) → Spans a b es → Every (Past a) os
    → From (suc f) (repeat_in (window f p) os es)
unfolding repeat_in
repeat_after f p [] os a b s g = tt
repeat_after f p (begins ∷ es) os a b s g = repeat_after f p es ([] ∷ os) a b s (tt, g)
repeat_after f p (ends ∷ es) [] a b s g = repeat_after f p es [] a b s tt
repeat_after f p (ends ∷ es) (o ∷ os) a b s g = repeat_after f p es os a b s g.1
repeat_after f p (named q u ∷ es) [] a b s g = repeat_after f p es [] (suc q) b s.1 tt
repeat_after f p (named q u ∷ es) (o ∷ os) a b s g =
    go (repeat_in (window f p) (((q, u) ∷ o) ∷ os) es) (leb q f) refl (hits (window f p) u o) (λ l. none_before f p a u o g.0 l)
    (repeat_after f p es (((q, u) ∷ o) ∷ os) (suc q) b s.1 (past_more a q u o os s.0 g))
  where
    go : (n : Option ℕ) (x : Bool) → leb q f ≡ x → (y : Bool) → (a ≤ f → y ≡ false) → From (suc f) n → From (suc f) (cond y (Some q) n)
    go n true e y h r = rw (h (omega (arith, leb-true q f e, s.0))) r
    go n false e true h r = omega (arith, leb-false q f e)
    go n false e false h r = r

-- so the first so far is the first of all where it stands no later
enough : (best p b : ℕ) (es : List Event) → Spans 1 b es → Some best ≡ repeat_in (window 0 (Some p)) [] es → best ≤ p
    → Some best ≡ repeat_in (window 0 None) [] es
enough best p b es s e l =
    sym (least_first best (repeat_in (window p None) [] es)
    (from_less (suc p) (suc best) (repeat_in (window p None) [] es) (omega arith) (repeat_after p None es [] 1 b s tt)))
    ∙ ap (λ (r : Option ℕ). least r (repeat_in (window p None) [] es)) e
    ∙ repeat_either (window 0 (Some p)) (window p None) es [] 1 b (omega arith) s
    ∙ repeat_cong (either (window 0 (Some p)) (window p None)) (window 0 None) (joined p None tt) es []

-- ---- the search, window after window

-- where a window stops is below the events' end
stop_below : (f b : ℕ) (es : List Event) (s : Kept) → Passes f nothing es s → Spans 1 b es → IfSome (unless_zero s.stop) (λ p. p < b)
stop_below f b es s x w = by s.stop (moves_on f 1 b es s x w)
  where
    by : (p : ℕ) → ((p ≡ 0 → ⊥) → (f < p) × (p < b)) → IfSome (unless_zero p) (λ p. p < b)
    by zero h = tt
    by (suc p) h = (h (λ z. omega arith)).1

stop_later : (f b : ℕ) (es : List Event) (s : Kept) → Passes f nothing es s → Spans 1 b es → NoneOrLater f (unless_zero s.stop)
stop_later f b es s x w = by s.stop (moves_on f 1 b es s x w)
  where
    by : (p : ℕ) → ((p ≡ 0 → ⊥) → (f < p) × (p < b)) → NoneOrLater f (unless_zero p)
    by zero h = tt
    by (suc p) h = (h (λ z. omega arith)).0

-- the next window may begin there
pub window_onward : (best p : Option ℕ) (b : ℕ) (es : List Event) → Spans 1 b es → best ≡ repeat_in (window 0 p) [] es
    → best ≡ repeat_in (window 0 (onward best p)) [] es
window_onward None p b es s e = e
window_onward (Some q) None b es s e = e
window_onward (Some q) (Some p) b es s e = go (leb q p) refl
  where
    go : (x : Bool) → leb q p ≡ x → Some q ≡ repeat_in (window 0 (cond x None (Some p))) [] es
    go true i = enough q p b es s e (leb-true q p i)
    go false i = e

module _ {b : ℕ} {es : List Event} where
  -- after the first pass
  pub search_begins : (s : Kept) → Passes 0 nothing es s → Spans 1 b es → SearchedTo b es (unless_zero s.twice) (unless_zero s.stop)
  search_begins s x w = record { spans = w; found = pass_finds 0 b es s x w; inside = stop_below 0 b es s x w }

  -- after each next one, which stops later than it begins
  pub search_goes_on : {best : Option ℕ} {f : ℕ} → SearchedTo b es best (Some f) → (s : Kept) → Passes f nothing es s
      → SearchedTo b es (least best (unless_zero s.twice)) (unless_zero s.stop) × NoneOrLater f (unless_zero s.stop)
  search_goes_on {best} {f} h s x = (
    record { spans = h.spans; found = window_next best f b es s h.found x h.spans; inside = stop_below f b es s x h.spans },
    stop_later f b es s x h.spans,
  )

  -- and where the next may begin
  pub search_onward : {best p : Option ℕ} → SearchedTo b es best p → SearchedTo b es best (onward best p)
  search_onward {best = None} {p = p} h = h
  search_onward {best = Some q} {p = None} h = h
  search_onward {best = Some q} {p = Some p} h = by (leb q p) refl
    where
      by : (x : Bool) → leb q p ≡ x → SearchedTo b es (Some q) (cond x None (Some p))
      by true e = record { spans = h.spans; found = enough q p b es h.spans h.found (leb-true q p e); inside = tt }
      by false e = h

  -- where none is left, the first repeated key of all is found
  pub search_ends : {best : Option ℕ} → SearchedTo b es best None → best ≡ given (first_repeat [] es)
  search_ends h = h.found ∙ window_last es

pub onward_later : (f : ℕ) (best p : Option ℕ) → NoneOrLater f p → NoneOrLater f (onward best p)
onward_later f None p h = h
onward_later f (Some q) None h = tt
onward_later f (Some q) (Some p) h = by (leb q p)
  where
    by : (x : Bool) → NoneOrLater f (cond x None (Some p))
    by true = tt
    by false = h

-- how many windows are left, at most
abbrev pub windows_left : ℕ → Option ℕ → ℕ
windows_left b None = 0
windows_left b (Some p) = b - p

pub fewer_left : {b from : ℕ} {best : Option ℕ} {es : List Event} → SearchedTo b es best (Some from) → (next : Option ℕ) → NoneOrLater from next
    → windows_left b next < windows_left b (Some from)
fewer_left h None w = omega (arith, h.inside)
fewer_left h (Some p) w = omega (arith, h.inside)
