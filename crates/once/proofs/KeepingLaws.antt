-- Each call takes a table that stands where a pass does to where the pass goes with the event; what it then tells of a window. Assumes nothing.
use mathlib.Core.Path.{◌≡◌, refl, ap, subst}
use mathlib.Core.Bool.{Bool, true, false}
use mathlib.Core.Logic.{◌⊎◌, inl, inr}
use mathlib.Core.List.{List, [], ◌∷◌, ◌++◌}
use Prim.Native.Nat.{ℕ, zero, suc, ◌+◌, ◌≤◌, ◌<◌, ◌^◌}
use native.Mathlib.Omega.{arith}
use lib.Dec.{leb}
use lib.ListN.{length, get_or, replicate, length-replicate}
use borrow.Author.Tests.{leb-true, leb-false}
use Rattle.std.specs.Prelude.{Option, Some}
use Rattle.meaning.specs.Between.Events.{Event, begins, ends, named, Spans}
use Rattle.once.specs.Table.{Slot, room, unless_zero}
use Rattle.once.specs.Groups.{flat, Holds, Sane, Opens, Does, Begun, start, deeper, shallower, need, taken, marked, naming, Names}
use Rattle.once.specs.Groups.{FromIs, TwiceIs, StopIs}
use Rattle.once.specs.Objects.{grouped, state_of}
use Rattle.once.specs.Windows.{Key, hits, all, Kept, nothing, noted, present, AnyKey, Every, Passes, least, onward, SearchedTo, NoneOrLater}
use Rattle.once.specs.Keeping.{slots_of, all_slots, held_of, Before, Keeps, Goes}
use Rattle.once.proofs.GroupsTakingLaws.{zeroes_hold}
use Rattle.once.proofs.ObjectsLaws.{begin_is, open_is, close_is, take_is, stop_is, after_is, notice_is, Bare, first_fits}
use Rattle.once.proofs.WindowsLaws.{passes_join, every_map, search_begins, search_goes_on, search_onward, onward_later}

all_length : (tag : List ℕ → ℕ) (ts : List (List Key)) → length (all_slots tag ts) ≡ length ts
all_length tag [] = refl
all_length tag (o ∷ ts) = ap suc (all_length tag ts)

abbrev kept : List (List Key) → ℕ → ℕ → Kept
kept ts t p = record { keys = ts; twice = t; stop = p }

-- ---- what is known of the table

module _ {Is : ℕ → List ℕ → Type 0} {tag : List ℕ → ℕ} {seen : List ℕ} {at f : ℕ} {s : Kept} (h : Keeps Is tag seen at f s) where
  pub keeps_sane : Sane seen
  keeps_sane = inr (held_of tag f s, h.holds)

  pub keeps_opens : Opens seen
  unfolding state_of
  keeps_opens = (keeps_sane, omega (arith, h.holds.depth, all_length tag s.keys, h.few, h.within))

  pub keeps_from : (r : ℕ) → FromIs seen r → r ≡ f
  unfolding state_of
  keeps_from r g = g.1 (held_of tag f s) h.holds

  pub keeps_twice : (r : Option ℕ) → TwiceIs seen r → r ≡ unless_zero s.twice
  unfolding state_of
  keeps_twice r g = g.1 (held_of tag f s) h.holds

  pub keeps_stop : (r : Option ℕ) → StopIs seen r → r ≡ unless_zero s.stop
  unfolding state_of
  keeps_stop r g = g.1 (held_of tag f s) h.holds

  -- its window stands in it
  pub keeps_since : get_or seen 3 0 ≡ f
  unfolding state_of
  keeps_since = h.holds.from

  -- ---- further on

  further_are : (at' : ℕ) → at ≤ at' → Every (Before Is at') s.keys
  further_are at' l = every_map (Before Is at) (Before Is at') (λ k g. (g.0, omega (arith, g.1))) s.keys h.are

  pub keeps_further : (at' : ℕ) → at ≤ at' → at' < 4294967295 → Keeps Is tag seen at' f s
  keeps_further at' l m =
      record { holds = h.holds; roomy = h.roomy; are = further_are at' l; few = omega (arith, h.few); within = m }

  -- no event
  pub goes_none : Goes Is tag seen at f s []
  goes_none = record { next = s; passes = Passes.done; keeps = h }

module _ {Is : ℕ → List ℕ → Type 0} {tag : List ℕ → ℕ} {seen : List ℕ} {at f : ℕ} {s : Kept} {a : List Event} (g : Goes Is tag seen at f s a) where
  -- events, and then others
  pub goes_join : {seen' : List ℕ} {at' : ℕ} {b : List Event} → Goes Is tag seen' at' f g.next b → Goes Is tag seen' at' f s (a ++ b)
  goes_join {b = b} h = record { next = h.next; passes = passes_join b g.passes h.passes; keeps = h.keeps }

  pub goes_further : (at' : ℕ) → at ≤ at' → at' < 4294967295 → Goes Is tag seen at' f s a
  goes_further at' l m = record { next = g.next; passes = g.passes; keeps = keeps_further g.keeps at' l m }

-- ---- an empty table

module _ (Is : ℕ → List ℕ → Type 0) (tag : List ℕ → ℕ) where
  empty_keeps : (seen : List ℕ) (at f : ℕ) → Holds seen (start f) → 16 ≤ length seen → at < 4294967295 → Keeps Is tag seen at f nothing
  empty_keeps seen at f h l m = record { holds = rw (begin_is f) at h; roomy = l; are = tt; few = omega arith; within = m }

  pub begun_keeps : (before seen : List ℕ) (at f : ℕ) → Begun f before seen → 16 ≤ length before → at < 4294967295 → Keeps Is tag seen at f nothing
  begun_keeps before seen at f b l m = empty_keeps seen at f (b.1 (omega (arith, b.0))) (omega (arith, b.0)) m

  pub zeroes_keep : (n at : ℕ) → 16 ≤ n → n < 2 ^ 32 → at < 4294967295 → Keeps Is tag (replicate n 0) at 0 nothing
  zeroes_keep n at l m w = empty_keeps (replicate n 0) at 0 (zeroes_hold n (omega arith) m) (omega (arith, length-replicate {A = ℕ} n 0)) w

-- ---- what a further key needs

-- no key is taken in, or some
bare_or_some : (tag : List ℕ → ℕ) (ts : List (List Key)) → Bare (all_slots tag ts) ⊎ AnyKey ts
bare_or_some tag [] = inl tt
bare_or_some tag ((x ∷ k) ∷ ts) = inr AnyKey.here
bare_or_some tag ([] ∷ ts) = go (bare_or_some tag ts)
  where
    go : Bare (all_slots tag ts) ⊎ AnyKey ts → Bare ([] ∷ all_slots tag ts) ⊎ AnyKey ([] ∷ ts)
    go (inl b) = inl (refl, b)
    go (inr y) = inr (AnyKey.around y)

-- how many slots are taken with it
wanted : (List ℕ → ℕ) → List (List Key) → ℕ
wanted tag ts = length (flat (grouped (all_slots tag ts))) + need (length (all_slots tag ts)) (grouped (all_slots tag ts))

-- where it has none, some key is taken in
some_full : (tag : List ℕ → ℕ) (ts : List (List Key)) (n : ℕ) → 2 ≤ n → n < wanted tag ts → AnyKey ts
unfolding wanted
some_full tag ts n l m = go (bare_or_some tag ts)
  where
    go : Bare (all_slots tag ts) ⊎ AnyKey ts → AnyKey ts
    go (inl b) = absurd (let y = first_fits n (all_slots tag ts) b l in omega arith)
    go (inr y) = y

marked_is : (b : Bool) (q : ℕ) (ts : List (List Slot)) (f t p : ℕ) → marked b q (state_of ts f t p) ≡ state_of ts f (noted t q b) p
unfolding marked
marked_is true q ts f t p = notice_is q ts f t p
marked_is false q ts f t p = refl

-- ---- the events

module _ {Is : ℕ → List ℕ → Type 0} {tag : List ℕ → ℕ} {seen : List ℕ} {at f : ℕ} (at' : ℕ) (l : at ≤ at') (m : at' < 4294967295) where
  -- the keys that are kept, in another table
  staying : (s : Kept) → Keeps Is tag seen at f s → (s' : Kept) (seen' : List ℕ) → Holds seen' (held_of tag f s') → length seen' ≡ length seen
      → Every (Before Is at') s'.keys → length s'.keys ≤ at' → Keeps Is tag seen' at' f s'
  staying s h s' seen' g e w z = record { holds = g; roomy = omega (arith, h.roomy); are = w; few = z; within = m }

  module _ (seen' : List ℕ) where
    close_at : (ts : List (List Key)) (t p : ℕ) → Keeps Is tag seen at f (kept ts t p) → Does shallower seen seen' → 0 < length ts
        → Goes Is tag seen' at' f (kept ts t p) (ends ∷ [])
    close_at [] t p h d o = absurd (omega arith)
    close_at (k ∷ ts) t p h d o = record {
      next = kept ts t p;
      passes = Passes.closes Passes.done;
      keeps =
          staying (kept (k ∷ ts) t p) h (kept ts t p) seen'
          (rw (close_is (slots_of tag k) (all_slots tag ts) f t p) at (d.1 (held_of tag f (kept (k ∷ ts) t p)) h.holds))
          d.0 (further_are h at' l).1 (omega (arith, h.few));
    }

  pass_at : (ts : List (List Key)) (t p q : ℕ) (u : List ℕ) → Keeps Is tag seen at f (kept ts t p) → q < f → 0 < length ts
      → Goes Is tag seen at' f (kept ts t p) (named q u ∷ [])
  pass_at [] t p q u h e o = absurd (omega arith)
  pass_at (k ∷ ts) t p q u h e o = record { next = kept (k ∷ ts) t p; passes = Passes.before e Passes.done; keeps = keeps_further h at' l m }

  -- in a table of n slots, or as in one
  module _ (n : ℕ) (two : 2 ≤ n) (seen' : List ℕ) (q : ℕ) (u : List ℕ) (r : Bool) (d : Does (naming r n (q, tag u)) seen seen') (is : Is q u)
      (e : f ≤ q) (i : q < at') where
    -- the table after a key, whatever becomes of it
    named_holds : (s : Kept) → Keeps Is tag seen at f s → r ≡ hits all u (present s.keys)
        → Holds seen' (taken n (q, tag u) (state_of (all_slots tag s.keys) f (noted s.twice q (hits all u (present s.keys))) s.stop))
    named_holds s h w =
        subst (λ (b : Bool). Holds seen' (taken n (q, tag u) (state_of (all_slots tag s.keys) f (noted s.twice q b) s.stop))) w
        (rw (marked_is r q (all_slots tag s.keys) f s.twice s.stop) at (d.1 (held_of tag f s) h.holds))

    name_at : (ts : List (List Key)) (t p : ℕ) → Keeps Is tag seen at f (kept ts t p) → r ≡ hits all u (present ts) → 0 < length ts
        → Goes Is tag seen' at' f (kept ts t p) (named q u ∷ [])
    unfolding wanted
    name_at [] t p h w o = absurd (omega arith)
    name_at (k ∷ ts) t (suc p) h w o = record {
      next = kept (k ∷ ts) (noted t q (hits all u k)) (suc p);
      passes = Passes.after e (λ (z : suc p ≡ 0). omega arith) Passes.done;
      keeps =
          staying (kept (k ∷ ts) t (suc p)) h (kept (k ∷ ts) (noted t q (hits all u k)) (suc p)) seen'
          (rw (after_is n (q, tag u) (all_slots tag (k ∷ ts)) f (noted t q (hits all u k)) (suc p) (λ z. omega arith))
          at (named_holds (kept (k ∷ ts) t (suc p)) h w)) d.0 (further_are h at' l) (omega (arith, h.few));
    }
    name_at (k ∷ ts) t zero h w o = go (leb (wanted tag (k ∷ ts)) n) refl
      where
        go : (b : Bool) → leb (wanted tag (k ∷ ts)) n ≡ b → Goes Is tag seen' at' f (kept (k ∷ ts) t 0) (named q u ∷ [])
        go true y = record {
          next = kept (((q, u) ∷ k) ∷ ts) (noted t q (hits all u k)) 0;
          passes = Passes.takes e Passes.done;
          keeps =
              staying (kept (k ∷ ts) t 0) h (kept (((q, u) ∷ k) ∷ ts) (noted t q (hits all u k)) 0) seen'
              (rw (take_is n (q, tag u) (slots_of tag k) (all_slots tag ts) f (noted t q (hits all u k))
              (leb-true (wanted tag (k ∷ ts)) n y))
              at (named_holds (kept (k ∷ ts) t 0) h w)) d.0 (((is, i), (further_are h at' l).0), (further_are h at' l).1) (omega (arith, h.few));
        }
        go false y = record {
          next = kept (k ∷ ts) (noted t q (hits all u k)) q;
          passes = Passes.stops e (some_full tag (k ∷ ts) n two (leb-false (wanted tag (k ∷ ts)) n y)) Passes.done;
          keeps =
              staying (kept (k ∷ ts) t 0) h (kept (k ∷ ts) (noted t q (hits all u k)) q) seen'
              (rw (stop_is n (q, tag u) (slots_of tag k) (all_slots tag ts) f (noted t q (hits all u k))
              (leb-false (wanted tag (k ∷ ts)) n y))
              at (named_holds (kept (k ∷ ts) t 0) h w)) d.0 (further_are h at' l) (omega (arith, h.few));
        }

module _ {Is : ℕ → List ℕ → Type 0} {tag : List ℕ → ℕ} {seen : List ℕ} {at f : ℕ} {s : Kept} (h : Keeps Is tag seen at f s) (at' : ℕ) (l : at ≤ at')
    (m : at' < 4294967295) where
  -- an object opens
  pub opens_on : (seen' : List ℕ) → Does deeper seen seen' → at < at' → Goes Is tag seen' at' f s (begins ∷ [])
  opens_on seen' d o = record {
    next = kept ([] ∷ s.keys) s.twice s.stop;
    passes = Passes.opens Passes.done;
    keeps =
        staying at' l m s h (kept ([] ∷ s.keys) s.twice s.stop) seen'
        (rw (open_is (all_slots tag s.keys) f s.twice s.stop) at (d.1 (held_of tag f s) h.holds))
        d.0 (tt, further_are h at' l) (omega (arith, h.few));
  }

  -- an object closes
  pub closes_on : (seen' : List ℕ) → Does shallower seen seen' → 0 < length s.keys → Goes Is tag seen' at' f s (ends ∷ [])
  closes_on seen' d o = close_at at' l m seen' s.keys s.twice s.stop h d o

  -- a key before the window: nothing is called
  pub before_on : (q : ℕ) (u : List ℕ) → q < f → 0 < length s.keys → Goes Is tag seen at' f s (named q u ∷ [])
  before_on q u e o = pass_at at' l m s.keys s.twice s.stop q u h e o

  -- a key of the window; r is what the search for it answers
  pub names_on : (seen' : List ℕ) (q : ℕ) (u : List ℕ) (r : Bool) → Names r (q, tag u) seen seen' → r ≡ hits all u (present s.keys)
      → Is q u → f ≤ q → q < at' → 0 < length s.keys → Goes Is tag seen' at' f s (named q u ∷ [])
  names_on seen' q u r (n, (c, d)) w is e i o = name_at at' l m n (two c) seen' q u r d is e i s.keys s.twice s.stop h w o
    where
      two : (n ≡ room seen) ⊎ (n ≡ 2) → 2 ≤ n
      two (inl y) = omega (arith, h.roomy)
      two (inr y) = omega arith

-- ---- what the table tells after a window

-- after the first
pub searched_first : {Is : ℕ → List ℕ → Type 0} {tag : List ℕ → ℕ} {seen : List ℕ} {at b : ℕ} {es : List Event} → Goes Is tag seen at 0 nothing es
    → Spans 1 b es → (t p : Option ℕ) → TwiceIs seen t → StopIs seen p → SearchedTo b es t (onward t p)
searched_first g w t p i j = rw (keeps_twice g.keeps t i, keeps_stop g.keeps p j) (search_onward (search_begins g.next g.passes w))

-- after each next one
pub searched_next : {Is : ℕ → List ℕ → Type 0} {tag : List ℕ → ℕ} {seen : List ℕ} {at b f : ℕ} {best : Option ℕ} {es : List Event}
    → Goes Is tag seen at f nothing es → SearchedTo b es best (Some f) → (t p : Option ℕ) → TwiceIs seen t → StopIs seen p
    → SearchedTo b es (least best t) (onward (least best t) p) × NoneOrLater f (onward (least best t) p)
searched_next {f = f} {best = best} g h t p i j =
    rw (keeps_twice g.keeps t i, keeps_stop g.keeps p j)
    (let x = search_goes_on h g.next g.passes in
    (search_onward x.0, onward_later f (least best (unless_zero g.next.twice)) (unless_zero g.next.stop) x.1))
