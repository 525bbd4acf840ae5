-- From the run of an item to the pushdown over it: where the item ends, the machine goes on with what the item gives. Assumes nothing.
use Prim.Native.Nat.{ℕ, suc, ◌+◌, ◌-◌, ◌≤◌}
use mathlib.Core.Path.{◌≡◌, refl, ap, ◌∙◌, subst₂}
use mathlib.Core.Bool.{Bool, true, false, cond}
use mathlib.Core.List.{List, [], ◌∷◌, ◌++◌}
use native.Mathlib.Omega.{arith}
use lib.Dec.{eqb}
use lib.ListN.{length, drop}
use Rattle.meaning.specs.declared.Refusal.{Refusal}
use Rattle.meaning.specs.declared.Refusal.TheVariants.{NotGrammar}
use Rattle.meaning.specs.Letters.{ch}
use Rattle.meaning.specs.Meaning.{Meaning}
use Rattle.machine.specs.Scan.{Out, takes, stops, breaks, over, Ran, ended, broke, unended, goes_on, ran}
use Rattle.machine.specs.Numeric
use Rattle.machine.specs.Strings
use Rattle.machine.specs.Binaries
use Rattle.machine.specs.Names
use Rattle.machine.specs.Machine
use Rattle.machine.specs.Machine.{Got, got, base, item, Frame, Conf, at, fail, step, No, lift, scan, on_out}
use Rattle.machine.specs.Heard.{after, tell, hears, at_out}
use Rattle.machine.proofs.Heard.{told_step, fail_told}

-- t from the place q on, where it begins at p
abbrev pub from : ℕ → ℕ → List ℕ → List ℕ
from p q t = drop (q - p) t

-- the machine goes on at q as `next` says, and nothing is heard on the way
pub record Goes_on (c : Conf) (p : ℕ) (t : List ℕ) (next : Conf) (q : ℕ) : Type 0 where
  pub behind : p ≤ q
  pub within : q ≤ p + length t
  pub tells : tell p c t ≡ tell q next (from p q t)

-- at once
here : (c next : Conf) (p : ℕ) (t : List ℕ) → tell p c t ≡ tell p next t → Goes_on c p t next p
here c next p t e =
    let z : p - p ≡ 0 = omega arith in
    record { behind = omega arith; within = omega arith; tells = rw z e }

-- a byte later
later : (c c' next : Conf) (p b : ℕ) (t : List ℕ) (q : ℕ) → step p c b ≡ c' → hears p c b ≡ [] → Goes_on c' (suc p) t next q → Goes_on c p (b ∷ t) next q
later c c' next p b t q e n h =
    let l = h.behind in
    let z : q - p ≡ suc (q - suc p) = omega arith in
    record {
      behind = omega arith;
      within = omega (arith, h.within);
      tells = rw z (told_step p c b t c' (tell q next (from (suc p) q t)) e n h.tells);
    }

module _ {S M : Type 0} (run : ℕ → S → ℕ → Out S M) (f : S → Machine.Item) (g : M → Got)
    (same : (p : ℕ) (s : S) (b : ℕ) → scan p (f s) b ≡ lift f g (run p s b)) where
  on : (p : ℕ) (s : S) (b d : ℕ) (k : List Frame) (o : Out S M) → run p s b ≡ o → step p (at (item (f s)) d k) b ≡ on_out p d k b (lift f g o)
  on p s b d k o e = ap (on_out p d k b) (same p s b ∙ ap (lift f g) e)

  heard_on : (p : ℕ) (s : S) (b d : ℕ) (k : List Frame) (o : Out S M) → run p s b ≡ o → hears p (at (item (f s)) d k) b ≡ at_out b (lift f g o)
  heard_on p s b d k o e = ap (at_out b) (same p s b ∙ ap (lift f g) e)

  at_end : (p : ℕ) (s : S) (d : ℕ) (k : List Frame) (o : Out S M) → run p s over ≡ o
      → tell p (at (item (f s)) d k) [] ≡ record { verdict = Machine.end_out p k (lift f g o); heard = [] }
  unfolding tell
  at_end p s d k o e = ap (λ (x : Out Machine.Item Got). record { verdict = Machine.end_out p k x; heard = [] }) (same p s over ∙ ap (lift f g) e)

  at_byte : (p : ℕ) (s : S) (b d : ℕ) (k : List Frame) (t : List ℕ) (o : Out S M) → run p s b ≡ o → tell p (at (item (f s)) d k) (b ∷ t)
      ≡ after (at_out b (lift f g o)) (tell (suc p) (on_out p d k b (lift f g o)) t)
  unfolding tell
  at_byte p s b d k t o e = ap (λ (x : Out Machine.Item Got). after (at_out b x) (tell (suc p) (on_out p d k b x) t)) (same p s b ∙ ap (lift f g) e)

  stop_end : (p : ℕ) (s : S) (d : ℕ) (k : List Frame) (x : M) → run p s over ≡ stops x → tell p (at (item (f s)) d k) [] ≡ tell p (at (base (got (g x))) d k) []
  unfolding tell
  stop_end p s d k x e = at_end p s d k (stops x) e

  -- where the item stops before a byte, the byte says what it says behind what the item gives
  stop_byte : (p : ℕ) (s : S) (b d : ℕ) (k : List Frame) (t : List ℕ) (x : M) → run p s b ≡ stops x → tell p (at (item (f s)) d k) (b ∷ t)
      ≡ tell p (at (base (got (g x))) d k) (b ∷ t)
  unfolding tell
  stop_byte p s b d k t x e = at_byte p s b d k t (stops x) e

  module _ (d : ℕ) (k : List Frame) where
    abbrev ItemEnds : ℕ → S → List ℕ → M → ℕ → Type 0
    ItemEnds p s t v q = Goes_on (at (item (f s)) d k) p t (at (base (got (g v))) d k) q

    stopped : (p : ℕ) (s : S) (t : List ℕ) (x v : M) (q : ℕ) → ◌≡◌ {A = Ran M} (ended x p) (ended v q) → tell p (at (item (f s)) d k) t
        ≡ tell p (at (base (got (g x))) d k) t → ItemEnds p s t v q
    stopped p s t x v q e h =
        let a : x ≡ v = cc in
        let b : p ≡ q = cc in
        subst₂ (λ (y : M) (n : ℕ). ItemEnds p s t y n) a b (here (at (item (f s)) d k) (at (base (got (g x))) d k) p t h)

    -- where the item ends, the machine goes on with what it gives
    pub item_ends : (t : List ℕ) (p : ℕ) (s : S) (v : M) (q : ℕ) → ran run p s t ≡ ended v q → ItemEnds p s t v q
    unfolding ran
    item_ends [] p s v q e = go (run p s over) refl e
      where
        go : (o : Out S M) → run p s over ≡ o → goes_on run p (λ s'. unended) o ≡ ended v q → ItemEnds p s [] v q
        go (takes s') w h = absurd (let z : ◌≡◌ {A = ℕ} 0 1 = cc in omega arith)
        go (stops x) w h = stopped p s [] x v q h (stop_end p s d k x w)
        go (breaks r) w h = absurd (let z : ◌≡◌ {A = ℕ} 0 1 = cc in omega arith)
    item_ends (b ∷ t) p s v q e = go (λ s'. item_ends t (suc p) s' v q) (run p s b) refl e
      where
        go : ((s' : S) → ran run (suc p) s' t ≡ ended v q → ItemEnds (suc p) s' t v q) → (o : Out S M) → run p s b ≡ o
            → goes_on run p (λ s'. ran run (suc p) s' t) o ≡ ended v q → ItemEnds p s (b ∷ t) v q
        go ih (takes s') w h = later _ (at (item (f s')) d k) _ p b t q (on p s b d k (takes s') w) (heard_on p s b d k (takes s') w) (ih s' h)
        go ih (stops x) w h = stopped p s (b ∷ t) x v q h (stop_byte p s b d k t x w)
        go ih (breaks r) w h = absurd (let z : ◌≡◌ {A = ℕ} 0 1 = cc in omega arith)

    -- where it breaks, that is the verdict, and nothing is heard
    pub item_breaks : (t : List ℕ) (p : ℕ) (s : S) (r : Refusal) → ran run p s t ≡ broke r
        → tell p (at (item (f s)) d k) t ≡ record { verdict = No r; heard = [] }
    unfolding ran
    item_breaks [] p s r e = go (run p s over) refl e
      where
        go : (o : Out S M) → run p s over ≡ o → goes_on run p (λ s'. unended) o ≡ broke r
            → tell p (at (item (f s)) d k) [] ≡ record { verdict = No r; heard = [] }
        go (takes s') w h = absurd (let z : ◌≡◌ {A = ℕ} 0 1 = cc in omega arith)
        go (stops x) w h = absurd (let z : ◌≡◌ {A = ℕ} 0 1 = cc in omega arith)
        go (breaks x) w h = let a : x ≡ r = cc in at_end p s d k (breaks r) (w ∙ ap breaks a)
    item_breaks (b ∷ t) p s r e = go (λ s'. item_breaks t (suc p) s' r) (run p s b) refl e
      where
        go : ((s' : S) → ran run (suc p) s' t ≡ broke r → tell (suc p) (at (item (f s')) d k) t ≡ record { verdict = No r; heard = [] })
            → (o : Out S M) → run p s b ≡ o → goes_on run p (λ s'. ran run (suc p) s' t) o ≡ broke r
            → tell p (at (item (f s)) d k) (b ∷ t) ≡ record { verdict = No r; heard = [] }
        go ih (takes s') w h = at_byte p s b d k t (takes s') w ∙ ih s' h
        go ih (stops x) w h = absurd (let z : ◌≡◌ {A = ℕ} 0 1 = cc in omega arith)
        go ih (breaks x) w h = let a : x ≡ r = cc in at_byte p s b d k t (breaks r) (w ∙ ap breaks a) ∙ fail_told t (suc p) r

-- ---- an item that begins takes its first byte or breaks: nothing is heard there

-- at a byte that is asked for, whatever it is
asked : {S M : Type 0} (f : S → Machine.Item) (g : M → Got) (b : ℕ) (x : Bool) (s : S) (o : Out S M)
    → at_out b (lift f g o) ≡ [] → at_out b (lift f g (cond x (takes s) o)) ≡ []
asked f g b true s o e = refl
asked f g b false s o e = e

pub string_quiet : (z : Machine.Use) (u : List ℕ) (p b : ℕ) → at_out b (scan p (Machine.string_part z u Strings.begin) b) ≡ []
unfolding Strings.scan
string_quiet z u p b =
    asked (Machine.string_part z u) (λ x. Machine.string z (u ++ x)) b (eqb b (ch "\"")) _ _
    (asked (Machine.string_part z u) (λ x. Machine.string z (u ++ x)) b (eqb b (ch "'")) _ (breaks (NotGrammar p)) refl)

pub binary_quiet : (u : List ℕ) (p b : ℕ) → at_out b (scan p (Machine.binary_part u Binaries.begin) b) ≡ []
unfolding Binaries.scan
binary_quiet u p b = asked (Machine.binary_part u) (λ x. Machine.binary (u ++ x)) b (eqb b (ch "$")) _ (breaks (NotGrammar p)) refl

pub word_quiet : (m : Meaning) (c : ℕ) (a : List ℕ) (p b : ℕ) → at_out b (scan p (Machine.word (c ∷ a) m) b) ≡ []
unfolding Names.word_scan
word_quiet m c a p b = asked (λ x. Machine.word x m) (λ x. Machine.value m) b (eqb b c) a (breaks (NotGrammar p)) refl

pub name_quiet : (p b : ℕ) → at_out b (scan p (Machine.identifier Names.begin) b) ≡ []
unfolding Names.scan Names.on_start
name_quiet p b = by (Names.class_of b)
  where
    by : (c : Names.Class) → at_out b (lift Machine.identifier Machine.key (Names.on_start p b c)) ≡ []
    by Names.letter = refl
    by Names.figure = refl
    by Names.neither = refl

pub numeric_quiet : (p b : ℕ) → at_out b (scan p (Machine.numeric Numeric.begin) b) ≡ []
numeric_quiet p b = by (Numeric.fst_of b)
  where
    by : (c : Numeric.Fst) → at_out b (lift Machine.numeric Machine.value (Numeric.on_begin p b c)) ≡ []
    by Numeric.nought_f = refl
    by Numeric.digit_f = refl
    by Numeric.point_f = refl
    by Numeric.n_f = refl
    by Numeric.i_f = refl
    by Numeric.plus_f = refl
    by Numeric.minus_f = refl
    by Numeric.other_f = refl
