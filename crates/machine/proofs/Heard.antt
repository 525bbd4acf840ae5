-- What is heard beside the machine changes nothing of what a text comes to. Assumes nothing.
use Prim.Native.Nat.{ℕ, suc}
use mathlib.Core.Path.{◌≡◌, refl, sym, ap, ◌∙◌}
use mathlib.Core.List.{List, [], ◌∷◌, ◌++◌, append_assoc}
use Rattle.meaning.specs.declared.Refusal.{Refusal}
use Rattle.meaning.specs.Between.Events.{Event, begins, ends, named}
use Rattle.machine.specs.Machine.{Conf, fail, step, read, No}
use Rattle.machine.specs.Heard.{Heard, opens, shuts, starts, names, hears, Told, after, tell, heard_of}

pub after_none : (x : Told) → after [] x ≡ x
after_none x = refl

pub after_join : (a b : List Heard) (x : Told) → after a (after b x) ≡ after (a ++ b) x
after_join a b x = ap (λ (h : List Heard). record { verdict = x.verdict; heard = h }) (sym (append_assoc a b x.heard))

-- what a text comes to
pub verdict_is : (t : List ℕ) (p : ℕ) (c : Conf) → (tell p c t).verdict ≡ read p c t
unfolding tell read
verdict_is [] p c = refl
verdict_is (b ∷ t) p c = verdict_is t (suc p) (step p c b)

-- what is told alike is read alike
pub read_alike : (hs : List Heard) (p q : ℕ) (c d : Conf) (s t : List ℕ) → tell p c s ≡ after hs (tell q d t) → read p c s ≡ read q d t
read_alike hs p q c d s t e = sym (verdict_is s p c) ∙ ap (λ (x : Told). x.verdict) e ∙ verdict_is t q d

-- after a refusal nothing more is heard
pub fail_told : (t : List ℕ) (p : ℕ) (r : Refusal) → tell p (fail r) t ≡ record { verdict = No r; heard = [] }
unfolding tell
fail_told [] p r = refl
fail_told (b ∷ t) p r = fail_told t (suc p) r

-- ---- a step

-- that says nothing
pub told_step : (p : ℕ) (c : Conf) (b : ℕ) (t : List ℕ) (d : Conf) (x : Told) → step p c b ≡ d → hears p c b ≡ [] → tell (suc p) d t ≡ x → tell p c (b ∷ t) ≡ x
unfolding tell
told_step p c b t d x e h f = rw (e, h) f

-- that says this
pub told_saying : (p : ℕ) (c : Conf) (b : ℕ) (t : List ℕ) (d : Conf) (hs : List Heard) (x : Told) → step p c b ≡ d → hears p c b ≡ hs → tell (suc p) d t ≡ x
    → tell p c (b ∷ t) ≡ after hs x
unfolding tell
told_saying p c b t d hs x e h f = rw (e, h) (ap (after hs) f)

-- ---- events

pub heard_join : (a b : List Event) → heard_of (a ++ b) ≡ heard_of a ++ heard_of b
heard_join [] b = refl
heard_join (begins ∷ a) b = ap (λ (x : List Heard). opens ∷ x) (heard_join a b)
heard_join (ends ∷ a) b = ap (λ (x : List Heard). shuts ∷ x) (heard_join a b)
heard_join (named q u ∷ a) b = ap (λ (x : List Heard). starts q ∷ names u ∷ x) (heard_join a b)

pub after_events : (a b : List Event) (x : Told) → after (heard_of a) (after (heard_of b) x) ≡ after (heard_of (a ++ b)) x
after_events a b x = after_join (heard_of a) (heard_of b) x ∙ ap (λ (h : List Heard). after h x) (sym (heard_join a b))
