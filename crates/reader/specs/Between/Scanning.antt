-- The machine over a text (docs/FORMAT.md, 1.2) from a place on, and what it says of objects and keys there: what the
-- readers' promises compare. Assumes nothing.
use Rattle.std.specs.Prelude.{◌≡◌, List, [], ℕ, ◌<◌, length, drop, get_or}
use Rattle.meaning.specs.declared.Refusal.{Refusal}
use Rattle.meaning.specs.Between.Events.{Event}
use Rattle.machine.specs.Machine.{Frame, Conf, Bracket, close_wanted, odd, No}
use Rattle.machine.specs.Machine.{class_of, blank_c, hash_c, slash_c, close_c}
use Rattle.machine.specs.Heard.{Heard, after, tell, heard_of}

-- from the state c at p the machine comes to what it comes to from the state d at q, and says nothing on the way
abbrev pub Goes : List ℕ → Conf → ℕ → Conf → ℕ → Type 0
Goes text c p d q = tell p c (drop p text) ≡ tell q d (drop q text)

-- on the way this is heard
abbrev pub Hears : List ℕ → Conf → ℕ → List Heard → Conf → ℕ → Type 0
Hears text c p hs d q = tell p c (drop p text) ≡ after hs (tell q d (drop q text))

-- on the way these objects and keys are heard
abbrev pub Tells : List ℕ → Conf → ℕ → List Event → Conf → ℕ → Type 0
Tells text c p es d q = Hears text c p (heard_of es) d q

-- from the state c at p the text is refused
abbrev pub Refuses : List ℕ → Conf → ℕ → Refusal → Type 0
Refuses text c p why = (tell p c (drop p text)).verdict ≡ No why

-- the same, and nothing is heard before
abbrev pub Faults : List ℕ → Conf → ℕ → Refusal → Type 0
Faults text c p why = tell p c (drop p text) ≡ record { verdict = No why; heard = [] }

-- no layout stands at p
pub record Bare (text : List ℕ) (p : ℕ) : Type 0 where
  pub no_blank : p < length text → class_of (get_or text p 0) ≡ blank_c → ⊥
  pub no_hash : p < length text → class_of (get_or text p 0) ≡ hash_c → ⊥
  pub no_slash : p < length text → class_of (get_or text p 0) ≡ slash_c → ⊥

-- a closing bracket at p, where a value or a key is wanted, closes nothing
abbrev pub Shut : List ℕ → ℕ → ℕ → List Frame → Type 0
Shut text p d k = p < length text → (c : Bracket) → class_of (get_or text p 0) ≡ close_c c → close_wanted p d c k
    ≡ odd p
