-- The machine, listened to: beside what a text comes to, what its bytes say of objects and keys, in their order
-- (docs/FORMAT.md, 7.2 and 10.2). Nothing that the machine does depends on it. Assumes nothing.
use Rattle.std.specs.Prelude.{List, [], ◌∷◌, ◌++◌, ℕ, suc, drop}
use Rattle.std.proofs.Math.Option.{Option, none, some}
use Rattle.meaning.specs.Limits.{depth_limit}
use Rattle.meaning.specs.Between.Events.{Event, begins, ends, named}
use Rattle.machine.specs.Scan.{Out, takes, stops, breaks}
use Rattle.machine.specs.Machine.{Item, Got, as_key_of, scan, Base, want, want_key, want_string, want_binary, got}
use Rattle.machine.specs.Machine.{base, slash, line, block, star, item, Conf, at, fail, step, finish}
use Rattle.machine.specs.Machine.{Verdict, Bracket, square, curly, Class, class_of, open_c, close_c}
use Rattle.machine.specs.Machine.{blank_c, hash_c, slash_c, comma_c, colon_c, plus_c, quote_c, dollar_c}
use Rattle.machine.specs.Machine.{letter_n, letter_t, letter_f, letter_c, other_c}

-- an object opens, or closes; a key begins at this place; its colon comes, and this is what it means
pub data Heard : Type 0 where
  opens shuts : Heard
  starts : ℕ → Heard
  names : List ℕ → Heard

-- ---- what a byte says

-- a closing bracket
abbrev pub at_close : Bracket → List Heard
at_close square = []
at_close curly = shuts ∷ []

-- an opening bracket
abbrev pub at_open : Bracket → List Heard
at_open square = []
at_open curly = opens ∷ []

abbrev pub at_colon : Option (List ℕ) → List Heard
at_colon none = []
at_colon (some u) = names u ∷ []

-- behind what is got
abbrev pub at_got : Got → Class → List Heard
at_got g (close_c c) = at_close c
at_got g colon_c = at_colon (as_key_of g)
at_got g (open_c c) = []
at_got g blank_c = []
at_got g hash_c = []
at_got g slash_c = []
at_got g comma_c = []
at_got g plus_c = []
at_got g quote_c = []
at_got g dollar_c = []
at_got g letter_n = []
at_got g letter_t = []
at_got g letter_f = []
at_got g letter_c = []
at_got g other_c = []

-- where a value is wanted
abbrev pub at_want : Class → List Heard
at_want (open_c c) = at_open c
at_want (close_c c) = at_close c
at_want colon_c = []
at_want blank_c = []
at_want hash_c = []
at_want slash_c = []
at_want comma_c = []
at_want plus_c = []
at_want quote_c = []
at_want dollar_c = []
at_want letter_n = []
at_want letter_t = []
at_want letter_f = []
at_want letter_c = []
at_want other_c = []

-- where a key is wanted: its first byte
abbrev pub at_key : ℕ → Class → List Heard
at_key p quote_c = starts p ∷ []
at_key p dollar_c = starts p ∷ []
at_key p letter_n = starts p ∷ []
at_key p letter_t = starts p ∷ []
at_key p letter_f = starts p ∷ []
at_key p letter_c = starts p ∷ []
at_key p (close_c c) = at_close c
at_key p (open_c c) = []
at_key p colon_c = []
at_key p blank_c = []
at_key p hash_c = []
at_key p slash_c = []
at_key p comma_c = []
at_key p plus_c = []
at_key p other_c = []

abbrev pub at_base : ℕ → ℕ → Base → List Heard
at_base p b want = at_want (class_of b)
at_base p b want_key = at_key p (class_of b)
at_base p b (want_string z u) = []
at_base p b (want_binary u) = []
at_base p b (got g) = at_got g (class_of b)

-- where an item stops before the byte, the byte stands behind what is got
abbrev pub at_out : ℕ → Out Item Got → List Heard
at_out b (takes i) = []
at_out b (stops g) = at_got g (class_of b)
at_out b (breaks r) = []

abbrev pub hears : ℕ → Conf → ℕ → List Heard
hears p (fail r) b = []
hears p (at (base s) d k) b = at_base p b s
hears p (at (slash s) d k) b = []
hears p (at (line s) d k) b = []
hears p (at (block s) d k) b = []
hears p (at (star s) d k) b = []
hears p (at (item i) d k) b = at_out b (scan p i b)

-- ---- what a text says

-- what it comes to, and what was heard up to its end or its fault
pub record Told : Type 0 where
  pub verdict : Verdict
  pub heard : List Heard

-- heard before the rest
abbrev pub after : List Heard → Told → Told
after hs x = record { verdict = x.verdict; heard = hs ++ x.heard }

unfoldable pub tell : ℕ → Conf → List ℕ → Told
tell p c [] = record { verdict = finish p c; heard = [] }
tell p c (b ∷ t) = after (hears p c b) (tell (suc p) (step p c b) t)

unfoldable pub telling : List ℕ → Told
telling t = tell 0 (at (base want) depth_limit []) t

-- what is heard of events: of a key its first byte, and then its colon
abbrev pub heard_of : List Event → List Heard
heard_of [] = []
heard_of (begins ∷ es) = opens ∷ heard_of es
heard_of (ends ∷ es) = shuts ∷ heard_of es
heard_of (named q u ∷ es) = starts q ∷ names u ∷ heard_of es

-- ---- the key that begins at a place

-- what the first colon names
abbrev pub key_heard : List Heard → Option (List ℕ)
key_heard [] = none
key_heard (opens ∷ hs) = none
key_heard (shuts ∷ hs) = none
key_heard (starts q ∷ hs) = key_heard hs
key_heard (names u ∷ hs) = some u

-- what the key means that begins at p, where it has a colon
unfoldable pub key_at : List ℕ → ℕ → Option (List ℕ)
key_at text p = key_heard (tell p (at (base want_key) 0 []) (drop p text)).heard
