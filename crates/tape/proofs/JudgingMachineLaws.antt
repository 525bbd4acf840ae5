-- A machine that reads records, with the containers that are open; it says of each list of records at most one meaning.
-- Assumes nothing.
use mathlib.Core.Path.{◌≡◌, refl, ap, ◌∙◌}
use mathlib.Core.Bool.{Bool, true, false, cond}
use mathlib.Core.List.{List, [], ◌∷◌}
use Prim.Native.Nat.{ℕ, ◌+◌}
use lib.Dec.{eqb, ltb}
use lib.ListN.{length, take, drop}
use borrow.Author.Tests.{eq-eqb, ne_eqb, eqb-true}
use Rattle.meaning.specs.declared.Record.{Record}
use Rattle.meaning.specs.Limits.{depth_limit}
use Rattle.meaning.specs.Meaning.{Meaning, Meanings, Members, null, bool, number, string, binary, time, array, object, none, more, bare, member}
use Rattle.meaning.specs.Tape.{elements_count, members_count}

-- what a container's record states
pub record Stated : Type 0 where
  pub count : ℕ
  pub end : ℕ

-- a container that waits for the value that is being read; `root` waits for the whole
pub data Frame : Type 0 where
  root : Frame
  in_array : Stated → Meanings → Frame
  in_object : Stated → Members → List ℕ → Frame

-- nothing yet, the whole, or the innermost container: with what it states, before a key, or after one; or no meaning any more
pub data Conf : Type 0 where
  nothing : Conf
  whole : Meaning → Conf
  elements : Stated → Meanings → List Frame → Conf
  members : Stated → Members → List Frame → Conf
  keyed : Stated → Members → List ℕ → List Frame → Conf
  broken : Conf

pub data Verdict : Type 0 where
  says : Meaning → Verdict
  nay : Verdict

pub data Kind : Type 0 where
  of_values : Kind
  of_members : Kind

-- what a record is to the machine
pub data Act : Type 0 where
  leaf : Meaning → Act
  name : List ℕ → Act
  opens : Kind → Stated → Act

-- what waits for a value
unfoldable pub slot : Conf → List Frame
slot nothing = root ∷ []
slot (whole m) = []
slot (elements e ms fs) = in_array e ms ∷ fs
slot (members e ms fs) = []
slot (keyed e ms k fs) = in_object e ms k ∷ fs
slot broken = []

unfoldable pub put : Meaning → List Frame → Conf
put m [] = broken
put m (root ∷ fs) = whole m
put m (in_array e ms ∷ fs) = elements e (more ms m) fs
put m (in_object e ms k ∷ fs) = members e (member ms k m) fs

unfoldable pub key : List ℕ → Conf → Conf
key k nothing = broken
key k (whole m) = broken
key k (elements e ms fs) = broken
key k (members e ms fs) = keyed e ms k fs
key k (keyed e ms k' fs) = broken
key k broken = broken

-- an empty container
abbrev pub begin : Kind → Stated → List Frame → Conf
begin of_values e fs = elements e none fs
begin of_members e fs = members e bare fs

unfoldable pub enter : Kind → Stated → List Frame → Conf
enter k e [] = broken
enter k e (f ∷ fs) = cond (ltb (length fs) depth_limit) (begin k e (f ∷ fs)) broken

-- a container with so many elements or members at record i: it is done if it ends there and has counted them, and open if not
abbrev pub shuts : ℕ → Stated → ℕ → Conf → Conf → Conf
shuts i e n d o = cond (eqb e.end i) (cond (eqb e.count n) d broken) o

-- a value is complete at record i, and with it each container that ends there
unfoldable pub give : ℕ → Meaning → List Frame → Conf
give i m [] = broken
give i m (root ∷ fs) = whole m
give i m (in_array e ms ∷ fs) = shuts i e (elements_count ms + 1) (give i (array (more ms m)) fs) (elements e (more ms m) fs)
give i m (in_object e ms k ∷ fs) = shuts i e (members_count ms + 1) (give i (object (member ms k m)) fs) (members e (member ms k m) fs)

unfoldable pub settle : ℕ → Conf → Conf
settle i nothing = nothing
settle i (whole m) = whole m
settle i (elements e ms fs) = shuts i e (elements_count ms) (give i (array ms) fs) (elements e ms fs)
settle i (members e ms fs) = shuts i e (members_count ms) (give i (object ms) fs) (members e ms fs)
settle i (keyed e ms k fs) = cond (eqb e.end i) broken (keyed e ms k fs)
settle i broken = broken

pub shut_here : (i : ℕ) (e : Stated) (n : ℕ) (d o : Conf) → e.end ≡ i → e.count ≡ n → shuts i e n d o ≡ d
shut_here i e n d o p q =
    ap (λ (b : Bool). cond b (cond (eqb e.count n) d broken) o) (eq-eqb e.end i p)
    ∙ ap (λ (b : Bool). cond b d broken) (eq-eqb e.count n q)

pub shut_not : (i : ℕ) (e : Stated) (n : ℕ) (d o : Conf) → (e.end ≡ i → ⊥) → shuts i e n d o ≡ o
shut_not i e n d o p = ap (λ (b : Bool). cond b (cond (eqb e.count n) d broken) o) (ne_eqb e.end i p)

pub shut_wrong : (i : ℕ) (e : Stated) (n : ℕ) (d o : Conf) → e.end ≡ i → (e.count ≡ n → ⊥) → shuts i e n d o ≡ broken
shut_wrong i e n d o p q =
    ap (λ (b : Bool). cond b (cond (eqb e.count n) d broken) o) (eq-eqb e.end i p)
    ∙ ap (λ (b : Bool). cond b d broken) (ne_eqb e.count n q)

pub by_bool : (P : Conf → Type 0) (b : Bool) (x y : Conf) → (b ≡ true → P x) → (b ≡ false → P y) → P (cond b x y)
by_bool P true x y f g = f refl
by_bool P false x y f g = g refl

pub by_shut : (P : Conf → Type 0) (i : ℕ) (e : Stated) (n : ℕ) (d o : Conf) → (e.end ≡ i → e.count ≡ n → P d) → P broken → P o → P (shuts i e n d o)
by_shut P i e n d o f b g =
    by_bool P (eqb e.end i) _ o
    (λ p. by_bool P (eqb e.count n) d broken (λ q. f (eqb-true e.end i p) (eqb-true e.count n q)) (λ q. b)) (λ p. g)

pub give_put : (i : ℕ) (m : Meaning) (fs : List Frame) → give i m fs ≡ settle i (put m fs)
unfolding give settle put elements_count members_count
give_put i m [] = refl
give_put i m (root ∷ fs) = refl
give_put i m (in_array e ms ∷ fs) = refl
give_put i m (in_object e ms k ∷ fs) = refl

-- how many bytes of the store a record has, and where they start (here, if it has none)
unfoldable pub size_of : Record → ℕ
size_of Record.Null = 0
size_of (Record.Bool b) = 0
size_of (Record.Number n) = 0
size_of (Record.Str size start) = size
size_of (Record.Key size start) = size
size_of (Record.Bin size start) = size
size_of (Record.Time t) = 0
size_of (Record.Array count end) = 0
size_of (Record.Object count end) = 0

unfoldable pub start_of : Record → ℕ → ℕ
start_of Record.Null at = at
start_of (Record.Bool b) at = at
start_of (Record.Number n) at = at
start_of (Record.Str size start) at = start
start_of (Record.Key size start) at = start
start_of (Record.Bin size start) at = start
start_of (Record.Time t) at = at
start_of (Record.Array count end) at = at
start_of (Record.Object count end) at = at

abbrev pub there : ℕ → ℕ → Conf → Conf
there start at c = cond (eqb start at) c broken

unfoldable pub does : Act → Conf → Conf
does (leaf m) c = put m (slot c)
does (name k) c = key k c
does (opens k e) c = enter k e (slot c)

module _ (store : List ℕ) where
  abbrev pub part : ℕ → ℕ → List ℕ
  part at size = take size (drop at store)

  unfoldable pub act_of : ℕ → Record → Act
  act_of at Record.Null = leaf null
  act_of at (Record.Bool b) = leaf (bool b)
  act_of at (Record.Number n) = leaf (number n)
  act_of at (Record.Str size start) = leaf (string (part at size))
  act_of at (Record.Key size start) = name (part at size)
  act_of at (Record.Bin size start) = leaf (binary (part at size))
  act_of at (Record.Time t) = leaf (time t)
  act_of at (Record.Array count end) = opens of_values (record { count = count; end = end })
  act_of at (Record.Object count end) = opens of_members (record { count = count; end = end })

  unfoldable pub push : ℕ → Conf → Record → Conf
  push at c r = there (start_of r at) at (does (act_of at r) c)

  unfoldable pub finish : ℕ → Conf → Verdict
  finish at nothing = nay
  finish at (whole m) = cond (eqb at (length store)) (says m) nay
  finish at (elements e ms fs) = nay
  finish at (members e ms fs) = nay
  finish at (keyed e ms k fs) = nay
  finish at broken = nay

  -- the first of these records has index i, and its bytes start at the place `at`
  unfoldable pub run : List Record → ℕ → ℕ → Conf → Verdict
  run [] i at c = finish at (settle i c)
  run (r ∷ rs) i at c = run rs (i + 1) (at + size_of r) (push at (settle i c) r)

  -- only the settled state counts
  pub run_settle : (l : List Record) (i at : ℕ) (c d : Conf) → settle i c ≡ settle i d → run l i at c ≡ run l i at d
  unfolding run
  run_settle [] i at c d e = ap (finish at) e
  run_settle (r ∷ rs) i at c d e = ap (λ (x : Conf). run rs (i + 1) (at + size_of r) (push at x r)) e

  does_broken : (a : Act) → does a broken ≡ broken
  unfolding does slot put key enter
  does_broken (leaf m) = refl
  does_broken (name k) = refl
  does_broken (opens k e) = refl

  there_broken : (start at : ℕ) → there start at broken ≡ broken
  there_broken start at = go (eqb start at)
    where
      go : (b : Bool) → cond b broken broken ≡ broken
      go true = refl
      go false = refl

  pub run_broken : (l : List Record) (i at : ℕ) → run l i at broken ≡ nay
  unfolding run settle finish push
  run_broken [] i at = refl
  run_broken (r ∷ rs) i at =
      ap (λ (c : Conf). run rs (i + 1) (at + size_of r) (there (start_of r at) at c)) (does_broken (act_of at r))
      ∙ ap (run rs (i + 1) (at + size_of r)) (there_broken (start_of r at) at)
      ∙ run_broken rs (i + 1) (at + size_of r)
