-- What the bytes so far are, by the grammar, at each configuration; where it fails, why. Assumes nothing.
use Prim.Native.Nat.{ℕ, suc}
use mathlib.Core.Path.{◌≡◌, sym, ap, ◌∙◌}
use mathlib.Core.Bool.{true}
use mathlib.Core.Logic.{◌⊎◌}
use mathlib.Core.List.{List, [], ◌∷◌, ◌++◌, append_assoc, append-nil}
use lib.ListN.{length}
use Rattle.meaning.specs.Letters.{letters}
use Rattle.meaning.specs.Meaning.{Meaning}
use Rattle.grammar.specs.Characters.{Many}
use Rattle.grammar.specs.Comments.{c_char, Stars, CBeginLine}
use Rattle.grammar.specs.Strings.{String}
use Rattle.grammar.specs.Binary.{Binary}
use Rattle.grammar.specs.Values.{Value}
use Rattle.grammar.proofs.Bytewise
use Rattle.machine.specs.Scan.{Out, takes, over}
use Rattle.machine.specs.Machine
use Rattle.machine.specs.Machine.{Use, Base, base, line, item, Frame, Conf, at, fail}
use Rattle.machine.specs.Numeric
use Rattle.machine.specs.Strings
use Rattle.machine.specs.Binaries
use Rattle.machine.specs.Names
use Rattle.machine.proofs.Runs.{adv, Steps, steps_join}
use Rattle.machine.proofs.Layouts.{adv_join}
use Rattle.machine.proofs.Refusals.Reason.{Reason}
use Rattle.machine.proofs.Refusals.Bases

-- ---- in layout

pub record Lined (k : List Frame) (d : ℕ) (s : Base) (l : List ℕ) : Type 0 where
  pub front : List ℕ
  pub begin : List ℕ
  pub body : List ℕ
  pub stands : Bases.BaseAt k d s front
  pub begins : CBeginLine begin
  pub chars : Many (Bytewise.Byte c_char) body
  pub split : l ≡ front ++ (begin ++ body)

pub record Blocked (k : List Frame) (d : ℕ) (s : Base) (l : List ℕ) : Type 0 where
  pub front : List ℕ
  pub body : List ℕ
  pub stands : Bases.BaseAt k d s front
  pub chars : Many Bytewise.InnerByte body
  pub split : l ≡ front ++ (letters "/*" ++ body)

pub record Starred (k : List Frame) (d : ℕ) (s : Base) (l : List ℕ) : Type 0 where
  pub front : List ℕ
  pub body : List ℕ
  pub stars : List ℕ
  pub stands : Bases.BaseAt k d s front
  pub chars : Many Bytewise.InnerByte body
  pub closing : Stars stars
  pub split : l ≡ front ++ (letters "/*" ++ (body ++ stars))

abbrev pub Slashed : List Frame → ℕ → Base → List ℕ → Type 0
Slashed k d s l = (f : List ℕ) × Bases.BaseAt k d s f × (l ≡ f ++ letters "/")

-- ---- in an item

-- from s₀, behind the bytes `front`, the scanner has come to s
pub record Begun (S : List ℕ → Type 0) {X M : Type 0} (run : ℕ → X → ℕ → Out X M) (s₀ s : X) (p : ℕ) (l : List ℕ) : Type 0 where
  pub front : List ℕ
  pub body : List ℕ
  pub starts : S front
  pub steps : Steps run (length front) s₀ body s
  pub here : adv (length front) body ≡ p
  pub split : l ≡ front ++ body

-- a word: what has come of it, and what is left
pub record Worded (k : List Frame) (d : ℕ) (w : List ℕ) (m : Meaning) (l : List ℕ) : Type 0 where
  pub front : List ℕ
  pub body : List ℕ
  pub starts : Bases.ValAt k d front
  pub is : Value true d (body ++ w) m
  pub split : l ≡ front ++ body

-- where a part may begin, after parts of the bytes u
abbrev pub PartStart : Use → List ℕ → List Frame → ℕ → List ℕ → Type 0
PartStart z u k d l = (Bases.StartAt z k d l × (u ≡ [])) ⊎ Bases.Plus (Bases.StartAt z k d) (λ a. String true a u) l

abbrev pub BinaryStart : List ℕ → List Frame → ℕ → List ℕ → Type 0
BinaryStart u k d l = (Bases.ValAt k d l × (u ≡ [])) ⊎ Bases.Plus (Bases.ValAt k d) (λ a. Binary a u) l

abbrev pub ItemAt : ℕ → List Frame → ℕ → Machine.Item → List ℕ → Type 0
ItemAt p k d (Machine.word w m) l = Worded k d w m l
ItemAt p k d (Machine.numeric s) l = Begun (Bases.ValAt k d) Numeric.scan Numeric.begin s p l
ItemAt p k d (Machine.string_part z u s) l = Begun (PartStart z u k d) Strings.scan Strings.begin s p l
ItemAt p k d (Machine.binary_part u s) l = Begun (BinaryStart u k d) Binaries.scan Binaries.begin s p l
ItemAt p k d (Machine.identifier s) l = Begun (Bases.KeyAt k d) Names.scan Names.begin s p l

-- in the text t, where it fails: why
abbrev pub ConfAt : List ℕ → ℕ → Conf → List ℕ → Type 0
ConfAt t p (fail r) l = Reason t r
ConfAt t p (at (base s) d k) l = Bases.BaseAt k d s l
ConfAt t p (at (Machine.slash s) d k) l = Slashed k d s l
ConfAt t p (at (line s) d k) l = Lined k d s l
ConfAt t p (at (Machine.block s) d k) l = Blocked k d s l
ConfAt t p (at (Machine.star s) d k) l = Starred k d s l
ConfAt t p (at (item i) d k) l = ItemAt p k d i l

-- ---- an item begins, and goes on

pub begun_more : {S : List ℕ → Type 0} {X M : Type 0} (run : ℕ → X → ℕ → Out X M) {s₀ s s' : X} {p b : ℕ} {l : List ℕ} → Begun S run s₀ s p l
    → run p s b ≡ takes s' → Begun S run s₀ s' (suc p) (l ++ (b ∷ []))
begun_more run {p = p} {b = b} {l = l} h e =
    record {
      front = h.front;
      body = h.body ++ (b ∷ []);
      starts = h.starts;
      steps = steps_join run h.steps (Steps.eat Steps.stay (rw h.here e));
      here = adv_join (length h.front) h.body (b ∷ []) ∙ ap suc h.here;
      split = rw h.split (append_assoc h.front h.body (b ∷ []));
    }

pub begun_now : {S : List ℕ → Type 0} {X M : Type 0} (run : ℕ → X → ℕ → Out X M) (s₀ : X) {p : ℕ} (l : List ℕ) → S l → length l ≡ p → Begun S run s₀ s₀ p l
begun_now run s₀ l h e = record { front = l; body = []; starts = h; steps = Steps.stay; here = e; split = sym (append-nil l) }

-- the byte at which an item is asked, and the rest of the text from there: the text's end is one more byte
pub data Next : ℕ → List ℕ → Type 0 where
  byte : {b : ℕ} (r : List ℕ) → Next b (b ∷ r)
  end : Next over []
