-- What a record of each kind prints, and its share, as the code goes by them. Assumes nothing.
use mathlib.Core.Path.{◌≡◌, refl, ap, ◌∙◌}
use mathlib.Core.Bool.{Bool, true, false, cond}
use mathlib.Core.Logic.{◌⊎◌, inl, inr}
use mathlib.Core.List.{List, ◌++◌}
use Prim.Native.Nat.{ℕ, ◌+◌, ◌*◌, ◌≤◌}
use native.Mathlib.Omega.{arith}
use lib.Dec.{eqb}
use lib.ListN.{length, drop, length-append, length-take, length-drop}
use mir.Val.{bool_byte}
use borrow.Author.Tests.{eq-eqb, ne_eqb}
use Rattle.meaning.specs.declared.Number.{Number}
use Rattle.meaning.specs.declared.Time.{Time}
use Rattle.meaning.specs.declared.Record.{Record}
use Rattle.meaning.specs.Letters.{letters}
use Rattle.meaning.specs.Canonical.{number_text, quoted, binary_text, time_text}
use Rattle.meaning.proofs.Quotes.{pairs_length}
use Rattle.tape.specs.Between.Turns.{bytes_end}
use Rattle.writer.specs.declared.Effect.{Effect}
use Rattle.writer.specs.Between.Walk.{part, printed, effect_of, closes, follows, share}
use Rattle.writer.proofs.PiecesLaws.{binary_is}

-- a comma is due after all but a key and a container
pub passed : (r : Record) → ((size start : ℕ) → r ≡ Record.Key size start → ⊥) → ((count end : ℕ) → r ≡ Record.Array count end → ⊥)
    → ((count end : ℕ) → r ≡ Record.Object count end → ⊥) → Effect.Pass true ≡ effect_of r
unfolding effect_of
passed Record.Null k a o = refl
passed (Record.Bool b) k a o = refl
passed (Record.Number n) k a o = refl
passed (Record.Str size start) k a o = refl
passed (Record.Key size start) k a o = absurd (k size start refl)
passed (Record.Bin size start) k a o = refl
passed (Record.Time t) k a o = refl
passed (Record.Array count end) k a o = absurd (a count end refl)
passed (Record.Object count end) k a o = absurd (o count end refl)

pub closes_by : (end i : ℕ) → 1 + bool_byte (eqb end (i + 1)) ≡ closes end i
unfolding closes
closes_by end i = go (eqb end (i + 1))
  where
    go : (t : Bool) → 1 + bool_byte t ≡ cond t 2 1
    go true = refl
    go false = refl

pub closes_none : (end i : ℕ) → end ≡ i + 1 → closes end i ≡ 2
unfolding closes
closes_none end i e = rw (eq-eqb end (i + 1) e)

pub closes_some : (end i : ℕ) → (end ≡ i + 1 → ⊥) → closes end i ≡ 1
unfolding closes
closes_some end i h = rw (ne_eqb end (i + 1) h)

pub closes_few : (end i : ℕ) → closes end i ≤ 2
unfolding closes
closes_few end i = go (eqb end (i + 1))
  where
    go : (t : Bool) → cond t 2 1 ≤ 2
    go true = omega arith
    go false = omega arith

module _ {r : Record} (store : List ℕ) where
  of : {s : Record} → r ≡ s → printed r store ≡ printed s store
  of {s} e = ap (λ (x : Record). printed x store) e

  pub null_printed : r ≡ Record.Null → printed r store ≡ letters "null"
  unfolding printed
  null_printed e = of e

  pub true_printed : {b : Bool} → r ≡ Record.Bool b → b ≡ true → printed r store ≡ letters "true"
  unfolding printed
  true_printed e t = of (e ∙ ap Record.Bool t)

  pub false_printed : {b : Bool} → r ≡ Record.Bool b → b ≡ false → printed r store ≡ letters "false"
  unfolding printed
  false_printed e t = of (e ∙ ap Record.Bool t)

  pub number_printed : {n : Number} → r ≡ Record.Number n → printed r store ≡ number_text n
  unfolding printed
  number_printed e = of e

  pub string_printed : {size start : ℕ} → r ≡ Record.Str size start → printed r store ≡ quoted (part store size start)
  unfolding printed
  string_printed e = of e

  pub key_printed : {size start : ℕ} → r ≡ Record.Key size start → printed r store ≡ quoted (part store size start) ++ letters ":"
  unfolding printed
  key_printed e = of e

  pub binary_printed : {size start : ℕ} → r ≡ Record.Bin size start → printed r store ≡ binary_text (part store size start)
  unfolding printed
  binary_printed e = of e

  pub time_printed : {t : Time} → r ≡ Record.Time t → printed r store ≡ time_text t
  unfolding printed
  time_printed e = of e

  pub array_printed : {count end : ℕ} → r ≡ Record.Array count end → printed r store ≡ letters "["
  unfolding printed
  array_printed e = of e

  pub object_printed : {count end : ℕ} → r ≡ Record.Object count end → printed r store ≡ letters "{"
  unfolding printed
  object_printed e = of e

-- a part of the store has the bytes that it says
pub part_length : (store : List ℕ) (size start : ℕ) → start + size ≤ length store → length (part store size start) ≡ size
part_length store size start h = length-take size (drop start store) ∙ omega (arith, length-drop start store)

pub binary_length : (s : List ℕ) → length (binary_text s) ≡ 2 * length s + 1
binary_length s = ap length (binary_is s) ∙ omega (arith, pairs_length s)

-- ---- shares

module _ {r : Record} (i : ℕ) (store : List ℕ) where
  same : {s : Record} → r ≡ s → share r i store ≡ share s i store
  same {s} e = ap (λ (x : Record). share x i store) e

  pub null_share : r ≡ Record.Null → share r i store ≡ 5
  unfolding printed follows
  null_share e = same e

  pub true_share : {b : Bool} → r ≡ Record.Bool b → b ≡ true → share r i store ≡ 5
  unfolding printed follows
  true_share e t = same (e ∙ ap Record.Bool t)

  pub false_share : {b : Bool} → r ≡ Record.Bool b → b ≡ false → share r i store ≡ 6
  unfolding printed follows
  false_share e t = same (e ∙ ap Record.Bool t)

  pub number_share : {n : Number} → r ≡ Record.Number n → share r i store ≡ length (number_text n) + 1
  unfolding printed follows
  number_share e = same e

  pub part_share : {size start : ℕ} → (r ≡ Record.Str size start) ⊎ (r ≡ Record.Key size start)
      → share r i store ≡ length (quoted (part store size start)) + 1
  unfolding printed follows
  part_share (inl e) = same e
  part_share {size} {start} (inr e) = same e ∙ omega (arith, length-append (quoted (part store size start)) (letters ":"))

  pub binary_share : {size start : ℕ} → r ≡ Record.Bin size start → start + size ≤ length store → share r i store ≡ 2 * size + 2
  unfolding printed follows
  binary_share {size} {start} e h = same e ∙ omega (arith, binary_length (part store size start), part_length store size start h)

  pub time_share : {t : Time} → r ≡ Record.Time t → share r i store ≡ length (time_text t) + 1
  unfolding printed follows
  time_share e = same e

  pub container_share : {end : ℕ} → ((count : ℕ) × (r ≡ Record.Array count end)) ⊎ ((count : ℕ) × (r ≡ Record.Object count end))
      → share r i store ≡ 1 + closes end i
  unfolding printed follows
  container_share (inl e) = same e.1
  container_share (inr e) = same e.1

-- what a string or a key has of the store
pub part_end : {r : Record} {size start : ℕ} → (r ≡ Record.Str size start) ⊎ (r ≡ Record.Key size start) → bytes_end r ≡ start + size
part_end (inl e) = ap bytes_end e
part_end (inr e) = ap bytes_end e
