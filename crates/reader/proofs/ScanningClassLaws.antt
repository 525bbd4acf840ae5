-- What a byte's class says of it. Assumes nothing.
use mathlib.Core.Path.{◌≡◌, refl, subst}
use mathlib.Core.Bool.{Bool, true, false}
use mathlib.Core.Logic.{◌⊎◌, inl, inr}
use lib.Dec.{eqb}
use borrow.Author.Tests.{eqb-true, eqb-false}
use Prim.Native.Nat.{ℕ, ◌<◌}
use native.Mathlib.Omega.{arith}
use Rattle.meaning.specs.Letters.{ch}
use Rattle.machine.specs.Machine.{Class, blank_c, hash_c, slash_c, quote_c}
use Rattle.machine.specs.Machine.{class_of}
use Rattle.machine.specs.Machine.{Note, line_end, star_n, slash_n, plain_n, control_n, note_of}
use Rattle.machine.proofs.Classes.{ClassIs, class_is_lem}
use Rattle.machine.proofs.Layouts.{NoteIs, note_is_lem}

-- a number is this one or not
told : {P : Type 0} (b k : ℕ) → (b ≡ k → P) → ((b ≡ k → ⊥) → P) → P
told {P} b k f g = go (eqb b k) refl
  where
    go : (t : Bool) → eqb b k ≡ t → P
    go true e = f (eqb-true b k e)
    go false e = g (eqb-false b k e)

module _ (b : ℕ) where
  pub note_told : (n : Note) → note_of b ≡ n → NoteIs b n
  note_told n e = subst (NoteIs b) e (note_is_lem b)

  pub ends_line : ((b ≡ ch "\n" → ⊥) → b ≡ ch "\r") → note_of b ≡ line_end
  ends_line h = told b (ch "\n") (λ e. rw e) (λ i. rw (h i))

  pub not_line_end : (b ≡ ch "\n" → ⊥) → (b ≡ ch "\r" → ⊥) → note_of b ≡ line_end → ⊥
  not_line_end i j e = j ((note_told line_end e).2 i)

note_control : (b : ℕ) (n : Note) → NoteIs b n → b < 0x20 → (b ≡ ch "\t" → ⊥) → (b ≡ ch "\n" → ⊥) → (b ≡ ch "\r" → ⊥) → n ≡ control_n
note_control b line_end x h i j k = absurd (k (x.2 j))
note_control b star_n x h i j k = absurd (omega arith)
note_control b slash_n x h i j k = absurd (omega arith)
note_control b plain_n x h i j k = absurd (i (x.0 h))
note_control b control_n x h i j k = refl

pub control_note : (b : ℕ) → b < 0x20 → (b ≡ ch "\t" → ⊥) → (b ≡ ch "\n" → ⊥) → (b ≡ ch "\r" → ⊥) → note_of b ≡ control_n
control_note b = note_control b (note_of b) (note_is_lem b)

module _ (b : ℕ) where
  class_blank : (c : Class) → ClassIs b c → c ≡ blank_c → ClassIs b blank_c
  class_blank c x e = rw e at x

  pub blank : ((b ≡ ch "\t" → ⊥) → (b ≡ ch "\n" → ⊥) → (b ≡ ch "\r" → ⊥) → b ≡ ch " ") → class_of b ≡ blank_c
  blank h = told b (ch "\t") (λ e. rw e) (λ i. told b (ch "\n") (λ e. rw e) (λ j. told b (ch "\r") (λ e. rw e) (λ k. rw (h i j k))))

  pub not_blank : (b ≡ ch "\t" → ⊥) → (b ≡ ch "\n" → ⊥) → (b ≡ ch "\r" → ⊥) → (b ≡ ch " " → ⊥) → class_of b ≡ blank_c → ⊥
  not_blank i j k l e = l ((class_blank (class_of b) (class_is_lem b) e).1 i j k)

  pub quoting : (b ≡ ch "\"") ⊎ (b ≡ ch "'") → class_of b ≡ quote_c
  quoting (inl e) = rw e
  quoting (inr e) = rw e

  class_hash : (c : Class) → ClassIs b c → c ≡ hash_c → b ≡ ch "#"
  class_hash c x e = rw e at x

  pub not_hash : (b ≡ ch "#" → ⊥) → class_of b ≡ hash_c → ⊥
  not_hash i e = i (class_hash (class_of b) (class_is_lem b) e)

  class_slash : (c : Class) → ClassIs b c → c ≡ slash_c → b ≡ ch "/"
  class_slash c x e = rw e at x

  pub not_slash : (b ≡ ch "/" → ⊥) → class_of b ≡ slash_c → ⊥
  not_slash i e = i (class_slash (class_of b) (class_is_lem b) e)
