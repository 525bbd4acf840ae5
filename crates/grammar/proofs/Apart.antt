-- A string part is judged on its own: no escape reaches past the quote that closes it. Assumes nothing.
use Prim.Native.Nat.{ℕ}
use mathlib.Core.Path.{◌≡◌, refl}
use mathlib.Core.Bool.{Bool, false}
use mathlib.Core.List.{List, ◌∷◌}
use native.Mathlib.Omega.{arith}
use lib.Dec.{eqb}
use borrow.Author.Tests.{eqb-false}
use Rattle.rules.proofs.Characters.{Each, all_none, all_more, each_join}
use Rattle.meaning.specs.Letters.{ch}
use Rattle.grammar.specs.Characters.{Hexdig, Digits}
use Rattle.grammar.specs.Strings.{Escape}

abbrev pub NoQuote : ℕ → Type 0
NoQuote b = (b ≡ ch "\"" → ⊥) × (b ≡ ch "'" → ⊥)

hexdig : {b x : ℕ} → Hexdig b x → NoQuote b
hexdig (Hexdig.decimal i) = ((λ e. omega arith), (λ e. omega arith))
hexdig (Hexdig.upper i) = ((λ e. omega arith), (λ e. omega arith))
hexdig (Hexdig.lower i) = ((λ e. omega arith), (λ e. omega arith))

digits : {n v w : ℕ} {a : List ℕ} → Digits Hexdig 16 n v a w → Each NoQuote a
digits Digits.over = all_none
digits (Digits.next d r) = all_more (hexdig d) (digits r)

apart : (b : ℕ) → eqb b (ch "\"") ≡ false → eqb b (ch "'") ≡ false → NoQuote b
apart b h l = (eqb-false b (ch "\"") h, eqb-false b (ch "'") l)

-- behind the first byte of an escape stands no quote
pub escape_apart : {k : Bool} {b : ℕ} {e v : List ℕ} → Escape k (b ∷ e) v → Each NoQuote e
escape_apart (Escape.short s) = all_none
escape_apart (Escape.unit d h) = digits d
escape_apart (Escape.pair c i d j) = each_join (digits c) (all_more (apart _ refl refl) (all_more (apart _ refl refl) (digits d)))
escape_apart (Escape.braced d h) = all_more (apart _ refl refl) (each_join (digits d) (all_more (apart _ refl refl) all_none))
