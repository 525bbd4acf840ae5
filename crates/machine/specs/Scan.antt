-- What a byte does to an item (docs/FORMAT.md, 1.3), at its place: it is taken, the item stops before it with its
-- value, or the item breaks with a refusal. An item takes each next byte that some rule lets it take; its grammar comes
-- before its checks, and its checks before the byte after it: a check breaks only where the item would stop. The text's
-- end is one more byte, 256. Assumes nothing.
use Rattle.std.specs.Prelude.{ℕ, suc, List, [], ◌∷◌}
use Rattle.meaning.specs.declared.Refusal.{Refusal}

pub data Out (S M : Type 0) : Type 0 where
  takes : S → Out S M
  stops : M → Out S M
  breaks : Refusal → Out S M

-- the text's end
abbrev pub over : ℕ
over = 256

-- The run of an item over the rest of a text: its value and the place that stops it, or its refusal. No item takes the
-- text's end.
pub data Ran (M : Type 0) : Type 0 where
  ended : M → ℕ → Ran M
  broke : Refusal → Ran M
  unended : Ran M

module _ {S M : Type 0} (scan : ℕ → S → ℕ → Out S M) where
  abbrev pub goes_on : ℕ → (S → Ran M) → Out S M → Ran M
  goes_on p f (takes s) = f s
  goes_on p f (stops v) = ended v p
  goes_on p f (breaks r) = broke r

  unfoldable pub ran : ℕ → S → List ℕ → Ran M
  ran p s [] = goes_on p (λ s'. unended) (scan p s over)
  ran p s (b ∷ t) = goes_on p (λ s'. ran (suc p) s' t) (scan p s b)
