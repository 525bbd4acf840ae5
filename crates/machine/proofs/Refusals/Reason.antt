-- Why the machine refuses a text: with 3, or an item of the text fails its check. Assumes nothing.
use Prim.Native.Nat.{ℕ}
use mathlib.Core.Path.{◌≡◌, refl}
use mathlib.Core.Logic.{◌⊎◌, inl}
use mathlib.Core.List.{List}
use Rattle.meaning.specs.declared.Refusal.{Refusal}
use Rattle.meaning.specs.declared.Refusal.TheVariants.{NotGrammar}
use Rattle.meaning.specs.Paper.{number_of}
use Rattle.grammar.specs.Refused.{ItemFault}

-- 3, and any other
abbrev pub Three : Refusal → Type 0
Three r = (p : ℕ) × (r ≡ NotGrammar p)

abbrev pub Other : Refusal → Type 0
Other r = number_of r ≡ 3 → ⊥

-- which refusal the fault has is not said: a text has one only
abbrev pub Faulty : List ℕ → Type 0
Faulty t = (r : Refusal) × ItemFault t r

abbrev pub Reason : List ℕ → Refusal → Type 0
Reason t r = Three r ⊎ Faulty t

pub three : {t : List ℕ} (p : ℕ) → Reason t (NotGrammar p)
three p = inl (p, refl)
