-- A refusal is its number and its place. Assumes nothing.
use mathlib.Core.Path.{◌≡◌, refl, sym, ap, ap₂, ◌∙◌}
use mathlib.Core.Bool.{cond}
use Prim.Native.Nat.{ℕ}
use lib.Dec.{eqb}
use Rattle.meaning.specs.declared.Refusal.{Refusal}
use Rattle.meaning.specs.declared.Refusal.TheVariants.{TextTooLong, NotUtf8, NotGrammar, BadEscape, BadTime, BadNumber, TooDeep, TapeTooShort}
use Rattle.meaning.specs.declared.Refusal.TheVariants.{StoreTooShort, NotWellFormed, NoJsonForm, OutputTooShort, WrittenTooLong, NoSuchRecord}
use Rattle.meaning.specs.declared.Refusal.TheVariants.{RepeatedKey}
use Rattle.rules.specs.Paper.{Said, number_said, place_said}
use Rattle.meaning.specs.Paper.{number_of, place_of, refusal_said}

refusal : ℕ → ℕ → Refusal
refusal n p =
    cond (eqb n 2) (NotUtf8 p)
    (cond (eqb n 3) (NotGrammar p)
    (cond (eqb n 4) (BadEscape p)
    (cond (eqb n 5) (BadTime p)
    (cond (eqb n 6) (BadNumber p)
    (cond (eqb n 7) (TooDeep p)
    (cond (eqb n 8) (TapeTooShort p)
    (cond (eqb n 9) (StoreTooShort p)
    (cond (eqb n 10) (NotWellFormed p)
    (cond (eqb n 11) (NoJsonForm p)
    (cond (eqb n 12) (OutputTooShort p)
    (cond (eqb n 13) (WrittenTooLong p)
    (cond (eqb n 14) (NoSuchRecord p)
    (cond (eqb n 15) (RepeatedKey p)
    TextTooLong)))))))))))))

told : (r : Refusal) → refusal (number_of r) (place_of r) ≡ r
unfolding refusal
told TextTooLong = refl
told (NotUtf8 p) = refl
told (NotGrammar p) = refl
told (BadEscape p) = refl
told (BadTime p) = refl
told (BadNumber p) = refl
told (TooDeep p) = refl
told (TapeTooShort p) = refl
told (StoreTooShort p) = refl
told (NotWellFormed p) = refl
told (NoJsonForm p) = refl
told (OutputTooShort p) = refl
told (WrittenTooLong p) = refl
told (NoSuchRecord p) = refl
told (RepeatedKey p) = refl

pub same_refusal : {X : Type 0} (r s : Refusal) → ◌≡◌ {A = Said X} (refusal_said r) (refusal_said s) → r ≡ s
same_refusal r s e = sym (told r) ∙ ap₂ refusal (ap number_said e) (ap place_said e) ∙ told s
