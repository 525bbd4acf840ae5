-- `Words::from` of a number: by cases. Assumes nothing.
use mathlib.Core.Path.{refl, ap, ◌∙◌}
use mir.Syntax.{w32}
use mir.Val.{of_z, SFits}
use mir.ValLaws.{to_z-of_z}
use Rattle.meaning.specs.Between.Words.{mark_of, low_of, mid_of, high_of}
use Rattle.tape.proofs.ShapesLaws.{bool_flag, written, infinite_mid}
use Rattle.tape.proofs.four_words.WordsFromNumber.from.Goals as goal

pub returns-in-Finite : goal.returns-in-Finite
unfolding mark_of low_of mid_of high_of
returns-in-Finite c = let f : SFits w32 c.in-Finite.power = record { sfits = c.in-Finite.known_told-1-own.given.1.1.0.1 } in
    rw c.in-Finite.is (written _ _ tt (record {
      mark_is = refl;
      low_is = bool_flag _ _ c.from.ensures;
      mid_is = c.from-in-Finite.ensures ∙ c.cast_unsigned.ensures ∙ ap (of_z w32) (to_z-of_z w32 _ f);
      high_is = refl;
    }))

pub returns-in-NotANumber : goal.returns-in-NotANumber
unfolding mark_of low_of mid_of high_of
returns-in-NotANumber c = rw c.in-NotANumber.is (written _ _ tt (record { mark_is = refl; low_is = refl; mid_is = refl; high_is = refl }))

pub returns-in-Infinite : goal.returns-in-Infinite
unfolding mark_of low_of mid_of high_of
returns-in-Infinite c = rw c.in-Infinite.is (written _ _ tt (record {
  mark_is = refl;
  low_is = refl;
  mid_is = infinite_mid c.in-Infinite.minus _ (bool_flag _ _ c.from-in-Infinite.ensures);
  high_is = refl;
}))
