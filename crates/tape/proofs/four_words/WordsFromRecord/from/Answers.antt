-- `Words::from` of a record: by cases. Assumes nothing.
use mathlib.Core.Path.{refl}
use Rattle.meaning.specs.Between.Words.{mark_of, low_of, mid_of, high_of}
use Rattle.tape.proofs.ShapesLaws.{bool_flag, written, written_as}
use Rattle.tape.proofs.four_words.WordsFromRecord.from.Goals as goal

pub returns-in-Null : goal.returns-in-Null
unfolding mark_of low_of mid_of high_of
returns-in-Null c = rw c.in-Null.is (written _ _ tt (record { mark_is = refl; low_is = refl; mid_is = refl; high_is = refl }))

pub returns-in-Bool : goal.returns-in-Bool
unfolding mark_of low_of mid_of high_of
returns-in-Bool c = rw c.in-Bool.is (written _ _ tt (record { mark_is = refl; low_is = refl; mid_is = bool_flag _ _ c.from.ensures; high_is = refl }))

pub returns-in-Str : goal.returns-in-Str
unfolding mark_of low_of mid_of high_of
returns-in-Str c = rw c.in-Str.is (written_as _ _ tt c.two_words.ensures)

pub returns-in-Key : goal.returns-in-Key
unfolding mark_of low_of mid_of high_of
returns-in-Key c = rw c.in-Key.is (written_as _ _ tt c.two_words-in-Key.ensures)

pub returns-in-Bin : goal.returns-in-Bin
unfolding mark_of low_of mid_of high_of
returns-in-Bin c = rw c.in-Bin.is (written_as _ _ tt c.two_words-in-Bin.ensures)

pub returns-in-Array : goal.returns-in-Array
unfolding mark_of low_of mid_of high_of
returns-in-Array c = rw c.in-Array.is (written_as _ _ tt c.two_words-in-Array.ensures)

pub returns-in-Object : goal.returns-in-Object
unfolding mark_of low_of mid_of high_of
returns-in-Object c = rw c.in-Object.is (written_as _ _ tt c.two_words-in-Object.ensures)
