-- `four_words::finite`: the bits of its power. Assumes nothing.
use mir.Syntax.{w32}
use Rattle.tape.proofs.LittleEndianSignLaws.{read_back}
use Rattle.tape.proofs.four_words.finite.Goals as goal

pub returns : goal.returns
returns c = simp (read_back w32 _ _ (record { fits = c.requires.mid_small }) c.cast_signed.ensures)
