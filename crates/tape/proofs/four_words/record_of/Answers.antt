-- `four_words::record_of`: by the mark. Assumes nothing.
use mathlib.Core.Path.{refl, ap}
use native.Mathlib.Omega.{arith}
use Rattle.meaning.specs.declared.Record.{Record}
use Rattle.tape.specs.Between.Shapes.{record_of}
use Rattle.tape.proofs.four_words.record_of.Goals as goal

pub returns-in-28514 : goal.returns-in-28514
unfolding record_of
returns-in-28514 c = rw c.in-28514.is refl

pub returns-in-25198 : goal.returns-in-25198
unfolding record_of
returns-in-25198 c = rw c.in-25198.is (ap Record.Number c.finite.ensures)

pub returns-in-30830 : goal.returns-in-30830
unfolding record_of
returns-in-30830 c = rw c.in-30830.is (ap Record.Number c.not_finite.ensures)

pub returns-in_default : goal.returns-in_default
returns-in_default c = c.bytes_of.ensures (record { no_flag = λ q. omega arith; no_finite = λ q. omega arith; no_other = λ q. omega arith })
