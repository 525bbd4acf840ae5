-- `time_value::fraction_len`: as it is written. Assumes nothing.
use mathlib.Core.Path.{sym, ap}
use native.Mathlib.Omega.{arith}
use lib.ListN.{length}
use Rattle.meaning.proofs.Digits.{fixed_length}
use Rattle.writer.proofs.PiecesLaws.{fraction_none, fraction_some}
use Rattle.writer.proofs.time_value.fraction_len.Goals as goal

pub returns-then-n-eq0 : goal.returns-then-n-eq0
returns-then-n-eq0 c = (sym (ap length (fraction_none c.args.n c.if-n-eq0.true)), omega arith)

pub returns : goal.returns
returns c = (omega (arith, ap length (fraction_some c.if-n-eq0.false c.trimmed-t.ensures), fixed_length), omega arith)
