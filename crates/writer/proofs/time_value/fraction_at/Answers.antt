-- `time_value::fraction_at`: nothing for 0, else the trimmed digits. Assumes nothing.
use mathlib.Core.Path.{sym, ap}
use native.Mathlib.Omega.{arith}
use lib.ListN.{length}
use Rattle.meaning.proofs.Digits.{fixed_length}
use Rattle.writer.proofs.LaidLaws.{put_at_as, put_none, put_next}
use Rattle.writer.proofs.PiecesLaws.{fraction_none, fraction_some}
use Rattle.writer.proofs.time_value.fraction_at.Goals as goal

pub returns-then-n-eq0 : goal.returns-then-n-eq0
returns-then-n-eq0 c = put_at_as (sym (fraction_none c.args.n c.if-n-eq0.true)) (put_none _ _)

pub byte_at-first-requires : goal.byte_at-first-requires
byte_at-first-requires c = omega (arith, ap length (fraction_some c.if-n-eq0.false c.trimmed-t.ensures))

pub digits_at-requires : goal.digits_at-requires
digits_at-requires c = omega (arith, ap length (fraction_some c.if-n-eq0.false c.trimmed-t.ensures), fixed_length)

pub returns : goal.returns
returns c = put_at_as (sym (fraction_some c.if-n-eq0.false c.trimmed-t.ensures)) (put_next (omega arith) c.byte_at-first.ensures c.digits_at.ensures)
