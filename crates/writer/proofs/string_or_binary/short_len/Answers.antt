use native.Mathlib.Omega.{arith}
use lib.ListN.{length}
use mathlib.Core.Path.{ap}
use Rattle.meaning.proofs.Quotes.{quoted_length, escapes_end}
use Rattle.writer.proofs.PiecesLaws.{count_more, quoted_small}
use Rattle.writer.proofs.string_or_binary.short_len.Goals as goal

pub loop-b-init : goal.loop-b-init
loop-b-init c = omega (arith, quoted_length c.args.s.now)

pub overflow_add-total : goal.overflow_add-total
overflow_add-total c = omega (arith, quoted_small c.args.s.now c.requires, count_more c.args.s.now c.loop-b.b-index c.loop-b-test.true)

pub loop-b-preserved : goal.loop-b-preserved
loop-b-preserved c = omega (arith, count_more c.args.s.now c.loop-b.b-index c.loop-b-test.true)

pub returns : goal.returns
returns c = omega (arith, ap length (escapes_end c.args.s.now c.loop-b.b-index c.loop-b-test.false))
