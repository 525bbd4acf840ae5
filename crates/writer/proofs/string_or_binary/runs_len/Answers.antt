use mathlib.Core.Path.{ap}
use native.Mathlib.Omega.{arith}
use lib.ListN.{length}
use Rattle.meaning.proofs.Quotes.{quoted_length, escapes_end}
use Rattle.writer.proofs.PiecesLaws.{count_more, quoted_small}
use Rattle.writer.proofs.PlainRunLaws.{run_count}
use Rattle.writer.proofs.string_or_binary.runs_len.Goals as goal

pub loop-i-init : goal.loop-i-init
loop-i-init c = (omega arith, omega (arith, quoted_length c.args.s.now))

pub overflow_add-total : goal.overflow_add-total
overflow_add-total c = omega (
  arith,
  c.loop-i.invariant,
  run_count c.args.s.now
      c.loop-i.i _ c.plain_run-j.ensures,
  quoted_small c.args.s.now
      c.requires,
)

pub loop-i-preserved-then-i-j : goal.loop-i-preserved-then-i-j
loop-i-preserved-then-i-j c = (
  c.plain_run-j.ensures.within,
  omega (
    arith,
    c.loop-i.invariant,
    run_count c.args.s.now c.loop-i.i _ c.plain_run-j.ensures,
  ),
)

pub overflow_add-total-else-i-j : goal.overflow_add-total-else-i-j
overflow_add-total-else-i-j c = omega (
  arith,
  c.loop-i.invariant,
  c.escaped_len-total.ensures,
  count_more c.args.s.now c.loop-i.i
      c.loop-i-test.true,
  quoted_small c.args.s.now
      c.requires,
)

pub loop-i-preserved : goal.loop-i-preserved
loop-i-preserved c = (
  omega (arith, c.loop-i-test.true),
  omega (
    arith,
    c.loop-i.invariant,
    c.escaped_len-total.ensures,
    count_more c.args.s.now c.loop-i.i
        c.loop-i-test.true,
  ),
)

pub returns : goal.returns
returns c = omega (arith, c.loop-i.invariant, ap length (escapes_end c.args.s.now c.loop-i.i c.loop-i-test.false))
