-- `plain_run::plain_bytes`: what is passed is plain. Assumes nothing.
use Rattle.writer.specs.Between.Pieces.{PlainRun}
use Rattle.writer.proofs.plain_run.plain_bytes.Given as goal

abbrev pub invariant-loop-i : goal.invariant-loop-i
invariant-loop-i l = PlainRun l.s l.from l.i
