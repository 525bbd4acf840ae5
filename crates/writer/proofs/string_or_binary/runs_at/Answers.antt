use Prim.Native.Nat.{◌-◌}
use native.Mathlib.Omega.{arith}
use lib.ListN.{take, drop, get_or}
use Rattle.meaning.specs.Canonical.{escaped, escapes}
use Rattle.meaning.proofs.Quotes.{escapes_more, escapes_end}
use Rattle.writer.proofs.LaidLaws.{begin, writing_as, writing_put, writing_room, writing_length, finish}
use Rattle.writer.proofs.PlainRunLaws.{run_text}
use Rattle.writer.proofs.string_or_binary.runs_at.Goals as goal

pub loop-i-init : goal.loop-i-init
loop-i-init c = (omega arith, begin _ _ _ c.requires)

pub slice_bounds-bytes_at-start : goal.slice_bounds-bytes_at-start
slice_bounds-bytes_at-start c = omega (arith, c.plain_run-j.ensures.behind)

pub slice_bounds-bytes_at-end : goal.slice_bounds-bytes_at-end
slice_bounds-bytes_at-end c = omega (arith, c.plain_run-j.ensures.within)

pub bytes_at-end-requires : goal.bytes_at-end-requires
bytes_at-end-requires c = writing_room (take (c.plain_run-j.result - c.loop-i.i) (drop c.loop-i.i c.args.s.now))
    (escapes (drop c.plain_run-j.result c.args.s.now))
    (writing_as (run_text c.args.s.now c.loop-i.i _ c.plain_run-j.ensures) c.loop-i.invariant.1)

pub loop-i-smaller-then-i-j : goal.loop-i-smaller-then-i-j
loop-i-smaller-then-i-j c = omega (
  arith,
  c.if-i-j.true,
  c.plain_run-j.ensures.within,
)

pub loop-i-preserved-then-i-j : goal.loop-i-preserved-then-i-j
loop-i-preserved-then-i-j c = (
  c.plain_run-j.ensures.within,
  writing_put _ (writing_as (run_text c.args.s.now
      c.loop-i.i _ c.plain_run-j.ensures)
      c.loop-i.invariant.1) c.bytes_at-end.ensures,
)

pub escaped_at-end-requires : goal.escaped_at-end-requires
escaped_at-end-requires c = writing_room (escaped (get_or c.args.s.now
    c.loop-i.i 0)) _ (writing_as (escapes_more
    c.args.s.now c.loop-i.i
    c.loop-i-test.true) c.loop-i.invariant.1)

pub overflow_add-i : goal.overflow_add-i
overflow_add-i c = omega (arith, c.loop-i-test.true)

pub loop-i-smaller : goal.loop-i-smaller
loop-i-smaller c = omega (arith, c.loop-i-test.true)

pub loop-i-preserved : goal.loop-i-preserved
loop-i-preserved c = (
  omega (arith, c.loop-i-test.true),
  writing_put (escaped (get_or c.args.s.now
      c.loop-i.i 0))
      (writing_as (escapes_more c.args.s.now
      c.loop-i.i
      c.loop-i-test.true)
      c.loop-i.invariant.1) c.escaped_at-end.ensures,
)

pub shape_of-out : goal.shape_of-out
shape_of-out c = writing_length c.loop-i.invariant.1

pub returns : goal.returns
returns c = finish (writing_as (escapes_end c.args.s.now c.loop-i.i c.loop-i-test.false)
    c.loop-i.invariant.1)
