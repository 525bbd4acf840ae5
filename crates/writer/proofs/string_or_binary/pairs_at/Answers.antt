use native.Mathlib.Omega.{arith}
use Rattle.meaning.specs.Canonical.{hex_pair}
use Rattle.meaning.proofs.Quotes.{pairs_more, pairs_end}
use Rattle.writer.proofs.LaidLaws.{writing_as, writing_put, writing_room, finish}
use Rattle.writer.proofs.string_or_binary.pairs_at.Goals as goal
use lib.ListN.{get_or}

pub pair_at-end-requires : goal.pair_at-end-requires
pair_at-end-requires c = omega (
  arith,
  writing_room (hex_pair (get_or c.args.s.now c.loop-b.b-index 0)) _
      (writing_as (pairs_more c.args.s.now c.loop-b.b-index c.loop-b-test.true) c.loop-b.invariant),
)

pub loop-b-preserved : goal.loop-b-preserved
loop-b-preserved c = writing_put _ (writing_as (pairs_more c.args.s.now c.loop-b.b-index c.loop-b-test.true) c.loop-b.invariant) c.pair_at-end.ensures

pub returns : goal.returns
returns c = finish (writing_as (pairs_end c.args.s.now c.loop-b.b-index c.loop-b-test.false) c.loop-b.invariant)
