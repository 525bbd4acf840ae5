use Rattle.meaning.specs.Canonical.{escaped}
use Rattle.meaning.proofs.Quotes.{escapes_more, escapes_end}
use Rattle.writer.proofs.LaidLaws.{writing_as, writing_put, writing_room, finish}
use Rattle.writer.proofs.string_or_binary.short_at.Goals as goal
use lib.ListN.{get_or}

pub escaped_at-end-requires : goal.escaped_at-end-requires
escaped_at-end-requires c = writing_room (escaped (get_or c.args.s.now c.loop-b.b-index 0)) _
    (writing_as (escapes_more c.args.s.now c.loop-b.b-index c.loop-b-test.true) c.loop-b.invariant)

pub loop-b-preserved : goal.loop-b-preserved
loop-b-preserved c = writing_put _ (writing_as (escapes_more c.args.s.now c.loop-b.b-index c.loop-b-test.true) c.loop-b.invariant) c.escaped_at-end.ensures

pub returns : goal.returns
returns c = finish (writing_as (escapes_end c.args.s.now c.loop-b.b-index c.loop-b-test.false) c.loop-b.invariant)
