use Rattle.reader.proofs.TagLaws.{tag_begins, tag_more, tag_done}
use Rattle.reader.proofs.tag.spelled_tag.Goals as goal

pub loop-b-init : goal.loop-b-init
loop-b-init c = (
  c.begun-s.ensures.0,
  tag_begins c.args.text.now c.args.at
      c.args.salt _ _ c.seeded-h.ensures c.begun-s.ensures.1,
)

pub returns : goal.returns
returns c = tag_done c.args.text.now
    c.args.at
    c.args.salt c.loop-b.s
    c.loop-b.h c.loop-b.invariant.1 _
    (rw c.in_default.is at c.next.ensures) c.finished.ensures

pub loop-b-smaller : goal.loop-b-smaller
loop-b-smaller c = let w = rw c.in-Some.is at c.next.ensures in w.0.falls

pub loop-b-preserved : goal.loop-b-preserved
loop-b-preserved c = let w = rw c.in-Some.is at c.next.ensures in (
  w.0.within,
  tag_more c.args.text.now
      c.args.at
      c.args.salt c.loop-b.s
      c.loop-b.h c.loop-b.invariant.1 _ _ _ w.1 c.mixed-h.ensures,
)
