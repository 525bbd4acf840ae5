use native.Mathlib.Omega.{arith}
use mathlib.Core.Path.{refl}
use Rattle.reader.proofs.TagLaws.{plain_tag_begins, plain_tag_more, plain_tag_done}
use Rattle.reader.proofs.tag.plain_tag.Goals as goal

pub loop-i-init : goal.loop-i-init
loop-i-init c = plain_tag_begins c.args.text.now c.args.at c.args.salt _ c.requires.0 refl c.requires.1 c.if-begin-text.false c.if-text-begin.false _
    c.seeded-h.ensures

pub returns-then-b-quote : goal.returns-then-b-quote
returns-then-b-quote c = rw c.then_some.ensures (plain_tag_done c.args.text.now c.args.at c.args.salt _
    (omega (arith, c.type_inv.text c.args.at)) c.loop-i.i c.loop-i.h c.loop-i.invariant c.loop-i-test.true c.if-b-eq92.false c.if-b-quote.true _
    c.colon_at.ensures _ c.finished.ensures)

pub loop-i-preserved : goal.loop-i-preserved
loop-i-preserved c = plain_tag_more c.args.text.now c.args.at c.args.salt _
    (omega (arith, c.type_inv.text c.args.at)) c.loop-i.i c.loop-i.h c.loop-i.invariant c.loop-i-test.true c.if-b-eq92.false
    c.if-b-quote.false _ c.mixed-h.ensures
