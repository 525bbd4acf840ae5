use Rattle.reader.proofs.RepeatLaws.{seeks_sane, seeking_begins, seeking_stands, seeking_inside, seeking_finds, seeking_falls}
use Rattle.reader.proofs.RepeatLaws.{seeking_past, seeking_past_tag, seeking_ends}
use Rattle.reader.proofs.repeat.repeated.Goals.{else-tag_of-tag-via-then-tag_of-tag+else-same_key, else-tag_of-tag-via-else-tag_of-tag}
use Rattle.reader.proofs.repeat.repeated.Goals as goal

pub newest-slot-requires : goal.newest-slot-requires
newest-slot-requires c = seeks_sane c.args.text.now c.args.seen.now c.args.at c.args.tag c.requires

pub loop-slot-init : goal.loop-slot-init
loop-slot-init c = seeking_begins c.args.text.now c.args.seen.now c.args.at c.args.tag c.requires _ c.newest-slot.ensures

pub tag_of-requires : goal.tag_of-requires
tag_of-requires c = seeking_stands c.args.text.now c.args.seen.now c.args.at c.args.tag c.requires _ (rw c.in-Some.is at c.loop-slot.invariant)

pub place_of-requires : goal.place_of-requires
place_of-requires c = seeking_stands c.args.text.now c.args.seen.now c.args.at c.args.tag c.requires _ (rw c.in-Some.is at c.loop-slot.invariant)

pub same_key-requires : goal.same_key-requires
same_key-requires c = seeking_inside c.args.text.now c.args.seen.now c.args.at c.args.tag
    c.requires _ (rw c.in-Some.is at c.loop-slot.invariant) _ c.place_of.ensures

pub returns-then-same_key : goal.returns-then-same_key
returns-then-same_key c = seeking_finds c.args.text.now c.args.seen.now c.args.at c.args.tag
    c.requires _ (rw c.in-Some.is at c.loop-slot.invariant) _ c.place_of.ensures _ c.same_key.ensures c.if-same_key.true

pub earlier-slot-requires : goal.earlier-slot-requires
earlier-slot-requires c = seeking_stands c.args.text.now c.args.seen.now c.args.at c.args.tag c.requires _ (rw c.in-Some.is at c.loop-slot.invariant)

pub loop-slot-smaller : goal.loop-slot-smaller
loop-slot-smaller c = rw c.in-Some.is (seeking_falls c.args.text.now c.args.seen.now c.args.at c.args.tag
    c.requires _ (rw c.in-Some.is at c.loop-slot.invariant) _ c.earlier-slot.ensures)

pub loop-slot-preserved : goal.loop-slot-preserved
loop-slot-preserved c = elim c.else-tag_of-tag.branch [
  | else-tag_of-tag-via-then-tag_of-tag+else-same_key w ↦ seeking_past c.args.text.now c.args.seen.now c.args.at c.args.tag c.requires
      _ (rw c.in-Some.is at c.loop-slot.invariant) _ _ _ w.place_of.ensures w.same_key.ensures w.if-same_key.false c.earlier-slot.ensures
  | else-tag_of-tag-via-else-tag_of-tag w ↦ seeking_past_tag c.args.text.now c.args.seen.now c.args.at c.args.tag c.requires
      _ (rw c.in-Some.is at c.loop-slot.invariant) _ _ c.tag_of.ensures w.if-tag_of-tag.false c.earlier-slot.ensures
]

pub returns : goal.returns
returns c = seeking_ends c.args.text.now c.args.seen.now c.args.at c.args.tag c.requires (rw c.in_default.is at c.loop-slot.invariant)
