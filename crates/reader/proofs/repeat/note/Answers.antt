use Rattle.reader.proofs.RepeatLaws.{note_none, note_before, note_sane, note_seeks, note_named}
use Rattle.reader.proofs.repeat.note.Goals as goal

pub returns-then-seen-lt12 : goal.returns-then-seen-lt12
returns-then-seen-lt12 c = note_none c.args.text.now c.args.seen.now c.args.at
    c.requires.0 c.if-seen-lt12.true

pub returns-then-at-salt : goal.returns-then-at-salt
returns-then-at-salt c = note_before c.args.text.now
    c.args.seen.now c.args.at
    c.requires.0 _ c.from-salt.ensures c.if-at-salt.true

pub repeated-again-requires : goal.repeated-again-requires
repeated-again-requires c = note_seeks c.args.text.now
    c.args.seen.now
    c.args.at c.requires.0 _
    c.from-salt.ensures c.requires.1
    c.if-seen-lt12.false _ c.key_tag-tag.ensures

pub named-requires : goal.named-requires
named-requires c = note_sane c.args.text.now
    c.args.seen.now
    c.args.at
    c.requires.0 _ c.from-salt.ensures
    c.requires.1
    c.if-seen-lt12.false

pub returns : goal.returns
returns c = note_named c.args.text.now
    c.args.seen.now
    c.args.at
    c.requires.0 _
    c.from-salt.ensures
    c.requires.1
    c.if-seen-lt12.false
    c.if-at-salt.false _ c.key_tag-tag.ensures _
    c.repeated-again.ensures _ c.named.ensures
