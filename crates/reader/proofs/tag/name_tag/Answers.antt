use mathlib.Core.Logic.{inl, inr}
use Rattle.reader.proofs.TagLaws.{name_tag_begins, name_tag_over, name_tag_done, name_tag_letter, name_tag_figure}
use Rattle.reader.proofs.tag.name_tag.Goals as goal

pub loop-i-init : goal.loop-i-init
loop-i-init c = name_tag_begins c.args.text.now c.args.at c.args.salt c.requires.0
    c.requires.1 c.requires.2 _ c.seeded-h.ensures

pub returns-in-Neither : goal.returns-in-Neither
returns-in-Neither c = name_tag_done c.args.text.now c.args.at c.args.salt c.loop-i.i c.loop-i.h c.loop-i.invariant
    c.loop-i-test.true (rw c.in-Neither.is at c.sort_of.ensures) _ c.finished.ensures

pub loop-i-preserved : goal.loop-i-preserved
loop-i-preserved c = elim c.in-Letter.is [
  | inl e ↦ name_tag_letter c.args.text.now c.args.at c.args.salt c.loop-i.i c.loop-i.h c.loop-i.invariant
      c.loop-i-test.true (rw e at c.sort_of.ensures) _ c.mixed-h.ensures
  | inr e ↦ name_tag_figure c.args.text.now c.args.at c.args.salt c.loop-i.i c.loop-i.h c.loop-i.invariant
      c.loop-i-test.true (rw e at c.sort_of.ensures) _ c.mixed-h.ensures
]

pub returns : goal.returns
returns c = name_tag_over c.args.text.now c.args.at c.args.salt c.loop-i.i c.loop-i.h c.loop-i.invariant
    c.loop-i-test.false _ c.finished-2.ensures
