use mathlib.Core.Logic.{inl, inr}
use lib.ListN.{get_or}
use Rattle.reader.proofs.KeyLaws.{key_over, key_string, key_none, key_named, neither_letter, figure_letter}
use Rattle.reader.proofs.key.key.Goals.{then-b-eq34-via-then-b-eq34, then-b-eq34-via-else-b-eq34+then-b-eq39}
use Rattle.reader.proofs.key.key.Goals as goal

pub returns-then-at-text : goal.returns-then-at-text
returns-then-at-text c = key_over c.args.text.now c.args.at c.args.start c.args.store.now c.if-at-text.true

pub returns-then-b-eq34 : goal.returns-then-b-eq34
returns-then-b-eq34 c = key_string c.args.text.now c.args.at c.args.start c.args.store.now c.if-at-text.false
    (elim c.then-b-eq34.branch [ then-b-eq34-via-then-b-eq34 w ↦ rw w.if-b-eq34.true | then-b-eq34-via-else-b-eq34+then-b-eq39 w ↦ rw w.if-b-eq39.true ])
    _ c.parts.result c.parts.ensures

pub returns-in-Neither : goal.returns-in-Neither
returns-in-Neither c = key_none c.args.text.now c.args.at c.args.start c.args.store.now c.if-at-text.false c.requires.2 c.if-b-eq34.false
    c.if-b-eq39.false
    (elim c.in-Neither.is [
      | inl e ↦ neither_letter (get_or c.args.text.now c.args.at 0) (rw e at c.sort_of.ensures)
      | inr e ↦ figure_letter (get_or c.args.text.now c.args.at 0) (rw e at c.sort_of.ensures)
    ])

pub returns-in-Letter : goal.returns-in-Letter
returns-in-Letter c = key_named c.args.text.now c.args.at c.args.start c.args.store.now c.if-at-text.false
    (rw c.in-Letter.is at c.sort_of.ensures) c.name_end-end.result c.name_end-end.ensures _
    c.copy.ensures
