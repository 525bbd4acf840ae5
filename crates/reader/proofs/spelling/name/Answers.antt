use mathlib.Core.Logic.{inl, inr}
use Rattle.reader.proofs.SpellingLaws.{name_over, name_stops, name_letter, name_figure}
use Rattle.reader.proofs.spelling.name.Goals as goal

pub returns-then-at-text : goal.returns-then-at-text
returns-then-at-text c = name_over c.args.text.now c.args.at c.if-at-text.true

pub returns-in-Neither : goal.returns-in-Neither
returns-in-Neither c = name_stops c.args.text.now c.args.at
    c.if-at-text.false (rw c.in-Neither.is at c.sort_of.ensures)

pub returns-in-Letter : goal.returns-in-Letter
returns-in-Letter c = elim c.in-Letter.is [
  | inl e ↦ name_letter c.args.text.now c.args.at c.if-at-text.false (rw e at c.sort_of.ensures)
  | inr e ↦ name_figure c.args.text.now c.args.at c.if-at-text.false (rw e at c.sort_of.ensures)
]
