-- One more digit, kept while it fits, or the end. Assumes nothing.
use Rattle.std.proofs.Common.{◌∙◌}
use Rattle.arriving.proofs.FiguresLaws.{hex_some, hex_none, hex_low_lem, hex_high}
use Rattle.arriving.proofs.figures.hex.Goals as goal

pub returns-in-Some : goal.returns-in-Some
returns-in-Some c = rw (hex_some _ _ c.in-Some.ensures, ← c.from.ensures)
    (c.goes.ensures ∙ hex_low_lem _ _ _ _ c.if-value-le-SIXTEENTH.true)

pub returns-in-Some-2 : goal.returns-in-Some-2
returns-in-Some-2 c = rw (hex_some _ _ c.in-Some-2.ensures)
    (c.goes-in-Some-2.ensures ∙ hex_high _ _ _ _ c.if-value-le-SIXTEENTH.false)

pub returns-in-None : goal.returns-in-None
returns-in-None c = rw (hex_none _ c.in-None.ensures, c.if-over.true)

pub returns-in-None-2 : goal.returns-in-None-2
returns-in-None-2 c = rw (hex_none _ c.in-None-2.ensures, c.if-over.false)
