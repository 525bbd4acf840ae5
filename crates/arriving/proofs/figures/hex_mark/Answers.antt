-- A hexadecimal digit must come. Assumes nothing.
use Rattle.arriving.proofs.FiguresLaws.{hex_some, hex_none}
use Rattle.arriving.proofs.figures.hex_mark.Goals as goal

pub returns-in-Some : goal.returns-in-Some
returns-in-Some c = rw (hex_some _ _ c.in-Some.ensures, ← c.from.ensures) c.goes.ensures

pub returns-in-None : goal.returns-in-None
returns-in-None c = rw (hex_none _ c.in-None.ensures)
