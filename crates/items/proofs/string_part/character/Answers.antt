-- Assumes nothing.
use Rattle.items.proofs.string_part.character.Goals as goal

pub returns-in-Half : goal.returns-in-Half
returns-in-Half c = c.unit.ensures c.args.at (rw c.in-Half.is at c.in-Ok.ensures)
