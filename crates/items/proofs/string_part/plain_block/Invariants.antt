-- The least of the bytes, and the least of their gaps to the backslash and the quote. Assumes nothing.
use Rattle.items.proofs.StringPartBlockLaws.{Least}
use Rattle.items.proofs.string_part.plain_block.Given as goal

abbrev pub invariant-loop-k : goal.invariant-loop-k
invariant-loop-k l = Least l.s l.q l.at l.k l.least l.slash l.quote
