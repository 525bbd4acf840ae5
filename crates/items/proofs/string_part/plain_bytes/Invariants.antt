-- The bytes so far are plain. Assumes nothing.
use Rattle.items.proofs.StringPartQuotedLaws.{Passing}
use Rattle.items.proofs.string_part.plain_bytes.Given as goal

abbrev pub invariant-loop-at : goal.invariant-loop-at
invariant-loop-at l = Passing l.s l.q l.initial.at l.at
