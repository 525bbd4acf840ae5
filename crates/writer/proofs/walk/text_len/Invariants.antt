-- `walk::text_len`: the shares that are counted, and those to come. Assumes nothing.
use Rattle.writer.proofs.WalkLaws.{Summing}
use Rattle.writer.proofs.walk.text_len.Given as goal

abbrev pub invariant-loop-i : goal.invariant-loop-i
invariant-loop-i l = Summing l.tape l.store l.total l.i
