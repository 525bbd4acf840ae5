-- `walk::first_formless`: what is passed has a form. Assumes nothing.
use Rattle.writer.proofs.WalkLaws.{Searching}
use Rattle.writer.proofs.walk.first_formless.Given as goal

abbrev pub invariant-loop-i : goal.invariant-loop-i
invariant-loop-i l = Searching l.tape l.store l.i
