-- `byte_or_digit::write_bytes`: byte by byte. Assumes nothing.
use lib.ListN.{drop}
use Rattle.writer.proofs.LaidLaws.{Writing}
use Rattle.writer.proofs.byte_or_digit.write_bytes.Given as goal

abbrev pub invariant-loop-i : goal.invariant-loop-i
invariant-loop-i l = Writing l.s (drop l.i l.s) 0 l.initial.out l.out l.i
