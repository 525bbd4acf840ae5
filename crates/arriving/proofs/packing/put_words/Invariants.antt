-- The numbers so far are put. Assumes nothing.
use Rattle.std.proofs.Common.{◌≡◌, take}
use lib.Seq.{sets}
use Rattle.arriving.specs.Between.Packing.{spread}
use Rattle.arriving.proofs.packing.put_words.Given as goal

abbrev pub invariant-loop-i : goal.invariant-loop-i
invariant-loop-i l = l.bytes ≡ sets l.initial.bytes l.at (spread (take l.i l.words))
