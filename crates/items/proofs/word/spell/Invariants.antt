-- The letters so far have come. Assumes nothing.
use Rattle.items.proofs.SpellingLaws.{Spelt}
use Rattle.items.proofs.word.spell.Given as goal

abbrev pub invariant-loop-i : goal.invariant-loop-i
invariant-loop-i l = Spelt l.text l.from l.spelt l.i
