use Rattle.tape.proofs.key.+searched.Given as goal

abbrev pub decreases-searched : goal.decreases-searched
decreases-searched l = l.rounds
