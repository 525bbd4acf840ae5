use Rattle.reader.proofs.+searched.Given as goal

abbrev pub decreases-searched : goal.decreases-searched
decreases-searched l = l.rounds
