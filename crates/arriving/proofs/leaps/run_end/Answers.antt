use Rattle.std.proofs.Common.{sym, ◌∙◌, rules}
use Rattle.arriving.proofs.LeapsRunLaws.{ran_none, ran_more}
use Rattle.arriving.proofs.leaps.run_end.Goals as goal

pub loop-i-init : goal.loop-i-init
loop-i-init c = ran_none _ _ _ c.requires

pub loop-i-preserved : goal.loop-i-preserved
loop-i-preserved c = ran_more _ _ _ _ c.loop-i.invariant c.loop-i-test.true (sym c.stays.ensures ∙ search rules)
