use Rattle.tape.proofs.KeyLaws.{mixed_none, mixed_more, mixed_all}
use Rattle.tape.proofs.key.tag.Goals as goal

pub loop-b-init : goal.loop-b-init
loop-b-init c = mixed_none _ _ _ c.seeded-h.ensures

pub loop-b-preserved : goal.loop-b-preserved
loop-b-preserved c = mixed_more c.loop-b.invariant c.loop-b-test.true _ c.mixed-h.ensures

pub returns : goal.returns
returns c = mixed_all c.loop-b.invariant c.loop-b-test.false _ c.finished.ensures
