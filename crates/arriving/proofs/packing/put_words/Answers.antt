use Rattle.std.proofs.Common.{refl, ◌∙◌}
use Rattle.arriving.specs.Between.Packing.{spread}
use Rattle.arriving.proofs.PackingByteLaws.{word_more}
use Rattle.arriving.proofs.packing.put_words.Goals as goal

pub loop-i-init : goal.loop-i-init
unfolding spread
loop-i-init c = refl

pub loop-i-preserved : goal.loop-i-preserved
loop-i-preserved c = c.store8.ensures ∙ word_more _ _ _ _ _ c.loop-i-test.true c.loop-i.invariant
