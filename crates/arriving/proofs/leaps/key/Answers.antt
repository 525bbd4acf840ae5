-- Where a key may stand. Assumes nothing.
use mathlib.Core.Path.{refl, sym, ◌∙◌}
use Rattle.machine.specs.Machine.{curly}
use Rattle.arriving.proofs.LeapsStepLaws.{key_closes}
use Rattle.arriving.proofs.leaps.key.Goals as goal

pub returns-then-b-eq125 : goal.returns-then-b-eq125
returns-then-b-eq125 c = key_closes _ _ _ _ _ c.requires.0.within c.requires.2
    (sym c.requires.3 ∙ c.if-b-eq125.true) (c.closed.ensures curly refl)

pub returns-in-Letter : goal.returns-in-Letter
returns-in-Letter c = c.named.ensures _
