use mathlib.Core.Path.{refl}
use Rattle.meaning.specs.Limits.{depth_limit}
use Rattle.tape.proofs.KeyWalkLaws.{walk_start, walk_end}
use Rattle.tape.proofs.key.pass.Goals as goal

pub loop-i-init : goal.loop-i-init
unfolding depth_limit
loop-i-init c = (walk_start _ _ _ _ _ _ c.requires.0 c.requires.1 refl, refl)

pub returns-then-i-bound : goal.returns-then-i-bound
returns-then-i-bound c = walk_end (c.closed-depth.ensures.1 _ _ _ _ c.loop-i.invariant.0)
    c.closed-depth.ensures.0 c.if-i-bound.true
