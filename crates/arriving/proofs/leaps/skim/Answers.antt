use native.Mathlib.Omega.{arith}
use Rattle.arriving.proofs.LeapsLaws.{leaps_none, leaps_then, skim_placed}
use Rattle.arriving.proofs.leaps.skim.Goals as goal

pub loop-x-init : goal.loop-x-init
loop-x-init c = leaps_none _ _ _ c.requires.within

pub turn-y-requires : goal.turn-y-requires
turn-y-requires c = skim_placed _ c.args.from c.loop-x.x _ _
    c.requires c.loop-x.invariant c.loop-x-test.true

pub returns-then-y-x : goal.returns-then-y-x
returns-then-y-x c = leaps_then c.loop-x.invariant c.turn-y.ensures

pub loop-x-smaller : goal.loop-x-smaller
loop-x-smaller c = omega (arith, c.turn-y.ensures.within)

pub loop-x-preserved : goal.loop-x-preserved
loop-x-preserved c = leaps_then c.loop-x.invariant c.turn-y.ensures

pub returns : goal.returns
returns c = c.loop-x.invariant
