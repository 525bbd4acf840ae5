use native.Mathlib.Omega.{arith}
use Rattle.arriving.proofs.LeapsWalkLaws.{walks_none, walks_stand, walks_leap, walks_all, walks_step}
use Rattle.arriving.proofs.walked.Goals as goal

pub loop-i-init : goal.loop-i-init
loop-i-init c = walks_none _ _ _ _ c.requires.0

pub leap-r-requires : goal.leap-r-requires
leap-r-requires c = walks_stand _ _ _ _ _ _ _ c.loop-i.invariant c.requires.1

pub returns-then-at-part : goal.returns-then-at-part
returns-then-at-part c = walks_all _ _ _ _ _ _ _ (walks_leap _ _ _ _ _ _ _ c.loop-i.invariant
    c.requires.1 _ _ _ c.leap-r.ensures)
    c.requires.1 c.if-at-part.true

pub overflow_add-base : goal.overflow_add-base
overflow_add-base c = omega (arith, c.requires.1)

pub bounds-part-at : goal.bounds-part-at
bounds-part-at c = omega arith

pub next-here-requires : goal.next-here-requires
next-here-requires c = (
  (walks_leap _ _ _ _ _ _ _ c.loop-i.invariant
      c.requires.1 _ _ _ c.leap-r.ensures).sane,
  omega (arith, c.requires.1),
)

pub overflow_add-i : goal.overflow_add-i
overflow_add-i c = omega arith

pub loop-i-smaller : goal.loop-i-smaller
loop-i-smaller c = omega (arith, c.leap-r.ensures.behind)

pub loop-i-preserved : goal.loop-i-preserved
loop-i-preserved c = walks_step _ _ _ _ _ _ _ (walks_leap _ _ _ _ _ _ _ c.loop-i.invariant
    c.requires.1 _ _ _
    c.leap-r.ensures) c.if-at-part.false _ _ c.next-here.ensures

pub returns : goal.returns
returns c = walks_all _ _ _ _ _ _ _ c.loop-i.invariant c.requires.1 c.loop-i-test.false
