-- Assumes nothing.
use native.Mathlib.Omega.{arith}
use Rattle.items.proofs.SpellingLaws.{spelt_whole, spelt_end, spelt_cut, spelt_more}
use Rattle.items.proofs.word.spell.Goals as goal
use Rattle.items.proofs.word.spell.Goals.{then-at-text-via-then-at-text, then-at-text-via-else-at-text+then-text-at}

pub returns-then-at-text : goal.returns-then-at-text
returns-then-at-text c = elim c.then-at-text.branch [
  | then-at-text-via-then-at-text w ↦ spelt_end c.loop-i.invariant c.loop-i-test.true w.if-at-text.true (omega (arith, c.type_inv.spelt c.loop-i.i))
  | then-at-text-via-else-at-text+then-text-at w ↦ spelt_cut c.loop-i.invariant c.loop-i-test.true w.if-at-text.false w.if-text-at.true
]

pub loop-i-preserved : goal.loop-i-preserved
loop-i-preserved c = spelt_more c.loop-i.invariant c.loop-i-test.true c.if-at-text.false c.if-text-at.false

pub returns : goal.returns
returns c = spelt_whole c.loop-i.invariant c.loop-i-test.false
