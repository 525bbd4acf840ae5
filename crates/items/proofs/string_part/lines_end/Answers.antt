-- Assumes nothing.
use mathlib.Core.Path.{sym, ◌∙◌}
use native.Mathlib.Omega.{arith}
use Rattle.items.proofs.StringPartLinesLaws.{lining_end, lining_cut, lining_other, lining_quote, lining_close}
use Rattle.items.proofs.string_part.lines_end.Goals as goal
use Rattle.items.proofs.string_part.lines_end.Goals.{then-s-i+else-n-eq2, else-s-i+then-line_byte}

pub returns-then-n-eq2 : goal.returns-then-n-eq2
returns-then-n-eq2 c = lining_close _ _ _ _ _ c.loop-i.invariant c.loop-i-test.true c.if-s-i.true c.if-n-eq2.true

pub returns-else-line_byte : goal.returns-else-line_byte
returns-else-line_byte c = lining_cut _ _ _ _ _ c.loop-i.invariant c.loop-i-test.true c.if-s-i.false (sym c.line_byte.ensures ∙ c.if-line_byte.false)

pub loop-i-preserved : goal.loop-i-preserved
loop-i-preserved c = let t = c.loop-i.invariant in elim c.if-s-i.branch [
  | then-s-i+else-n-eq2 w ↦ rw w.n-is (lining_quote _ _ _ _ _ t c.loop-i-test.true w.if-s-i.true w.if-n-eq2.false)
  | else-s-i+then-line_byte w ↦ rw w.n-is (lining_other _ _ _ _ _ t c.loop-i-test.true w.if-s-i.false (sym w.line_byte.ensures ∙ w.if-line_byte.true))
]

pub returns : goal.returns
returns c = lining_end _ _ _ _ _ c.loop-i.invariant (omega arith) c.loop-i-test.false
