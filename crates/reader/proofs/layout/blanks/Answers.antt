use native.Mathlib.Omega.{arith}
use mathlib.Core.Path.{subst}
use Rattle.reader.specs.Between.Layout.{Blanks}
use Rattle.rules.proofs.TestsLaws.{held, failed}
use Rattle.reader.proofs.LayoutLaws.{none_yet, one_more, blanks_stop, blanks_end}
use Rattle.reader.proofs.layout.blanks.Goals as goal

pub loop-at-init : goal.loop-at-init
loop-at-init c = none_yet c.args.from (omega arith)

pub loop-at-preserved : goal.loop-at-preserved
loop-at-preserved c = one_more c.loop-at.invariant (omega arith) (held c.is_blank.ensures c.if-not-is_blank.false)

pub returns-then-not-is_blank : goal.returns-then-not-is_blank
returns-then-not-is_blank c = blanks_stop c.loop-at.invariant (failed c.is_blank.ensures c.if-not-is_blank.true)

pub returns : goal.returns
returns c = subst (Blanks c.args.text.now c.args.from) (omega (arith, c.loop-at.auto)) (blanks_end c.loop-at.invariant (omega arith))
