use Rattle.std.proofs.Common.{sym, ◌∙◌, arith}
use Rattle.arriving.proofs.OctetsLaws.{fed_broken, fed_round, fed_end}
use Rattle.arriving.proofs.octets.bytes.Goals as goal

pub returns-then-u : goal.returns-then-u
returns-then-u c = sym (fed_broken _ _ _ c.if-u.true) ∙ c.loop-i.invariant

pub loop-i-preserved : goal.loop-i-preserved
loop-i-preserved c = fed_round _ _ _ _ _ (omega arith) c.utf_next-u.ensures ∙ c.loop-i.invariant

pub returns : goal.returns
returns c = sym (fed_end _ _ _ _ c.loop-i-test.false) ∙ c.loop-i.invariant
