use native.Mathlib.Omega.{arith}
use Rattle.items.proofs.NumberDigitLaws.{fewer, few_zeros}
use Rattle.items.proofs.number.stripped.Goals as goal

pub loop-c-preserved : goal.loop-c-preserved
loop-c-preserved c = (
  omega arith,
  fewer c.args.v c.loop-c.c c.loop-c.z c.loop-c.invariant.0 c.loop-c-test.true
      c.loop-c.invariant.1,
  omega arith,
)

pub returns-clause-small : goal.returns-clause-small
returns-clause-small c = few_zeros c.args.v c.loop-c.c c.loop-c.z (omega arith) c.loop-c.invariant.0 c.loop-c.invariant.1
