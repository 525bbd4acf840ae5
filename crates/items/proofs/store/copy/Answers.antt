-- Assumes nothing.
use Prim.Native.Nat.{◌-◌}
use native.Mathlib.Omega.{arith}
use lib.ListN.{take, drop}
use Rattle.items.proofs.StoreLaws.{sets_out, seg_more, copied}
use Rattle.items.proofs.store.copy.Goals as goal

pub loop-i-preserved : goal.loop-i-preserved
loop-i-preserved c = seg_more _ _ _ _ _ (omega arith) _ c.loop-i.invariant

pub returns-after-loop-i : goal.returns-after-loop-i
returns-after-loop-i c = copied _ _ _ _ _ _ c.requires.0 c.requires.1 c.if-at-store.true (omega arith) _ c.loop-i.invariant

pub returns-else-at-store : goal.returns-else-at-store
returns-else-at-store c = rw (sets_out c.args.store.now c.args.at (take (c.args.to - c.args.from) (drop c.args.from c.args.s.now)) c.if-at-store.false)
