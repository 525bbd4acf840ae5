use native.Mathlib.Omega.{arith}
use Rattle.writer.proofs.WalkLaws.{sum_begin, sum_more, sum_small, sum_some, sum_is, read_bytes, store_small, few_records}
use Rattle.writer.proofs.walk.text_len.Goals as goal

pub loop-i-init : goal.loop-i-init
loop-i-init c = sum_begin _ _ c.requires

pub share_of-total-requires : goal.share_of-total-requires
share_of-total-requires c =
    let w = c.loop-i.invariant.well in (
      read_bytes _ _ w _ _ c.loop-i-test.true c.record_at.ensures,
      store_small _ _ w,
      omega (arith, few_records _ _ w),
    )

pub overflow_add-total : goal.overflow_add-total
overflow_add-total c =
    omega (arith, sum_small _ _ (sum_more _ _ c.loop-i.invariant _ _ c.loop-i-test.true c.record_at.ensures c.share_of-total.ensures))

pub loop-i-preserved : goal.loop-i-preserved
loop-i-preserved c = sum_more _ _ c.loop-i.invariant _ _ c.loop-i-test.true c.record_at.ensures c.share_of-total.ensures

pub overflow_sub-result : goal.overflow_sub-result
overflow_sub-result c = sum_some _ _ c.loop-i.invariant c.loop-i-test.false

pub returns : goal.returns
returns c = sum_is _ _ c.loop-i.invariant c.loop-i-test.false
