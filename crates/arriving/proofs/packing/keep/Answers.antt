-- The numbers, the kinds and zeros; each comes back. Assumes nothing.
use Rattle.arriving.proofs.PackingByteLaws.{all_put}
use Rattle.arriving.proofs.PackingLaws.{check_back}
use Rattle.arriving.proofs.packing.keep.Goals as goal

pub returns : goal.returns
returns c = (
  all_put c.args.check _ _ c.args.state.now _ c.put_kinds.ensures.1 c.put_core.ensures
      c.put_kinds.ensures.0 c.give_back.ensures,
  check_back c.args.check c.put_core.ensures.fit c.put_core.ensures.narrow c.put_kinds.ensures.1,
)
