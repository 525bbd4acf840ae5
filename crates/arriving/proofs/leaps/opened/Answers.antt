-- Past an opening bracket. Assumes nothing.
use mathlib.Core.Path.{refl}
use Rattle.meaning.specs.Limits.{depth_limit}
use Rattle.arriving.proofs.LeapsLaws.{spot_is}
use Rattle.arriving.proofs.LeapsStepLaws.{opened_steps}
use Rattle.arriving.proofs.leaps.opened.Goals as goal

pub returns : goal.returns
unfolding depth_limit
returns c = λ b e f. opened_steps _ _ _ _ _ b c.if-depth-ge-DEPTH_LIMIT.false e f
    (spot_is _ _ c.args.due _ _ _ c.due_number.ensures) _ refl
