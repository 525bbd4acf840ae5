-- `begin`: zeroes, and where keys are taken in from. Assumes nothing.
use Rattle.once.proofs.GroupsTakingLaws.{begin_does}
use Rattle.once.proofs.begin.Goals as goal

pub returns : goal.returns
returns c = begin_does c.args.seen.now c.fill.new.self c.args.from (c.fill.ensures.after (λ y e. e)) c.if-seen-lt12.false c.requires
