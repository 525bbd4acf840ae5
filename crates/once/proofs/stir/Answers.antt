-- `stir`: as it is defined, the low half by a mask. Assumes nothing.
use Rattle.std.proofs.lemmas.Nat.{and_mask}
use Rattle.once.specs.Hash.{stirred}
use Rattle.once.proofs.stir.Goals as goal

pub returns : goal.returns
unfolding stirred
returns c = rw (and_mask c.args.p 32)
