use Rattle.std.proofs.Common.{arith}
use Rattle.arriving.proofs.SmallLaws.{letter_within}
use Rattle.arriving.proofs.small.word_next.Goals as goal

pub overflow_add-result : goal.overflow_add-result
overflow_add-result c = let h = letter_within c.args.n (λ e. omega (arith, e)) in omega arith
