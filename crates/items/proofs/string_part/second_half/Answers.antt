-- The second half comes, or the first is alone. Assumes nothing.
use Rattle.items.proofs.StringPartCharLaws.{wait_end, wait_other, wait_whole, wait_below, wait_above, wait_pair}
use Rattle.items.proofs.string_part.second_half.Goals as goal
use Rattle.items.proofs.string_part.second_half.Goals.{then-l-lt56320-via-then-l-lt56320, then-l-lt56320-via-else-l-lt56320+then-l-ge57344}

pub returns-then-s-next : goal.returns-then-s-next
returns-then-s-next c = λ at t. wait_end _ _ _ _ t c.requires.0 c.requires.1 c.if-s-next.true

pub returns-then-s-next-ne92 : goal.returns-then-s-next-ne92
returns-then-s-next-ne92 c = λ at t. wait_other _ _ _ _ t c.requires.0 c.requires.1 c.if-s-next.false c.if-s-next-ne92.true

pub returns-in_default : goal.returns-in_default
returns-in_default c = λ at t. wait_whole _ _ _ _ t c.requires.0 c.requires.1 _ _ c.in_ok-second.ensures c.in_default.not-Half

pub returns-then-l-lt56320 : goal.returns-then-l-lt56320
returns-then-l-lt56320 c = λ at t. let u = rw c.in-Half.is at c.in_ok-second.ensures in elim c.then-l-lt56320.branch [
  | then-l-lt56320-via-then-l-lt56320 w ↦ wait_below _ _ _ _ t c.requires.0 c.requires.1 _ _ u w.if-l-lt56320.true
  | then-l-lt56320-via-else-l-lt56320+then-l-ge57344 w ↦ wait_above _ _ _ _ t c.requires.0 c.requires.1 _ _ u w.if-l-ge57344.true
]

pub returns : goal.returns
returns c = λ at t. let u = rw c.in-Half.is at c.in_ok-second.ensures in
    wait_pair _ _ _ _ t c.requires.0 c.requires.1 _ _ u c.if-l-lt56320.false c.if-l-ge57344.false
