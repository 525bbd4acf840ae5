-- The byte that begins a character which has not ended is found by its bound. Assumes nothing.
use Rattle.rules.proofs.Opens.{back_one, back_two}
use Rattle.rules.proofs.blocks.back.Goals as goal

pub returns-then-s-at-ge192 : goal.returns-then-s-at-ge192
returns-then-s-at-ge192 c = back_one c.requires c.if-s-at-ge192.true

pub returns-then-s-at-ge224 : goal.returns-then-s-at-ge224
returns-then-s-at-ge224 c = back_two c.requires c.if-s-at-ge224.true c.if-s-at-ge192.false
