use Rattle.reader.proofs.LayoutLaws.{laying, layout_stop}
use Rattle.reader.proofs.layout.long_pass.Goals as goal

pub loop-end-init : goal.loop-end-init
loop-end-init c = laying c.blanks-at.ensures

pub returns : goal.returns
returns c = let e = rw c.in_default.is at c.in_ok-end.ensures in
    layout_stop c.loop-end.invariant e.0 e.1
