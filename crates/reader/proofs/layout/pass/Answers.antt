-- No layout stands there, or all of it is passed. Assumes nothing.
use native.Mathlib.Omega.{arith}
use lib.ListN.{get_or}
use Rattle.reader.proofs.LayoutLaws.{none_yet, blanks_stop, laying, layout_stop}
use Rattle.reader.proofs.ScanningClassLaws.{not_blank, not_hash, not_slash}
use Rattle.reader.proofs.layout.pass.Goals as goal

pub returns-in_default : goal.returns-in_default
returns-in_default c = let b = get_or c.args.text.now c.args.from 0 in
    layout_stop
    (laying
    (blanks_stop (none_yet c.args.from c.requires)
    (not_blank b (grind arith) (grind arith) (grind arith) (grind arith))))
    (not_hash b (grind arith)) (not_slash b (grind arith))
