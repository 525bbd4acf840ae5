-- A digit must come; after the digits the number ends. Assumes nothing.
use native.Mathlib.Omega.{arith}
use Rattle.items.proofs.NumberOrTimeLaws.{handed_on}
use Rattle.items.proofs.NumberDecimalLaws.{raised_edge, raised_dn, raised_up}
use Rattle.items.proofs.number.raised.Goals as goal

pub returns-in_err-digit_here : goal.returns-in_err-digit_here
returns-in_err-digit_here c = let e = c.in_err-digit_here.ensures in
    record { reads = λ m o. handed_on _ c.from_residual.ensures.1 (rw e.0 ((raised_edge _ _ _ _ _ _ _ e.1).reads m o)) }

pub returns-then-minus : goal.returns-then-minus
returns-then-minus c = let d = c.in_ok-digit_here.ensures in
    raised_dn _ _ _ _ _ _ _ _ _ (omega arith) (omega arith) d.inside d.digit c.exp_digits-e.ensures c.if-minus.true c.settle.ensures

pub returns : goal.returns
returns c = let d = c.in_ok-digit_here.ensures in
    raised_up _ _ _ _ _ _ _ _ _ (omega arith) (omega arith) d.inside d.digit c.exp_digits-e.ensures c.if-minus.false (omega arith) c.settle-2.ensures
