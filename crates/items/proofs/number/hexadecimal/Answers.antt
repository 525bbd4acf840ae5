-- A digit must come; the value is judged before its zeros are taken off. Assumes nothing.
use native.Mathlib.Omega.{arith}
use Rattle.items.proofs.NumberHexLaws.{mark_none, hex_large, hex_small, hex_settled}
use Rattle.items.proofs.number.hexadecimal.Goals as goal

pub returns-then-w-from : goal.returns-then-w-from
returns-then-w-from c = mark_none _ _ _ _ _ c.hex_digits-w.ensures c.if-w-from.true

pub returns-in_default : goal.returns-in_default
returns-in_default c = hex_large _ _ _ _ _ c.hex_digits-w.ensures (omega (arith, c.hex_digits-w.ensures.low)) c.in_default.is

pub settle-requires : goal.settle-requires
settle-requires c = let h = hex_small c.hex_digits-w.ensures c.in-Some.is in
    (omega (arith, c.held.ensures.small 20 (omega arith)), omega arith, omega arith)

pub returns : goal.returns
returns c = hex_settled _ _ _ _ _ c.hex_digits-w.ensures (omega (arith, c.hex_digits-w.ensures.low)) _ c.in-Some.is _ c.held.ensures.holds _
    c.settle.ensures
