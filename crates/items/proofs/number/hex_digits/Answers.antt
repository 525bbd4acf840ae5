use mathlib.Core.Path.{refl}
use native.Mathlib.Omega.{arith}
use Rattle.items.specs.Between.NumberOrTime.{HexSpan}
use Rattle.items.proofs.NumberHexLaws.{value_is, hex_next, hex_stop, hex_finish}
use Rattle.items.proofs.number.hex_digits.Goals as goal

pub loop-i-init : goal.loop-i-init
loop-i-init c = (0, HexSpan.here, (refl, omega arith))

pub returns-in_default : goal.returns-in_default
returns-in_default c = hex_stop _ _ _ _ c.loop-i.invariant (omega arith) c.loop-i-test.true _ (value_is _ _ refl) c.in_default.ensures

pub loop-i-preserved : goal.loop-i-preserved
loop-i-preserved c = hex_next _ _ _ _ c.loop-i.invariant c.loop-i-test.true _ (value_is _ _ c.in-Some.ensures.0) c.in-Some.ensures.1 _ c.hex_more-v.ensures

pub returns : goal.returns
returns c = hex_finish _ _ _ _ c.loop-i.invariant (omega arith) (omega arith)
