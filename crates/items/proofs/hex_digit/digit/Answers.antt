-- Assumes nothing.
use native.Mathlib.Omega.{arith}
use Rattle.machine.specs.Strings.{hex_of}
use Rattle.items.proofs.PlacesLaws.{byte_in, byte_out}
use Rattle.items.proofs.hex_digit.digit.Goals as goal

pub returns-then-at-text : goal.returns-then-at-text
returns-then-at-text c = rw (byte_in c.args.text.now c.args.at c.if-at-text.true) c.hex.ensures

pub returns-else-at-text : goal.returns-else-at-text
unfolding hex_of
returns-else-at-text c = rw (byte_out c.args.text.now c.args.at c.if-at-text.false) (omega arith)
