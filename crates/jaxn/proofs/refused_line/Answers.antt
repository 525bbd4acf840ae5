-- `refused_line`: one piece after the other. Assumes nothing.
use native.Mathlib.Omega.{arith}
use Rattle.jaxn.proofs.LineLaws.{digits_few, five_pieces}
use Rattle.jaxn.proofs.refused_line.Goals as goal

pub decimal_at-b-requires : goal.decimal_at-b-requires
decimal_at-b-requires c = omega (arith, digits_few c.args.number (omega arith))

pub bytes_at-c-requires : goal.bytes_at-c-requires
bytes_at-c-requires c = omega (arith, digits_few c.args.number (omega arith))

pub decimal_at-d-requires : goal.decimal_at-d-requires
decimal_at-d-requires c = omega (arith, digits_few c.args.number (omega arith), digits_few c.args.place (omega arith))

pub byte_at-requires : goal.byte_at-requires
byte_at-requires c = omega (arith, digits_few c.args.number (omega arith), digits_few c.args.place (omega arith))

pub returns : goal.returns
returns c = five_pieces c.bytes_at-a.ensures c.decimal_at-b.ensures c.bytes_at-c.ensures c.decimal_at-d.ensures c.byte_at.ensures
