-- Assumes nothing.
use Rattle.std.proofs.Common.{arith}
use Rattle.rules.proofs.Numbers.{row_1, row_2, row_3, row_4}
use Rattle.arriving.proofs.strings.utf8_size.Goals as goal

pub returns-in-0-to-127 : goal.returns-in-0-to-127
returns-in-0-to-127 c = rw (row_1 c.args.w (omega arith))

pub returns-in-128-to-2047 : goal.returns-in-128-to-2047
returns-in-128-to-2047 c = rw (row_2 c.args.w (omega arith) (omega arith))

pub returns-in-2048-to-65535 : goal.returns-in-2048-to-65535
returns-in-2048-to-65535 c = rw (row_3 c.args.w (omega arith) (omega arith))

pub returns-in_default : goal.returns-in_default
returns-in_default c = rw (row_4 c.args.w (omega arith))
