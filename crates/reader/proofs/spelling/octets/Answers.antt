use native.Mathlib.Omega.{arith}
use Rattle.reader.proofs.SpellingLaws.{octets_1, octets_2, octets_3, octets_4}
use Rattle.reader.proofs.spelling.octets.Goals as goal

pub returns-in-0-to-127 : goal.returns-in-0-to-127
returns-in-0-to-127 c = octets_1 c.args.c (omega arith)

pub returns-in-128-to-2047 : goal.returns-in-128-to-2047
returns-in-128-to-2047 c = octets_2 c.args.c (omega arith) (omega arith)

pub returns-in-2048-to-65535 : goal.returns-in-2048-to-65535
returns-in-2048-to-65535 c = octets_3 c.args.c (omega arith) (omega arith)

pub returns-in_default : goal.returns-in_default
returns-in_default c = octets_4 c.args.c (grind arith)
