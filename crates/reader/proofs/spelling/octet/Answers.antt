use native.Mathlib.Omega.{arith}
use Rattle.reader.proofs.SpellingLaws.{octet_1, octet_1_last, octet_2, octet_2_last, octet_3, octet_3_last, octet_4}
use Rattle.reader.proofs.spelling.octet.Goals as goal

pub returns-in-1 : goal.returns-in-1
returns-in-1 c = octet_1 c.args.c c.args.left c.in-1.is c.if-c-lt128.true

pub returns-in-1-2 : goal.returns-in-1-2
returns-in-1-2 c = octet_1_last c.args.c c.args.left c.in-1.is c.if-c-lt128.false

pub returns-in-2 : goal.returns-in-2
returns-in-2 c = octet_2 c.args.c c.args.left c.in-2.is c.if-c-lt2048.true

pub returns-in-2-2 : goal.returns-in-2-2
returns-in-2-2 c = octet_2_last c.args.c c.args.left c.in-2.is c.if-c-lt2048.false

pub returns-in-3 : goal.returns-in-3
returns-in-3 c = octet_3 c.args.c c.args.left c.in-3.is c.if-c-lt65536.true

pub returns-in-3-2 : goal.returns-in-3-2
returns-in-3-2 c = octet_3_last c.args.c c.args.left c.in-3.is c.if-c-lt65536.false

pub returns-in_default : goal.returns-in_default
returns-in_default c = octet_4 c.args.c c.args.left (grind arith) (grind arith) (grind arith)
