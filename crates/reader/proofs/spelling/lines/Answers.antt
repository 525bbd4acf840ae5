use native.Mathlib.Omega.{arith}
use Rattle.reader.proofs.SpellingLaws.{lines_over, lines_close, lines_byte}
use Rattle.reader.proofs.spelling.lines.Goals as goal

pub returns-then-at-text : goal.returns-then-at-text
returns-then-at-text c = lines_over c.args.text.now c.args.at c.args.quote (omega arith) c.if-at-text.true

pub after-requires : goal.after-requires
after-requires c = let w = rw c.if-three.true at c.three.ensures in w.0

pub returns-then-three : goal.returns-then-three
returns-then-three c = let w = rw c.if-three.true at c.three.ensures in
    lines_close c.args.text.now c.args.at
    c.args.quote (omega arith) w c.after.result c.after.ensures

pub returns : goal.returns
returns c = let w = rw c.if-three.false at c.three.ensures in
    lines_byte c.args.text.now c.args.at
    c.args.quote (omega arith) c.if-at-text.false w
