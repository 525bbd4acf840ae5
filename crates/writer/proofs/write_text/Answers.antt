-- `write_text`: 13, then 12, then the text. Assumes nothing.
use native.Mathlib.Omega.{arith}
use Rattle.writer.proofs.WrittenLaws.{text_too_long, text_too_short, text_fits, text_written}
use Rattle.writer.proofs.write_text.Goals as goal

pub returns-then-needed-gt-TEXT_LIMIT : goal.returns-then-needed-gt-TEXT_LIMIT
returns-then-needed-gt-TEXT_LIMIT c = text_too_long c.args.out.now c.text_len-needed.ensures c.if-needed-gt-TEXT_LIMIT.true

pub returns-then-out-needed : goal.returns-then-out-needed
returns-then-out-needed c = text_too_short c.args.out.now c.text_len-needed.ensures (omega arith) c.if-out-needed.true

pub write_records-requires : goal.write_records-requires
write_records-requires c = text_fits c.args.out.now c.text_len-needed.ensures c.if-out-needed.false c.requires

pub returns : goal.returns
returns c = text_written c.args.out.now c.text_len-needed.ensures c.if-needed-gt-TEXT_LIMIT.false c.if-out-needed.false c.write_records.ensures
