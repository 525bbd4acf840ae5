-- `one_record::printed_at`: by cases. Assumes nothing.
use mathlib.Core.Path.{sym, ap, ◌∙◌}
use native.Mathlib.Omega.{arith}
use lib.ListN.{length, length-append}
use Rattle.meaning.specs.Canonical.{binary_text}
use Rattle.tape.specs.Between.Turns.{bytes_end}
use Rattle.writer.proofs.LaidLaws.{put_at_as, put_next, put_tail, tail_length}
use Rattle.writer.proofs.OneRecordLaws.{null_printed, true_printed, false_printed, number_printed, string_printed, key_printed, binary_printed, time_printed}
use Rattle.writer.proofs.OneRecordLaws.{array_printed, object_printed}
use Rattle.writer.proofs.one_record.printed_at.Goals as goal

pub bytes_at-requires : goal.bytes_at-requires
bytes_at-requires c = omega (arith, c.requires, ap length (null_printed c.args.store.now c.in-Null.is))

pub bytes_at-requires-in-Bool-true : goal.bytes_at-requires-in-Bool-true
bytes_at-requires-in-Bool-true c = omega (arith, c.requires, ap length (true_printed c.args.store.now c.in-Bool-true.is c.in-Bool-true.field-0-test))

pub bytes_at-requires-in-Bool-false : goal.bytes_at-requires-in-Bool-false
bytes_at-requires-in-Bool-false c =
    omega (arith, c.requires, ap length (false_printed c.args.store.now c.in-Bool-false.is c.in-Bool-false.field-0-test))

pub write_number-requires : goal.write_number-requires
write_number-requires c = omega (arith, c.requires, ap length (number_printed c.args.store.now c.in-Number.is), tail_length c.args.at c.args.out.now)

pub string_at-requires : goal.string_at-requires
string_at-requires c = (
  omega (arith, c.requires, ap bytes_end c.in-Str.is),
  omega (arith, c.requires, ap length (string_printed c.args.store.now c.in-Str.is)),
)

pub string_at-colon-requires : goal.string_at-colon-requires
string_at-colon-requires c = (
  omega (arith, c.requires, ap bytes_end c.in-Key.is),
  omega (arith, c.requires, simp length-append at (ap length (key_printed c.args.store.now c.in-Key.is))),
)

pub byte_at-requires : goal.byte_at-requires
byte_at-requires c = omega (arith, c.requires, simp length-append at (ap length (key_printed c.args.store.now c.in-Key.is)))

pub write_binary-requires : goal.write_binary-requires
write_binary-requires c = omega (
  arith,
  c.requires,
  ap length (binary_printed c.args.store.now c.in-Bin.is ∙ ap binary_text (sym c.part_of-part.ensures)),
  tail_length c.args.at c.args.out.now,
)

pub write_time-requires : goal.write_time-requires
write_time-requires c = omega (arith, c.requires, ap length (time_printed c.args.store.now c.in-Time.is), tail_length c.args.at c.args.out.now)

pub byte_at-requires-in-Array : goal.byte_at-requires-in-Array
byte_at-requires-in-Array c = omega (arith, c.requires, ap length (array_printed c.args.store.now c.in-Array.is))

pub byte_at-requires-in-Object : goal.byte_at-requires-in-Object
byte_at-requires-in-Object c = omega (arith, c.requires, ap length (object_printed c.args.store.now c.in-Object.is))

pub returns-in-Null : goal.returns-in-Null
returns-in-Null c = put_at_as (sym (null_printed _ c.in-Null.is)) c.bytes_at.ensures

pub returns-in-Bool-true : goal.returns-in-Bool-true
returns-in-Bool-true c = put_at_as (sym (true_printed _ c.in-Bool-true.is c.in-Bool-true.field-0-test)) c.bytes_at-in-Bool-true.ensures

pub returns-in-Bool-false : goal.returns-in-Bool-false
returns-in-Bool-false c = put_at_as (sym (false_printed _ c.in-Bool-false.is c.in-Bool-false.field-0-test)) c.bytes_at-in-Bool-false.ensures

pub returns-in-Number : goal.returns-in-Number
returns-in-Number c = put_at_as (sym (number_printed _ c.in-Number.is)) (put_tail c.write_number.ensures)

pub returns-in-Str : goal.returns-in-Str
returns-in-Str c = put_at_as (sym (string_printed _ c.in-Str.is)) c.string_at.ensures

pub returns-in-Key : goal.returns-in-Key
returns-in-Key c = put_at_as (sym (key_printed _ c.in-Key.is)) (put_next (omega (arith, c.requires)) c.string_at-colon.ensures c.byte_at.ensures)

pub returns-in-Bin : goal.returns-in-Bin
returns-in-Bin c = put_at_as (ap binary_text c.part_of-part.ensures ∙ sym (binary_printed _ c.in-Bin.is)) (put_tail c.write_binary.ensures)

pub returns-in-Time : goal.returns-in-Time
returns-in-Time c = put_at_as (sym (time_printed _ c.in-Time.is)) (put_tail c.write_time.ensures)

pub returns-in-Array : goal.returns-in-Array
returns-in-Array c = put_at_as (sym (array_printed _ c.in-Array.is)) c.byte_at-in-Array.ensures

pub returns-in-Object : goal.returns-in-Object
returns-in-Object c = put_at_as (sym (object_printed _ c.in-Object.is)) c.byte_at-in-Object.ensures
