-- `one_record::share_of`: by cases. Assumes nothing.
use mathlib.Core.Path.{sym, ap}
use mathlib.Core.List.{List}
use Prim.Native.Nat.{ℕ}
use native.Mathlib.Omega.{arith}
use lib.ListN.{length}
use Rattle.meaning.specs.Canonical.{quoted}
use Rattle.tape.specs.Between.Turns.{bytes_end}
use Rattle.meaning.proofs.Text.{time_length}
use Rattle.writer.proofs.PiecesLaws.{quoted_small}
use Rattle.writer.proofs.OneRecordLaws.{closes_few, part_length, part_end, null_share, true_share, false_share, number_share, part_share}
use Rattle.writer.proofs.OneRecordLaws.{binary_share, time_share, container_share}
use Rattle.writer.proofs.one_record.share_of.Goals as goal

pub part_of-requires : goal.part_of-requires
part_of-requires c = omega (arith, c.requires, part_end c.in-Str.is)

pub string_len-requires : goal.string_len-requires
string_len-requires c = omega
    (arith, c.requires, part_end c.in-Str.is, ap length c.part_of.ensures, part_length c.args.store.now c.in-Str.length c.in-Str.start)

pub overflow_add-result : goal.overflow_add-result
overflow_add-result c = omega (arith, c.number_len.ensures)

pub overflow_add-result-in-Str : goal.overflow_add-result-in-Str
overflow_add-result-in-Str c = omega (
  arith,
  c.requires,
  part_end c.in-Str.is,
  ap length c.part_of.ensures,
  part_length c.args.store.now c.in-Str.length c.in-Str.start,
  quoted_small c.part_of.result.now,
)

pub overflow_mul-result : goal.overflow_mul-result
overflow_mul-result c = omega (arith, c.requires, ap bytes_end c.in-Bin.is)

pub overflow_add-result-in-Bin : goal.overflow_add-result-in-Bin
overflow_add-result-in-Bin c = omega (arith, c.requires, ap bytes_end c.in-Bin.is)

pub overflow_add-result-in-Time : goal.overflow_add-result-in-Time
overflow_add-result-in-Time c = omega (arith, time_length c.in-Time.t)

pub overflow_add-result-in-Array : goal.overflow_add-result-in-Array
overflow_add-result-in-Array c = omega (arith, closes_few c.in-Array.end c.args.index)

pub returns-in-Null : goal.returns-in-Null
returns-in-Null c = sym (null_share _ _ c.in-Null.is)

pub returns-in-Bool-true : goal.returns-in-Bool-true
returns-in-Bool-true c = sym (true_share _ _ c.in-Bool-true.is c.in-Bool-true.field-0-test)

pub returns-in-Bool-false : goal.returns-in-Bool-false
returns-in-Bool-false c = sym (false_share _ _ c.in-Bool-false.is c.in-Bool-false.field-0-test)

pub returns-in-Number : goal.returns-in-Number
returns-in-Number c = omega (arith, number_share c.args.index c.args.store.now c.in-Number.is)

pub returns-in-Str : goal.returns-in-Str
returns-in-Str c = omega
    (arith, ap (λ (l : List ℕ). length (quoted l)) c.part_of.ensures, part_share c.args.index c.args.store.now c.in-Str.is)

pub returns-in-Bin : goal.returns-in-Bin
returns-in-Bin c = sym (binary_share _ _ c.in-Bin.is (omega (arith, c.requires, ap bytes_end c.in-Bin.is)))

pub returns-in-Time : goal.returns-in-Time
returns-in-Time c = omega (arith, time_share c.args.index c.args.store.now c.in-Time.is)

pub returns-in-Array : goal.returns-in-Array
returns-in-Array c = omega (arith, container_share c.args.index c.args.store.now c.in-Array.is)
