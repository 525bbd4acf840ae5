use native.Mathlib.Omega.{arith}
use borrow.Author.Tests.{le-ltb}
use Rattle.machine.specs.Machine.{control_n}
use Rattle.rules.specs.Between.Tests.{holds, fails}
use Rattle.reader.proofs.ScanningClassLaws.{note_told, control_note}
use Rattle.reader.proofs.layout.is_control.Goals.{in_default, in_default-2, in-9, in-9-2}
use Rattle.reader.proofs.layout.is_control.Goals as goal

pub returns-after-matches : goal.returns-after-matches
returns-after-matches c = elim c.match-matches.branch [
  | in_default w ↦ rw w.matches-is (holds (control_note c.args.b (omega arith) (omega arith) (omega arith) (omega arith)))
  | in_default-2 w ↦ rw w.matches-is (holds (control_note c.args.b (omega arith) (omega arith) (omega arith) (omega arith)))
  | in-9 w ↦ rw w.matches-is (fails (λ e. omega (arith, note_told c.args.b control_n e)))
  | in-9-2 w ↦ rw w.matches-is (fails (λ e. omega (arith, note_told c.args.b control_n e)))
]

pub returns-else-b-lt32 : goal.returns-else-b-lt32
returns-else-b-lt32 c = rw (le-ltb _ _ c.if-b-lt32.false) (fails (λ e. omega (arith, note_told c.args.b control_n e)))
