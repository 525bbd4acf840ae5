use mathlib.Core.Path.{refl, ap}
use Prim.Native.Nat.{◌+◌}
use Rattle.reader.proofs.CursorBracketLaws.{none_wanted, opens_array, opens_object}
use Rattle.reader.proofs.cursor.Cursor.head.Goals as goal

pub returns-then-at-text : goal.returns-then-at-text
returns-then-at-text c = none_wanted c.args.text.now c.args.self c.if-at-text.true

pub returns-then-b-eq91 : goal.returns-then-b-eq91
returns-then-b-eq91 c = (opens_array c.args.text.now c.args.self c.if-at-text.false c.if-b-eq91.true, refl)

pub returns-then-b-eq123 : goal.returns-then-b-eq123
returns-then-b-eq123 c = (opens_object c.args.text.now c.args.self c.if-at-text.false c.if-b-eq123.true, refl)

pub returns : goal.returns
returns c = record { scalar = c.in_ok-item.ensures; records = refl; stored = ap (λ n. c.args.self.stored + n) c.stored_by.ensures }
