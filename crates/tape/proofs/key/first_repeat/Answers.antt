-- `key::first_repeat`: the first window, and the others where one is left. Assumes nothing.
use native.Mathlib.Omega.{arith}
use Rattle.tape.proofs.KeyWindowLaws.{zeroes_empty, first_window, searched_all}
use Rattle.tape.proofs.key.first_repeat.Goals as goal

pub pass-requires : goal.pass-requires
pass-requires c = (c.requires, zeroes_empty _ _ 520 (omega arith) (omega arith))

pub returns-then-is_none : goal.returns-then-is_none
returns-then-is_none c = searched_all _ _ _ (first_window c.pass.ensures
    c.first_twice-best.ensures c.stopped.ensures c.further-from.ensures) c.if-is_none.ensures

pub searched-requires : goal.searched-requires
searched-requires c = (
  c.requires,
  first_window c.pass.ensures c.first_twice-best.ensures
      c.stopped.ensures c.further-from.ensures,
)
