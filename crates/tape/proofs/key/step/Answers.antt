-- `key::step`: by the mark. Assumes nothing.
use native.Mathlib.Omega.{arith}
use Rattle.tape.proofs.KeyLaws.{key_inside}
use Rattle.tape.proofs.KeyWalkLaws.{walk_opens, ready_inside, array_room, object_room, key_there, key_comes, walk_idle, walk_array}
use Rattle.tape.proofs.KeyWalkLaws.{walk_object}
use Rattle.tape.proofs.KeyWalkLaws.{walk_no_key, walk_key}
use Rattle.tape.proofs.key.step.Goals as goal

pub overflow_add-end : goal.overflow_add-end
overflow_add-end c = omega (
  arith,
  key_inside (key_there c.requires.1
      c.words_at-w.ensures c.in-31083.is)
      c.words_at-w.ensures,
)

pub slice_bounds-note-end : goal.slice_bounds-note-end
slice_bounds-note-end c = omega (
  arith,
  key_inside (key_there c.requires.1
      c.words_at-w.ensures c.in-31083.is)
      c.words_at-w.ensures,
)

pub note-requires : goal.note-requires
note-requires c = (
  _,
  key_comes c.requires.1
      c.words_at-w.ensures c.in-31083.is
      (ready_inside c.requires.1
      c.in_object.ensures c.if-in_object.true),
)

pub returns-in-31083 : goal.returns-in-31083
returns-in-31083 c = λ bound h. walk_key h c.words_at-w.ensures
    c.in-31083.is
    (ready_inside h c.in_object.ensures c.if-in_object.true) _
    c.note.ensures

pub returns-in_default : goal.returns-in_default
returns-in_default c = λ bound h. walk_no_key h c.words_at-w.ensures c.in-31083.is
    (ready_inside h c.in_object.ensures c.if-in_object.false)

pub opened-requires : goal.opened-requires
opened-requires c = walk_opens c.requires.1.walks

pub overflow_mul-ends : goal.overflow_mul-ends
overflow_mul-ends c = omega (
  arith,
  object_room c.requires.1
      c.words_at-w.ensures c.in-25199.is,
)

pub overflow_add-ends : goal.overflow_add-ends
overflow_add-ends c = omega (
  arith,
  object_room c.requires.1
      c.words_at-w.ensures c.in-25199.is,
)

pub bounds-ends-depth : goal.bounds-ends-depth
bounds-ends-depth c = omega (
  arith,
  object_room c.requires.1 c.words_at-w.ensures c.in-25199.is,
  c.requires.1.walks.1.long,
)

pub returns-in-25199 : goal.returns-in-25199
returns-in-25199 c = λ bound h. walk_object h c.words_at-w.ensures
    c.in-25199.is _ c.opened.ensures

pub overflow_mul-ends-in-29281 : goal.overflow_mul-ends-in-29281
overflow_mul-ends-in-29281 c = omega (
  arith,
  array_room c.requires.1
      c.words_at-w.ensures c.in-29281.is,
)

pub bounds-ends-depth-in-29281 : goal.bounds-ends-depth-in-29281
bounds-ends-depth-in-29281 c = omega (
  arith,
  array_room c.requires.1
      c.words_at-w.ensures c.in-29281.is,
  c.requires.1.walks.1.long,
)

pub returns-in-29281 : goal.returns-in-29281
returns-in-29281 c = λ bound h. walk_array h c.words_at-w.ensures c.in-29281.is

pub returns-in_default-2 : goal.returns-in_default-2
returns-in_default-2 c = λ bound h. walk_idle h c.words_at-w.ensures (λ q. omega arith) (λ q. omega arith) (λ q. omega arith)
