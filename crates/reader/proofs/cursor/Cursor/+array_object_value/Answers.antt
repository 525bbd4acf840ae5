use mathlib.Core.Path.{refl, ◌∙◌}
use Prim.Native.Nat.{◌-◌}
use native.Mathlib.Omega.{arith}
use Rattle.std.proofs.lemmas.Result.{err_from_is_err_and}
use Rattle.machine.specs.Machine.{square, curly}
use Rattle.reader.proofs.CursorTableLaws.{seen_opens}
use Rattle.reader.proofs.CursorLoopLaws.{round_first, closed_took, round_ready, round_seen, round_counts, round_refused, round_ends}
use Rattle.reader.proofs.CursorLoopLaws.{element_more, member_ends, member_more, waiting_seen, value_ready, value_refused}
use Rattle.reader.proofs.CursorLoopLaws.{after_refused, after_ends, after_comma, Ending, cursor}
use Rattle.reader.proofs.CursorLoopLaws.{took_item, opened_inner, opened_seen, says_inside}
use Rattle.reader.proofs.cursor.Cursor.+array_object_value.Goals.{array-in-Close, array-in-More+in_ok-last+in_ok-next-2+in-Close-2}
use Rattle.reader.proofs.cursor.Cursor.+array_object_value.Goals.{object-in-Close, object-in-More+in_ok-last+in_ok-next-2+in-Close-2}
use Rattle.reader.proofs.cursor.Cursor.+array_object_value.Goals as goal

pub array-loop-next-init : goal.array-loop-next-init
array-loop-next-init t c = (
  round_first c.requires.0 c.args.seen.now c.args.seen.now square refl c.args.tape.now c.args.store.now c.args.depth refl c.requires.1,
  refl,
  refl,
  refl,
)

pub array-ahead-requires : goal.array-ahead-requires
array-ahead-requires t c = round_ready c.loop-next.invariant.0

pub array-returns-in_err-next : goal.array-returns-in_err-next
array-returns-in_err-next t c = let p = err_from_is_err_and c.from_residual.result c.from_residual.ensures.1 in
    rw (p.1, p.2) (round_refused c.loop-next.invariant.0 c.in_err-next.ensures)

pub array-value-requires : goal.array-value-requires
array-value-requires t c = let w = (element_more c.loop-next.invariant.0 _ (rw c.in-More.is at c.in_ok-next.ensures)).0 in
    (omega (arith, c.decreases), (w.ready, waiting_seen w))

pub array-returns-in_err-last : goal.array-returns-in_err-last
array-returns-in_err-last t c = let p = err_from_is_err_and c.from_residual-in_err-last.result c.from_residual-in_err-last.ensures.1 in
    rw (p.1, p.2) (value_refused (element_more c.loop-next.invariant.0 _ (rw c.in-More.is at c.in_ok-next.ensures)).0 _ c.value.new.store c.value.new.seen
    c.value.auto.tape _
    c.in_err-last.ensures)

pub array-after-requires : goal.array-after-requires
array-after-requires t c = value_ready (element_more c.loop-next.invariant.0 _ (rw c.in-More.is at c.in_ok-next.ensures)).0 _ _ _ c.value.auto.tape _
    c.in_ok-last.ensures

pub array-overflow_add-count : goal.array-overflow_add-count
array-overflow_add-count t c = omega (arith, round_counts c.loop-next.invariant.0)

pub array-returns-in_err-next-2 : goal.array-returns-in_err-next-2
array-returns-in_err-next-2 t c = let p = err_from_is_err_and c.from_residual-in_err-next-2.result c.from_residual-in_err-next-2.ensures.1 in
    rw (p.1, p.2) (after_refused (element_more c.loop-next.invariant.0 _ (rw c.in-More.is at c.in_ok-next.ensures)).0 _ _ _ c.value.auto.tape c.value.auto.seen
    _
    c.in_ok-last.ensures _ c.in_err-next-2.ensures)

pub array-loop-next-smaller : goal.array-loop-next-smaller
array-loop-next-smaller t c = let f = (after_comma (element_more c.loop-next.invariant.0 _ (rw c.in-More.is at c.in_ok-next.ensures)).0 _ _ _ c.value.auto.tape
    c.value.auto.seen _ c.in_ok-last.ensures _
    (rw c.in-Comma.is at c.in_ok-next-2.ensures)) in
    omega (arith, (element_more c.loop-next.invariant.0 _ (rw c.in-More.is at c.in_ok-next.ensures)).1, f.1, (round_ready f.0).within)

pub array-loop-next-preserved : goal.array-loop-next-preserved
array-loop-next-preserved t c = (
  (after_comma (element_more c.loop-next.invariant.0 _ (rw c.in-More.is at c.in_ok-next.ensures)).0 _ _ _ c.value.auto.tape c.value.auto.seen _
      c.in_ok-last.ensures _
      (rw c.in-Comma.is at c.in_ok-next-2.ensures)).0,
  c.value.auto.tape ∙ c.loop-next.invariant.1,
  c.value.auto.store ∙ c.loop-next.invariant.2,
  c.value.auto.seen ∙ c.loop-next.invariant.3,
)

pub object-opened-requires : goal.object-opened-requires
object-opened-requires t c = seen_opens _ c.requires.1

pub object-loop-next-init : goal.object-loop-next-init
object-loop-next-init t c = (
  round_first c.requires.0 c.args.seen.now _ curly c.opened.ensures c.args.tape.now c.args.store.now c.args.depth c.opened.auto.seen
      c.requires.1,
  refl,
  refl,
  refl,
)

pub object-member_ahead-requires : goal.object-member_ahead-requires
object-member_ahead-requires t c = (round_ready c.loop-next.invariant.0, round_seen c.loop-next.invariant.0)

pub object-returns-in_err-next : goal.object-returns-in_err-next
object-returns-in_err-next t c = let p = err_from_is_err_and c.from_residual.result c.from_residual.ensures.1 in
    rw (p.1, p.2) (round_refused c.loop-next.invariant.0 c.in_err-next.ensures)

pub object-value-requires : goal.object-value-requires
object-value-requires t c = let w = (member_more c.loop-next.invariant.0 _ _ _ c.member_ahead.auto.seen _ (rw c.in-More.is at c.in_ok-next.ensures)).0 in
    (omega (arith, c.decreases), (w.ready, waiting_seen w))

pub object-returns-in_err-last : goal.object-returns-in_err-last
object-returns-in_err-last t c = let p = err_from_is_err_and c.from_residual-in_err-last.result c.from_residual-in_err-last.ensures.1 in
    rw (p.1, p.2) (value_refused (member_more c.loop-next.invariant.0 _ _ _ c.member_ahead.auto.seen _ (rw c.in-More.is at c.in_ok-next.ensures)).0 _
    c.value.new.store c.value.new.seen c.value.auto.tape _
    c.in_err-last.ensures)

pub object-after-requires : goal.object-after-requires
object-after-requires t c = value_ready (member_more c.loop-next.invariant.0 _ _ _ c.member_ahead.auto.seen _ (rw c.in-More.is at c.in_ok-next.ensures)).0 _ _ _
    c.value.auto.tape _ c.in_ok-last.ensures

pub object-overflow_add-count : goal.object-overflow_add-count
object-overflow_add-count t c = omega (arith, round_counts c.loop-next.invariant.0)

pub object-returns-in_err-next-2 : goal.object-returns-in_err-next-2
object-returns-in_err-next-2 t c = let p = err_from_is_err_and c.from_residual-in_err-next-2.result c.from_residual-in_err-next-2.ensures.1 in
    rw (p.1, p.2) (after_refused (member_more c.loop-next.invariant.0 _ _ _ c.member_ahead.auto.seen _ (rw c.in-More.is at c.in_ok-next.ensures)).0 _ _ _
    c.value.auto.tape c.value.auto.seen _
    c.in_ok-last.ensures _ c.in_err-next-2.ensures)

pub object-loop-next-smaller : goal.object-loop-next-smaller
object-loop-next-smaller t c = let f = (after_comma (member_more c.loop-next.invariant.0 _ _ _ c.member_ahead.auto.seen _
    (rw c.in-More.is at c.in_ok-next.ensures)).0 _ _ _ c.value.auto.tape c.value.auto.seen _ c.in_ok-last.ensures _
    (rw c.in-Comma.is at c.in_ok-next-2.ensures)) in
    omega (
      arith,
      (member_more c.loop-next.invariant.0 _ _ _ c.member_ahead.auto.seen _ (rw c.in-More.is at c.in_ok-next.ensures)).1,
      f.1,
      (round_ready f.0).within,
    )

pub object-loop-next-preserved : goal.object-loop-next-preserved
object-loop-next-preserved t c = (
  (after_comma (member_more c.loop-next.invariant.0 _ _ _ c.member_ahead.auto.seen _ (rw c.in-More.is at c.in_ok-next.ensures)).0 _ _ _ c.value.auto.tape
      c.value.auto.seen _ c.in_ok-last.ensures _
      (rw c.in-Comma.is at c.in_ok-next-2.ensures)).0,
  c.value.auto.tape ∙ c.member_ahead.auto.tape ∙ c.loop-next.invariant.1,
  c.value.auto.store ∙ c.member_ahead.auto.store ∙ c.loop-next.invariant.2,
  c.value.auto.seen ∙ c.member_ahead.auto.seen ∙ c.loop-next.invariant.3,
)

pub value-returns-in_err-item : goal.value-returns-in_err-item
value-returns-in_err-item t c = let p = err_from_is_err_and c.from_residual.result c.from_residual.ensures.1 in
    rw (p.1, p.2) (λ k s. c.in_err-item.ensures c.args.depth k s)

pub value-array-requires : goal.value-array-requires
value-array-requires t c = let h = rw c.in-Array.is at c.in_ok-item.ensures in (
  omega (arith, c.decreases, c.if-depth-eq0.false),
  (opened_inner square c.in-Array.inside c.requires.0 h.0, opened_seen square c.in-Array.inside c.requires.0 h.0 _ c.requires.1),
)

pub value-object-requires : goal.value-object-requires
value-object-requires t c = let h = rw c.in-Object.is at c.in_ok-item.ensures in (
  omega (arith, c.decreases, c.if-depth-eq0-2.false),
  (opened_inner curly c.in-Object.inside c.requires.0 h.0, opened_seen curly c.in-Object.inside c.requires.0 h.0 _ c.requires.1),
)

pub value-returns-in-Item : goal.value-returns-in-Item
value-returns-in-Item t c = rw (c.put_record.ensures, c.record_of.ensures)
    (took_item c.args.text.now c.args.tape.now c.args.store.now c.head.new.store c.args.seen.now c.args.depth c.args.self
    c.in-Item.next c.in-Item.item c.requires.0.ready
    (rw c.in-Item.is at c.in_ok-item.ensures))

pub value-returns-else-depth-eq0 : goal.value-returns-else-depth-eq0
value-returns-else-depth-eq0 t c = let h = rw c.in-Array.is at c.in_ok-item.ensures in
    says_inside c.args.text.now c.args.tape.now c.array.new.tape c.args.store.now c.head.new.store
    c.array.new.store c.args.seen.now c.array.new.seen square (c.args.depth - 1) c.args.depth
    (omega (arith, c.if-depth-eq0.false))
    c.args.self c.in-Array.inside c.requires.0.ready h.0 h.1 c.array.result c.array.ensures

pub value-returns-else-depth-eq0-2 : goal.value-returns-else-depth-eq0-2
value-returns-else-depth-eq0-2 t c = let h = rw c.in-Object.is at c.in_ok-item.ensures in
    says_inside c.args.text.now c.args.tape.now c.object.new.tape c.args.store.now c.head.new.store
    c.object.new.store c.args.seen.now c.object.new.seen curly (c.args.depth - 1) c.args.depth
    (omega (arith, c.if-depth-eq0-2.false))
    c.args.self c.in-Object.inside c.requires.0.ready h.0 h.1 c.object.result c.object.ensures

pub array-returns : goal.array-returns
array-returns t c = let e : Ending c.args.text.now c.args.tape.now c.match-branch-2.tape c.args.store.now c.match-branch-2.store c.args.seen.now
    c.match-branch-2.seen square
    (cursor c.args.self.at c.args.self.records c.args.self.stored) c.args.depth c.match-branch-2.count c.match-branch-2.closed = elim c.match-branch-2.branch [
      | array-in-Close w ↦ rw (w.tape-is, w.store-is, w.seen-is, w.count-is, w.closed-is)
          (round_ends c.loop-next.invariant.0 _ (rw w.in-Close.is at c.in_ok-next.ensures))
      | array-in-More+in_ok-last+in_ok-next-2+in-Close-2 w ↦ rw (w.tape-is, w.store-is, w.seen-is, w.count-is, w.closed-is)
          (after_ends (element_more c.loop-next.invariant.0 _ (rw w.in-More.is at c.in_ok-next.ensures)).0 _ _ _
          w.value.auto.tape w.value.auto.seen _ w.in_ok-last.ensures _ (rw w.in-Close-2.is at w.in_ok-next-2.ensures))
    ] in
    rw c.put_record.ensures (closed_took c.requires.0 c.args.seen.now c.args.seen.now square refl (e.closes _ refl))

pub object-closed-requires : goal.object-closed-requires
object-closed-requires t c = elim c.match-branch-2.branch [
  | object-in-Close w ↦ rw w.seen-is (member_ends c.loop-next.invariant.0 _ _ _ _ (rw w.in-Close.is at c.in_ok-next.ensures)).sane
  | object-in-More+in_ok-last+in_ok-next-2+in-Close-2 w ↦ rw w.seen-is
      (after_ends (member_more c.loop-next.invariant.0 _ _ _ c.member_ahead.auto.seen _ (rw w.in-More.is at c.in_ok-next.ensures)).0 _ _ _
      w.value.auto.tape w.value.auto.seen _ w.in_ok-last.ensures _ (rw w.in-Close-2.is at w.in_ok-next-2.ensures)).sane
]

pub object-returns : goal.object-returns
object-returns t c = let e : Ending c.args.text.now c.args.tape.now c.match-branch-2.tape c.args.store.now c.match-branch-2.store c.opened.new.seen
    c.match-branch-2.seen curly
    (cursor c.args.self.at c.args.self.records c.args.self.stored) c.args.depth c.match-branch-2.count c.match-branch-2.closed = elim c.match-branch-2.branch [
      | object-in-Close w ↦ rw (w.tape-is, w.store-is, w.seen-is, w.count-is, w.closed-is)
          (member_ends c.loop-next.invariant.0 _ _ _ _ (rw w.in-Close.is at c.in_ok-next.ensures))
      | object-in-More+in_ok-last+in_ok-next-2+in-Close-2 w ↦ rw (w.tape-is, w.store-is, w.seen-is, w.count-is, w.closed-is)
          (after_ends (member_more c.loop-next.invariant.0 _ _ _ c.member_ahead.auto.seen _ (rw w.in-More.is at c.in_ok-next.ensures)).0 _ _ _
          w.value.auto.tape w.value.auto.seen _ w.in_ok-last.ensures _ (rw w.in-Close-2.is at w.in_ok-next-2.ensures))
    ] in
    rw c.put_record.ensures (closed_took c.requires.0 c.args.seen.now _ curly c.opened.ensures (e.closes _ c.closed.ensures))
