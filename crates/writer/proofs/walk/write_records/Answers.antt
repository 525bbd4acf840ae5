use Prim.Native.Nat.{◌<◌}
use mathlib.Core.Path.{refl}
use native.Mathlib.Omega.{arith}
use Rattle.writer.proofs.WalkLaws.{few_records, walk_begin, walk_length, walk_done, walk_byte, walk_close}
use Rattle.writer.proofs.WalkLaws.{walk_inside, walk_comma, walk_bytes, walk_piece, walk_pass, walk_shallow, walk_open}
use Rattle.writer.proofs.walk.write_records.Goals as goal

pub loop-i-init : goal.loop-i-init
loop-i-init c = walk_begin c.args.tape.now c.args.store.now c.args.out.now _ _ c.requires refl refl

-- ---- a record comes
pub comma_at-piece-requires : goal.comma_at-piece-requires
comma_at-piece-requires c = walk_comma c.loop-i.invariant c.if-i-until.true

pub record_at-r-requires : goal.record_at-r-requires
record_at-r-requires c = walk_inside c.loop-i.invariant c.if-i-until.true

pub overflow_add-i : goal.overflow_add-i
overflow_add-i c = omega (arith, walk_inside c.loop-i.invariant c.if-i-until.true, few_records _ _ c.loop-i.invariant.well)

pub printed_at-at-requires : goal.printed_at-at-requires
printed_at-at-requires c = (
  walk_bytes c.loop-i.invariant c.if-i-until.true c.record_at-r.ensures,
  walk_piece c.loop-i.invariant c.if-i-until.true c.comma_at-piece.ensures c.record_at-r.ensures,
)

pub loop-i-smaller-in-Pass : goal.loop-i-smaller-in-Pass
loop-i-smaller-in-Pass c = omega (arith, walk_inside c.loop-i.invariant c.if-i-until.true)

pub loop-i-preserved-in-Pass : goal.loop-i-preserved-in-Pass
loop-i-preserved-in-Pass c = walk_pass c.loop-i.invariant c.if-i-until.true c.comma_at-piece.ensures c.record_at-r.ensures
    c.printed_at-at.ensures c.effect_of.ensures c.in-Pass.is

shallow : (c : goal.In-Open)
    → c.loop-i.depth < 64
shallow c =
    walk_shallow c.loop-i.invariant c.if-i-until.true c.comma_at-piece.ensures c.record_at-r.ensures
    c.printed_at-at.ensures c.effect_of.ensures c.in-Open.is

pub offset_bounds-ends-depth : goal.offset_bounds-ends-depth
offset_bounds-ends-depth c = omega (arith, shallow c)

pub bounds-ends-depth : goal.bounds-ends-depth
bounds-ends-depth c = omega (arith, shallow c)

pub bounds-closers-depth : goal.bounds-closers-depth
bounds-closers-depth c = omega (arith, shallow c)

pub overflow_add-depth : goal.overflow_add-depth
overflow_add-depth c = omega (arith, shallow c)

pub loop-i-smaller-in-Open : goal.loop-i-smaller-in-Open
loop-i-smaller-in-Open c = omega (arith, walk_inside c.loop-i.invariant c.if-i-until.true)

pub loop-i-preserved-in-Open : goal.loop-i-preserved-in-Open
loop-i-preserved-in-Open c = walk_open c.loop-i.invariant c.if-i-until.true c.comma_at-piece.ensures c.record_at-r.ensures
    c.printed_at-at.ensures c.effect_of.ensures c.in-Open.is

-- ---- the walk ends
pub shape_of-out-then-depth-eq0 : goal.shape_of-out-then-depth-eq0
shape_of-out-then-depth-eq0 c = walk_length c.loop-i.invariant

pub returns-then-depth-eq0 : goal.returns-then-depth-eq0
returns-then-depth-eq0 c = walk_done c.loop-i.invariant c.if-i-until.false c.if-depth-eq0.true

-- ---- a container ends
pub byte_at-at-requires : goal.byte_at-at-requires
byte_at-at-requires c = walk_byte c.loop-i.invariant c.if-i-until.false c.if-depth-eq0.false

pub overflow_sub-depth : goal.overflow_sub-depth
overflow_sub-depth c = omega (arith, c.if-depth-eq0.false)

pub offset_bounds-ends-depth-else-depth-eq0 : goal.offset_bounds-ends-depth-else-depth-eq0
offset_bounds-ends-depth-else-depth-eq0 c = omega (arith, c.loop-i.invariant.deep)

pub bounds-ends-depth-else-depth-eq0 : goal.bounds-ends-depth-else-depth-eq0
bounds-ends-depth-else-depth-eq0 c = omega (arith, c.if-depth-eq0.false, c.loop-i.invariant.deep)

pub bounds-closers-depth-else-depth-eq0 : goal.bounds-closers-depth-else-depth-eq0
bounds-closers-depth-else-depth-eq0 c = omega (arith, c.if-depth-eq0.false, c.loop-i.invariant.deep)

pub loop-i-smaller : goal.loop-i-smaller
loop-i-smaller c = omega (arith, c.if-depth-eq0.false)

pub loop-i-preserved : goal.loop-i-preserved
loop-i-preserved c = walk_close c.loop-i.invariant c.if-i-until.false c.if-depth-eq0.false c.byte_at-at.ensures
