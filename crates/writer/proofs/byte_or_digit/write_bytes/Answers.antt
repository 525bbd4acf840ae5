use Prim.Native.Nat.{◌<◌}
use mathlib.Core.Path.{refl}
use mathlib.Core.List.{[], ◌∷◌}
use native.Mathlib.Omega.{arith}
use lib.ListN.{length, get_or, drop_of_length-le}
use Rattle.writer.proofs.LaidLaws.{writing_as, writing_put, finish, put_byte, put_whole, drop_more}
use Rattle.writer.proofs.byte_or_digit.write_bytes.Goals as goal

pub loop-i-preserved : goal.loop-i-preserved
loop-i-preserved c = let room : c.loop-i.i < length c.loop-i.out = omega (arith, c.requires, c.loop-i-test.true) in
    writing_put (get_or c.args.s.now c.loop-i.i 0 ∷ [])
    (writing_as (drop_more c.args.s.now c.loop-i.i c.loop-i-test.true) c.loop-i.invariant) (put_byte _ _ _ room)

pub returns : goal.returns
returns c =
    let written = put_whole (finish (writing_as (drop_of_length-le c.args.s.now c.loop-i-test.false) c.loop-i.invariant)) in
    record { size = refl; text = written.text }
