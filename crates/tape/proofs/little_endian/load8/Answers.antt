-- `little_endian::load8`: byte by byte. Assumes nothing.
use mathlib.Core.Path.{sym, ◌∙◌}
use Prim.Native.Nat.{◌+◌}
use native.Mathlib.Omega.{arith}
use Rattle.tape.proofs.LittleEndianLaws.{get_eight}
use Rattle.tape.proofs.little_endian.load8.Goals as goal

pub returns : goal.returns
returns c = let i = c.args.at in
    c.from_le_bytes.ensures ∙ sym (get_eight c.args.bytes.now i (i + 1) (i + 2) (i + 3) (i + 4) (i + 5) (i + 6) (i + 7) (omega arith) (omega arith)
    (omega arith) (omega arith) (omega arith) (omega arith) (omega arith))
