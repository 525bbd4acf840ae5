-- `line`: a longer input; what is refused; the text, and a line feed in the byte after what was lent. Assumes nothing.
use mathlib.Core.Path.{sym, ◌∙◌}
use native.Mathlib.Omega.{arith}
use Rattle.std.proofs.lemmas.List.{length-take-le}
use Rattle.jaxn.proofs.LineLaws.{text_within, tells_longer, tells_refusal, tells_text}
use Rattle.jaxn.proofs.line.Goals as goal

pub returns-then-input-gt-ROOM : goal.returns-then-input-gt-ROOM
returns-then-input-gt-ROOM c = tells_longer c.refused_line.ensures (omega arith)

pub slice_bounds-rewrite-end-2 : goal.slice_bounds-rewrite-end-2
slice_bounds-rewrite-end-2 c = sym (length-take-le 65536 c.args.out.now (omega arith))

pub rewrite-requires : goal.rewrite-requires
rewrite-requires c = (omega arith, length-take-le 65536 c.args.out.now (omega arith))

pub byte_at-requires : goal.byte_at-requires
byte_at-requires c = omega (arith, text_within c.args.out.now c.rewrite.ensures c.in-Ok.is)

pub returns-in-Err : goal.returns-in-Err
returns-in-Err c = tells_refusal c.rewrite.ensures c.in-Err.is (c.from-number.ensures ∙ c.number.ensures) c.place-place.ensures c.refused_line-in-Err.ensures

pub returns-in-Ok : goal.returns-in-Ok
returns-in-Ok c = tells_text c.rewrite.ensures c.in-Ok.is c.byte_at.ensures
