-- `put_record`: the part that was lent to its four numbers, come back. Assumes nothing.
use mathlib.Core.Path.{refl, sym}
use native.Mathlib.Omega.{arith}
use Rattle.tape.proofs.PuttingLaws.{put_by_words, record_no_room}
use Rattle.tape.proofs.put_record.Goals as goal

pub returns-then-index-whole : goal.returns-then-index-whole
returns-then-index-whole c = put_by_words c.args.tape.now _
    c.args.index _ _ _ c.from.ensures
    (omega (arith, c.if-index-whole.true)) refl c.put_words.ensures

pub returns-else-index-whole : goal.returns-else-index-whole
returns-else-index-whole c = sym (record_no_room c.args.tape.now c.args.index c.args.r
    (omega (arith, c.if-index-whole.false)))
