-- `key::note`: a key before the window is passed over; one of the window is looked for, and taken in. Assumes nothing.
use Rattle.tape.proofs.KeyLaws.{notes_before, notes_after}
use Rattle.tape.proofs.key.note.Goals as goal

pub returns-then-index-from : goal.returns-then-index-from
returns-then-index-from c = notes_before c.if-index-from.true

pub returns : goal.returns
returns c = notes_after c.if-index-from.false
    c.tag-t.ensures c.repeats-again.ensures c.named.ensures
