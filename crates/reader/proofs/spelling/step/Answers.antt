use Rattle.reader.proofs.spelling.step.Goals as goal

pub due-requires : goal.due-requires
due-requires c = let w = rw c.in-Due.is at c.requires in (w.1, w.2, w.3)

pub returns-in-Due : goal.returns-in-Due
returns-in-Due c = let w = rw c.in-Due.is at c.requires in
    rw c.in-Due.is (c.due.ensures c.args.text.now w.0)
