-- `key::next_window`: an empty table, and a pass. Assumes nothing.
use Rattle.tape.proofs.KeyWindowLaws.{begun_empty, later_window}
use Rattle.tape.proofs.key.next_window.Goals as goal

pub pass-requires : goal.pass-requires
pass-requires c = (c.requires.0, begun_empty _ _ c.args.seen.now _ _ c.begin.ensures c.requires.2)

pub returns : goal.returns
returns c = later_window c.requires.1 c.pass.ensures c.first_twice.ensures c.stopped.ensures c.least-best.ensures c.further-from.ensures
