use Rattle.reader.proofs.WalkWindowLaws.{window_seen, window_says}
use Rattle.reader.proofs.window.Goals as goal

pub walk-requires : goal.walk-requires
walk-requires c = (c.requires.searching.short, window_seen c.requires c.begin.new.seen c.begin.ensures)

pub returns : goal.returns
returns c = rw (c.further-from.ensures, c.least-best.ensures)
    (window_says c.requires c.begin.ensures _ c.in_ok-walk.ensures c.first_twice.result c.stopped.result c.first_twice.ensures
    c.stopped.ensures)
