use mathlib.Core.Path.{sym, ◌∙◌}
use Rattle.std.proofs.Common.{rules}
use Rattle.arriving.proofs.ArrivingLaws.{fed_spent, fed_over, fed_all, fed_fits, sane_told}
use Rattle.arriving.proofs.check_feed.Goals as goal

pub returns-then-not-sane : goal.returns-then-not-sane
returns-then-not-sane c = c.spent.ensures ∙ fed_spent c.args.c c.args.part.now
    (sym c.sane.ensures ∙ search rules)

pub overflow_sub-base : goal.overflow_sub-base
overflow_sub-base c = (sane_told c.args.c.core (sym c.sane.ensures ∙ search rules)).0

pub returns-then-part-base : goal.returns-then-part-base
returns-then-part-base c = c.spent-then-part-base.ensures ∙ fed_over c.args.c
    c.args.part.now (sym c.sane.ensures
    ∙ search rules) c.if-part-base.true

pub walked-here-requires : goal.walked-here-requires
walked-here-requires c = (
  (sane_told c.args.c.core
      (sym c.sane.ensures ∙ search rules)).1,
  fed_fits c.args.c
      c.args.part.now
      (sym c.sane.ensures ∙ search rules)
      c.if-part-base.false,
)

pub utf_feed-utf-requires : goal.utf_feed-utf-requires
utf_feed-utf-requires c = fed_fits c.args.c
    c.args.part.now
    (sym c.sane.ensures
    ∙ search rules) c.if-part-base.false

pub returns : goal.returns
returns c = fed_all c.args.c
    c.args.part.now
    (sym c.sane.ensures
    ∙ search rules) c.if-part-base.false
    c.utf_feed-utf.ensures c.walked-here.ensures
