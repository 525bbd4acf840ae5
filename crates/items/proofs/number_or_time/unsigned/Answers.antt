-- A short number, where the first digit is not 0 and the byte after the digits makes no time of them. Assumes nothing.
use mathlib.Core.Path.{subst}
use mathlib.Core.Bool.{Bool}
use Rattle.items.specs.Between.NumberOrTime.{TimelySays}
use Rattle.items.proofs.NumberOrTimeLeadLaws.{plain_leads, plain_small}
use Rattle.items.proofs.number_or_time.unsigned.Goals as goal

pub rest-requires : goal.rest-requires
rest-requires c = (
  record {
    within = c.plain_digits-w.ensures.high;
    short = c.requires.short;
  },
  plain_small c.args.s.now
      c.args.q c.if-s-q-ne48.true c.plain_digits-w.result
      c.plain_digits-w.ensures c.requires.digit
      c.requires.within (subst (λ (b : Bool).
      TimelySays c.args.s.now c.plain_digits-w.result.end b) c.if-not-timely.true
      c.timely.ensures),
)

pub returns-then-not-timely : goal.returns-then-not-timely
returns-then-not-timely c = plain_leads c.args.s.now
    c.args.q c.if-s-q-ne48.true
    c.plain_digits-w.result c.plain_digits-w.ensures
    c.requires.digit c.requires.within
    (subst (λ (b : Bool). TimelySays c.args.s.now
    c.plain_digits-w.result.end b) c.if-not-timely.true c.timely.ensures) _ c.rest.ensures
