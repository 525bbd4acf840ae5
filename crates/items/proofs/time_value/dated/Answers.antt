-- Each byte that may follow a date, and every other. Assumes nothing.
use native.Mathlib.Omega.{arith}
use Rattle.items.proofs.TimeValueLaws.{day_end, day_letter, day_space, day_other}
use Rattle.items.proofs.time_value.dated.Goals as goal

pub returns-then-at-s : goal.returns-then-at-s
returns-then-at-s c = day_end c.args.s.now c.args.q c.args.d c.args.at _ (omega arith) c.date_done.ensures

pub returns-in-84 : goal.returns-in-84
returns-in-84 c = day_letter c.args.s.now c.args.q c.args.d c.args.at _ (omega arith) c.in-84.is c.clock_at.ensures

pub returns-in-32 : goal.returns-in-32
returns-in-32 c = day_space c.args.s.now c.args.q c.args.d c.args.at _ (omega arith) c.in-32.is c.spaced.ensures

pub returns-in_default : goal.returns-in_default
returns-in_default c = day_other c.args.s.now c.args.q c.args.d c.args.at _ (omega arith) (λ e. grind arith) (λ e. grind arith)
    c.date_done-in_default.ensures
