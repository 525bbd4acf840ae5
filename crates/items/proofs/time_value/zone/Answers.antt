-- Each byte that may follow a clock, and every other. Assumes nothing.
use mathlib.Core.Path.{refl}
use native.Mathlib.Omega.{arith}
use Rattle.items.proofs.TimeValueLaws.{zone_end, zone_none, zone_zulu, zone_plus, zone_minus}
use Rattle.items.proofs.time_value.zone.Goals as goal

pub returns-then-at-s : goal.returns-then-at-s
returns-then-at-s c = zone_end c.args.s.now c.args.m.first c.args.m.date c.args.m.clock c.args.at _ (omega arith) c.local_date_time.ensures

pub returns-in-90 : goal.returns-in-90
returns-in-90 c = zone_zulu c.args.s.now c.args.m.first c.args.m.date c.args.m.clock c.args.at _ (omega arith) c.in-90.is _ refl c.offset_date_time.ensures

pub returns-in-43 : goal.returns-in-43
returns-in-43 c = zone_plus c.args.s.now c.args.m.first c.args.m.date c.args.m.clock c.args.at _ (omega arith) c.in-43.is c.offset.ensures

pub returns-in-45 : goal.returns-in-45
returns-in-45 c = zone_minus c.args.s.now c.args.m.first c.args.m.date c.args.m.clock c.args.at _ (omega arith) c.in-45.is c.offset-in-45.ensures

pub returns-in_default : goal.returns-in_default
returns-in_default c = zone_none c.args.s.now c.args.m.first c.args.m.date c.args.m.clock c.args.at _ (omega arith) (λ e. grind arith) (λ e. grind arith)
    (λ e. grind arith) c.local_date_time-in_default.ensures
